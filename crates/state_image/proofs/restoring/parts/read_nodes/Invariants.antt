use Rattle.std.proofs.Common.{◌≡◌, ◌-◌, map}
use Rattle.wasm_syntax.specs.laws.ReadingItems.{items_at}
use Rattle.wasm_syntax.proofs.Grammar.Loops.{with_front}
use Rattle.state_image.specs.restoring.Parts.{whole_node_at}
use Rattle.state_image.specs.restoring.SavedNodes.{lent_whole}
use Rattle.state_image.proofs.restoring.parts.read_nodes.Given as goal

abbrev pub invariant-loop : goal.invariant-loop
invariant-loop l =
    with_front (map lent_whole l.nodes.items) (items_at whole_node_at (l.count
    - l.counter) l.reader)
    ≡ items_at whole_node_at l.fn.count l.fn.reader
