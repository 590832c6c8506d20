use Rattle.std.proofs.Common.{◌≡◌, ◌-◌, map}
use Rattle.wasm_syntax.specs.laws.ReadingItems.{items_at}
use Rattle.wasm_syntax.proofs.Grammar.Loops.{with_front}
use Rattle.state_image.specs.rules.Fronts.{lent_entry}
use Rattle.state_image.specs.restoring.ListReaders.{entry_at}
use Rattle.state_image.proofs.restoring.parts.read_entries.Given as goal

abbrev pub invariant-loop : goal.invariant-loop
invariant-loop l =
    with_front (map lent_entry l.entries.items) (items_at entry_at (l.count - l.counter) l.reader)
    ≡ items_at entry_at l.fn.count l.fn.reader
