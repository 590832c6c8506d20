use Rattle.std.proofs.Common.{map}
use Rattle.wasm_syntax.specs.laws.ReadingItems.{items_at}
use Rattle.wasm_syntax.proofs.Grammar.Loops.{items_are_done}
use Rattle.state_image.specs.restoring.Parts.{whole_node_at}
use Rattle.state_image.specs.restoring.SavedNodes.{lent_whole}
use Rattle.state_image.proofs.RestoreLemmas.Loops.{one_kept, all_refused}
use Rattle.state_image.proofs.restoring.parts.read_nodes.Goals as goal

pub returns-in_err-node : goal.returns-in_err-node
returns-in_err-node c =
    all_refused lent_whole (λ v. map lent_whole v.items) whole_node_at
    (map lent_whole c.loop.nodes.items) c.args.count c.loop.counter c.loop.reader
    c.read_whole.new.reader c.read_whole.new.reader
    (items_at whole_node_at c.args.count c.args.reader.now) _ c.from_residual.result
    c.loop-test.true
    c.in_err-node.ensures c.loop.invariant c.from_residual.ensures.1

pub loop-preserved : goal.loop-preserved
loop-preserved c =
    one_kept lent_whole whole_node_at c.loop.nodes.items c.keep_node.new.nodes.items c.args.count
    c.loop.counter c.loop.reader c.read_whole.new.reader
    (items_at whole_node_at c.args.count c.args.reader.now) c.in_ok-node.node c.loop-test.true
    c.in_ok-node.ensures c.loop.invariant c.in_ok-keep_node.ensures

pub returns : goal.returns
returns c =
    items_are_done whole_node_at (map lent_whole c.loop.nodes.items) c.args.count c.loop.counter
    c.loop.reader (items_at whole_node_at c.args.count c.args.reader.now) c.loop-test.false
    c.loop.invariant
