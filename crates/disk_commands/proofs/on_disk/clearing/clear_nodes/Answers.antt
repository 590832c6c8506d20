use Rattle.disk_commands.proofs.ClearedLemmas.{begins_clearing, goes_on_clearing}
use Rattle.disk_commands.proofs.ClearedLemmas.{have_rest}
use Rattle.disk_commands.proofs.on_disk.clearing.clear_nodes.Goals as goal

pub loop-node-init : goal.loop-node-init
loop-node-init g c =
    begins_clearing (g.R.NewTrees.trees c.args.files.now) c.args.made.items c.args.err.now
    c.args.status c.requires

pub loop-node-preserved : goal.loop-node-preserved
loop-node-preserved g c =
    let trees = g.R.NewTrees.trees c.args.files.now in
    let left = c.loop-node.made.items in
    let rest = c.pop.new.self.items in
    let node = c.in-Some.node in
    goes_on_clearing trees c.args.made.items left rest node c.as_str.result.now c.args.err.now
    c.loop-node.err c.clear_place-status.new.err c.args.status c.loop-node.status
    c.clear_place-status.result c.loop-node.invariant c.in-Some.ensures.items
    c.as_str.ensures.value
    (have_rest trees left rest node c.in-Some.ensures.items c.loop-node.invariant.have)
    c.clear_place-status.ensures
