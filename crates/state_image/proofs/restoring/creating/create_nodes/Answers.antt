use Rattle.std.proofs.Common.{map}
use Rattle.state_image.specs.restoring.SavedNodes.{lent_whole}
use Rattle.state_image.proofs.RestoreLemmas.Lent.{shown_read, fault_of}
use Rattle.state_image.proofs.RestoreLemmas.Hung.{false_true}
use Rattle.state_image.proofs.RestoreLemmas.Made.{told_begins, can_be_created, node_made}
use Rattle.state_image.proofs.restoring.creating.create_nodes.Goals as goal

pub returns-then-not-begins_with_root-clause-refused :
    goal.returns-then-not-begins_with_root-clause-refused
returns-then-not-begins_with_root-clause-refused c next refused gs told =
    false_true c.begins_with_root.result c.if-not-begins_with_root.true
    (c.begins_with_root.ensures.1 (told_begins (map lent_whole c.args.nodes.now) gs next told))

pub returns-in_err-create_node-clause-refused : goal.returns-in_err-create_node-clause-refused
returns-in_err-create_node-clause-refused c next refused gs told =
    c.in_err-create_node.ensures.refused
    (fault_of c.from_residual.result _ c.from_residual.ensures.1 refused)
    (can_be_created (map lent_whole c.args.nodes.now) c.loop-place.tree gs next c.loop-place.place
    (lent_whole c.index-nodes-place.result) c.loop-place.invariant
    (shown_read lent_whole c.args.nodes.now c.loop-place.place c.index-nodes-place.result
    c.loop-place-test.true c.index-nodes-place.is) told)

pub loop-place-preserved : goal.loop-place-preserved
loop-place-preserved c =
    node_made (map lent_whole c.args.nodes.now) c.loop-place.tree c.create_node.new.tree
    c.loop-place.place (lent_whole c.index-nodes-place.result) c.loop-place.invariant
    (shown_read lent_whole c.args.nodes.now c.loop-place.place c.index-nodes-place.result
    c.loop-place-test.true c.index-nodes-place.is) c.in_ok-create_node.ensures.can
    c.in_ok-create_node.ensures.created
