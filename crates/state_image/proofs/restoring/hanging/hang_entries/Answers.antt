use Rattle.std.proofs.Common.{map, ◌∙◌}
use Rattle.state_image.specs.rules.Fronts.{lent_entry}
use Rattle.state_image.specs.restoring.SavedNodes.{lent_whole, listed_node}
use Rattle.state_image.proofs.RestoreLemmas.Lent.{shown_at, shown_all, fault_of}
use Rattle.state_image.proofs.RestoreLemmas.Hung.{entry_hung}
use Rattle.state_image.proofs.RestoreLemmas.Refused.{can_be_taken, next_directory}
use Rattle.state_image.proofs.restoring.hanging.hang_entries.Goals as goal

pub returns-in_err-hang_entry-clause-refused : goal.returns-in_err-hang_entry-clause-refused
returns-in_err-hang_entry-clause-refused c next refused gs told =
    let ns = map lent_whole c.args.nodes.now in
    let so_far = c.loop-entry.invariant in
    let d = c.index-directory.result.now in
    c.in_err-hang_entry.ensures.refused
    (fault_of c.from_residual.result _ c.from_residual.ensures.1 refused)
    (can_be_taken ns c.loop-entry.tree gs next c.loop-entry.waiting.items c.args.place
    c.loop-entry.entry-index d _ so_far.0 so_far.2
    (shown_at lent_entry c.listed_node-entry-items.result.now
    (listed_node ns d) c.loop-entry.entry-index _
    c.listed_node-entry-items.ensures c.loop-entry-test.true) told)

pub loop-entry-preserved : goal.loop-entry-preserved
loop-entry-preserved c =
    let ns = map lent_whole c.args.nodes.now in
    let so_far = c.loop-entry.invariant in
    let d = c.index-directory.result.now in
    let more = entry_hung ns c.loop-entry.tree c.hang_entry.new.tree c.loop-entry.waiting.items
    c.note_directory.new.waiting.items c.args.place c.loop-entry.entry-index d _ so_far.0 so_far.2
    (shown_at lent_entry c.listed_node-entry-items.result.now
    (listed_node ns d) c.loop-entry.entry-index _
    c.listed_node-entry-items.ensures c.loop-entry-test.true) c.in_ok-hang_entry.ensures.can
    c.in_ok-hang_entry.ensures.hung c.in_ok-note_directory.ensures in
    (more.0, more.1 ∙ so_far.1, more.2)

pub returns-clause-hung : goal.returns-clause-hung
returns-clause-hung c =
    let ns = map lent_whole c.args.nodes.now in
    let so_far = c.loop-entry.invariant in
    let d = c.index-directory.result.now in
    next_directory ns c.loop-entry.tree c.loop-entry.waiting.items c.args.place
    c.loop-entry.entry-index d so_far.0 so_far.2
    (shown_all lent_entry c.listed_node-entry-items.result.now
    (listed_node ns d) c.loop-entry.entry-index
    c.listed_node-entry-items.ensures c.loop-entry-test.false)
