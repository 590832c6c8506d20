use Rattle.std.proofs.Common.{ap, ◌∙◌}
use Rattle.state_image.specs.rules.LentFrames.{frame_of}
use Rattle.state_image.specs.restoring.Machines.{with_slots_behind}
use Rattle.state_image.proofs.RestoreLemmas.Loaded.{has_frame, over_there}
use Rattle.state_image.proofs.RestoreLemmas.Loaded.{no_frame_more, no_slots_more}
use Rattle.state_image.proofs.RestoreLemmas.MachineRead.{when_done}
use Rattle.state_image.proofs.restoring.machine_state.push_place.Goals as goal

pub returns-in_err-push_frame-clause-full : goal.returns-in_err-push_frame-clause-full
returns-in_err-push_frame-clause-full c refused room =
    no_frame_more (frame_of c.args.frame) c.args.machine.now.state.frames
    c.in_err-push_frame.ensures.full.1 room

pub push_slots-requires : goal.push_slots-requires
push_slots-requires c =
    has_frame c.args.frame.function c.args.frame.position c.args.machine.now c.push_frame.new.self
    c.in_ok-push_frame.ensures.pushed

pub returns-clause-pushed : goal.returns-clause-pushed
returns-clause-pushed c =
    when_done c.push_slots.result c.push_slots.ensures.pushed
    (λ is. is ∙ ap (with_slots_behind c.args.frame.slots) c.in_ok-push_frame.ensures.pushed)

pub returns-clause-full : goal.returns-clause-full
returns-clause-full c refused room =
    no_slots_more (frame_of c.args.frame) c.args.machine.now.state.frames
    (over_there c.args.frame.function c.args.frame.position c.args.frame.slots c.args.machine.now
    c.push_frame.new.self c.in_ok-push_frame.ensures.pushed (c.push_slots.ensures.full refused))
    room
