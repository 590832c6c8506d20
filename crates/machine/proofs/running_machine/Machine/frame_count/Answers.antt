use Rattle.std.proofs.Common.{length, sym, ap, ◌∙◌}
use Rattle.machine.specs.rules.Values.{MachineValue}
use Rattle.machine_frame.proofs.Threads.Showing.{places_count}
use Rattle.machine.proofs.running_machine.Machine.frame_count.Goals as goal

pub returns : goal.returns
returns c =
    c.len.ensures.len
    ∙ sym (places_count c.self.inside.state.frames c.self.inside.state.slots)
    ∙ ap (λ (v : MachineValue). length v.state.frames) c.self.view_is
