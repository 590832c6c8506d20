use Rattle.std.proofs.Common.{◌<◌, length, sym, subst}
use Rattle.machine.specs.rules.Values.{MachineValue}
use Rattle.machine_frame.specs.rules.Threads.{places_of}
use Rattle.machine_frame.proofs.Threads.Showing.{places_count}
use Rattle.machine.proofs.Placed.{stacked}
use Rattle.machine.proofs.running_machine.Machine.frame.Goals as goal

pub lent_frame_at-requires-clause-stacked : goal.lent_frame_at-requires-clause-stacked
lent_frame_at-requires-clause-stacked c =
    stacked c.self.invariant

pub lent_frame_at-requires-clause-inside : goal.lent_frame_at-requires-clause-inside
lent_frame_at-requires-clause-inside c =
    let s = c.self.inside.state in
    let P : MachineValue → Type 0 = λ v. c.args.index < length v.state.frames in
    let there : c.args.index < length (places_of s.frames s.slots) =
    subst P (sym c.self.view_is) c.requires in
    subst (λ z. c.args.index < z) (places_count s.frames s.slots) there
