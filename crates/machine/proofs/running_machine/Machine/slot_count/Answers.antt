use Rattle.std.proofs.Common.{◌≡◌, sym, ◌∙◌, subst}
use Rattle.machine_frame.specs.rules.Stacked.{slots_held}
use Rattle.machine.specs.rules.Values.{MachineValue}
use Rattle.machine.proofs.Placed.{stacked}
use Rattle.machine.proofs.LoadingLemmas.Frames.{held_count}
use Rattle.machine.proofs.running_machine.Machine.slot_count.Goals as goal

pub returns-clause-count : goal.returns-clause-count
returns-clause-count c =
    let s = c.self.inside.state in
    let P : MachineValue → Type 0 = λ v. c.len.result ≡ slots_held v.state.frames in
    subst P c.self.view_is (c.len.ensures.len ∙ sym
    (held_count s.frames s.slots (stacked c.self.invariant)))
