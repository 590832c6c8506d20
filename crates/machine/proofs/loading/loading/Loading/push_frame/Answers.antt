use Rattle.std.proofs.Common.{◌≡◌, length, IfErr, ◌∙◌, subst}
use Rattle.machine_slots.specs.declared.limits.TheConstants.{FRAMES}
use Rattle.machine_frame.proofs.Threads.Showing.{places_count}
use Rattle.machine.specs.declared.loading.fault.LoadFault.TheVariants.{Unfit}
use Rattle.machine.specs.rules.Values.{MachineValue}
use Rattle.machine.proofs.LoadingLemmas.Parts.{if_err}
use Rattle.machine.proofs.loading.loading.Loading.push_frame.Goals as goal

pub returns-clause-full : goal.returns-clause-full
returns-clause-full c =
    let s = c.self.inside.state in
    let P : MachineValue → Type 0 = λ v.
    IfErr c.push_frame.result (λ e. (e ≡ Unfit) × (length v.state.frames ≡ FRAMES)) in
    subst P c.self.view_is (if_err _ _ c.push_frame.result
    (λ e h. (h.0, places_count s.frames s.slots ∙ h.1)) c.push_frame.ensures.full)
