use Rattle.std.proofs.Common.{◌≡◌, ◌≢◌, ◌⊎◌, [], IfErr, OnOk, subst}
use Rattle.machine_slots.specs.declared.slots.TheConstants.{SLOTS}
use Rattle.machine_frame.specs.rules.Stacked.{slots_held}
use Rattle.machine.specs.declared.loading.fault.LoadFault.TheVariants.{Unfit}
use Rattle.machine.specs.Insides.{seen}
use Rattle.machine.specs.rules.Values.{MachineValue}
use Rattle.machine.specs.rules.Loading.{IsSlotPushed}
use Rattle.machine.proofs.LoadingLemmas.Parts.{slot_loading, slot_pushed, slot_full}
use Rattle.machine.proofs.loading.loading.Loading.push_slot.Goals as goal

pub invariant_of-self : goal.invariant_of-self
invariant_of-self c =
    slot_loading c.self.inside.code c.self.inside.state c.push_slot.new.state
    c.self.inside.most_pages c.args.word c.push_slot.result c.push_slot.ensures.pushed
    c.push_slot.ensures.kept c.self.invariant

pub returns-clause-pushed : goal.returns-clause-pushed
returns-clause-pushed c =
    let P : MachineValue → Type 0 = λ v. OnOk c.push_slot.result ((v.state.frames ≢ [])
    × IsSlotPushed c.args.word v
    (seen c.self.inside.code c.push_slot.new.state c.self.inside.most_pages)) in
    subst P c.self.view_is
    (slot_pushed c.self.inside.code c.self.inside.state c.push_slot.new.state
    c.self.inside.most_pages c.args.word c.push_slot.result c.push_slot.ensures.pushed
    c.self.invariant.stacked)

pub returns-clause-full : goal.returns-clause-full
returns-clause-full c =
    let P : MachineValue → Type 0 = λ v. IfErr c.push_slot.result (λ e. (e ≡ Unfit)
    × ((v.state.frames ≡ []) ⊎ (slots_held v.state.frames ≡ SLOTS))) in
    subst P c.self.view_is
    (slot_full c.self.inside.state c.push_slot.result c.push_slot.ensures.full
    c.self.invariant.stacked)
