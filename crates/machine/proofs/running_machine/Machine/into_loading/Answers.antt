use Rattle.std.proofs.Common.{sym, subst}
use Rattle.wasm_rules.specs.Validity.{IsValid}
use Rattle.machine.specs.rules.Values.{MachineValue, HoldsMemory}
use Rattle.machine.proofs.Placed.{valid_module}
use Rattle.machine.proofs.Stopped.{still_holds}
use Rattle.machine.proofs.LoadingLemmas.Parts.{loading_of}
use Rattle.machine.proofs.running_machine.Machine.into_loading.Goals as goal

pub invariant_of-result : goal.invariant_of-result
invariant_of-result c =
    let held = still_holds c.self.inside.code c.self.inside.most_pages c.clear.ensures
    (subst HoldsMemory (sym c.self.view_is) c.requires) in
    loading_of (record {
      frames = c.clear.new.state.frames;
      slots = c.clear.new.state.slots;
      globals = c.clear-2.new.self;
      memory = c.clear.new.state.memory;
      later = c.clear.new.state.later;
    }) c.self.invariant c.clear.ensures.frames c.clear.ensures.slots held.limit held.least

pub returns-clause-valid : goal.returns-clause-valid
returns-clause-valid c =
    let P : MachineValue → Type 0 = λ v. IsValid v.guest in
    subst P c.self.view_is (valid_module c.self.invariant)
