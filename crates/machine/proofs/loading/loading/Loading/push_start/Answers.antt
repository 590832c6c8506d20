use Rattle.std.proofs.Common.{sym, ap, ◌∙◌, subst}
use Rattle.wasm_syntax.specs.declared.module.Module.{Module}
use Rattle.wasm_rules.specs.Linking.{HasEntry}
use Rattle.machine.specs.rules.Values.{MachineValue}
use Rattle.machine.proofs.loading.loading.Loading.push_start.Goals as goal

pub returns-in_default-clause-none : goal.returns-in_default-clause-none
returns-in_default-clause-none c = λ unfit entry has.
    let E : Module → Type 0 = λ m. HasEntry m entry in
    c.in_default.ensures.none entry
    (subst E (ap (λ (v : MachineValue). v.guest) (sym c.self.view_is) ∙ sym c.module.ensures.same)
    has)
