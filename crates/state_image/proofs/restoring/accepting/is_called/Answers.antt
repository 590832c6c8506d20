use Rattle.std.proofs.Common.{◌≡◌, IsTrue, Some, ◌∙◌, subst}
use Rattle.std.specs.Prelude.{◌↔◌}
use Rattle.wasm_syntax.specs.declared.module.Module.{Module}
use Rattle.wasm_rules.specs.Validity.{IsValid}
use Rattle.state_image.proofs.Accepted.{called_first, called_last, none_of}
use Rattle.state_image.proofs.restoring.accepting.is_called.Goals as goal

pub returns-then-is_starting : goal.returns-then-is_starting
returns-then-is_starting c = λ entry has.
    let m = c.args.machine.now.guest in
    let same : c.module-module.result.now ≡ m = c.module-module.ensures.same ∙ c.module.ensures in
    let P : Module → Type 0 = λ z. IsTrue c.is_function.result ↔ (z.start ≡ Some c.args.function) in
    called_first m (subst IsValid same c.module-module.ensures.valid)
    c.args.machine.now.state.later c.args.function entry c.is_function.result c.requires
    (c.is_starting.ensures.0 c.if-is_starting.true) has (subst P same c.is_function.ensures)

pub returns-else-is_starting : goal.returns-else-is_starting
returns-else-is_starting c = λ entry has.
    let m = c.args.machine.now.guest in
    let same : c.module-module.result.now ≡ m = c.module-module.ensures.same ∙ c.module.ensures in
    called_last m (subst IsValid same c.module-module.ensures.valid)
    c.args.machine.now.state.later c.args.function entry c.is_function-else-is_starting.result
    c.entry_of.result
    (none_of c.args.machine.now.state.later c.is_starting.result c.is_starting.ensures
    c.if-is_starting.false) has (rw same at c.entry_of.ensures.found)
    (rw same at c.entry_of.ensures.none) c.is_function-else-is_starting.ensures
