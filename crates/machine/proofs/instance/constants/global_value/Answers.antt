use Rattle.std.proofs.Common.{[], ap, ◌∙◌}
use Rattle.std.specs.Option.{option_and_then}
use Rattle.wasm_syntax.specs.declared.module.Global.{Global}
use Rattle.wasm_rules.specs.Instantiation.{constant_of}
use Rattle.machine.proofs.InstanceLemmas.Constant.{global_value}
use Rattle.machine.proofs.instance.constants.global_value.Goals as goal

pub returns-in_err-global : goal.returns-in_err-global
returns-in_err-global c = λ values h.
    rw c.from_residual.ensures
    (ap (option_and_then (λ (g : Global). constant_of [] g.initial)) c.in_err-global.ensures
    ∙ global_value c.args.globals.now values c.args.x h)

pub returns : goal.returns
returns c = λ values h.
    c.initial_value.ensures ∙ (ap (constant_of []) c.as_slice.ensures
    ∙ (ap (option_and_then (λ (g : Global). constant_of [] g.initial)) c.in_ok-global.ensures
    ∙ global_value c.args.globals.now values c.args.x h))
