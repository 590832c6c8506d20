use Rattle.std.proofs.Common.{[], ◌∙◌, ap, sym, subst, Option, List}
use Rattle.std.specs.Prelude.{IsSome}
use Rattle.std.proofs.lemmas.List.{append-nil, at_drop_all}
use Rattle.wasm_syntax.specs.declared.value.Value.{Value}
use Rattle.wasm_syntax.specs.declared.module.Global.{Global}
use Rattle.wasm_rules.specs.Instantiation.{constant_of, AreInitial}
use Rattle.machine.proofs.InstanceLemmas.Constant.{initial_at}
use Rattle.machine.proofs.instance.globals.initial_globals.Goals as goal

pub unwrap-requires : goal.unwrap-requires
unwrap-requires c =
    let P : Option Value → Type 0 = IsSome in
    subst P (sym (c.initial_value.ensures ∙ ap (constant_of []) c.as_slice.ensures)) (initial_at
    c.args.globals.now c.requires.0 c.loop-global.global-index c.loop-global-test.true
    c.global-item.is c.requires.1)

pub returns : goal.returns
returns c =
    let gs = c.args.globals.now in
    let P : List Global → Type 0 = λ gs. AreInitial gs [] in
    let all = c.loop-global.invariant []
    (subst P (sym
    (at_drop_all (λ ys. ys) gs c.loop-global.global-index c.loop-global-test.false)) tt) in
    let Q : List Value → Type 0 = AreInitial gs in
    subst Q (append-nil c.loop-global.values.items) all
