use Rattle.std.proofs.Common.{◌≡◌, sym, subst}
use Rattle.std.specs.Prelude.{IfSome}
use Rattle.std.proofs.lemmas.Result.{err_from_is_err_and}
use Rattle.wasm_syntax.specs.declared.module.Module.{Module}
use Rattle.wasm_syntax.specs.rules.Modules.{IsModule}
use Rattle.wasm_syntax.specs.rules.Limits.{IsWithinLimits}
use Rattle.wasm_syntax.proofs.Grammar.WholeWithin.{module_within_sound}
use Rattle.wasm_decode.proofs.Modules.{refused}
use Rattle.wasm_decode.proofs.whole.decode.Goals as goal

pub returns-in_err-decoded-clause-only : goal.returns-in_err-decoded-clause-only
returns-in_err-decoded-clause-only c =
    let p = err_from_is_err_and c.from_residual.result c.from_residual.ensures.1 in
    rw (p.1, p.2) (refused c.args.bytes.now c.in_err-decoded.field-0.0 c.in_err-decoded.ensures)

pub returns-clause-found : goal.returns-clause-found
returns-clause-found c =
    let found = module_within_sound c.args.bytes.now c.in_ok-decoded.decoded c.in_ok-decoded.ensures
    in
    let same : c.unwrap.result ≡ c.in_ok-decoded.decoded =
    subst (λ o. IfSome o (λ m. m ≡ c.in_ok-decoded.decoded)) c.unwrap.ensures c.of.ensures.same in
    let P : Module → Type 0 = λ m. IsModule c.args.bytes.now m
    × IsWithinLimits c.args.bytes.now m in
    subst P (sym same) found

pub unwrap-requires : goal.unwrap-requires
unwrap-requires c =
    let found = module_within_sound c.args.bytes.now c.in_ok-decoded.decoded c.in_ok-decoded.ensures
    in
    c.of.ensures.exact.1 (record { types = found.1.types; bodies = found.1.bodies })
