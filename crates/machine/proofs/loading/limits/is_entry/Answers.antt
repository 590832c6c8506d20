use Rattle.std.proofs.Common.{◌≡◌, refl, ap, ◌∙◌, sym}
use Rattle.wasm_syntax.specs.declared.types.FunctionType.{FunctionType}
use Rattle.wasm_rules.specs.Validity.{module_context}
use Rattle.wasm_validate.proofs.PartLemmas.Lookups.{is_false}
use Rattle.machine.proofs.LoadingLemmas.Bodies.{not_own, own_signature, body_of}
use Rattle.machine.proofs.LoadingLemmas.Words.{empty_iff}
use Rattle.machine.proofs.loading.limits.is_entry.Goals as goal

pub returns-in_default : goal.returns-in_default
returns-in_default c = λ functions program looks. (
  λ t. absurd (is_false t),
  λ entry. absurd (not_own looks.is_code c.args.function
      (λ g at. let e = (c.in_default.ensures g).1 at in absurd (cc))
      (record { signature = entry.0; declared = entry.1; body = entry.2; is = entry.3 })),
)

pub returns-in_default-function_type : goal.returns-in_default-function_type
returns-in_default-function_type c = λ functions program looks. (
  λ t. absurd (is_false t),
  λ entry.
      let ctx = module_context c.args.code.now.«module» functions in
      let none = c.in_default-function_type.ensures ctx looks.looked_up in
      let some = own_signature looks.is_code c.args.function
      (record { signature = entry.0; declared = entry.1; body = entry.2; is = entry.3 }) in
      absurd (cc),
)

pub returns : goal.returns
returns c = λ functions program looks.
    let ctx = module_context c.args.code.now.«module» functions in
    let g = c.in-Some.field-0.now in
    let signature = c.in-Some-function_type.function_type.now in
    let k = c.in-Some-function_type.ensures ctx looks.looked_up in
    let b = body_of looks.is_code c.args.function g
    ((c.in-Some.ensures g).0 refl) k in
    let none = empty_iff c.as_slice.result.now c.is_empty.result c.is_empty.ensures in (
      λ t. (signature, g.code.locals, b.body.sequence, b.is, sym c.as_slice.ensures ∙ none.0 t),
      λ entry.
          let there = entry.3 in
          let known = b.is in
          let same : entry.0 ≡ signature = cc in
          none.1 (c.as_slice.ensures
          ∙ (ap (λ (z : FunctionType). z.parameters) (sym same) ∙ entry.4)),
    )
