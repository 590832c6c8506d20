use Rattle.std.proofs.Common.{◌≡◌, length, refl, ap, arith}
use Rattle.std.proofs.lemmas.Bool.Decides.{nat_tests}
use Rattle.wasm_syntax.specs.declared.types.FunctionType.{FunctionType}
use Rattle.wasm_rules.specs.Validity.{module_context}
use Rattle.wasm_validate.proofs.PartLemmas.Lookups.{is_false}
use Rattle.machine.proofs.LoadingLemmas.Bodies.{not_own, own_signature, body_of}
use Rattle.machine.proofs.LoadingLemmas.Frames.{few_held, few_there}
use Rattle.machine.proofs.loading.limits.hold_few.Goals as goal

pub returns-in_default : goal.returns-in_default
returns-in_default c = λ functions program looks. (
  λ _. few_held program c.args.frames.now c.args.slots.now c.top-top.ensures c.requires
      (λ signature declared body is.
      absurd (not_own looks.is_code c.top-top.result.function
      (λ g at. let e = (c.in_default.ensures g).1 at in absurd (cc))
      (record { signature = signature; declared = declared; body = body; is = is }))),
  λ _. refl,
)

pub returns-in_default-function_type : goal.returns-in_default-function_type
returns-in_default-function_type c = λ functions program looks. (
  λ _. few_held program c.args.frames.now c.args.slots.now c.top-top.ensures c.requires
      (λ signature declared body is.
      let ctx = module_context c.args.code.now.«module» functions in
      let none = c.in_default-function_type.ensures ctx looks.looked_up in
      let some = own_signature looks.is_code
      c.top-top.result.function
      (record { signature = signature; declared = declared; body = body; is = is }) in
      absurd (cc)),
  λ _. refl,
)

pub returns-in_default-checked_sub : goal.returns-in_default-checked_sub
returns-in_default-checked_sub c = λ functions program looks. (
  λ t. absurd (is_false t),
  λ few.
      let ctx = module_context c.args.code.now.«module» functions in
      let g = c.in-Some.function.now in
      let signature = c.in-Some-function_type.function_type.now in
      let b = body_of looks.is_code c.top-top.result.function g
      ((c.in-Some.ensures g).0 refl) (c.in-Some-function_type.ensures ctx looks.looked_up) in
      let held = few_there program c.args.frames.now c.args.slots.now c.top-top.ensures c.requires
      few signature g.code.locals b.body.sequence b.is in
      absurd (c.in_default-checked_sub.ensures (omega (arith, held))),
)

pub returns : goal.returns
returns c = λ functions program looks.
    let ctx = module_context c.args.code.now.«module» functions in
    let g = c.in-Some.function.now in
    let signature = c.in-Some-function_type.function_type.now in
    let b = body_of looks.is_code c.top-top.result.function g
    ((c.in-Some.ensures g).0 refl) (c.in-Some-function_type.ensures ctx looks.looked_up) in
    let room = c.in-Some-checked_sub.ensures.1 in
    let below = c.in-Some-checked_sub.ensures.0 in
    let ps = ap length c.as_slice.ensures in
    let ls = ap length c.as_slice-2.ensures in (
      λ t. few_held program c.args.frames.now c.args.slots.now c.top-top.ensures c.requires
          (λ signature' declared body is.
          let known = b.is in
          let signatures : signature ≡ signature' = cc in
          let locals : g.code.locals ≡ declared = cc in
          let counts = ap (λ (z : FunctionType). length z.parameters) signatures in
          let lengths = ap length locals in
          let told = t in
          grind (arith, nat_tests)),
      λ few.
          let held = few_there program c.args.frames.now c.args.slots.now c.top-top.ensures
          c.requires few signature g.code.locals b.body.sequence b.is in
          grind (arith, nat_tests),
    )
