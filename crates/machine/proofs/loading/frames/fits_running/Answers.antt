use Rattle.std.proofs.Common.{◌≡◌, ◌≤◌, List, length, take, refl, sym, ap, ◌∙◌, subst, arith}
use Rattle.std.proofs.lemmas.List.{take_all}
use Rattle.wasm_syntax.specs.declared.types.ValueType.{ValueType}
use Rattle.wasm_rules.specs.Validity.{module_context}
use Rattle.wasm_validate.proofs.PartLemmas.Lookups.{is_false}
use Rattle.machine.specs.rules.LentFrames.{lent_frame}
use Rattle.machine.specs.Loading.Bodies.{HasMore}
use Rattle.machine.proofs.LoadingLemmas.Bodies.{not_own, own_in, body_of, own_signature, one_result}
use Rattle.machine.proofs.LoadingLemmas.Bodies.{same_words, top_fits, top_runs, runs, runs_more}
use Rattle.machine.proofs.LoadingLemmas.Bodies.{runs_reached, runs_words}
use Rattle.machine.proofs.loading.frames.fits_running.Goals as goal

pub operand_types-requires : goal.operand_types-requires
operand_types-requires c =
    let r = c.requires in
    let ctx = module_context c.args.code.now.«module» r.0 in
    one_result r.2.is_code c.args.place.now.function
    (c.in-Some-function_type.ensures ctx r.2.looked_up)

pub returns-in_default : goal.returns-in_default
returns-in_default c = λ functions program looks. (
  λ t. absurd (is_false t),
  λ fits. absurd (not_own looks.is_code c.args.place.now.function
      (λ g at. let e = (c.in_default.ensures g).1 at in absurd (cc)) (own_in fits.0)),
)

pub returns-in_default-function_type : goal.returns-in_default-function_type
returns-in_default-function_type c = λ functions program looks. (
  λ t. absurd (is_false t),
  λ fits.
      let ctx = module_context c.args.code.now.«module» functions in
      let none = c.in_default-function_type.ensures ctx looks.looked_up in
      let some = own_signature looks.is_code c.args.place.now.function (own_in fits.0) in
      absurd (cc),
)

pub returns-then-not-has_more : goal.returns-then-not-has_more
returns-then-not-has_more c = λ functions program looks. (
  λ t. absurd (is_false t),
  λ fits.
      let ctx = module_context c.args.code.now.«module» functions in
      let g = c.in-Some.function.now in
      let place = lent_frame c.args.place.now in
      let b = body_of looks.is_code place.function g
      ((c.in-Some.ensures g).0 refl) (c.in-Some-function_type.ensures ctx looks.looked_up) in
      let more = runs_more g b.body place (top_runs program place b.is fits) in
      let yes = c.has_more.ensures.1
      (subst (λ z. HasMore z place.position) (sym c.as_slice.ensures) more) in
      let none = c.if-not-has_more.true in
      cc,
)

pub returns-in_default-2 : goal.returns-in_default-2
returns-in_default-2 c = λ functions program looks. (
  λ t. absurd (is_false t),
  λ fits.
      let ctx = module_context c.args.code.now.«module» functions in
      let g = c.in-Some.function.now in
      let place = lent_frame c.args.place.now in
      let b = body_of looks.is_code place.function g
      ((c.in-Some.ensures g).0 refl) (c.in-Some-function_type.ensures ctx looks.looked_up) in
      absurd (runs_reached g b.body place (sym c.in_default-2.is ∙ c.in_ok-operands.ensures ctx
      looks.looked_up b.body) (top_runs program place b.is fits)),
)

pub returns : goal.returns
returns c = λ functions program looks.
    let ctx = module_context c.args.code.now.«module» functions in
    let g = c.in-Some.function.now in
    let place = lent_frame c.args.place.now in
    let types : List ValueType = c.in-Some-2.operands in
    let b = body_of looks.is_code place.function g
    ((c.in-Some.ensures g).0 refl) (c.in-Some-function_type.ensures ctx looks.looked_up) in
    let found = sym c.in-Some-2.is ∙ c.in_ok-operands.ensures ctx looks.looked_up b.body in
    let more = subst (λ z. HasMore z place.position) c.as_slice.ensures
    (c.has_more.ensures.0 c.if-not-has_more.false) in
    let all : take c.len.result types ≡ types =
    ap (λ n. take n types) c.len.ensures ∙ take_all (length types) types (let e : length types
    ≤ length types = omega arith in e) in
    let words = same_words place.slots c.are_slots.result c.as_slice-parameters.ensures
    c.as_slice-locals.ensures all c.are_slots.ensures in (
      λ t. top_fits program place b.is (runs g b.body place found more (words.0 t)),
      λ fits. words.1 (runs_words g b.body place found (top_runs program place b.is fits)),
    )
