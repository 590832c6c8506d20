use Rattle.std.proofs.Common.{◌≡◌, ◌-◌, List, length, take, refl, sym, ap, ◌∙◌, arith, Some}
use Rattle.std.specs.Prelude.{slice_get}
use Rattle.wasm_syntax.specs.declared.types.ValueType.{ValueType}
use Rattle.wasm_rules.specs.Validity.{module_context}
use Rattle.wasm_validate.proofs.PartLemmas.Lookups.{is_false}
use Rattle.machine.specs.rules.LentFrames.{lent_frame}
use Rattle.machine.proofs.LoadingLemmas.Bodies.{not_own, own_in, body_of, own_signature, one_result}
use Rattle.machine.proofs.LoadingLemmas.Bodies.{same_words, below_fits, below_waits, waits}
use Rattle.machine.proofs.LoadingLemmas.Bodies.{waits_there, waits_reached, waits_words, none_there}
use Rattle.machine.proofs.loading.frames.fits_waiting.Goals as goal

pub operand_types-requires : goal.operand_types-requires
operand_types-requires c =
    let r = c.requires in
    let ctx = module_context c.args.code.now.«module» r.0 in
    one_result r.2.is_code c.args.place.now.function
    (c.in-Some-function_type.ensures ctx r.2.looked_up)

pub returns-in_default : goal.returns-in_default
returns-in_default c = λ functions program looks. (
  λ t. absurd (is_false t),
  λ fits. absurd (not_own looks.is_code c.args.place.now.function
      (λ g at. let e = (c.in_default.ensures g).1 at in absurd (cc)) (own_in fits.0)),
)

pub returns-in_default-function_type : goal.returns-in_default-function_type
returns-in_default-function_type c = λ functions program looks. (
  λ t. absurd (is_false t),
  λ fits.
      let ctx = module_context c.args.code.now.«module» functions in
      let none = c.in_default-function_type.ensures ctx looks.looked_up in
      let some = own_signature looks.is_code c.args.place.now.function (own_in fits.0) in
      absurd (cc),
)

pub returns-in_default-opcode_at : goal.returns-in_default-opcode_at
returns-in_default-opcode_at c = λ functions program looks. (
  λ t. absurd (is_false t),
  λ fits.
      let ctx = module_context c.args.code.now.«module» functions in
      let g = c.in-Some.function.now in
      let place = lent_frame c.args.place.now in
      let b = body_of looks.is_code place.function g
      ((c.in-Some.ensures g).0 refl) (c.in-Some-function_type.ensures ctx looks.looked_up) in
      let there = waits_there g b.body place c.args.above.now
      (below_waits program place b.is fits) in
      let none = c.in_default-opcode_at.ensures in
      let some : slice_get c.as_slice.result.now place.position ≡ Some there.0 =
      ap (λ z. slice_get z place.position) c.as_slice.ensures ∙ there.1 in
      absurd (cc),
)

pub returns-in_default-taken_by : goal.returns-in_default-taken_by
returns-in_default-taken_by c = λ functions program looks. (
  λ t. absurd (is_false t),
  λ fits.
      let ctx = module_context c.args.code.now.«module» functions in
      let g = c.in-Some.function.now in
      let place = lent_frame c.args.place.now in
      let above = c.args.above.now in
      let b = body_of looks.is_code place.function g
      ((c.in-Some.ensures g).0 refl) (c.in-Some-function_type.ensures ctx looks.looked_up) in
      let there = waits_there g b.body place above (below_waits program place b.is fits) in
      let some : Some c.in-Some-opcode_at.instruction.now ≡ slice_get g.code.body place.position =
      c.in-Some-opcode_at.ensures ∙ ap (λ z. slice_get z place.position) c.as_slice.ensures in
      absurd (none_there ctx above some there.1 (c.in_default-taken_by.ensures ctx looks.looked_up)
      there.2 there.3),
)

pub returns-in_default-2 : goal.returns-in_default-2
returns-in_default-2 c = λ functions program looks. (
  λ t. absurd (is_false t),
  λ fits.
      let ctx = module_context c.args.code.now.«module» functions in
      let g = c.in-Some.function.now in
      let place = lent_frame c.args.place.now in
      let b = body_of looks.is_code place.function g
      ((c.in-Some.ensures g).0 refl) (c.in-Some-function_type.ensures ctx looks.looked_up) in
      absurd (waits_reached g b.body place c.args.above.now (sym c.in_default-2.is ∙
      c.in_ok-types.ensures ctx looks.looked_up b.body) (below_waits program place b.is fits)),
)

pub returns-in_default-checked_sub : goal.returns-in_default-checked_sub
returns-in_default-checked_sub c = λ functions program looks. (
  λ t. absurd (is_false t),
  λ fits.
      let ctx = module_context c.args.code.now.«module» functions in
      let g = c.in-Some.function.now in
      let place = lent_frame c.args.place.now in
      let above = c.args.above.now in
      let i = c.in-Some-opcode_at.instruction.now in
      let n = c.in-Some-taken_by.taken in
      let b = body_of looks.is_code place.function g
      ((c.in-Some.ensures g).0 refl) (c.in-Some-function_type.ensures ctx looks.looked_up) in
      let found = sym c.in-Some-2.is ∙ c.in_ok-types.ensures ctx looks.looked_up b.body in
      let at : slice_get g.code.body place.position ≡ Some i =
      ap (λ z. slice_get z place.position) (sym c.as_slice.ensures)
      ∙ sym c.in-Some-opcode_at.ensures in
      let takes = c.in-Some-taken_by.ensures ctx looks.looked_up in
      let words = waits_words g b.body place above at n takes found
      (below_waits program place b.is fits) in
      let few = words.0 in
      let count = c.len.ensures in
      absurd (c.in_default-checked_sub.ensures (omega (arith, few, count))),
)

pub returns : goal.returns
returns c = λ functions program looks.
    let ctx = module_context c.args.code.now.«module» functions in
    let g = c.in-Some.function.now in
    let place = lent_frame c.args.place.now in
    let types : List ValueType = c.in-Some-2.types in
    let above = c.args.above.now in
    let i = c.in-Some-opcode_at.instruction.now in
    let n = c.in-Some-taken_by.taken in
    let b = body_of looks.is_code place.function g
    ((c.in-Some.ensures g).0 refl) (c.in-Some-function_type.ensures ctx looks.looked_up) in
    let found = sym c.in-Some-2.is ∙ c.in_ok-types.ensures ctx looks.looked_up b.body in
    let at : slice_get g.code.body place.position ≡ Some i =
    ap (λ z. slice_get z place.position) (sym c.as_slice.ensures)
    ∙ sym c.in-Some-opcode_at.ensures in
    let takes = c.in-Some-taken_by.ensures ctx looks.looked_up in
    let count_left : c.in-Some-checked_sub.count_left ≡ length types - n =
    c.in-Some-checked_sub.ensures.1 ∙ ap (λ m. m - n) c.len.ensures in
    let part : take c.in-Some-checked_sub.count_left types ≡ take (length types - n) types =
    ap (λ m. take m types) count_left in
    let words = same_words place.slots c.are_slots.result c.as_slice-parameters.ensures
    c.as_slice-2.ensures part c.are_slots.ensures in (
      λ t. below_fits program place b.is (waits g b.body place above at n takes found (words.0 t)),
      λ fits. words.1 (waits_words g b.body place above at n takes found
          (below_waits program place b.is fits)).1,
    )
