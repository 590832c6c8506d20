use Rattle.std.proofs.Common.{◌≡◌, ◌≤◌, ◌∙◌, length, map, refl, sym, ap, arith}
use Rattle.std.specs.Option.{option_map}
use Rattle.std.proofs.lemmas.Bool.Decides.{nat_tests}
use Rattle.std.proofs.lemmas.List.{length-map}
use Rattle.std.proofs.lemmas.Option.{slice_get-get_or, slice_get-map}
use Rattle.wasm_rules.specs.Types.{value_type_of}
use Rattle.wasm_validate.proofs.PartLemmas.Lookups.{is_false}
use Rattle.machine.proofs.LoadingLemmas.Words.{past_there, words_count, word_at, one_more, all_here}
use Rattle.machine.proofs.loading.typed_words.are_globals.Goals as goal

pub returns-then-types-words : goal.returns-then-types-words
returns-then-types-words c = (
  λ t. absurd (is_false t),
  λ h.
      let counted = words_count (map value_type_of c.args.types.now) c.args.words.now h in
      let same : length c.args.types.now ≡ length c.args.words.now =
      sym (length-map c.args.types.now value_type_of) ∙ counted in
      let differ = c.if-types-words.true in
      absurd (grind (arith, nat_tests)),
)

pub returns-in_default : goal.returns-in_default
returns-in_default c =
    let past = past_there c.args.types.now c.loop-place.place (sym c.in_default.ensures) in
    let within = c.loop-place-test.true in
    absurd (omega (arith, past, within))

pub returns-then-not-is_of : goal.returns-then-not-is_of
returns-then-not-is_of c = (
  λ t. absurd (is_false t),
  λ h.
      let types = c.args.types.now in
      let words = c.args.words.now in
      let n = c.loop-place.place in
      let counted = words_count (map value_type_of types) words h in
      let mapped = length-map types value_type_of in
      let within = c.loop-place-test.true in
      let item = sym c.in-Some.ensures in
      let a = slice_get-map value_type_of types n ∙ ap (option_map value_type_of) item in
      let b = slice_get-get_or words n 0 (omega (arith, counted, mapped, within)) in
      let yes = c.is_of.ensures.1 (word_at (map value_type_of types) words n h a b) in
      let none = c.if-not-is_of.true in
      cc,
)

pub loop-place-preserved : goal.loop-place-preserved
loop-place-preserved c =
    let types = c.args.types.now in
    let words = c.args.words.now in
    let n = c.loop-place.place in
    let equal = c.if-types-words.false in
    let same : length types ≡ length words = grind (arith, nat_tests) in
    let within = c.loop-place-test.true in
    let item = sym c.in-Some.ensures in
    let a = slice_get-map value_type_of types n ∙ ap (option_map value_type_of) item in
    let b = slice_get-get_or words n 0 (omega (arith, same, within)) in
    one_more (map value_type_of types) words n a b (c.is_of.ensures.0 c.if-not-is_of.false)
    c.loop-place.invariant

pub returns : goal.returns
returns c =
    let types = c.args.types.now in
    let words = c.args.words.now in
    let equal = c.if-types-words.false in
    let same : length types ≡ length words = grind (arith, nat_tests) in
    let past : length types ≤ c.loop-place.place = c.loop-place-test.false in
    let mapped = length-map types value_type_of in
    let all = all_here (map value_type_of types) words c.loop-place.place
    (omega (arith, mapped, past)) (omega (arith, same, past)) c.loop-place.invariant in
    (λ _. all, λ _. refl)
