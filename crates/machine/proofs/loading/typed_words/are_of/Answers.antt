use Rattle.std.proofs.Common.{◌≡◌, ◌≤◌, length, refl, arith}
use Rattle.std.proofs.lemmas.Bool.Decides.{nat_tests}
use Rattle.std.proofs.lemmas.Option.{slice_get-get_or}
use Rattle.wasm_syntax.specs.declared.types.ValueType.TheVariants.{I32}
use Rattle.wasm_validate.proofs.PartLemmas.Lookups.{is_false}
use Rattle.machine.proofs.LoadingLemmas.Words.{words_count, word_at, one_more, all_here}
use Rattle.machine.proofs.loading.typed_words.are_of.Goals as goal

pub returns-then-types-words : goal.returns-then-types-words
returns-then-types-words c = (
  λ t. absurd (is_false t),
  λ h.
      let same = words_count c.args.types.now c.args.words.now h in
      let differ = c.if-types-words.true in
      absurd (grind (arith, nat_tests)),
)

pub returns-then-not-is_of : goal.returns-then-not-is_of
returns-then-not-is_of c = (
  λ t. absurd (is_false t),
  λ h.
      let types = c.args.types.now in
      let words = c.args.words.now in
      let n = c.loop-place.place in
      let same = words_count types words h in
      let within = c.loop-place-test.true in
      let a = slice_get-get_or types n I32 within in
      let b = slice_get-get_or words n 0 (omega (arith, same, within)) in
      let yes = c.is_of.ensures.1 (word_at types words n h a b) in
      let none = c.if-not-is_of.true in
      cc,
)

pub loop-place-preserved : goal.loop-place-preserved
loop-place-preserved c =
    let types = c.args.types.now in
    let words = c.args.words.now in
    let n = c.loop-place.place in
    let equal = c.if-types-words.false in
    let same : length types ≡ length words = grind (arith, nat_tests) in
    let within = c.loop-place-test.true in
    let a = slice_get-get_or types n I32 within in
    let b = slice_get-get_or words n 0 (omega (arith, same, within)) in
    one_more types words n a b (c.is_of.ensures.0 c.if-not-is_of.false) c.loop-place.invariant

pub returns : goal.returns
returns c =
    let types = c.args.types.now in
    let words = c.args.words.now in
    let equal = c.if-types-words.false in
    let same : length types ≡ length words = grind (arith, nat_tests) in
    let past : length types ≤ c.loop-place.place = c.loop-place-test.false in
    let all = all_here types words c.loop-place.place past (omega (arith, same, past))
    c.loop-place.invariant in
    (λ _. all, λ _. refl)
