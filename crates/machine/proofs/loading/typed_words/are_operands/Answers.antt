use Rattle.std.proofs.Common.{◌≡◌, ◌≤◌, ◌∙◌, length, take, refl, sym, arith}
use Rattle.std.proofs.lemmas.Bool.Decides.{nat_tests}
use Rattle.std.proofs.lemmas.Option.{slice_get-get_or}
use Rattle.wasm_syntax.specs.declared.types.ValueType.TheVariants.{I32}
use Rattle.wasm_validate.proofs.PartLemmas.Lookups.{is_false}
use Rattle.machine.proofs.LoadingLemmas.Words.{words_count, word_at, one_more, all_here, taken_at}
use Rattle.machine.proofs.LoadingLemmas.Words.{taken_count}
use Rattle.machine.proofs.loading.typed_words.are_operands.Goals as goal

pub returns-then-count-words : goal.returns-then-count-words
returns-then-count-words c = (
  λ t. absurd (is_false t),
  λ h.
      let counted = words_count (take c.args.count c.args.types.now) c.args.words.now h in
      let taken = taken_count c.args.types.now c.args.count c.requires in
      let same : c.args.count ≡ length c.args.words.now = sym taken ∙ counted in
      let differ = c.if-count-words.true in
      absurd (grind (arith, nat_tests)),
)

pub returns-in_default : goal.returns-in_default
returns-in_default c =
    let types = c.args.types.now in
    let n = c.loop-place.place in
    let within = c.loop-place-test.true in
    let few = c.requires in
    let there = slice_get-get_or types n I32 (omega (arith, within, few)) in
    let none = c.in_default.ensures in
    absurd (cc)

pub returns-then-not-is_of : goal.returns-then-not-is_of
returns-then-not-is_of c = (
  λ t. absurd (is_false t),
  λ h.
      let types = c.args.types.now in
      let words = c.args.words.now in
      let n = c.loop-place.place in
      let counted = words_count (take c.args.count types) words h in
      let taken = taken_count types c.args.count c.requires in
      let within = c.loop-place-test.true in
      let a = taken_at types c.args.count n within ∙ sym c.in-Some.ensures in
      let b = slice_get-get_or words n 0 (omega (arith, counted, taken, within)) in
      let yes = c.is_of.ensures.1 (word_at (take c.args.count types) words n h a b) in
      let none = c.if-not-is_of.true in
      cc,
)

pub loop-place-preserved : goal.loop-place-preserved
loop-place-preserved c =
    let types = c.args.types.now in
    let words = c.args.words.now in
    let n = c.loop-place.place in
    let equal = c.if-count-words.false in
    let same : c.args.count ≡ length words = grind (arith, nat_tests) in
    let within = c.loop-place-test.true in
    let a = taken_at types c.args.count n within ∙ sym c.in-Some.ensures in
    let b = slice_get-get_or words n 0 (omega (arith, same, within)) in
    one_more (take c.args.count types) words n a b (c.is_of.ensures.0 c.if-not-is_of.false)
    c.loop-place.invariant

pub returns : goal.returns
returns c =
    let types = c.args.types.now in
    let words = c.args.words.now in
    let equal = c.if-count-words.false in
    let same : c.args.count ≡ length words = grind (arith, nat_tests) in
    let past : c.args.count ≤ c.loop-place.place = c.loop-place-test.false in
    let taken = taken_count types c.args.count c.requires in
    let all = all_here (take c.args.count types) words c.loop-place.place
    (omega (arith, taken, past)) (omega (arith, same, past)) c.loop-place.invariant in
    (λ _. all, λ _. refl)
