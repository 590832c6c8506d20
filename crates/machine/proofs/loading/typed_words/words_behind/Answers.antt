use Rattle.std.proofs.Common.{◌++◌, length, refl, sym, subst, arith, length-append}
use Rattle.std.proofs.lemmas.Bool.Decides.{nat_tests}
use Rattle.machine_frame.specs.laws.Fitting.{AreWordsOf}
use Rattle.machine.proofs.LoadingLemmas.Words.{words_count, both, first_of, second_of}
use Rattle.machine.proofs.loading.typed_words.words_behind.Goals as goal

pub returns-then-words-types : goal.returns-then-words-types
returns-then-words-types c = λ others h.
    let types = c.args.types.now in
    let counted = words_count (types ++ others) c.args.words.now h in
    let parts = length-append types others in
    let few = c.if-words-types.true in
    absurd (grind (arith, nat_tests))

pub returns-then-are_of : goal.returns-then-are_of
returns-then-are_of c = λ others.
    let types = c.args.types.now in
    let words = c.args.words.now in
    let back = c.split_at.ensures.back in
    let front = c.split_at.ensures.front in
    let own = c.are_of.ensures.0 c.if-are_of.true in (
      λ h. subst (AreWordsOf others) (sym back)
          (second_of types others words (length types) refl h),
      λ k. both types others words (length types) refl (subst (AreWordsOf types) front own)
          (subst (AreWordsOf others) back k),
    )

pub returns-else-are_of : goal.returns-else-are_of
returns-else-are_of c = λ others h.
    let types = c.args.types.now in
    let words = c.args.words.now in
    let front = c.split_at.ensures.front in
    let yes = c.are_of.ensures.1 (subst (AreWordsOf types) (sym front)
    (first_of types others words (length types) refl h)) in
    let none = c.if-are_of.false in
    absurd (cc)
