-- Random bytes that are drawn.
use Rattle.std.proofs.Common.{◌≡◌, ℕ, ◌+◌, refl, sym, ap, subst, ◌∙◌}
use Rattle.wasi_abi.specs.declared.answer.Answer.{Answer}
use Rattle.wasi_abi.specs.declared.answer.Answer.TheVariants as answer
use Rattle.wasi_abi.specs.declared.answer.Question.TheVariants as questions
use Rattle.command_words.specs.rules.Seeds.{seeded_bytes, words_for}
use Rattle.command_words.specs.Lines.Answers.{SourceState, TakesOther}
use Rattle.command_words.proofs.SeedLemmas.{seeded_length, seeded_are_bytes}

-- they fit, and take their words
pub draws : (n : ℕ) (old new : SourceState) (a : Answer)
    → a ≡ answer.Random (seeded_bytes old.outside.seed old.stream old.place n)
    → new.place ≡ old.place + words_for n → new.taken ≡ old.taken → new.unread ≡ old.unread
    → TakesOther (questions.Random n) old a new
draws n old new a is place taken unread =
    let seed = old.outside.seed in
    let stream = old.stream in
    let count = seeded_length seed stream old.place n in
    let here : TakesOther (questions.Random n) old
    (answer.Random (seeded_bytes seed stream old.place n)) new = record {
      comes = ap (seeded_bytes seed stream old.place) (sym count);
      other = refl;
      fits = λ limit. record {
        count = count;
        are_bytes = seeded_are_bytes seed stream old.place n;
      };
      place = place ∙ ap (λ k. old.place + words_for k) (sym count);
      taken = taken;
      unread = unread;
    } in
    subst (λ z. TakesOther (questions.Random n) old z new) (sym is) here
