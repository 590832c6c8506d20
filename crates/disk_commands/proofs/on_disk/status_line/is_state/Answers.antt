use Rattle.std.proofs.Common.{◌∙◌, refl, subst, sym}
use Rattle.std.proofs.lemmas.Bool.{false≢true}
use Rattle.disk_commands.specs.StatusLines.{IsLeftWords}
use Rattle.disk_commands.proofs.StatusLemmas.{behind_state, counted_state, plain_state}
use Rattle.disk_commands.proofs.on_disk.status_line.is_state.Goals as goal

pub returns-then-is_watch_words : goal.returns-then-is_watch_words
returns-then-is_watch_words c = (
  λ yes. plain_state c.args.words.now (c.is_watch_words.ensures.0 c.if-is_watch_words.true),
  λ words. refl,
)

pub returns-in-Some : goal.returns-in-Some
returns-in-Some c = (
  λ yes. let number = c.in-Some.ensures.spelled in
      counted_state c.args.words.now c.in-Some.rest.now number.0 number.1
      (c.is_left.ensures.0 yes),
  λ words. let (n, rest, is, known) = behind_state c.args.words.now
      (λ alone. false≢true (sym c.if-is_watch_words.false ∙ c.is_watch_words.ensures.1 alone))
      words in
      c.is_left.ensures.1
      (subst IsLeftWords (sym (c.in-Some.ensures.found n rest is)) known),
)

pub returns-in-None : goal.returns-in-None
returns-in-None c = (
  λ no. absurd (false≢true no),
  λ words. let (n, rest, is, known) = behind_state c.args.words.now
      (λ alone. false≢true (sym c.if-is_watch_words.false ∙ c.is_watch_words.ensures.1 alone))
      words in absurd (c.in-None.ensures.found n rest is),
)
