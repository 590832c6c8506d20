use Rattle.std.proofs.Common.{◌∙◌, sym}
use Rattle.std.proofs.lemmas.Bool.{false≢true}
use Rattle.disk_commands.proofs.StatusLemmas.{exits, known_words, traps}
use Rattle.disk_commands.proofs.on_disk.status_line.is_watch_words.Goals as goal

pub returns-then-is_exit : goal.returns-then-is_exit
returns-then-is_exit c = (
  λ yes. exits c.args.words.now (c.is_exit.ensures.0 yes),
  λ words. c.if-is_exit.true,
)

pub returns-else-is_exit : goal.returns-else-is_exit
returns-else-is_exit c = (
  λ yes. traps c.args.words.now (c.is_trapped.ensures.0 yes),
  λ words. c.is_trapped.ensures.1 (known_words c.args.words.now
      (λ on. false≢true (sym c.if-is_on.false ∙ c.is_on.ensures.1 on))
      (λ is. false≢true (sym c.if-is_text.false ∙ c.is_text.ensures.1 is))
      (λ is. false≢true (sym c.if-is_exit.false ∙ c.is_exit.ensures.1 is)) words),
)
