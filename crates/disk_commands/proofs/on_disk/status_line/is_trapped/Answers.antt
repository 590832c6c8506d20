use Rattle.std.proofs.Common.{◌∙◌, ◌++◌, ap, codes}
use Rattle.std.proofs.lemmas.Bool.{false≢true}
use Rattle.command_words.specs.rules.Texts.{trap_text}
use Rattle.disk_commands.proofs.on_disk.status_line.is_trapped.Goals as goal

pub returns-in-Some : goal.returns-in-Some
returns-in-Some c = (
  λ yes. let why = c.is_trap_name.ensures.0 yes in
      (why.0, c.in-Some.ensures.spelled ∙ ap (λ t. codes "trapped " ++ t ++ codes "\n") why.1),
  λ (why, is). c.is_trap_name.ensures.1 (why, c.in-Some.ensures.found (trap_text why) is),
)

pub returns-in-None : goal.returns-in-None
returns-in-None c = (
  λ no. absurd (false≢true no),
  λ (why, is). absurd (c.in-None.ensures.found (trap_text why) is),
)
