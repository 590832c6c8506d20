use Rattle.std.proofs.Common.{◌∙◌, ◌++◌, ap, codes}
use Rattle.std.specs.Fmt.{decimal}
use Rattle.std.proofs.lemmas.Bool.{false≢true}
use Rattle.disk_commands.proofs.on_disk.status_line.is_exit.Goals as goal

pub returns-in-Some : goal.returns-in-Some
returns-in-Some c = (
  λ yes. let code = c.is_exit_code.ensures.0 yes in (
    code.0,
    code.1,
    c.in-Some.ensures.spelled
        ∙ ap (λ d. codes "exited " ++ d ++ codes "\n") code.2,
  ),
  λ (code, small, is). c.is_exit_code.ensures.1
      (code, small, c.in-Some.ensures.found (decimal code) is),
)

pub returns-in-None : goal.returns-in-None
returns-in-None c = (
  λ no. absurd (false≢true no),
  λ (code, small, is). absurd (c.in-None.ensures.found (decimal code) is),
)
