use Rattle.std.proofs.Common.{◌++◌}
use Rattle.disk_commands.proofs.StatusLineLemmas.{between_spelled}
use Rattle.disk_commands.proofs.on_disk.status_line.between.Goals as goal

pub returns-in_err-before_newline-clause-found : goal.returns-in_err-before_newline-clause-found
returns-in_err-before_newline-clause-found c = λ text is.
    absurd (c.in_err-before_newline.ensures.found (c.args.front.now ++ text) is)

pub returns-clause-spelled : goal.returns-clause-spelled
returns-clause-spelled c =
    between_spelled c.args.words.now _ c.args.front.now c.behind.result
    c.in_ok-before_newline.ensures.spelled c.behind.ensures.spelled

pub returns-clause-found : goal.returns-clause-found
returns-clause-found c = λ text is.
    c.behind.ensures.found text
    (c.in_ok-before_newline.ensures.found (c.args.front.now ++ text) is)
