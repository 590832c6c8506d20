use Rattle.process.proofs.Successions.{has_succeeded, is_process}
use Rattle.process.proofs.process.Process.start_from.Goals as goal

pub returns-in-Ok-clause-succeeded : goal.returns-in-Ok-clause-succeeded
returns-in-Ok-clause-succeeded c =
    rw c.go_on_from.ensures (has_succeeded c.args.«module» c.args.config c.in-Ok.process
    c.in-Ok.ensures.started c.args.legacy c.lines-lines.ensures.shows c.requires)

pub returns-in-Ok-clause-shows : goal.returns-in-Ok-clause-shows
returns-in-Ok-clause-shows c =
    rw c.go_on_from.ensures (is_process c.args.«module» c.args.config c.in-Ok.process
    c.in-Ok.ensures.started c.args.legacy c.lines-lines.ensures.shows c.requires)
