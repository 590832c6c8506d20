use Rattle.disk_commands.proofs.StatusLineLemmas.{newline_spelled, newline_found}
use Rattle.disk_commands.proofs.on_disk.status_line.before_newline.Goals as goal

pub returns-clause-spelled : goal.returns-clause-spelled
returns-clause-spelled c =
    newline_spelled c.args.bytes.now c.strip_suffix.result c.strip_suffix.ensures.cases

pub returns-clause-found : goal.returns-clause-found
returns-clause-found c =
    newline_found c.args.bytes.now c.strip_suffix.result c.strip_suffix.ensures.cases
