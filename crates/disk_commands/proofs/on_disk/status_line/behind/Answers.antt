use Rattle.disk_commands.proofs.StatusLineLemmas.{front_spelled, front_found}
use Rattle.disk_commands.proofs.on_disk.status_line.behind.Goals as goal

pub returns-clause-spelled : goal.returns-clause-spelled
returns-clause-spelled c =
    front_spelled c.args.bytes.now c.args.front.now c.strip_prefix.result
    c.strip_prefix.ensures.cases

pub returns-clause-found : goal.returns-clause-found
returns-clause-found c =
    front_found c.args.bytes.now c.args.front.now c.strip_prefix.result
    c.strip_prefix.ensures.cases
