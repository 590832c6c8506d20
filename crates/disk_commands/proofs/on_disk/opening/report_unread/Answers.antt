use Rattle.disk_commands.proofs.OpeningLemmas.{cause_told}
use Rattle.disk_commands.proofs.on_disk.opening.report_unread.Goals as goal

pub returns : goal.returns
returns g c =
    cause_told c.args.path.now c.args.error c.from.result c.args.err.now
    c.report_open.result c.report_open.new.err
    (λ is. let yes = c.if-is_want.ensures.1 is in cc) c.from.ensures c.report_open.ensures
