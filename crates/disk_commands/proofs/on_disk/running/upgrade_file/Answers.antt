use Rattle.disk_commands.proofs.ServedLemmas.{upgrades_opened}
use Rattle.disk_commands.proofs.on_disk.running.upgrade_file.Goals as goal

pub returns-in-Ok : goal.returns-in-Ok
returns-in-Ok g c =
    upgrades_opened g.F.DiskFile.known (g.R.DiskFiles.known c.args.files.now) c.args.path.now
    c.in-Ok.disk c.upgrade_worker-upgraded.new.disk
    c.args.lines.now c.upgrade_worker-upgraded.new.outlet c.say_upgraded.new.lines.printer
    c.args.err.now c.open_disk.new.err c.upgrade_worker-upgraded.new.err c.say_upgraded.new.err
    c.say_upgraded.result c.upgrade_worker-upgraded.result c.in-Ok.ensures.opened
    c.close.ensures c.in-Ok.ensures.quiet c.requires.told
    c.upgrade_worker-upgraded.ensures.upgrades c.upgrade_worker-upgraded.ensures.refusal
    c.say_upgraded.ensures
