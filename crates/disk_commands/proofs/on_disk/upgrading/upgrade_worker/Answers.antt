use Rattle.std.proofs.Common.{Err}
use Rattle.disk_commands.proofs.UpgradingLemmas.{none_upgraded, open_upgraded}
use Rattle.disk_commands.proofs.UnwrittenLemmas.{heeds_in_upgrade}
use Rattle.disk_commands.proofs.on_disk.upgrading.upgrade_worker.Goals as goal

pub returns-in-Ok-clause-upgrades : goal.returns-in-Ok-clause-upgrades
returns-in-Ok-clause-upgrades g c =
    let upgraded = c.bring_up-upgraded in
    open_upgraded g.D.Disk.medium g.O.Outlet.takes c.in-Ok.worker c.args.disk.now
    c.recover.new.disk upgraded.new.disk c.args.outlet.now c.recover.new.outlet
    upgraded.new.outlet c.args.err.now upgraded.new.err c.in-Ok.ensures
    c.in-Ok.ensures.heeds upgraded.result upgraded.ensures

pub returns-in-Ok-clause-refusal : goal.returns-in-Ok-clause-refusal
returns-in-Ok-clause-refusal g c =
    let upgraded = c.bring_up-upgraded in
    heeds_in_upgrade g.D.Disk.medium g.O.Outlet.takes c.args.disk.now upgraded.new.disk
    c.args.outlet.now upgraded.new.outlet c.args.err.now upgraded.new.err upgraded.result
    (returns-in-Ok-clause-upgrades g c)

pub returns-in-Err-clause-upgrades : goal.returns-in-Err-clause-upgrades
returns-in-Err-clause-upgrades g c =
    none_upgraded g.D.Disk.medium g.O.Outlet.takes c.in-Err.fault c.from.result
    c.args.disk.now c.recover.new.disk c.args.outlet.now c.recover.new.outlet
    c.args.err.now c.say_life_fault.new.err c.say_life_fault.result
    c.in-Err.ensures c.in-Err.ensures.heeds c.from.ensures
    c.say_life_fault.ensures

pub returns-in-Err-clause-refusal : goal.returns-in-Err-clause-refusal
returns-in-Err-clause-refusal g c =
    heeds_in_upgrade g.D.Disk.medium g.O.Outlet.takes c.args.disk.now c.recover.new.disk
    c.args.outlet.now c.recover.new.outlet c.args.err.now c.say_life_fault.new.err
    (Err c.say_life_fault.result) (returns-in-Err-clause-upgrades g c)
