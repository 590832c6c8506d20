use Rattle.std.proofs.Common.{◌≡◌, [], Err, subst}
use Rattle.disk_commands.specs.ComingUp.{IsUpgradedFrom}
use Rattle.worker.specs.rules.Scenes.{scene}
use Rattle.disk_commands.specs.rules.Upgradings.{from_list}
use Rattle.disk_commands.proofs.UpgradingLemmas.{then_ended, not_come}
use Rattle.disk_commands.proofs.on_disk.upgrading.upgrade_open.Goals as goal

pub returns-in-Ok : goal.returns-in-Ok
returns-in-Ok g c =
    let none : c.new-nothing.result ≡ [] = cc in
    let upgrades = c.upgrade.ensures.upgrades c.in-Ok.ensures.room in
    subst (λ s. IsUpgradedFrom g.D.Disk.medium from_list g.O.Outlet.takes
    (scene c.args.worker.now c.args.disk.now s c.args.outlet.now) c.upgrade.result
    c.upgrade.new.disk c.upgrade.new._outlet) none
    (then_ended g.D.Disk.medium from_list g.O.Outlet.takes _ _ _ c.in-Ok.ensures.comes
    c.in-Ok.ensures.over c.upgrade.new.self c.upgrade.new.disk c.upgrade.result
    c.upgrade.new._outlet c.upgrade.ensures.quiet upgrades.carries upgrades.keeps.shows
    upgrades.on_any_disk upgrades.leaves)

pub returns : goal.returns
returns g c =
    let none : c.new-nothing.result ≡ [] = cc in
    subst (λ s. IsUpgradedFrom g.D.Disk.medium from_list g.O.Outlet.takes
    (scene c.args.worker.now c.args.disk.now s c.args.outlet.now) (Err c.in-Err.fault)
    c.come_up.new.disk c.come_up.new.outlet) none
    (not_come g.D.Disk.medium from_list g.O.Outlet.takes _ _ c.in-Err.fault
    c.in-Err.ensures.comes)
