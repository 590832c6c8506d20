use Rattle.std.proofs.Common.{refl, subst}
use Rattle.command_words.specs.rules.Printers.{IsSaid}
use Rattle.disk_commands.specs.rules.DiskStatuses.{status_on_disk}
use Rattle.disk_commands.proofs.UpgradingLemmas.{version_is}
use Rattle.disk_commands.proofs.on_disk.upgrading.bring_up.Goals as goal

pub returns-in-Two : goal.returns-in-Two
returns-in-Two g c = (
  version_is c.args.worker.now _ _ _ _ c.version.ensures c.host.ensures c.process.ensures
      c.in-Two.is,
  c.tell_recovered.ensures,
  refl,
  refl,
)

pub returns-in-Ok : goal.returns-in-Ok
returns-in-Ok g c = (
  version_is c.args.worker.now _ _ _ _ c.version.ensures c.host.ensures c.process.ensures
      c.in-One.is,
  c.tell_recovered.ensures,
  c.in-Ok.ensures,
)

pub returns-in-Err : goal.returns-in-Err
returns-in-Err g c = (
  c.in-Err.fault,
  c.tell_recovered.new.err,
  version_is c.args.worker.now _ _ _ _ c.version.ensures c.host.ensures c.process.ensures
      c.in-One.is,
  c.tell_recovered.ensures,
  c.in-Err.ensures,
  subst (λ told. IsSaid (status_on_disk told) c.tell_recovered.new.err c.say_life_fault.result
      c.say_life_fault.new.err) c.from.ensures c.say_life_fault.ensures,
)
