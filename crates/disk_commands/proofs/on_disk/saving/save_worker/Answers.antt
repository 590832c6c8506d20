use Rattle.std.proofs.Common.{Ok, Err, ℕ, refl, rules, subst}
use Rattle.command_words.specs.rules.Printers.{printers}
use Rattle.disk_commands.specs.rules.Openings.{command_run}
use Rattle.disk_commands.specs.rules.SavedCopies.{MakesCopy}
use Rattle.disk_commands.proofs.on_disk.saving.save_worker.Goals as goal

pub returns-in-Ok : goal.returns-in-Ok
returns-in-Ok g c = (
  Ok c.in-Ok.told,
  c.inspect.new.disk,
  c.in-Ok.ensures,
  subst (λ (n : ℕ). MakesCopy g.F.DiskFile.known (g.R.DiskFiles.known c.args.files.now)
      c.args.copy.now n (g.D.Disk.medium c.inspect.new.disk) (g.D.Disk.medium c.make_copy.new.disk)
      (command_run (printers c.args.out.now c.args.err.now)
      (printers c.make_copy.new.out c.make_copy.new.err) c.make_copy.result))
      c.total_sectors-sectors.ensures c.make_copy.ensures,
)

pub returns-in-Err : goal.returns-in-Err
returns-in-Err g c = (
  Err c.in-Err.fault,
  c.inspect.new.disk,
  c.in-Err.ensures,
  (refl, search rules),
)
