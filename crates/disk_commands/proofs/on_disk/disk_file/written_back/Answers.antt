use Rattle.std.proofs.Common.{refl}
use Rattle.disk_commands.proofs.FileLemmas.{has_failed, is_written_back}
use Rattle.disk_commands.proofs.on_disk.disk_file.written_back.Goals as goal

pub returns-in-Ok-clause-written : goal.returns-in-Ok-clause-written
returns-in-Ok-clause-written g c =
    is_written_back c.args.disk c.rewrite.new.disk c.requires c.in-Ok.ensures.same
    c.in-Ok.ensures.all_synced c.in-Ok.ensures.any_moment.passes.sectors
    c.in-Ok.ensures.calls.all

pub returns-in-Err-clause-failed : goal.returns-in-Err-clause-failed
returns-in-Err-clause-failed g c = (
  c.rewrite.new.disk,
  has_failed c.args.disk c.rewrite.new.disk c.requires (c.in-Err.ensures.cause refl),
  c.close.ensures,
)
