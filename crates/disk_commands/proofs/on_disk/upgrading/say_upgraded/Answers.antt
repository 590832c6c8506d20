use Rattle.std.proofs.Common.{subst}
use Rattle.disk_commands.specs.rules.ToldLines.{SaysTold}
use Rattle.disk_commands.proofs.on_disk.upgrading.say_upgraded.Goals as goal

pub returns : goal.returns
returns g c = (
  c.say_result-status.new.err,
  c.say_result-status.result,
  c.say_result-status.ensures,
  subst (λ n. SaysTold n c.say_result-status.result c.say_result-status.new.err c.say_told.result
      c.say_told.new.err) c.told-told.ensures c.say_told.ensures,
)
