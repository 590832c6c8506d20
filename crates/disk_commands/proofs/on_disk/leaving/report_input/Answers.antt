use Rattle.disk_commands.proofs.on_disk.leaving.report_input.Goals as goal

pub returns : goal.returns
returns g c = (
  c.flaw_of_source-flaw.result,
  c.flaw_of_source-flaw.ensures,
  c.say_input.ensures,
)
