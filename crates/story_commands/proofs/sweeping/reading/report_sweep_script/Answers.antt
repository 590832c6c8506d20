use Rattle.story_commands.proofs.SweepLemmas.Statuses.{script_fault_said}
use Rattle.story_commands.proofs.sweeping.reading.report_sweep_script.Goals as goal

pub returns-in-Script-clause-words : goal.returns-in-Script-clause-words
returns-in-Script-clause-words g c =
    rw c.in-Script.is (script_fault_said c.in-Script.fault c.args.err.now c.report_script.result
    c.report_script.new.err c.report_script.ensures.faulty c.report_script.ensures.starved)
