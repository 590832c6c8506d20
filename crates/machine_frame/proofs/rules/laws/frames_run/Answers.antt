use Rattle.machine_frame.proofs.Threads.Running.{frames_run, runs_stand}
use Rattle.machine_frame.proofs.rules.laws.frames_run.Goals as goal

pub returns-clause-apart : goal.returns-clause-apart
returns-clause-apart c = frames_run

pub returns-clause-whole : goal.returns-clause-whole
returns-clause-whole c = runs_stand
