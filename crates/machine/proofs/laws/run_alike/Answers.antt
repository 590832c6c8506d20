use Rattle.machine.proofs.Alike.{one_machine, run_alike, answer_alike}
use Rattle.machine.proofs.laws.run_alike.Goals as goal

pub returns-clause-shown : goal.returns-clause-shown
returns-clause-shown c = one_machine

pub returns-clause-run : goal.returns-clause-run
returns-clause-run c = run_alike

pub returns-clause-answered : goal.returns-clause-answered
returns-clause-answered c = answer_alike
