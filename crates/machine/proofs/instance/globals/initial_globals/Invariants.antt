use Rattle.machine.proofs.InstanceLemmas.Constant.{Continues}
use Rattle.machine.proofs.instance.globals.initial_globals.Given as goal

abbrev pub invariant-loop-global : goal.invariant-loop-global
invariant-loop-global l = Continues l.globals l.values.items l.global-index
