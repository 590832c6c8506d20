use Rattle.std.proofs.Common.{sym, subst}
use Rattle.machine.specs.rules.Values.{MachineValue, HoldsMemory, ShowsIn}
use Rattle.machine.proofs.Stopped.{machine_stopped, machine_stops, still_holds}
use Rattle.machine.proofs.running_machine.Machine.stop.Goals as goal

pub invariant_of-self : goal.invariant_of-self
invariant_of-self c =
    machine_stopped c.self.inside.code c.self.inside.most_pages c.clear.ensures c.self.invariant

pub returns-clause-stops : goal.returns-clause-stops
returns-clause-stops c = λ program d shows.
    let P : MachineValue → Type 0 = λ v. ShowsIn v program d in
    machine_stops c.self.inside.code c.self.inside.most_pages c.clear.ensures program d
    (subst P (sym c.self.view_is) shows)

pub returns-clause-holds : goal.returns-clause-holds
returns-clause-holds c = λ h.
    still_holds c.self.inside.code c.self.inside.most_pages c.clear.ensures
    (subst HoldsMemory (sym c.self.view_is) h)
