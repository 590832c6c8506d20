use Rattle.std.proofs.Common.{sym, subst}
use Rattle.machine.specs.rules.Values.{MachineValue, HoldsMemory, ShowsIn}
use Rattle.machine.proofs.Ran.{holds_again, stands_for_some, machine_again, runs}
use Rattle.machine.proofs.running_machine.Machine.run.Goals as goal

pub go_on-requires : goal.go_on-requires
go_on-requires c =
    let holds = subst HoldsMemory (sym c.self.view_is) c.requires in
    let memory = c.memories_are_of_bytes.ensures in
    stands_for_some c.self.inside.state c.self.invariant holds memory.shape memory.bytes

pub invariant_of-self : goal.invariant_of-self
invariant_of-self c =
    let holds = subst HoldsMemory (sym c.self.view_is) c.requires in
    let memory = c.memories_are_of_bytes.ensures in
    machine_again c.go_on.new.state c.self.invariant holds memory.shape memory.bytes c.args.fuel
    c.go_on.result c.go_on.ensures

pub returns-clause-runs : goal.returns-clause-runs
returns-clause-runs c = λ program d shows.
    let holds = subst HoldsMemory (sym c.self.view_is) c.requires in
    let memory = c.memories_are_of_bytes.ensures in
    let P : MachineValue → Type 0 = λ v. ShowsIn v program d in
    runs c.go_on.new.state c.self.invariant holds memory.shape memory.bytes c.args.fuel
    c.go_on.result c.go_on.ensures program d (subst P (sym c.self.view_is) shows)

pub returns-clause-holds : goal.returns-clause-holds
returns-clause-holds c =
    let holds = subst HoldsMemory (sym c.self.view_is) c.requires in
    let memory = c.memories_are_of_bytes.ensures in
    holds_again c.go_on.new.state c.self.invariant holds memory.shape memory.bytes c.args.fuel
    c.go_on.result c.go_on.ensures
