use Rattle.std.proofs.Common.{sym, subst}
use Rattle.machine.specs.rules.Values.{MachineValue, HoldsMemory}
use Rattle.machine.specs.rules.Runs.{TellsWaiting}
use Rattle.machine.proofs.Ran.{stands_for_some}
use Rattle.machine.proofs.Telling.{tells}
use Rattle.machine.proofs.running_machine.Machine.waits.Goals as goal

pub waiting_call-requires : goal.waiting_call-requires
waiting_call-requires c =
    let holds = subst HoldsMemory (sym c.self.view_is) c.requires in
    let memory = c.memories_are_of_bytes.ensures in
    stands_for_some c.self.inside.state c.self.invariant holds memory.shape memory.bytes

pub returns : goal.returns
returns c =
    let memory = c.memories_are_of_bytes.ensures in
    let P : MachineValue → Type 0 = λ v. TellsWaiting v c.waiting_call.result in
    subst P c.self.view_is (tells c.self.invariant memory.shape memory.bytes c.waiting_call.result
    c.waiting_call.ensures)
