-- What a machine ends as, once its memory that it lent has come back.
use Rattle.std.specs.Borrow.{Fml, MutBor, Lends}
use Rattle.guest_memory.specs.rules.Memories.{LinearMemory}
use Rattle.guest_memory.specs.contracts.memory.Memory.{the_row as memory_row}
use Rattle.machine.specs.contracts.running_machine.Machine.{the_row}
use Rattle.machine.specs.rules.Values.{MachineValue, with_memory}

-- its memory is what was last after r
abbrev pub LendsMemory : MutBor MachineValue → MutBor LinearMemory → Fml
LendsMemory v r = Lends the_row memory_row v r (λ memory. with_memory v.now memory)
