use Rattle.std.proofs.Common.{ℕ, List}
use Rattle.guest_memory.specs.rules.Memories.{LinearMemory}
use Rattle.wasm_rules.specs.Configuration.{Configuration}
use Rattle.machine_frame.specs.rules.FramePosition.{IsRoutine, Around, FrameShows}
use Rattle.machine_frame.proofs.FrameLemmas.Ends.{PassingEnds}
use Rattle.machine_frame.proofs.frame.step.pass_ends.Given as goal

abbrev pub invariant-loop : goal.invariant-loop
invariant-loop l =
    (a : Around) (d : Configuration) (words globals : List ℕ) (memory : LinearMemory)
    (routine : IsRoutine a.context a.body l.opcodes l.table)
    → FrameShows a l.position words globals memory d
    → PassingEnds a l.opcodes l.table d words globals memory routine l.counter l.next
