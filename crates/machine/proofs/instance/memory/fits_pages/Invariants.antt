use Rattle.std.proofs.Common.{◌≤◌}
use Rattle.wasm_syntax.specs.declared.types.MemoryType.{MemoryType}
use Rattle.wasm_validate.proofs.PartLemmas.Loops.{Passed}
use Rattle.machine.proofs.instance.memory.fits_pages.Given as goal

abbrev pub invariant-loop-memory : goal.invariant-loop-memory
invariant-loop-memory l =
    Passed (λ (t : MemoryType). t.limits.minimum ≤ l.pages) l.memories l.memory-index
