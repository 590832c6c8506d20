-- What a memory ends as, once a range that it lent has come back.
use Rattle.std.specs.Prelude.{ℕ, List}
use Rattle.std.specs.Borrow.{Fml, MutBor, Array, Lends, u8}
use Rattle.guest_memory.specs.rules.Memories.{LinearMemory, with_lent}
use Rattle.guest_memory.specs.contracts.memory.Memory.{the_row}

-- the range from a place on has the last bytes written through r
abbrev pub LendsRange : MutBor LinearMemory → ℕ → MutBor (List ℕ) → Fml
LendsRange m from r = Lends the_row (Array u8 0) m r (λ bytes. with_lent from bytes m.now)
