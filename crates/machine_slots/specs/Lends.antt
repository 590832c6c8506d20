-- What words end as, once those above a place, which were lent, have come back.
use Rattle.std.specs.Prelude.{ℕ, ◌+◌, List, ◌++◌, length, reverse, take, drop}
use Rattle.std.specs.Borrow.{Fml, MutBor, Array, Lends, u64}
use Rattle.machine_slots.specs.contracts.slots.Slots.{the_row}

-- a list with others from a place on, as far as they reach
abbrev pub with_from : ℕ → List ℕ → List ℕ → List ℕ
with_from place more words = take place words ++ (more ++ drop (place + length more) words)

-- the words from a place on, which counts from the bottom, are the last ones written through r
abbrev pub LendsWords : MutBor (List ℕ) → ℕ → MutBor (List ℕ) → Fml
LendsWords s place r = Lends the_row (Array u64 0) s r (λ words.
    reverse (take (length s.now) (with_from place words (reverse s.now))))
