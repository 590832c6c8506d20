-- Words of 64 bits that are kept as bytes (this project's own).
use Rattle.std.specs.Prelude.{ℕ, zero, suc, List, [], ◌∷◌, take, drop}
use Rattle.guest_memory.specs.rules.Bytes.{number_of}

-- so many numbers of eight bytes
abbrev pub numbers_in : ℕ → List ℕ → List ℕ
numbers_in zero bytes = []
numbers_in (suc n) bytes = number_of (take 8 bytes) ∷ numbers_in n (drop 8 bytes)
