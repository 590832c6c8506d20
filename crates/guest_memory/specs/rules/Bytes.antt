-- Bytes of a memory, and the numbers that they spell, the lowest byte first (Core Specification
-- 1.0, sections 4.2.8 and 4.3.1.3).
use Rattle.std.specs.Prelude.{ℕ, zero, suc, ◌+◌, ◌*◌, ◌/◌, ◌%◌, ◌<◌, List, [], ◌∷◌, ◌++◌, length}
use Rattle.std.specs.Prelude.{take, drop}

-- a number below 256
abbrev pub IsByte : ℕ → Type 0
IsByte b = b < 256

-- the number that these bytes spell
abbrev pub number_of : List ℕ → ℕ
number_of [] = 0
number_of (b ∷ bytes) = b + 256 * number_of bytes

-- the lowest n bytes of a number
abbrev pub bytes_of : ℕ → ℕ → List ℕ
bytes_of zero x = []
bytes_of (suc n) x = x % 256 ∷ bytes_of n (x / 256)

-- a page has 65,536 bytes
abbrev pub page_size : ℕ
page_size = 65536

-- so many bytes from a place on
abbrev pub part : List ℕ → ℕ → ℕ → List ℕ
part memory from len = take len (drop from memory)

-- the memory with these bytes from a place on
abbrev pub with_part : List ℕ → ℕ → List ℕ → List ℕ
with_part memory from bytes = take from memory ++ (bytes ++ drop (from + length bytes) memory)
