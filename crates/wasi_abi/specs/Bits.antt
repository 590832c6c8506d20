-- The place of a number's highest bit: which right or flag a number of one bit is.
use Rattle.std.specs.Prelude.{ℕ, zero, suc, ◌/◌, nat_le, if◌then◌else◌}

-- of a number with at most so many bits more
abbrev pub bit_within : ℕ → ℕ → ℕ
bit_within zero n = 0
bit_within (suc most) n = if nat_le n 1 then 0 else suc (bit_within most (n / 2))

-- rights have 29 bits, and flags fewer
abbrev pub bit_of : ℕ → ℕ
bit_of n = bit_within 28 n
