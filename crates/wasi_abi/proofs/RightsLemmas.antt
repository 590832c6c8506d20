-- A right among others, by its bit and by its mask.
use Rattle.std.proofs.Common.{◌≡◌, ℕ, zero, suc, ◌*◌, ◌^◌, ◌<◌, bit_and, ◌==◌, ap, arith}
use Rattle.std.proofs.Math.Nat.{one-le-pow}
use Rattle.std.proofs.lemmas.Bool.Decides.{nat_tests}
use Rattle.std.proofs.lemmas.Nat.Bits.{and_pow, bit_at-lt}
use Rattle.std.proofs.lemmas.Nat.{and_comm}
use Rattle.std.specs.Int.{bit_at}
use Rattle.wasi_abi.specs.rules.Numbers.{has_right, are_within}

pub are_within-mask : (rights mask : ℕ) → (bit_and rights mask == mask) ≡ are_within mask rights
are_within-mask rights mask = ap (λ n. n == mask) (and_comm rights mask)

-- a bit times its mask is the mask where the bit is 1
bit_times_mask : (bit mask : ℕ) → bit < 2 → 0 < mask → (bit * mask == mask) ≡ (bit == 1)
bit_times_mask zero mask h k = grind (arith, nat_tests)
bit_times_mask (suc zero) mask h k = grind (arith, nat_tests)
bit_times_mask (suc (suc bit)) mask h k = absurd (omega arith)

pub has_right-mask : (rights bit mask : ℕ) → mask ≡ 2 ^ bit
    → (bit_and rights mask == mask) ≡ has_right rights bit
has_right-mask rights bit mask e =
    rw (e, and_pow rights bit) (bit_times_mask (bit_at rights bit) (2 ^ bit) (bit_at-lt rights bit)
    (one-le-pow bit 2 (omega arith)))
