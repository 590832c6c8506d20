-- A rotation as std has it, by `|` of two shifts, is the sum of the two parts: they share no bit.
use Rattle.std.proofs.Common.{◌≡◌, ℕ, zero, suc, ◌+◌, ◌-◌, ◌*◌, ◌/◌, ◌%◌, ◌^◌, ◌<◌, ap, ◌∙◌, subst}
use Rattle.std.proofs.Common.{arith, bit_or}
use Rattle.std.specs.Int.{Width, w8, rotate_left, rotate_right}
use Rattle.std.specs.Int.Bits.{or_self}
use Rattle.std.proofs.Math.Nat.{mod-eq_of_lt, mod_self, mul-mod_left, mod-lt, div-one, mul-one}
use Rattle.std.proofs.Math.Nat.{div-eq_of_lt, add_comm, sub-zero, add-zero}
use Rattle.std.proofs.lemmas.Nat.{or_comm, or_shifted, mod-pow-add, shr_below, shl-shr}
use mir.Val.{bits}
use Rattle.int_ops.specs.rules.Integers.{rotated_left, rotated_right}

-- a shift upward drops the high bits
shl-mod : (a j k : ℕ) → (a * 2 ^ k) % 2 ^ (j + k) ≡ (a % 2 ^ j) * 2 ^ k
shl-mod a j k = rw (mod-pow-add, shl-shr, mul-mod_left) (omega arith)

-- the low j bits, moved up, beside the high k bits, moved down
or_parts : (a j k n : ℕ) → n ≡ j + k → a < 2 ^ n
    → bit_or ((a * 2 ^ k) % 2 ^ n) (a / 2 ^ j) ≡ (a * 2 ^ k) % 2 ^ n + a / 2 ^ j
or_parts a j k n e h =
    let high : a / 2 ^ j < 2 ^ k =
    shr_below a k j (subst (λ (m : ℕ). a < 2 ^ m) (e ∙ add_comm j k) h) in
    let moved : (a * 2 ^ k) % 2 ^ n ≡ (a % 2 ^ j) * 2 ^ k = ap (λ (m : ℕ). (a * 2 ^ k) % 2 ^ m) e
    ∙ shl-mod a j k in
    rw moved (or_shifted (a % 2 ^ j) k (a / 2 ^ j) high)

left : (a n r : ℕ) → r < n → a < 2 ^ n → bit_or ((a * 2 ^ r) % 2 ^ n) (a / 2 ^ ((n - r) % n))
    ≡ (a * 2 ^ r) % 2 ^ n + a / 2 ^ (n - r)
left a n zero p h =
    let whole : a % 2 ^ n ≡ a = mod-eq_of_lt h in
    let none : a / 2 ^ n ≡ 0 = div-eq_of_lt h in
    simp (sub-zero, mod_self, mul-one, div-one, whole, none, or_self, add-zero)
left a n (suc q) p h =
    let e : (n - suc q) % n ≡ n - suc q = mod-eq_of_lt (omega arith) in
    rw e (or_parts a (n - suc q) (suc q) n (omega arith) h)

right : (a n r : ℕ) → r < n → a < 2 ^ n → bit_or (a / 2 ^ r) ((a * 2 ^ ((n - r) % n)) % 2 ^ n)
    ≡ a / 2 ^ r + (a * 2 ^ (n - r)) % 2 ^ n
right a n zero p h =
    let whole : a % 2 ^ n ≡ a = mod-eq_of_lt h in
    simp (sub-zero, mod_self, mul-one, div-one, whole, mul-mod_left, or_self, add-zero)
right a n (suc q) p h =
    let e : (n - suc q) % n ≡ n - suc q = mod-eq_of_lt (omega arith) in
    rw (e, or_comm) (or_parts a (suc q) (n - suc q) n (omega arith) h ∙ add_comm _ _)

bits_pos : (w : Width) → 0 < bits w
bits_pos w8 = omega arith
bits_pos _ = omega arith

pub rotate_left_is : (w : Width) (a k : ℕ) → a < 2 ^ bits w
    → rotate_left w a k ≡ rotated_left w a (k % bits w)
rotate_left_is w a k h = left a (bits w) (k % bits w) (mod-lt k (bits_pos w)) h

pub rotate_right_is : (w : Width) (a k : ℕ) → a < 2 ^ bits w
    → rotate_right w a k ≡ rotated_right w a (k % bits w)
rotate_right_is w a k h = right a (bits w) (k % bits w) (mod-lt k (bits_pos w)) h
