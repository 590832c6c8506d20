-- A number and the bytes that spell it.
use Rattle.std.proofs.Common.{◌≡◌, ℕ, zero, suc, ◌+◌, ◌*◌, ◌/◌, ◌%◌, ◌^◌, ◌<◌, List, [], ◌∷◌}
use Rattle.std.proofs.Common.{length, refl, ap, ◌∙◌, arith}
use Rattle.std.proofs.Math.Nat.{pow-suc, div-lt_iff_lt-mul}
use Rattle.std.specs.List.{AllByRecursion}
use Rattle.guest_memory.specs.rules.Bytes.{IsByte, number_of, bytes_of}

-- there are n bytes
pub length-bytes_of : (n x : ℕ) → length (bytes_of n x) ≡ n
length-bytes_of zero x = refl
length-bytes_of (suc n) x = let e = length-bytes_of n (x / 256) in omega (arith, e)

-- the bytes of a number that has room in them spell it
pub number_of-bytes_of : (n x : ℕ) → x < 256 ^ n → number_of (bytes_of n x) ≡ x
number_of-bytes_of zero x h = omega arith
number_of-bytes_of (suc n) x h =
    let wide : x < 256 ^ n * 256 = rw (pow-suc 256 n) at h in
    let low : x / 256 < 256 ^ n = (div-lt_iff_lt-mul (omega arith)).1 wide in
    let rest : number_of (bytes_of n (x / 256)) ≡ x / 256 = number_of-bytes_of n (x / 256) low in
    rw rest (omega arith)

-- bytes are those of the number that they spell
pub bytes_of-number_of : (bytes : List ℕ) → AllByRecursion IsByte bytes
    → bytes_of (length bytes) (number_of bytes) ≡ bytes
bytes_of-number_of [] h = refl
bytes_of-number_of (b ∷ bytes) h =
    let small : b < 256 = h.0 in
    let low : (b + 256 * number_of bytes) % 256 ≡ b = omega arith in
    let high : (b + 256 * number_of bytes) / 256 ≡ number_of bytes = omega arith in
    let rest : bytes_of (length bytes) (number_of bytes) ≡ bytes = bytes_of-number_of bytes h.1 in
    let tail : bytes_of (length bytes) ((b + 256 * number_of bytes) / 256) ≡ bytes =
    ap (λ y. bytes_of (length bytes) y) high ∙ rest in
    cc
