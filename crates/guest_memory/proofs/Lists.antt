-- What holds of each item of a list holds of its parts; and numbers of bytes.
use Rattle.std.proofs.Common.{ℕ, zero, suc, ◌/◌, ◌%◌, ◌^◌, ◌<◌, List, [], ◌∷◌, ◌++◌, length}
use Rattle.std.proofs.Common.{take, drop, arith}
use Rattle.std.proofs.Math.Nat.{pow-suc}
use Rattle.std.specs.Prelude.{replicate}
use Rattle.std.specs.List.{AllByRecursion}
use Rattle.guest_memory.specs.rules.Bytes.{IsByte, number_of, bytes_of}

pub all_both : {X : Type 0} (P : X → Type 0) (xs ys : List X) → AllByRecursion P xs
    → AllByRecursion P ys → AllByRecursion P (xs ++ ys)
all_both P [] ys h k = k
all_both P (x ∷ xs) ys h k = (h.0, all_both P xs ys h.1 k)

pub all_with : {X : Type 0} (P Q R : X → Type 0) (xs : List X) → ((x : X) → P x → Q x → R x)
    → AllByRecursion P xs → AllByRecursion Q xs → AllByRecursion R xs
all_with P Q R [] f p q = tt
all_with P Q R (x ∷ xs) f p q = (f x p.0 q.0, all_with P Q R xs f p.1 q.1)

pub all_take : {X : Type 0} (P : X → Type 0) (n : ℕ) (xs : List X) → AllByRecursion P xs
    → AllByRecursion P (take n xs)
all_take P zero xs h = tt
all_take P (suc n) [] h = tt
all_take P (suc n) (x ∷ xs) h = (h.0, all_take P n xs h.1)

pub all_drop : {X : Type 0} (P : X → Type 0) (n : ℕ) (xs : List X) → AllByRecursion P xs
    → AllByRecursion P (drop n xs)
all_drop P zero xs h = h
all_drop P (suc n) [] h = tt
all_drop P (suc n) (x ∷ xs) h = all_drop P n xs h.1

pub all_replicate : {X : Type 0} (P : X → Type 0) (n : ℕ) (x : X) → P x
    → AllByRecursion P (replicate n x)
all_replicate P zero x h = tt
all_replicate P (suc n) x h = (h, all_replicate P n x h)

-- n bytes spell a number of 8 n bits
pub number_below : (bytes : List ℕ) → AllByRecursion IsByte bytes
    → number_of bytes < 256 ^ length bytes
number_below [] h = omega arith
number_below (b ∷ bytes) h = let r = number_below bytes h.1 in let first = h.0 in
    rw pow-suc (omega arith)

pub bytes_are : (n x : ℕ) → AllByRecursion IsByte (bytes_of n x)
bytes_are zero x = tt
bytes_are (suc n) x = ((let below : x % 256 < 256 = omega arith in below), bytes_are n (x / 256))
