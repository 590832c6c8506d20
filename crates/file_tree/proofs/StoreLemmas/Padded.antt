-- Bytes with zeros after them.
use Rattle.std.proofs.Common.{◌≡◌, ℕ, zero, suc, ◌+◌, ◌-◌, ◌≤◌, List, [], ◌∷◌, ◌++◌, length, take}
use Rattle.std.proofs.Common.{drop, refl, sym, ap, ◌∙◌, arith}
use Rattle.std.specs.Prelude.{replicate, if◌then◌else◌}
use Rattle.std.proofs.lemmas.List.{append-nil, take-replicate}
use Rattle.file_tree.specs.rules.Bytes.{written, resized}

-- so many bytes are the same, however many zeros are after them
front_padded : (xs : List ℕ) (n a b : ℕ) → n ≤ length xs + a → n ≤ length xs + b
    → take n (xs ++ replicate a 0) ≡ take n (xs ++ replicate b 0)
front_padded [] n a b g h = take-replicate n a 0 (omega arith)
    ∙ sym (take-replicate n b 0 (omega arith))
front_padded (x ∷ xs) zero a b g h = refl
front_padded (x ∷ xs) (suc n) a b g h =
    ap (λ (ys : List ℕ). x ∷ ys) (front_padded xs n a b (omega (arith, g)) (omega (arith, h)))

pub is_resized : (xs : List ℕ) (n : ℕ) → take n xs ++ replicate (n - length xs) 0 ≡ resized xs n
is_resized [] zero = refl
is_resized [] (suc n) = (let e : suc n - 0 ≡ suc n = omega arith in
    ap (λ (k : ℕ). replicate {A = ℕ} k 0) e
    ∙ sym (take-replicate {X = ℕ} (suc n) (suc n) 0 (omega arith)))
is_resized (x ∷ xs) zero = (let e : 0 - suc (length xs) ≡ 0 = omega arith in
    ap (λ (k : ℕ). replicate {A = ℕ} k 0) e)
is_resized (x ∷ xs) (suc n) =
    let e : suc n - suc (length xs) ≡ n - length xs = omega arith in
    ap (λ (k : ℕ). x ∷ (take n xs ++ replicate k 0)) e
    ∙ ap (λ (ys : List ℕ). x ∷ ys) (is_resized xs n
    ∙ front_padded xs n n (suc n) (omega arith) (omega arith))

-- what is put over bytes that reach as far as it
pub is_written : (old : List ℕ) (from : ℕ) (bytes : List ℕ) → from + length bytes ≤ length old
    → take from old ++ (bytes ++ drop (from + length bytes) old) ≡ written old from bytes
is_written old from bytes fits =
    ap (λ (xs : List ℕ). xs ++ (bytes ++ drop (from + length bytes) old))
    (ap (take from) (sym (append-nil old))
    ∙ front_padded old from 0 from (omega (arith, fits)) (omega arith))
