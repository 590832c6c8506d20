-- Bytes cut at a separator.
use Rattle.std.proofs.Common.{◌≡◌, ◌≢◌, ℕ, ◌+◌, ◌<◌, ◌≤◌, List, [], ◌∷◌, ◌++◌, length, get_or, take}
use Rattle.std.proofs.Common.{drop, Some, None, All, sym, refl, ap, ◌∙◌, subst, arith}
use Rattle.std.proofs.Common.{take-append-drop}
use Rattle.std.proofs.lemmas.Bool.{cond-true, cond-false, eq-eqb, ne_eqb}
use Rattle.std.proofs.lemmas.List.{drop_more, get_or-take, length-take-le}
use Rattle.std.proofs.lemmas.List.Elements.{All-head, All-tail, All-from_get_or}
use Rattle.command_words.specs.rules.Pieces.{split_once}

abbrev IsNot : ℕ → ℕ → Type 0
IsNot separator byte = byte ≢ separator

split_at : (s : ℕ) (xs ys : List ℕ) → All (IsNot s) xs → split_once s (xs ++ s ∷ ys) ≡ (xs, Some ys)
unfolding split_once
split_at s [] ys free = cond-true _ _ _ (eq-eqb s s refl)
split_at s (x ∷ xs) ys free =
    cond-false _ _ _ (ne_eqb x s (All-head (IsNot s) x xs free))
    ∙ ap (λ r. (x ∷ r.0, r.1)) (split_at s xs ys (All-tail (IsNot s) x xs free))

split_free : (s : ℕ) (xs : List ℕ) → All (IsNot s) xs → split_once s xs ≡ (xs, None)
unfolding split_once
split_free s [] free = refl
split_free s (x ∷ xs) free =
    cond-false _ _ _ (ne_eqb x s (All-head (IsNot s) x xs free))
    ∙ ap (λ r. (x ∷ r.0, r.1)) (split_free s xs (All-tail (IsNot s) x xs free))

-- none of the bytes is the separator
pub split_none : (s : ℕ) (xs : List ℕ) → ((k : ℕ) → k < length xs → get_or xs k 0 ≢ s)
    → split_once s xs ≡ (xs, None)
split_none s xs free = split_free s xs (All-from_get_or (IsNot s) xs 0 free)

-- a list is its front, the byte at i and the rest
around : (xs : List ℕ) (i s : ℕ) → i < length xs → get_or xs i 0 ≡ s
    → xs ≡ take i xs ++ s ∷ drop (i + 1) xs
around xs i s inside here =
    sym (take-append-drop i xs) ∙ ap (λ l. take i xs ++ l) (drop_more xs i 0 inside
    ∙ ap (λ b. b ∷ drop (i + 1) xs) here)

front_free : (s : ℕ) (xs : List ℕ) (i : ℕ) → i ≤ length xs → ((k : ℕ) → k < i
    → get_or xs k 0 ≢ s) → All (IsNot s) (take i xs)
front_free s xs i within free = All-from_get_or (IsNot s) (take i xs) 0 (λ k inside.
    let below : k < i = omega (arith, length-take-le i xs within) in
    subst (IsNot s) (sym (get_or-take i xs k 0 below)) (free k below))

-- the first separator is at i
pub split_first : (s : ℕ) (xs : List ℕ) (i : ℕ) → i < length xs → get_or xs i 0 ≡ s
    → ((k : ℕ) → k < i → get_or xs k 0 ≢ s)
    → split_once s xs ≡ (take i xs, Some (drop (i + 1) xs))
split_first s xs i inside here before =
    ap (split_once s) (around xs i s inside here)
    ∙ split_at s _ _ (front_free s xs i (omega arith) before)
