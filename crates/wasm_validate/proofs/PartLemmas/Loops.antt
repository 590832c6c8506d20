-- Loops that check each element of a list.
use Rattle.std.proofs.Common.{◌≡◌, ℕ, ◌+◌, ◌<◌, ◌≤◌, List, [], ◌∷◌, length, get_or, drop, sym, ap}
use Rattle.std.proofs.Common.{◌∙◌, subst, zero, suc}
use Rattle.std.specs.List.{AllByRecursion}
use Rattle.std.proofs.lemmas.List.{at_drop_more, at_drop_all}

-- the list from here on, by this element and what follows it
pub next : {X : Type 0} (xs : List X) (i : ℕ) (x : X) → i < length xs → x ≡ get_or xs i x
    → drop i xs ≡ x ∷ drop (i + 1) xs
next xs i x h e = at_drop_more (λ ys. ys) xs i x h ∙ ap (λ y. y ∷ drop (i + 1) xs) (sym e)

-- What holds of the elements from here on holds of all.
abbrev pub Passed : {X : Type 0} → (X → Type 0) → List X → ℕ → Type 0
Passed P xs i = AllByRecursion P (drop i xs) → AllByRecursion P xs

pub passes : {X : Type 0} (P : X → Type 0) (xs : List X) (i : ℕ) (x : X) → i < length xs
    → x ≡ get_or xs i x → P x → Passed P xs i → Passed P xs (i + 1)
passes P xs i x h e p so_far = λ rest. so_far (let Q : List _ → Type 0 = AllByRecursion P in
    subst Q (sym (next xs i x h e)) (p, rest))

pub passed : {X : Type 0} (P : X → Type 0) (xs : List X) (i : ℕ) → length xs ≤ i → Passed P xs i
    → AllByRecursion P xs
passed P xs i h so_far = so_far (let Q : List _ → Type 0 = AllByRecursion P in
    subst Q (sym (at_drop_all (λ ys. ys) xs i h)) tt)

-- what holds of all holds of those from here on
pub rest : {X : Type 0} (P : X → Type 0) (xs : List X) (i : ℕ) → AllByRecursion P xs
    → AllByRecursion P (drop i xs)
rest P xs zero all = all
rest P [] (suc i) all = tt
rest P (x ∷ xs) (suc i) all = rest P xs i all.1

-- what holds of all holds of this one
pub of_all : {X : Type 0} (P : X → Type 0) (xs : List X) (i : ℕ) (x : X) → i < length xs
    → x ≡ get_or xs i x → AllByRecursion P xs → P x
of_all P xs i x h e all = (let Q : List _ → Type 0 = AllByRecursion P in
    subst Q (next xs i x h e) (rest P xs i all)).0
