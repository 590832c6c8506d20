-- Lists that the loops of a sweep make.
use Rattle.std.proofs.Common.{◌≡◌, ℕ, ◌+◌, ◌<◌, ◌≤◌, List, [], ◌∷◌, ◌++◌, length, take, drop}
use Rattle.std.proofs.Common.{Bool, false, get_or, sym, ap, ◌∙◌, append_assoc, subst}
use Rattle.std.specs.Prelude.{◌||◌}
use Rattle.std.specs.List.{All, flat_map, list_any}
use Rattle.std.proofs.lemmas.List.Elements.{All-push}
use Rattle.std.proofs.lemmas.List.{drop_all, drop_more, flat_map_more, take_more}

-- one item more
pub taken_more : {X : Type 0} (xs : List X) (i : ℕ) (x : X) → i < length xs → x ≡ get_or xs i x
    → take (i + 1) xs ≡ take i xs ++ x ∷ []
taken_more {X} xs i x within is =
    take_more xs i x within ∙ ap (λ (y : X). take i xs ++ y ∷ []) (sym is)

-- the same after other items
pub pushed_more : {X : Type 0} (old xs : List X) (i : ℕ) (x : X) → i < length xs
    → x ≡ get_or xs i x → (old ++ take i xs) ++ x ∷ [] ≡ old ++ take (i + 1) xs
pushed_more old xs i x within is =
    append_assoc old (take i xs) (x ∷ []) ∙ ap (λ l. old ++ l) (sym (taken_more xs i x within is))

-- the same of one item more
pub all_more : {X : Type 0} (P : X → Type 0) (xs : List X) (i : ℕ) (x : X) → i < length xs
    → x ≡ get_or xs i x → All P (take i xs) → P x → All P (take (i + 1) xs)
all_more P xs i x within is so_far one =
    subst (All P) (sym (taken_more xs i x within is)) (All-push P (take i xs) x so_far one)

-- an item for which a test doesn't hold
pub any_later : {X : Type 0} (test : X → Bool) (xs : List X) (i : ℕ) (other : X) (all : Bool)
    → i < length xs → test (get_or xs i other) ≡ false → list_any test (drop i xs) ≡ all
    → list_any test (drop (i + 1) xs) ≡ all
any_later test xs i other all within off so_far =
    ap (λ (b : Bool). b || list_any test (drop (i + 1) xs)) (sym off)
    ∙ ap (list_any test) (sym (drop_more xs i other within)) ∙ so_far

-- and none at all
pub any_nowhere : {X : Type 0} (test : X → Bool) (xs : List X) (i : ℕ) (all : Bool)
    → length xs ≤ i → list_any test (drop i xs) ≡ all → false ≡ all
any_nowhere test xs i all past so_far = ap (list_any test) (sym (drop_all i xs past)) ∙ so_far

-- what one item more gives
pub flat_more : {X A : Type 0} (f : X → List A) (xs : List X) (i : ℕ) (x : X) → i < length xs
    → x ≡ get_or xs i x → flat_map f (take i xs) ++ f x ≡ flat_map f (take (i + 1) xs)
flat_more f xs i x within is =
    flat_map_more f [] (take i xs) x ∙ ap (flat_map f) (sym (taken_more xs i x within is))

-- lists appended one by one, or from the last one on
pub four_from_last : {X : Type 0} (a b c d : List X)
    → a ++ b ++ c ++ d ≡ a ++ (b ++ (c ++ d))
four_from_last a b c d = append_assoc (a ++ b) c d ∙ append_assoc a b (c ++ d)

pub six_from_last : {X : Type 0} (a b c d e f : List X)
    → a ++ b ++ c ++ d ++ e ++ f ≡ a ++ (b ++ (c ++ (d ++ (e ++ f))))
six_from_last a b c d e f =
    append_assoc (a ++ b ++ c ++ d) e f ∙ append_assoc (a ++ b ++ c) d (e ++ f)
    ∙ four_from_last a b c (d ++ (e ++ f))
