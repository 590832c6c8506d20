-- Look-ups in lists.
use Rattle.std.proofs.Common.{◌≡◌, ℕ, zero, suc, ◌<◌, ◌≤◌, ◌↔◌, min, false, Bool, IsTrue, nat_lt}
use Rattle.std.proofs.Common.{List, [], ◌∷◌, length, get_or, Option, Some, None, refl, sym, ◌∙◌, ap}
use Rattle.std.proofs.Common.{arith, ◌++◌, take}
use Rattle.std.specs.Prelude.{slice_get, option_and_then, All}
use Rattle.std.proofs.Math.Seq.{take-append_seam}
use Rattle.std.proofs.lemmas.Option.{slice_get_past, slice_get-get_or, slice_get_within}
use Rattle.std.proofs.lemmas.List.Elements.{All-head, All-tail, All-cons, All-nil}
use Rattle.std.proofs.lemmas.Bool.Decides.{nat_tests}
use Rattle.wasm_syntax.specs.declared.types.FunctionType.{FunctionType}
use Rattle.wasm_rules.specs.Validity.{AreTypesAt}
use Rattle.wasm_validate.specs.Parts.Contexts.{HaveTypes}

-- the type of a function is the type at its index
pub slice_get-types : (types : List FunctionType) (indices : List ℕ) (functions : List FunctionType)
    (x : ℕ) → AreTypesAt types indices functions
    → slice_get functions x ≡ option_and_then (slice_get types) (slice_get indices x)
slice_get-types types [] [] x h = refl
slice_get-types types [] (f ∷ fs) x h = absurd h
slice_get-types types (i ∷ indices) [] x h = absurd h
slice_get-types types (i ∷ indices) (f ∷ fs) zero h = sym h.0
slice_get-types types (i ∷ indices) (f ∷ fs) (suc x) h = slice_get-types types indices fs x h.1

pub slice_get-types_at : (types : List FunctionType) (indices : List ℕ)
    (functions : List FunctionType) (x i : ℕ) → AreTypesAt types indices functions
    → x < length indices → get_or indices x 0 ≡ i → slice_get functions x ≡ slice_get types i
slice_get-types_at types indices functions x i h lt e = slice_get-types types indices functions x h
    ∙ (ap (option_and_then (slice_get types)) (slice_get-get_or indices x 0 lt)
    ∙ ap (slice_get types) e)

pub slice_get-types_past : (types : List FunctionType) (indices : List ℕ)
    (functions : List FunctionType) (x : ℕ) → AreTypesAt types indices functions
    → length indices ≤ x → slice_get functions x ≡ None
slice_get-types_past types indices functions x h le = slice_get-types types indices functions x h
    ∙ ap (option_and_then (slice_get types)) (slice_get_past indices x le)

-- as many functions as indices
pub length-types : (types : List FunctionType) (indices : List ℕ) (functions : List FunctionType)
    → AreTypesAt types indices functions → length functions ≡ length indices
length-types types [] [] h = refl
length-types types [] (f ∷ fs) h = absurd h
length-types types (i ∷ indices) [] h = absurd h
length-types types (i ∷ indices) (f ∷ fs) h = ap suc (length-types types indices fs h.1)

pub none_within : {X : Type 0} (xs : List X) (i : ℕ) → slice_get xs i ≡ None → i < length xs → ⊥
none_within [] i e h = omega arith
none_within (x ∷ xs) zero e h = cc
none_within (x ∷ xs) (suc i) e h = none_within xs i e (omega arith)

-- each function has a type exactly where each index names one
pub HaveTypes-from_below : (types : List FunctionType) (indices : List ℕ)
    → All (λ x. x < length types) indices → HaveTypes types indices
HaveTypes-from_below types [] h = ([], tt)
HaveTypes-from_below types (i ∷ indices) h =
    with_first (slice_get types i) refl (HaveTypes-from_below types indices (All-tail (λ x. x
    < length types) i indices h))
  where
    with_first : (o : Option FunctionType) → slice_get types i ≡ o → HaveTypes types indices
        → HaveTypes types (i ∷ indices)
    with_first None e rest =
        absurd (none_within types i e (All-head (λ x. x < length types) i indices h))
    with_first (Some f) e rest = (f ∷ rest.0, (e, rest.1))

pub below_from_HaveTypes : (types : List FunctionType) (indices : List ℕ)
    (functions : List FunctionType) → AreTypesAt types indices functions
    → All (λ x. x < length types) indices
below_from_HaveTypes types [] [] h = All-nil (λ x. x < length types)
below_from_HaveTypes types [] (f ∷ fs) h = absurd h
below_from_HaveTypes types (i ∷ indices) [] h = absurd h
below_from_HaveTypes types (i ∷ indices) (f ∷ fs) h =
    All-cons (λ x. x < length types) i indices (slice_get_within types i f h.0)
    (below_from_HaveTypes types indices fs h.1)

-- there is a first element exactly where there is an element
pub has_first : {X : Type 0} (xs : List X) (count most : ℕ) → 0 < most
    → count ≡ min most (length xs) → IsTrue (nat_lt 0 count) ↔ ((x : X) × (slice_get xs 0 ≡ Some x))
has_first [] count most lt e = (
  λ t. absurd (grind (arith, nat_tests)),
  λ h. let e = h.1 in
      absurd (cc),
)
has_first (x ∷ xs) count most lt e = (λ t. (x, refl), λ h. grind (arith, nat_tests))

pub is_false : IsTrue false → ⊥
is_false h = cc

-- An index of a list of one element at most is 0, where there is an element.
pub first_within : {X : Type 0} (xs : List X) (x : ℕ) (b : Bool) → x ≡ 0 → IsTrue b
    ↔ ((t : X) × (slice_get xs 0 ≡ Some t)) → IsTrue b ↔ (x < length xs)
first_within [] x b e h = (λ t. let w = (h.0 t).1 in absurd (cc), λ lt. absurd (omega arith))
first_within (t ∷ xs) x b e h = (λ _. omega arith, λ lt. h.1 (t, refl))

-- the front part of a list, by its length
pub take-front : {X : Type 0} (front back all : List X) (n : ℕ) → all ≡ front ++ back
    → n ≡ length front → take n all ≡ front
take-front front back all n e h = rw (e, h) (take-append_seam front back)

pub length-front : {X : Type 0} (front back all : List X) (n : ℕ) → all ≡ front ++ back
    → n ≡ length front → n ≡ length (take n all)
length-front front back all n e h = h ∙ ap length (sym (take-front front back all n e h))
