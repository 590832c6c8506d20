-- Values of given types.
use Rattle.std.proofs.Common.{◌≡◌, ℕ, zero, suc, ◌<◌, ◌^◌, List, [], ◌∷◌, ◌++◌, length, drop, Some}
use Rattle.std.proofs.Common.{refl, lit<}
use Rattle.std.specs.Prelude.{slice_get, slice_set, map, reverse}
use Rattle.std.proofs.lemmas.List.{reverse-append}
use mir.Val.{bits}
use Rattle.wasm_syntax.specs.declared.types.ValueType.{ValueType}
use Rattle.wasm_syntax.specs.declared.types.ValueType.TheVariants.{I32, I64}
use Rattle.wasm_syntax.specs.declared.value.Value.{Value}
use Rattle.wasm_rules.specs.Types.{width_of, value_of, IsOf, AreOf}
use Rattle.wasm_rules.specs.Steps.{topmost, zero_of}

pub value_of_is : (t : ValueType) (n : ℕ) → n < 2 ^ bits (width_of t) → IsOf t (value_of t n)
value_of_is I32 n h = h
value_of_is I64 n h = h

-- values of these types and of those
pub are_both : (ts us : List ValueType) (vs ws : List Value) → AreOf ts vs → AreOf us ws
    → AreOf (ts ++ us) (vs ++ ws)
are_both [] us [] ws h k = k
are_both [] us (v ∷ vs) ws h k = absurd h
are_both (t ∷ ts) us [] ws h k = absurd h
are_both (t ∷ ts) us (v ∷ vs) ws h k = (h.0, are_both ts us vs ws h.1 k)

-- so many on top, and the others below
pub topmost_are : (ts below : List ValueType) (vs : List Value) → AreOf (ts ++ below) vs
    → (kept : List Value) × (topmost (length ts) vs ≡ Some kept) × AreOf ts kept
    × AreOf below (drop (length ts) vs)
topmost_are [] below vs h = ([], refl, tt, h)
topmost_are (t ∷ ts) below [] h = absurd h
topmost_are (t ∷ ts) below (v ∷ vs) h = let r = topmost_are ts below vs h.1 in
    (v ∷ r.0, rw r.1 refl, (h.0, r.2), r.3)

-- a value at the place of its type
pub value_at : (types : List ValueType) (values : List Value) (x : ℕ) (t : ValueType)
    → AreOf types values → slice_get types x ≡ Some t → (v : Value) × (slice_get values x ≡ Some v)
    × IsOf t v
value_at [] [] x t h e = cc
value_at [] (v ∷ values) x t h e = absurd h
value_at (u ∷ types) [] x t h e = absurd h
value_at (u ∷ types) (v ∷ values) zero t h e = (v, refl, (let same : u ≡ t = cc in rw same at h.0))
value_at (u ∷ types) (v ∷ values) (suc x) t h e = value_at types values x t h.1 e

pub value_set : (types : List ValueType) (values : List Value) (x : ℕ) (t : ValueType) (v : Value)
    → AreOf types values → slice_get types x ≡ Some t → IsOf t v
    → AreOf types (slice_set values x v)
value_set [] [] x t v h e is = cc
value_set [] (w ∷ values) x t v h e is = absurd h
value_set (u ∷ types) [] x t v h e is = absurd h
value_set (u ∷ types) (w ∷ values) zero t v h e is = ((let same : t ≡ u = cc in rw same at is), h.1)
value_set (u ∷ types) (w ∷ values) (suc x) t v h e is = (h.0, value_set types values x t v h.1 e is)

pub zeros_are : (types : List ValueType) → AreOf types (map zero_of types)
zeros_are [] = tt
zeros_are (I32 ∷ types) = (lit< tt, zeros_are types)
zeros_are (I64 ∷ types) = (lit< tt, zeros_are types)

pub reverse_are : (types : List ValueType) (values : List Value) → AreOf types values
    → AreOf (reverse types) (reverse values)
reverse_are [] [] h = tt
reverse_are [] (v ∷ values) h = absurd h
reverse_are (t ∷ types) [] h = absurd h
reverse_are (t ∷ types) (v ∷ values) h =
    rw (
      reverse-append (t ∷ []) types,
      reverse-append (v ∷ []) values,
    ) (are_both (reverse types) (t ∷ []) (reverse values) (v
    ∷ []) (reverse_are types values h.1) (h.0, tt))
