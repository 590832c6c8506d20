-- Operands whose types are known.
use Rattle.std.proofs.Common.{◌≡◌, ◌<◌, ◌+◌, ℕ, zero, suc, drop, get_or, true, false, List, [], ◌∷◌}
use Rattle.std.proofs.Common.{◌++◌, length, Some, None, refl, sym, ap, ◌∙◌}
use Rattle.std.specs.Prelude.{is_some, map, reverse, slice_get}
use Rattle.std.proofs.lemmas.List.{reverse-append, map-append, at_drop_more}
use Rattle.wasm_syntax.specs.declared.types.ValueType.{ValueType}
use Rattle.wasm_validate.specs.laws.Checking.{Known}
use Rattle.wasm_validate.specs.Body.Known.{are_known, known_types, types_if_known}

-- ---- one operand after another

head_unknown : (k : Known) (ks : List Known) → is_some k ≡ false → are_known (k ∷ ks) ≡ false
head_unknown None ks e = refl
head_unknown (Some t) ks e = absurd (cc)

head_known : (k : Known) (ks : List Known) → is_some k ≡ true → are_known (k ∷ ks) ≡ are_known ks
head_known None ks e = absurd (cc)
head_known (Some t) ks e = refl

module _ (ks : List Known) (n : ℕ) (h : n < length ks) where
  pub one_unknown : is_some (get_or ks n None) ≡ false → are_known (drop n ks) ≡ false
  one_unknown e =
      at_drop_more are_known ks n None h ∙ head_unknown (get_or ks n None) (drop (n + 1) ks) e

  pub one_known : is_some (get_or ks n None) ≡ true
      → are_known (drop n ks) ≡ are_known (drop (n + 1) ks)
  one_known e = at_drop_more are_known ks n None h
      ∙ head_known (get_or ks n None) (drop (n + 1) ks) e

-- ---- the types

pub known_count : (ks : List Known) → are_known ks ≡ true → length ks ≡ length (known_types ks)
known_count [] a = refl
known_count (None ∷ ks) a = absurd (cc)
known_count (Some t ∷ ks) a = ap (λ z. suc z) (known_count ks a)

pub known_at : (ks : List Known) (n : ℕ) (k : Known) → are_known ks ≡ true
    → slice_get ks n ≡ Some k → k ≡ slice_get (known_types ks) n
known_at [] n k a e = absurd (cc)
known_at (None ∷ ks) n k a e = absurd (cc)
known_at (Some t ∷ ks) zero k a e = cc
known_at (Some t ∷ ks) (suc n) k a e = known_at ks n k a e

pub none_at : (ks : List Known) (n : ℕ) → are_known ks ≡ true → slice_get ks n ≡ None
    → None ≡ slice_get (known_types ks) n
none_at [] n a e = refl
none_at (None ∷ ks) n a e = absurd (cc)
none_at (Some t ∷ ks) zero a e = absurd (cc)
none_at (Some t ∷ ks) (suc n) a e = none_at ks n a e

pub all_known : (ts : List ValueType) → types_if_known (map (λ t. Some t) ts) ≡ Some ts
all_known ts = rw (are ts, types ts) refl
  where
    are : (ts : List ValueType) → are_known (map (λ t. Some t) ts) ≡ true
    are [] = refl
    are (t ∷ ts) = are ts

    types : (ts : List ValueType) → known_types (map (λ t. Some t) ts) ≡ ts
    types [] = refl
    types (t ∷ ts) = ap (λ z. t ∷ z) (types ts)

pub turned_known : (ts : List ValueType)
    → reverse (map (λ t. Some t) ts) ≡ map (λ t. Some t) (reverse ts)
turned_known [] = refl
turned_known (t ∷ ts) =
    reverse-append (Some t ∷ []) (map (λ t. Some t) ts)
    ∙ ap (λ z. z ++ (Some t ∷ [])) (turned_known ts)
    ∙ sym (map-append (λ t. Some t) (reverse ts) (t ∷ []))
    ∙ ap (λ z. map (λ t. Some t) z) (sym (reverse-append (t ∷ []) ts))
