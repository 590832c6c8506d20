-- What is at a place of a list that is cut.
use Rattle.std.proofs.Common.{◌≡◌, ℕ, zero, suc, ◌+◌, ◌<◌, ◌≤◌, ◌⊎◌, inl, inr, List, [], ◌∷◌}
use Rattle.std.proofs.Common.{length, get_or, Some, None, refl, sym, ap, subst, ◌∙◌, arith}
use Rattle.std.specs.Prelude.{slice_get}
use Rattle.std.specs.List.{AllByRecursion}
use Rattle.file_tree.specs.Store.Cuts.{HasElement, AreOrdered, IsCut}

module _ {T : Type 0} where
  pub some_same : (x y : T) → Some x ≡ Some y → x ≡ y
  some_same x y e = cc

  pub held_by_all : (P : T → Type 0) (xs : List T) (y : T) → AllByRecursion P xs → HasElement xs y
      → P y
  held_by_all P [] y h at = absurd at
  held_by_all P (x ∷ xs) y h (inl e) = subst P e h.0
  held_by_all P (x ∷ xs) y h (inr at) = held_by_all P xs y h.1 at

  pub held_at : (xs : List T) (i : ℕ) (y : T) → slice_get xs i ≡ Some y → HasElement xs y
  held_at [] i y is = absurd cc
  held_at (x ∷ xs) zero y is = inl (some_same x y is)
  held_at (x ∷ xs) (suc i) y is = inr (held_at xs i y is)

  module _ (Front Back : T → Type 0) where
    pub back_at : (xs : List T) (p i : ℕ) (y : T)
        → IsCut Front Back xs p → slice_get xs (i + p) ≡ Some y → Back y
    back_at xs zero i y cut is =
        let same : i + 0 ≡ i = omega arith in
        held_by_all Back xs y cut (held_at xs i y (ap (slice_get xs) (sym same) ∙ is))
    back_at [] (suc p) i y cut is = absurd cut
    back_at (x ∷ xs) (suc p) i y cut is =
        let same : i + suc p ≡ suc (i + p) = omega arith in
        back_at xs p i y cut.1 (ap (slice_get (x ∷ xs)) (sym same) ∙ is)

    pub first_back : (xs : List T) (p : ℕ) (y : T)
        → IsCut Front Back xs p → slice_get xs p ≡ Some y → Back y
    first_back xs p y cut is =
        let same : 0 + p ≡ p = omega arith in
        back_at xs p 0 y cut (ap (slice_get xs) same ∙ is)

    pub front_at : (xs : List T) (p : ℕ) (y : T)
        → IsCut Front Back xs (suc p) → slice_get xs p ≡ Some y → Front y
    front_at [] p y cut is = absurd cut
    front_at (x ∷ xs) zero y cut is = subst Front (some_same x y is) cut.0
    front_at (x ∷ xs) (suc p) y cut is = front_at xs p y cut.1 is

    pub all_in_front : (xs : List T) (p : ℕ) (y : T)
        → IsCut Front Back xs p → slice_get xs p ≡ None → HasElement xs y → Front y
    all_in_front [] p y cut none at = absurd at
    all_in_front (x ∷ xs) zero y cut none at = absurd cc
    all_in_front (x ∷ xs) (suc p) y cut none (inl e) = subst Front e cut.0
    all_in_front (x ∷ xs) (suc p) y cut none (inr at) = all_in_front xs p y cut.1 none at

    module _ (Before : T → T → Type 0) where
      -- what is from the cut on is the first one there, or is after it
      pub first_behind : (xs : List T) (p : ℕ) (y z : T) → AreOrdered Before xs
          → IsCut Front Back xs p → slice_get xs p ≡ Some y → HasElement xs z → (Front z → ⊥)
          → (z ≡ y) ⊎ Before y z
      first_behind [] p y z order cut is at never = absurd at
      first_behind (x ∷ xs) zero y z order cut is (inl e) never = inl (sym e ∙ some_same x y is)
      first_behind (x ∷ xs) zero y z order cut is (inr at) never =
          inr (subst (λ (w : T). Before w z) (some_same x y is)
          (held_by_all (Before x) xs z order.0 at))
      first_behind (x ∷ xs) (suc p) y z order cut is (inl e) never =
          absurd (never (subst Front e cut.0))
      first_behind (x ∷ xs) (suc p) y z order cut is (inr at) never =
          first_behind xs p y z order.1 cut.1 is at never

      -- what is before the cut is the last one there, or is before it
      pub last_before : (xs : List T) (p : ℕ) (y z : T) → AreOrdered Before xs
          → IsCut Front Back xs (suc p) → slice_get xs p ≡ Some y → HasElement xs z → (Back z → ⊥)
          → (z ≡ y) ⊎ Before z y
      last_before [] p y z order cut is at never = absurd at
      last_before (x ∷ xs) zero y z order cut is (inl e) never = inl (sym e ∙ some_same x y is)
      last_before (x ∷ xs) zero y z order cut is (inr at) never =
          absurd (never (held_by_all Back xs z cut.1 at))
      last_before (x ∷ xs) (suc p) y z order cut is (inl e) never =
          inr (subst (λ (w : T). Before w y) e (held_by_all (Before x) xs y order.0
          (held_at xs p y is)))
      last_before (x ∷ xs) (suc p) y z order cut is (inr at) never =
          last_before xs p y z order.1 cut.1 is at never

  -- one is after the one before it
  pub next_behind : (Before : T → T → Type 0) (xs : List T) (i : ℕ) (y z : T)
      → AreOrdered Before xs
      → slice_get xs i ≡ Some y → slice_get xs (suc i) ≡ Some z → Before y z
  next_behind Before [] i y z order is next = absurd cc
  next_behind Before (x ∷ xs) zero y z order is next =
      subst (λ (w : T). Before w z) (some_same x y is) (held_by_all (Before x) xs z order.0
      (held_at xs 0 z next))
  next_behind Before (x ∷ xs) (suc i) y z order is next =
      next_behind Before xs i y z order.1 is next

  pub none_further : (xs : List T) (i : ℕ) → slice_get xs i ≡ None → slice_get xs (suc i) ≡ None
  none_further [] i is = refl
  none_further (x ∷ []) zero is = refl
  none_further (x ∷ y ∷ xs) zero is = absurd cc
  none_further (x ∷ xs) (suc i) is = none_further xs i is

  pub none_at : (xs : List T) (i : ℕ) → length xs ≤ i → slice_get xs i ≡ None
  none_at [] i le = refl
  none_at (x ∷ xs) zero le = absurd (omega (arith, le))
  none_at (x ∷ xs) (suc i) le = none_at xs i (omega (arith, le))

  pub some_at : (xs : List T) (i : ℕ) (d : T) → i < length xs
      → slice_get xs i ≡ Some (get_or xs i d)
  some_at [] i d lt = absurd (omega (arith, lt))
  some_at (x ∷ xs) zero d lt = refl
  some_at (x ∷ xs) (suc i) d lt = some_at xs i d (omega (arith, lt))
