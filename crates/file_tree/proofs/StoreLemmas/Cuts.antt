-- Lists in order, and where a search cuts them.
use Rattle.std.proofs.Common.{◌≡◌, ℕ, zero, suc, ◌+◌, ◌<◌, List, [], ◌∷◌, ◌++◌, length, get_or}
use Rattle.std.proofs.Common.{subst, arith}
use Rattle.std.specs.List.{AllByRecursion, remove}
use Rattle.file_tree.specs.Store.Cuts.{AreOrdered, IsCut}

module _ {T : Type 0} where
  -- nothing is said of it
  abbrev pub Whatever : T → Type 0
  Whatever x = Unit {0}

  pub anything : (xs : List T) → AllByRecursion Whatever xs
  anything [] = tt
  anything (x ∷ xs) = (tt, anything xs)

  -- nothing is known yet
  pub no_front : (Front : T → Type 0) (xs : List T) → IsCut Front Whatever xs 0
  no_front Front xs = anything xs

  pub no_back : (Back : T → Type 0) (xs : List T) → IsCut Whatever Back xs (length xs)
  no_back Back [] = tt
  no_back Back (x ∷ xs) = (tt, no_back Back xs)

  -- both halves
  pub whole_cut : (Front Back : T → Type 0) (xs : List T) (i : ℕ)
      → IsCut Front Whatever xs i → IsCut Whatever Back xs i → IsCut Front Back xs i
  whole_cut Front Back xs zero f b = b
  whole_cut Front Back [] (suc i) f b = f
  whole_cut Front Back (x ∷ xs) (suc i) f b = (f.0, whole_cut Front Back xs i f.1 b.1)

  -- one that is of a kind is after others
  pub behind_all : (P : T → Type 0) (xs : List T) (i : ℕ) (d : T)
      → AllByRecursion P xs → i < length xs → P (get_or xs i d)
  behind_all P [] i d h lt = absurd (omega arith)
  behind_all P (x ∷ xs) zero d h lt = h.0
  behind_all P (x ∷ xs) (suc i) d h lt = behind_all P xs i d h.1 (omega arith)

  mapped : (P Q : T → Type 0) (xs : List T) → ((x : T) → P x → Q x)
      → AllByRecursion P xs → AllByRecursion Q xs
  mapped P Q [] f h = tt
  mapped P Q (x ∷ xs) f h = (f x h.0, mapped P Q xs f h.1)

  module _ (Before : T → T → Type 0) (P : T → Type 0) where
    -- all up to one of a kind are of it
    front_to : ((x y : T) → Before x y → P y → P x) → (xs : List T) (i : ℕ) (d : T)
        → AreOrdered Before xs → i < length xs → P (get_or xs i d) → IsCut P Whatever xs (suc i)
    front_to down [] i d order lt p = absurd (omega arith)
    front_to down (x ∷ xs) zero d order lt p = (p, anything xs)
    front_to down (x ∷ xs) (suc i) d order lt p =
        let first = behind_all (Before x) xs i d order.0 (omega arith) in
        (down x (get_or xs i d) first p, front_to down xs i d order.1 (omega arith) p)

    pub front_up_to : ((x y : T) → Before x y → P y → P x) → (xs : List T) (i : ℕ) (d : T)
        → AreOrdered Before xs → i < length xs → P (get_or xs i d) → IsCut P Whatever xs (i + 1)
    front_up_to down xs i d order lt p =
        let more : suc i ≡ i + 1 = omega arith in
        subst (IsCut P Whatever xs) more (front_to down xs i d order lt p)

    -- all from one of a kind on are of it
    pub back_from : ((x y : T) → Before x y → P x → P y) → (xs : List T) (i : ℕ) (d : T)
        → AreOrdered Before xs → i < length xs → P (get_or xs i d) → IsCut Whatever P xs i
    back_from up [] i d order lt p = absurd (omega arith)
    back_from up (x ∷ xs) zero d order lt p =
        (p, mapped (Before x) P xs (λ y b. up x y b p) order.0)
    back_from up (x ∷ xs) (suc i) d order lt p = (tt, back_from up xs i d order.1 (omega arith) p)

  -- ---- a list in order that is changed

  pub all_added : (P : T → Type 0) (xs : List T) (y : T)
      → AllByRecursion P xs → P y → AllByRecursion P (xs ++ y ∷ [])
  all_added P [] y h p = (p, tt)
  all_added P (x ∷ xs) y h p = (h.0, all_added P xs y h.1 p)

  pub all_but : (P : T → Type 0) (xs : List T) (i : ℕ)
      → AllByRecursion P xs → AllByRecursion P (remove xs i)
  all_but P [] zero h = tt
  all_but P [] (suc i) h = tt
  all_but P (x ∷ xs) zero h = h.1
  all_but P (x ∷ xs) (suc i) h = (h.0, all_but P xs i h.1)

  module _ (Before : T → T → Type 0) where
    pub ordered_added : (xs : List T) (y : T) → AreOrdered Before xs
        → AllByRecursion (λ x. Before x y) xs → AreOrdered Before (xs ++ y ∷ [])
    ordered_added [] y order h = (tt, tt)
    ordered_added (x ∷ xs) y order h =
        (all_added (Before x) xs y order.0 h.0, ordered_added xs y order.1 h.1)

    pub ordered_but : (xs : List T) (i : ℕ) → AreOrdered Before xs
        → AreOrdered Before (remove xs i)
    ordered_but [] zero order = tt
    ordered_but [] (suc i) order = tt
    ordered_but (x ∷ xs) zero order = order.1
    ordered_but (x ∷ xs) (suc i) order =
        (all_but (Before x) xs i order.0, ordered_but xs i order.1)
