-- Lists in order, and where they are cut.
use Rattle.std.specs.Prelude.{◌≡◌, ◌⊎◌, ℕ, zero, suc, List, [], ◌∷◌}
use Rattle.std.specs.List.{AllByRecursion}

module _ {T : Type 0} where
  -- it is one of these
  abbrev pub HasElement : List T → T → Type 0
  HasElement [] y = ⊥
  HasElement (x ∷ xs) y = (x ≡ y) ⊎ HasElement xs y

  -- each is so to all after it
  abbrev pub AreOrdered : (T → T → Type 0) → List T → Type 0
  AreOrdered Before [] = Unit {0}
  AreOrdered Before (x ∷ xs) = AllByRecursion (Before x) xs × AreOrdered Before xs

  -- what is before this place is of one kind, and what is from it on of another one
  abbrev pub IsCut : (T → Type 0) → (T → Type 0) → List T → ℕ → Type 0
  IsCut Front Back xs zero = AllByRecursion Back xs
  IsCut Front Back [] (suc place) = ⊥
  IsCut Front Back (x ∷ xs) (suc place) = Front x × IsCut Front Back xs place
