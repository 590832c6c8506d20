-- Values in a slab, in an order of their own.
use Rattle.std.specs.Prelude.{ℕ, zero, suc, List, [], ◌∷◌, nat_eq, Option, Some, None, IsSome}
use Rattle.std.specs.List.{AllByRecursion, IsDistinct}
use Rattle.slab.specs.Slab.{Slab, get}

module _ {T : Type 0} where
  abbrev pub put : Option T → List T → List T
  put None values = values
  put (Some value) values = value ∷ values

  -- the values at these keys
  abbrev pub stored : Slab T → List ℕ → List T
  stored slab [] = []
  stored slab (key ∷ keys) = put (get slab key) (stored slab keys)

  -- the keys differ, and each has a value
  pub record AreStored (slab : Slab T) (keys : List ℕ) : Type 0 where
    pub distinct : IsDistinct nat_eq keys
    pub present : AllByRecursion (λ key. IsSome (get slab key)) keys

  -- the values, with the one at a place changed
  abbrev pub changed : (T → T) → ℕ → List T → List T
  changed change place [] = []
  changed change zero (value ∷ values) = change value ∷ values
  changed change (suc place) (value ∷ values) = value ∷ changed change place values
