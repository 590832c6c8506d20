-- What a reader answers, beside what is at the front of the bytes: an item with the bytes after it,
-- or nothing.
use Rattle.std.specs.Prelude.{◌≡◌, ℕ, List, Option, Some, None}

-- the item, seen through f, and then these bytes are left; nothing where nothing is there
abbrev pub FindsAs : {X Y : Type 0} → (X → Y) → Option X → List ℕ → Option (Y × List ℕ) → Type 0
FindsAs f (Some x) rest read = read ≡ Some (f x, rest)
FindsAs f None rest read = read ≡ None

-- some item is passed over, or none is there
abbrev pub Skips : {X : Type 0} → Option (Unit {0}) → List ℕ → Option (X × List ℕ) → Type 0
Skips {X} (Some done) rest read = (x : X) × (read ≡ Some (x, rest))
Skips None rest read = read ≡ None
