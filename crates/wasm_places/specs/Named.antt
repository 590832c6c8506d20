-- Names as the code has them.
use Rattle.std.specs.Prelude.{◌≡◌, List, ℕ, Option, Some, None}
use Rattle.wasm_places.specs.declared.floats.FloatWords.{FloatWords}

-- these two parts, or no name
abbrev pub AreFloatWords : Option FloatWords → Option (List ℕ × List ℕ) → Type 0
AreFloatWords (Some words) name = name ≡ Some (words.value_type.now, words.operation.now)
AreFloatWords None name = name ≡ None
