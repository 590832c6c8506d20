-- The names of functions, as messages tell them (this project's own).
use Rattle.std.specs.Prelude.{◌≡◌, ℕ, List, [], ◌++◌, Option, Some, None, codes}
use Rattle.wasm_places.specs.rules.FunctionNames.{IsGoodOf, LacksGood, ModuleNames}

-- a name behind a function's number, if there is one
abbrev pub name_words : Option (List ℕ) → List ℕ
name_words (Some name) = codes " (" ++ name ++ codes ")"
name_words None = []

-- the name that these bytes of a module have for a function, or none where it may not be printed,
-- or where no module is known
abbrev pub IsNameIn : Option (List ℕ) → ℕ → Option (List ℕ) → Type 0
IsNameIn (Some bytes) function (Some name) = IsGoodOf (ModuleNames bytes function) name
IsNameIn (Some bytes) function None = LacksGood (ModuleNames bytes function)
IsNameIn None function name = name ≡ None
