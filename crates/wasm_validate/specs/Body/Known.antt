-- Operands whose types are known.
use Rattle.std.specs.Prelude.{Bool, true, false, List, [], ◌∷◌, Option, Some, None, if◌then◌else◌}
use Rattle.wasm_syntax.specs.declared.types.ValueType.{ValueType}
use Rattle.wasm_validate.specs.laws.Checking.{Known}

-- the type of each is known
abbrev pub are_known : List Known → Bool
are_known [] = true
are_known (None ∷ operands) = false
are_known (Some t ∷ operands) = are_known operands

-- the types that are known
abbrev pub known_types : List Known → List ValueType
known_types [] = []
known_types (None ∷ operands) = known_types operands
known_types (Some t ∷ operands) = t ∷ known_types operands

-- the types, if each is known
abbrev pub types_if_known : List Known → Option (List ValueType)
types_if_known operands = if are_known operands then Some (known_types operands) else None
