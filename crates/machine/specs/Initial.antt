-- Whether a segment lies inside.
use Rattle.std.specs.Prelude.{◌≡◌, ◌+◌, ◌≤◌, ℕ, List, Some}
use Rattle.wasm_syntax.specs.declared.value.Value.{Value}
use Rattle.wasm_syntax.specs.declared.instruction.Instruction.{Instruction}
use Rattle.wasm_rules.specs.Instantiation.{offset_of}

-- so many items from this offset on are within so many
abbrev pub IsInside : List Value → List Instruction → ℕ → ℕ → Type 0
IsInside globals offset count size = (from : ℕ) × (offset_of globals offset ≡ Some from)
    × (from + count ≤ size)
