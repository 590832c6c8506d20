-- The open sequences as the code keeps them: all operands on one stack, with the height at which
-- each sequence begins.
use Rattle.std.specs.Prelude.{◌≡◌, ℕ, ◌-◌, ◌≤◌, List, [], ◌∷◌, length, take, drop, Option, Some}
use Rattle.std.specs.Prelude.{None}
use Rattle.wasm_validate.specs.declared.body.levels.Control.{Control}
use Rattle.wasm_validate.specs.laws.Checking.{Known, Level}

abbrev pub level_of : Control → List Known → Level
level_of k operands = record {
  takes = k.label;
  gives = k.results;
  is_first = k.is_first;
  is_reached = k.is_reached;
  operands = operands;
}

-- the innermost first
abbrev pub levels_of : List Control → List Known → List Level
levels_of [] operands = []
levels_of (k ∷ controls) operands =
    level_of k (take (length operands - k.height) operands)
    ∷ levels_of controls (drop (length operands - k.height) operands)

-- each sequence begins where the one around it had come to
abbrev pub AreHeights : List Control → ℕ → Type 0
AreHeights [] n = Unit {0}
AreHeights (k ∷ controls) n = (k.height ≤ n) × AreHeights controls k.height

-- the innermost sequence, if one is open
abbrev pub IsInnermost : Option Control → List Level → Type 0
IsInnermost None levels = levels ≡ []
IsInnermost (Some k) levels = (operands : List Known) × (rest : List Level)
    × (levels ≡ level_of k operands ∷ rest)
