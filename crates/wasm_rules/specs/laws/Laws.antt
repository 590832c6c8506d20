-- Further laws: where nothing is left open, there is one answer.
use Rattle.std.specs.Prelude.{◌≡◌, ◌≤◌, ◌+◌, ℕ, List, [], ◌∷◌, length, Some}
use Rattle.std.specs.List.{AllByRecursion}
use Rattle.wasm_syntax.specs.declared.types.FunctionType.{FunctionType}
use Rattle.wasm_syntax.specs.declared.instruction.Instruction.{Instruction}
use Rattle.wasm_syntax.specs.rules.Sequence.{Sequence, Spells}
use Rattle.wasm_rules.specs.Typing.{Context}
use Rattle.wasm_rules.specs.Shapes.{LabelShape, ShapeOf, Shape, body_shape}
use Rattle.wasm_rules.specs.Configuration.{Program, Configuration}
use Rattle.wasm_rules.specs.Steps.{Steps}

-- opcodes spell one nested sequence at most
abbrev pub OneSequence : Type 0
OneSequence = (opcodes : List Instruction) (s t : Sequence) → Spells opcodes s → Spells opcodes t
    → s ≡ t

-- so many counted steps lead to one configuration at most, each with the steps that reduce it
abbrev pub OneRun : Type 0
OneRun = (program : Program) (n : ℕ) (c d e : Configuration) → Steps program n c d
    → Steps program n c e → d ≡ e

-- ---- heights

-- how many values are below the labels, and how many there are with the operands
abbrev pub labels_height : List LabelShape → ℕ
labels_height [] = 0
labels_height (ShapeOf takes target below after which ∷ labels) =
    length below + labels_height labels

abbrev pub height : Shape → ℕ
height s = length s.operands + labels_height s.labels

abbrev pub GivesOneAtMost : FunctionType → Type 0
GivesOneAtMost f = length f.results ≤ 1

-- At a position of a body there are no more values than opcodes before it, where each function
-- gives one at most.
abbrev pub HeightsAreSmall : Type 0
HeightsAreSmall =
    (c : Context) (body : Sequence) (p : ℕ) (s : Shape) → AllByRecursion GivesOneAtMost c.types
    → AllByRecursion GivesOneAtMost c.functions
    → length c.returns ≤ 1 → body_shape c body p ≡ Some s → height s ≤ p
