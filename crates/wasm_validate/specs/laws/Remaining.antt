-- What remains of a body where checking is.
use Rattle.std.specs.Prelude.{◌≡◌, ◌⊎◌, Bool, true, false, List, [], ◌∷◌, ◌++◌, Option, Some, None}
use Rattle.wasm_syntax.specs.declared.types.ValueType.{ValueType}
use Rattle.wasm_syntax.specs.declared.instruction.Instruction.{Instruction}
use Rattle.wasm_syntax.specs.declared.instruction.Instruction.TheVariants as instr
use Rattle.wasm_syntax.specs.rules.Sequence.{Sequence, spelled, IsNested}
use Rattle.wasm_rules.specs.Types.{results_of}
use Rattle.wasm_rules.specs.Typing.{Context, HasType}
use Rattle.wasm_validate.specs.laws.Checking.{Known, Level, labels_of, may_end}

-- the type is as known
abbrev pub Matches : Known → ValueType → Type 0
Matches None t = Unit {0}
Matches (Some u) t = u ≡ t

-- these are types of all operands, and after a jump there may be more below
abbrev pub FitsOperands : Bool → List Known → List ValueType → Type 0
FitsOperands reached (k ∷ ks) (t ∷ ts) = Matches k t × FitsOperands reached ks ts
FitsOperands reached (k ∷ ks) [] = ⊥
FitsOperands reached [] [] = Unit {0}
FitsOperands true [] (t ∷ ts) = ⊥
FitsOperands false [] (t ∷ ts) = Unit {0}

-- The opcodes are what remains of a sequence, the end that closes it, and what follows. It may be
-- the first part of an `if` without `else`, which gives nothing.
pub record IsRestAndEnd (is_first : Bool) (gives : Option ValueType) (then : List Instruction
    → Type 0) (rest : Sequence) (opcodes : List Instruction) : Type 0 where
  pub next : List Instruction
  pub is : opcodes ≡ spelled rest ++ (instr.End ∷ next)
  pub may : may_end is_first gives ≡ true
  pub follows : then next

-- They are what remains of the first part of an `if`, the `else`, its second part, the end that
-- closes it, and what follows.
pub record IsParting (c : Context) (labels : List (List ValueType)) (is_first : Bool)
    (gives : Option ValueType) (then : List Instruction
    → Type 0) (rest : Sequence) (opcodes : List Instruction) : Type 0 where
  pub second : Sequence
  pub next : List Instruction
  pub is : opcodes ≡ spelled rest ++ (instr.Else ∷ (spelled second ++ (instr.End ∷ next)))
  pub first : is_first ≡ true
  pub nested : IsNested second
  pub typed : HasType c labels second [] (results_of gives)
  pub follows : then next

abbrev pub Closes : Context → List (List ValueType) → Bool → Option ValueType
    → (List Instruction → Type 0) → Sequence → List Instruction → Type 0
Closes c labels is_first gives then rest opcodes = IsRestAndEnd is_first gives then rest opcodes
    ⊎ IsParting c labels is_first gives then rest opcodes

-- The opcodes are what remains of a sequence that makes what it gives of operands of these types,
-- and what closes it.
pub record Ends (c : Context) (labels : List (List ValueType)) (is_first : Bool)
    (gives : Option ValueType) (then : List Instruction
    → Type 0) (types : List ValueType) (opcodes : List Instruction) : Type 0 where
  pub rest : Sequence
  pub nested : IsNested rest
  pub typed : HasType c labels rest types (results_of gives)
  pub closes : Closes c labels is_first gives then rest opcodes

-- the opcodes close all open sequences, of which the innermost has operands of these types on top
-- of its own
abbrev pub Remains : Context → List ValueType → List Level → List Instruction → Type 0
Remains c given [] opcodes = opcodes ≡ []
Remains c given (l ∷ levels) opcodes =
    (types : List ValueType) × FitsOperands l.is_reached l.operands types
    × Ends c (labels_of (l ∷ levels)) l.is_first l.gives (λ next.
    Remains c (results_of l.gives) levels next) (given ++ types) opcodes
