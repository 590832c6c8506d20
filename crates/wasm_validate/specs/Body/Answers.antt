-- What the steps of a check answer.
use Rattle.std.specs.Prelude.{◌≡◌, ℕ, Bool, true, false, List, ◌++◌, map, Option, Some, None}
use Rattle.std.specs.Prelude.{Result, Ok, Err, slice_get}
use Rattle.wasm_syntax.specs.declared.types.ValueType.{ValueType}
use Rattle.wasm_syntax.specs.declared.instruction.Instruction.{Instruction}
use Rattle.wasm_rules.specs.Types.{results_of}
use Rattle.wasm_rules.specs.Typing.{Context}
use Rattle.wasm_rules.specs.Shapes.{Shape}
use Rattle.wasm_validate.specs.declared.parts.fault.ValidFault.{ValidFault}
use Rattle.wasm_validate.specs.declared.parts.fault.ValidFault.TheVariants.{Typing, Index, Limits}
use Rattle.wasm_validate.specs.declared.parts.fault.ValidFault.TheVariants.{Memory}
use Rattle.wasm_validate.specs.laws.Checking.{Known, Level, arrow_of, labels_of}
use Rattle.wasm_validate.specs.laws.FirstFault.{fault_of}
use Rattle.wasm_validate.specs.laws.Reached.{all_operands}
use Rattle.wasm_validate.specs.rules.Operands.{types_below}
use Rattle.wasm_validate.specs.Body.Tops.{top_applied}

-- A fault comes only where there is nothing, and is of this sort. Want of memory says nothing of
-- it.
abbrev pub FailsToCheck : {X : Type 0} → ValidFault → ValidFault → Option X → Type 0
FailsToCheck Memory fault o = Unit {0}
FailsToCheck Typing Typing o = o ≡ None
FailsToCheck Index Index o = o ≡ None
FailsToCheck Limits Limits o = o ≡ None
FailsToCheck e fault o = ⊥

-- the levels are then these, or the fault is of this sort
abbrev pub LevelsFollow : {X : Type 0} → ValidFault → Result X ValidFault → List Level
    → Option (List Level) → Type 0
LevelsFollow fault (Ok x) new o = o ≡ Some new
LevelsFollow fault (Err e) new o = FailsToCheck e fault o

-- the levels are then those after an instruction that stays in its sequence
abbrev pub Performs : {X : Type 0} → Context → Instruction → Result X ValidFault → List Level
    → List Level → Type 0
Performs c i r old new =
    LevelsFollow (fault_of c (labels_of old) i) r new
    (top_applied (arrow_of c (labels_of old) i) old)

-- the same of a step that tells what it took
abbrev pub Pops : Result Known ValidFault → List Level → Option (Known × List Level) → Type 0
Pops (Ok k) new o = o ≡ Some (k, new)
Pops (Err e) new o = FailsToCheck e Typing o

-- what a branch to a label takes, or there is no such label
abbrev pub FindsLabel : Result (Option ValueType) ValidFault → List (List ValueType) → ℕ → Type 0
FindsLabel (Ok t) labels l = slice_get labels l ≡ Some (results_of t)
FindsLabel (Err e) labels l = (e ≡ Index) × (slice_get labels l ≡ None)

-- nothing but out of memory
abbrev pub OnlyMemory : {X : Type 0} → Result X ValidFault → Type 0
OnlyMemory (Ok x) = Unit {0}
OnlyMemory (Err e) = e ≡ Memory

-- Ok exactly where the test holds, and elsewhere this fault
abbrev pub Tests : {X : Type 0} → Result X ValidFault → Bool → ValidFault → Type 0
Tests (Ok x) b fault = b ≡ true
Tests (Err e) b fault = (b ≡ false) × (e ≡ fault)

-- whether typing reaches a position, whose operands are then in these levels
abbrev pub IsReached : Bool → List Level → Option Shape → Type 0
IsReached true levels (Some s) =
    all_operands levels ≡ map (λ t. Some t) (s.operands ++ types_below s.labels)
IsReached false levels None = Unit {0}
IsReached true levels None = ⊥
IsReached false levels (Some s) = ⊥

-- the same of a walk to the position, which fails only when out of memory
abbrev pub TellsReach : Result Bool ValidFault → List Level → Option Shape → Type 0
TellsReach (Ok reached) levels o = IsReached reached levels o
TellsReach (Err e) levels o = e ≡ Memory
