-- Checking a body from the front: after each opcode, what is known of the open sequences and of
-- their operands (Core Specification 1.0, appendix A.3). Nothing here has to be believed: that it
-- is the same as typing is proved.
use Rattle.std.specs.Prelude.{ℕ, ◌^◌, nat_le, nat_lt, Bool, true, false, ◌&&◌, ◌||◌, not, is_some}
use Rattle.std.specs.Prelude.{List, [], ◌∷◌, ◌++◌, map, Option, Some, None, slice_get}
use Rattle.wasm_syntax.specs.declared.types.ValueType.{ValueType}
use Rattle.wasm_syntax.specs.declared.types.ValueType.TheVariants.{I32}
use Rattle.wasm_syntax.specs.declared.types.Mutability.{Mutability}
use Rattle.wasm_syntax.specs.declared.types.Mutability.TheVariants.{Constant, Variable}
use Rattle.wasm_syntax.specs.declared.value.Value.{Value}
use Rattle.wasm_syntax.specs.declared.value.Value.TheVariants as value
use Rattle.wasm_syntax.specs.declared.instruction.Instruction.{Instruction}
use Rattle.wasm_syntax.specs.declared.instruction.Instruction.TheVariants as instr
use Rattle.wasm_syntax.specs.laws.ReadingItems.{◌>>=◌, check}
use Rattle.wasm_rules.specs.Types.{is_same_type, are_same_types, conversion_takes}
use Rattle.wasm_rules.specs.Types.{conversion_gives, loaded_type, loaded_width, stored_type}
use Rattle.wasm_rules.specs.Types.{stored_width, bytes_in, takes_of, gives_of, results_of}
use Rattle.wasm_rules.specs.Typing.{Context}
use Rattle.wasm_rules.specs.Shapes.{type_of}

-- ---- operands

-- what is known of an operand: its type, or nothing, where it may be of any
abbrev pub Known : Type 0
Known = Option ValueType

-- An open sequence: what a branch to its label takes, and what it gives; whether it is the first
-- part of an `if`, to which an `else` may come; whether no jump is before; and its operands,
-- the last one first.
pub record Level : Type 0 where
  pub takes : Option ValueType
  pub gives : Option ValueType
  pub is_first : Bool
  pub is_reached : Bool
  pub operands : List Known

-- the topmost operand. Behind a jump there are always more
abbrev pub popped_of : Level → List Known → Option (Known × Level)
popped_of l [] = check (not l.is_reached) >>= λ _. Some (None, l)
popped_of l (k ∷ ks) = Some (k, record l { operands = ks })

abbrev pub popped : Level → Option (Known × Level)
popped l = popped_of l l.operands

abbrev pub agrees : ValueType → Known → Bool
agrees t None = true
agrees t (Some u) = is_same_type t u

-- an operand of this type taken
abbrev pub operand_taken : ValueType → Level → Option Level
operand_taken t l = popped l >>= λ o. check (agrees t o.0) >>= λ _. Some o.1

abbrev pub all_operands_taken : List ValueType → Level → Option Level
all_operands_taken [] l = Some l
all_operands_taken (t ∷ ts) l = operand_taken t l >>= λ l'. all_operands_taken ts l'

abbrev pub pushed : Known → Level → Level
pushed k l = record l { operands = k ∷ l.operands }

abbrev pub all_pushed : List ValueType → Level → Level
all_pushed ts l = record l { operands = map (λ t. Some t) ts ++ l.operands }

-- after a jump
abbrev pub level_unreached : Level → Level
level_unreached l = record l { is_reached = false; operands = [] }

-- ---- instructions that stay in their sequence

-- What an instruction takes and gives: a fixed list of types each; or what it takes before it
-- jumps; or it drops an operand of any type, or selects one of two of the same type. Or it is where
-- it may not.
pub data Arrow : Type 0 where
  Fixed : (takes gives : List ValueType) → Arrow
  Jump : (takes : List ValueType) → Arrow
  Dropping : Arrow
  Selecting : Arrow
  Refused : Arrow

abbrev pub arrow_of_some : {X : Type 0} → Option X → (X → Arrow) → Arrow
arrow_of_some None go = Refused
arrow_of_some (Some x) go = go x

abbrev pub only : Bool → Arrow → Arrow
only true a = a
only false a = Refused

abbrev pub has_table : Context → Bool
has_table c = is_some (slice_get c.tables 0)

abbrev pub has_memory : Context → Bool
has_memory c = is_some (slice_get c.memories 0)

abbrev pub is_variable : Mutability → Bool
is_variable Constant = false
is_variable Variable = true

-- each of these labels takes the types ts
abbrev pub is_label : List (List ValueType) → List ValueType → ℕ → Bool
is_label labels ts l = same (slice_get labels l)
  where
    same : Option (List ValueType) → Bool
    same None = false
    same (Some us) = are_same_types us ts

abbrev pub are_labels : List (List ValueType) → List ValueType → List ℕ → Bool
are_labels labels ts [] = true
are_labels labels ts (l ∷ ls) = is_label labels ts l && are_labels labels ts ls

abbrev pub is_number : Value → Bool
is_number (value.I32 n) = nat_lt n (2 ^ 32)
is_number (value.I64 n) = nat_lt n (2 ^ 64)

abbrev pub arrow_of : Context → List (List ValueType) → Instruction → Arrow
arrow_of c labels instr.Unreachable = Jump []
arrow_of c labels instr.Nop = Fixed [] []
arrow_of c labels (instr.Br l) = arrow_of_some (slice_get labels l) (λ ts. Jump ts)
arrow_of c labels (instr.BrIf l) = arrow_of_some (slice_get labels l) (λ ts. Fixed (I32 ∷ ts) ts)
arrow_of c labels (instr.BrTable ls l) =
    arrow_of_some (slice_get labels l) (λ ts. only (are_labels labels ts ls) (Jump (I32 ∷ ts)))
arrow_of c labels instr.Return = Jump c.returns
arrow_of c labels (instr.Call x) =
    arrow_of_some (slice_get c.functions x) (λ f. Fixed (takes_of f) (gives_of f))
arrow_of c labels (instr.CallIndirect x) =
    arrow_of_some (slice_get c.types x) (λ f.
    only (has_table c) (Fixed (I32 ∷ takes_of f) (gives_of f)))
arrow_of c labels instr.Drop = Dropping
arrow_of c labels instr.Select = Selecting
arrow_of c labels (instr.LocalGet x) = arrow_of_some (slice_get c.locals x) (λ t. Fixed [] (t ∷ []))
arrow_of c labels (instr.LocalSet x) = arrow_of_some (slice_get c.locals x) (λ t. Fixed (t ∷ []) [])
arrow_of c labels (instr.LocalTee x) =
    arrow_of_some (slice_get c.locals x) (λ t. Fixed (t ∷ []) (t ∷ []))
arrow_of c labels (instr.GlobalGet x) =
    arrow_of_some (slice_get c.globals x) (λ g. Fixed [] (g.value_type ∷ []))
arrow_of c labels (instr.GlobalSet x) =
    arrow_of_some (slice_get c.globals x) (λ g. only (is_variable g.mutability) (Fixed (g.value_type
    ∷ []) []))
arrow_of c labels (instr.Load o m) =
    only (has_memory c
    && nat_le (2 ^ m.align) (bytes_in (loaded_width o))) (Fixed (I32 ∷ []) (loaded_type o ∷ []))
arrow_of c labels (instr.Store o m) =
    only (has_memory c && nat_le (2 ^ m.align) (bytes_in (stored_width o))) (Fixed (stored_type o
    ∷ I32 ∷ []) [])
arrow_of c labels instr.MemorySize = only (has_memory c) (Fixed [] (I32 ∷ []))
arrow_of c labels instr.MemoryGrow = only (has_memory c) (Fixed (I32 ∷ []) (I32 ∷ []))
arrow_of c labels instr.MemoryCopy = only (has_memory c) (Fixed (I32 ∷ I32 ∷ I32 ∷ []) [])
arrow_of c labels instr.MemoryFill = only (has_memory c) (Fixed (I32 ∷ I32 ∷ I32 ∷ []) [])
arrow_of c labels (instr.Const v) = only (is_number v) (Fixed [] (type_of v ∷ []))
arrow_of c labels (instr.Eqz t) = Fixed (t ∷ []) (I32 ∷ [])
arrow_of c labels (instr.Compare t o) = Fixed (t ∷ t ∷ []) (I32 ∷ [])
arrow_of c labels (instr.Unary t o) = Fixed (t ∷ []) (t ∷ [])
arrow_of c labels (instr.Binary t o) = Fixed (t ∷ t ∷ []) (t ∷ [])
arrow_of c labels (instr.Convert o) = Fixed (conversion_takes o ∷ []) (conversion_gives o ∷ [])
arrow_of c labels (instr.Block t) = Refused
arrow_of c labels (instr.Loop t) = Refused
arrow_of c labels (instr.If t) = Refused
arrow_of c labels instr.Else = Refused
arrow_of c labels instr.End = Refused

-- what is known of two operands of one type
abbrev pub met : Known → Known → Option Known
met None k = Some k
met (Some t) k = check (agrees t k) >>= λ _. Some (Some t)

abbrev pub operands_selected : Level → Option Level
operands_selected l =
    operand_taken I32 l >>= λ l1. popped l1 >>= λ second. popped second.1
    >>= λ first. met second.0 first.0 >>= λ k. Some (pushed k first.1)

abbrev pub applied : Arrow → Level → Option Level
applied (Fixed takes gives) l = all_operands_taken takes l >>= λ l'. Some (all_pushed gives l')
applied (Jump takes) l = all_operands_taken takes l >>= λ l'. Some (level_unreached l')
applied Dropping l = popped l >>= λ o. Some o.1
applied Selecting l = operands_selected l
applied Refused l = None

-- ---- all opcodes

abbrev pub label_of : Level → List ValueType
label_of l = results_of l.takes

-- what branches take, the innermost label first
abbrev pub labels_of : List Level → List (List ValueType)
labels_of levels = map label_of levels

abbrev pub new_level : Option ValueType → Option ValueType → Bool → Level
new_level takes gives is_first = record {
  takes = takes;
  gives = gives;
  is_first = is_first;
  is_reached = true;
  operands = [];
}

-- at its end a sequence has what it gives, and no more
abbrev pub has_no_operands : List Known → Bool
has_no_operands [] = true
has_no_operands (k ∷ ks) = false

abbrev pub level_closed : Level → Option Level
level_closed l = all_operands_taken (results_of l.gives) l
    >>= λ l'. check (has_no_operands l'.operands) >>= λ _. Some l'

-- an `if` without `else` gives nothing
abbrev pub may_end : Bool → Option ValueType → Bool
may_end is_first gives = not is_first || not (is_some gives)

-- what a sequence gives, given to the one around it
abbrev pub result_returned : Option ValueType → List Level → List Level
result_returned t [] = []
result_returned t (l ∷ levels) = all_pushed (results_of t) l ∷ levels

abbrev pub on_top : (Level → Option Level) → List Level → Option (List Level)
on_top f [] = None
on_top f (l ∷ levels) = f l >>= λ l'. Some (l' ∷ levels)

abbrev pub levels_after : Context → Instruction → List Level → Option (List Level)
levels_after c i [] = None
levels_after c (instr.Block t) (l ∷ levels) = Some (new_level t t false ∷ l ∷ levels)
levels_after c (instr.Loop t) (l ∷ levels) = Some (new_level None t false ∷ l ∷ levels)
levels_after c (instr.If t) (l ∷ levels) = operand_taken I32 l
    >>= λ l'. Some (new_level t t true ∷ l' ∷ levels)
levels_after c instr.Else (l ∷ levels) = check l.is_first >>= λ _. level_closed l
    >>= λ _. Some (new_level l.takes l.gives false ∷ levels)
levels_after c instr.End (l ∷ levels) = check (may_end l.is_first l.gives) >>= λ _. level_closed l
    >>= λ _. Some (result_returned l.gives levels)
levels_after c i (l ∷ levels) = applied (arrow_of c (labels_of (l ∷ levels)) i) l
    >>= λ l'. Some (l' ∷ levels)

abbrev pub checked : Context → List Instruction → List Level → Option (List Level)
checked c [] levels = Some levels
checked c (i ∷ opcodes) levels = levels_after c i levels >>= λ levels'. checked c opcodes levels'
