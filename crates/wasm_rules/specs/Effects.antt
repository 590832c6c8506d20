-- What the instructions do that are no jumps and no calls (Core Specification 1.0, sections 4.4.1
-- to 4.4.4).
use Rattle.std.specs.Prelude.{ℕ, zero, suc, ◌+◌, ◌-◌, ◌*◌, ◌/◌, ◌%◌, ◌^◌, nat_le, ◌==◌, ◌&&◌, List}
use Rattle.std.specs.Prelude.{◌∷◌, ◌++◌, length, replicate, Option, Some, None, Result, Ok, Err}
use Rattle.std.specs.Prelude.{slice_get, slice_set, if◌then◌else◌}
use Rattle.wasm_syntax.specs.declared.types.ValueType.{ValueType}
use Rattle.wasm_syntax.specs.declared.types.ValueType.TheVariants.{I32, I64}
use Rattle.wasm_syntax.specs.declared.value.Value.{Value}
use Rattle.wasm_syntax.specs.declared.value.Value.TheVariants as value
use Rattle.wasm_syntax.specs.declared.value.Trap.{Trap}
use Rattle.wasm_syntax.specs.declared.value.Trap.TheVariants as trap
use Rattle.wasm_syntax.specs.declared.operator.LoadOperator.{LoadOperator}
use Rattle.wasm_syntax.specs.declared.operator.StoreOperator.{StoreOperator}
use Rattle.wasm_syntax.specs.declared.instruction.Instruction.{Instruction}
use Rattle.wasm_syntax.specs.declared.instruction.Instruction.TheVariants as instr
use Rattle.int_ops.specs.rules.Integers.{unary_of, binary_of, compare_of, convert_of, truth}
use Rattle.int_ops.specs.rules.Integers.{sign_extended}
use Rattle.guest_memory.specs.rules.Bytes.{number_of, bytes_of, page_size, part, with_part}
use Rattle.wasm_rules.specs.Types.{width_of, value_of, conversion_takes, conversion_gives}
use Rattle.wasm_rules.specs.Types.{loaded_type, loaded_width, extends_sign, stored_type}
use Rattle.wasm_rules.specs.Types.{stored_width, bytes_in}
use Rattle.wasm_rules.specs.Configuration.{Program, Store}

-- what an instruction makes of the store, the locals and the values, or why it traps. `Wrong` where
-- an operand is missing or of another type
pub data Effect : Type 0 where
  Gives : (store : Store) (locals values : List Value) → Effect
  Fails : (why : Trap) → Effect
  Wrong : Effect

-- the number of the topmost value, which is of this type, and the values below it
abbrev pub with_top : ValueType → List Value → (ℕ → List Value → Effect) → Effect
with_top I32 (value.I32 n ∷ values) go = go n values
with_top I64 (value.I64 n ∷ values) go = go n values
with_top t values go = Wrong

-- something that is there
abbrev pub effect_of_some : {X : Type 0} → Option X → (X → Effect) → Effect
effect_of_some None go = Wrong
effect_of_some (Some x) go = go x

-- a number of this type on top, or the trap
abbrev pub with_result : ValueType → Result ℕ Trap → (Value → Effect) → Effect
with_result t (Ok n) go = go (value_of t n)
with_result t (Err why) go = Fails why

-- ---- memory (4.4.4)

-- The sum of the operand and the offset does not wrap.
abbrev pub loaded : LoadOperator → List ℕ → ℕ
loaded o bytes =
    if extends_sign o
    then sign_extended (loaded_width o) (width_of (loaded_type o)) (number_of bytes)
    else number_of bytes

-- what a load reads at a place, or the trap for a place outside memory
abbrev pub load_at : LoadOperator → List ℕ → ℕ → Result ℕ Trap
load_at o memory from =
    if nat_le (from + bytes_in (loaded_width o)) (length memory)
    then Ok (loaded o (part memory from (bytes_in (loaded_width o))))
    else Err trap.MemoryOutOfBounds

-- goes on with the store after a write to memory, or traps
abbrev pub store_at : StoreOperator → Store → ℕ → ℕ → (Store → Effect) → Effect
store_at o s from n go =
    if nat_le (from + bytes_in (stored_width o)) (length s.memory)
    then go (record s { memory = with_part s.memory from (bytes_of (bytes_in (stored_width o)) n) })
    else Fails trap.MemoryOutOfBounds

-- how many pages memory has
abbrev pub pages_of : Store → ℕ
pages_of s = length s.memory / page_size

-- Memory grows exactly where no limit is passed. Then the old number of pages is given, else -1.
abbrev pub grown : Program → Store → ℕ → (Store → Value → Effect) → Effect
grown program s n go =
    if nat_le (pages_of s + n) program.most_pages
    then go (record s { memory = s.memory ++ replicate (n * page_size) 0 }) (value.I32 (pages_of s))
    else go s (value.I32 (2 ^ 32 - 1))

-- so many bytes of the memory as it was, from one place on, put into it from another place on
abbrev pub copied_at : List ℕ → ℕ → ℕ → ℕ → Result (List ℕ) Trap
copied_at memory to from n =
    if nat_le (to + n) (length memory) && nat_le (from + n) (length memory)
    then Ok (with_part memory to (part memory from n))
    else Err trap.MemoryOutOfBounds

-- the low byte of a number, put into the memory so many times from a place on
abbrev pub filled_at : List ℕ → ℕ → ℕ → ℕ → Result (List ℕ) Trap
filled_at memory to number n =
    if nat_le (to + n) (length memory)
    then Ok (with_part memory to (replicate n (number % 256)))
    else Err trap.MemoryOutOfBounds

-- a store with this memory, or the trap
abbrev pub with_written : Store → Result (List ℕ) Trap → (Store → Effect) → Effect
with_written s (Ok memory) go = go (record s { memory = memory })
with_written s (Err why) go = Fails why

-- ---- all of them

-- what `select` gives
abbrev pub selected : ℕ → Value → Value → Value
selected zero first second = second
selected (suc n) first second = first

-- what an instruction does to store, locals and operands
abbrev pub effect : Program → Instruction → Store → List Value → List Value → Effect
effect program instr.Unreachable s ls vs = Fails trap.Unreachable
effect program instr.Nop s ls vs = Gives s ls vs
effect program instr.Drop s ls (v ∷ vs) = Gives s ls vs
effect program instr.Select s ls (value.I32 n ∷ b ∷ a ∷ vs) = Gives s ls (selected n a b ∷ vs)
effect program (instr.LocalGet x) s ls vs =
    effect_of_some (slice_get ls x) (λ v. Gives s ls (v ∷ vs))
effect program (instr.LocalSet x) s ls (v ∷ vs) =
    effect_of_some (slice_get ls x) (λ _. Gives s (slice_set ls x v) vs)
effect program (instr.LocalTee x) s ls (v ∷ vs) =
    effect_of_some (slice_get ls x) (λ _. Gives s (slice_set ls x v) (v ∷ vs))
effect program (instr.GlobalGet x) s ls vs =
    effect_of_some (slice_get s.globals x) (λ v. Gives s ls (v ∷ vs))
effect program (instr.GlobalSet x) s ls (v ∷ vs) =
    effect_of_some (slice_get s.globals x) (λ _.
    Gives (record s { globals = slice_set s.globals x v }) ls vs)
effect program (instr.Load o m) s ls vs =
    with_top I32 vs (λ i vs. with_result (loaded_type o) (load_at o s.memory (i + m.offset)) (λ v.
    Gives s ls (v ∷ vs)))
effect program (instr.Store o m) s ls vs =
    with_top (stored_type o) vs (λ n vs.
    with_top I32 vs (λ i vs. store_at o s (i + m.offset) n (λ s. Gives s ls vs)))
effect program instr.MemorySize s ls vs = Gives s ls (value.I32 (pages_of s) ∷ vs)
effect program instr.MemoryGrow s ls vs =
    with_top I32 vs (λ n vs. grown program s n (λ s v. Gives s ls (v ∷ vs)))
effect program instr.MemoryCopy s ls vs =
    with_top I32 vs (λ n vs. with_top I32 vs (λ from vs. with_top I32 vs (λ to vs.
    with_written s (copied_at s.memory to from n) (λ s. Gives s ls vs))))
effect program instr.MemoryFill s ls vs =
    with_top I32 vs (λ n vs. with_top I32 vs (λ number vs. with_top I32 vs (λ to vs.
    with_written s (filled_at s.memory to number n) (λ s. Gives s ls vs))))
effect program (instr.Const v) s ls vs = Gives s ls (v ∷ vs)
effect program (instr.Eqz t) s ls vs =
    with_top t vs (λ a vs. Gives s ls (value.I32 (truth (a == 0)) ∷ vs))
effect program (instr.Compare t o) s ls vs =
    with_top t vs (λ b vs.
    with_top t vs (λ a vs. Gives s ls (value.I32 (truth (compare_of (width_of t) o a b)) ∷ vs)))
effect program (instr.Unary t o) s ls vs =
    with_top t vs (λ a vs. Gives s ls (value_of t (unary_of (width_of t) o a) ∷ vs))
effect program (instr.Binary t o) s ls vs =
    with_top t vs (λ b vs. with_top t vs (λ a vs. with_result t (binary_of (width_of t) o a b) (λ v.
    Gives s ls (v ∷ vs))))
effect program (instr.Convert o) s ls vs =
    with_top (conversion_takes o) vs (λ a vs.
    Gives s ls (value_of (conversion_gives o) (convert_of o a) ∷ vs))
effect program _ s ls vs = Wrong

-- an instruction that is no jump and no call, and doesn't open, part or close a sequence
abbrev pub IsEffect : Instruction → Type 0
IsEffect (instr.Block t) = ⊥
IsEffect (instr.Loop t) = ⊥
IsEffect (instr.If t) = ⊥
IsEffect instr.Else = ⊥
IsEffect instr.End = ⊥
IsEffect (instr.Br l) = ⊥
IsEffect (instr.BrIf l) = ⊥
IsEffect (instr.BrTable table last) = ⊥
IsEffect instr.Return = ⊥
IsEffect (instr.Call f) = ⊥
IsEffect (instr.CallIndirect t) = ⊥
IsEffect _ = Unit {0}
