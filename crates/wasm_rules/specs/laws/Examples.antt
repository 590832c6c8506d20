-- Worked examples: sequences that have a type and that have none, and the first steps of a program
-- that writes a line.
use Rattle.std.specs.Prelude.{◌≡◌, ℕ, List, [], ◌∷◌, Some, None}
use Rattle.wasm_syntax.specs.declared.types.ValueType.{ValueType}
use Rattle.wasm_syntax.specs.declared.types.ValueType.TheVariants.{I32}
use Rattle.wasm_syntax.specs.declared.value.Value.{Value}
use Rattle.wasm_syntax.specs.declared.value.Value.TheVariants as value
use Rattle.wasm_syntax.specs.declared.value.Trap.TheVariants as trap
use Rattle.wasm_syntax.specs.declared.operator.BinaryOperator.TheVariants.{Add, DivS, DivU}
use Rattle.wasm_syntax.specs.declared.operator.LoadOperator.TheVariants as load
use Rattle.wasm_syntax.specs.declared.instruction.Instruction.{Instruction}
use Rattle.wasm_syntax.specs.declared.instruction.Instruction.TheVariants as instr
use Rattle.wasm_syntax.specs.rules.Sequence.{Sequence, Stop, Plain, InBlock, InIf, InIfElse}
use Rattle.wasm_syntax.specs.laws.Examples.{no_type, transfer_type, exit_type}
use Rattle.wasm_rules.specs.Typing.{Context, HasType}
use Rattle.wasm_rules.specs.Configuration.{Imported, Own, Program, Store, Main, LabelOf, FrameOf}
use Rattle.wasm_rules.specs.Configuration.{Configuration, Outcome, Goes, Traps, Asks}
use Rattle.wasm_rules.specs.Steps.{counted_step, administrative_step}

-- ---- typing

-- a body without locals in a module without anything else
abbrev pub bare_context : Context
bare_context = record {
  types = [];
  functions = [];
  tables = [];
  memories = [];
  globals = [];
  locals = [];
  returns = [];
}

abbrev pub const_32 : ℕ → Instruction
const_32 n = instr.Const (value.I32 n)

abbrev pub const_64 : ℕ → Instruction
const_64 n = instr.Const (value.I64 n)

abbrev pub add_32 : Instruction
add_32 = instr.Binary I32 Add

-- i32.const 1, if (result i32) i32.const 2 else i32.const 3 end
abbrev pub choice : Sequence
choice = Plain (const_32 1) (InIfElse (Some I32) (Plain (const_32 2) Stop)
    (Plain (const_32 3) Stop) Stop)

-- unreachable, i32.add
abbrev pub behind_unreachable : Sequence
behind_unreachable = Plain instr.Unreachable (Plain add_32 Stop)

-- block (result i32) i32.const 7, br 0, drop end
abbrev pub branch_out : Sequence
branch_out =
    InBlock (Some I32)
    (Plain (const_32 7) (Plain (instr.Br 0) (Plain instr.Drop (Plain (const_32 1) Stop)))) Stop

-- i32.const 1, i64.const 2, i32.add
abbrev pub mixed : Sequence
mixed = Plain (const_32 1) (Plain (const_64 2) (Plain add_32 Stop))

-- i32.const 1, if (result i32) i32.const 2 end
abbrev pub lone_if : Sequence
lone_if = Plain (const_32 1) (InIf (Some I32) (Plain (const_32 2) Stop) Stop)

pub record TypingExamples : Type 0 where
  pub choice_has_type : HasType bare_context [] choice [] (I32 ∷ [])
  pub behind_unreachable_has_type : HasType bare_context [] behind_unreachable [] (I32 ∷ [])
  pub branch_out_has_type : HasType bare_context [] branch_out [] (I32 ∷ [])
  pub mixed_has_no_type : (b : List ValueType) → HasType bare_context [] mixed [] b → ⊥
  pub drop_has_no_type : (b : List ValueType) → HasType bare_context [] (Plain instr.Drop Stop) [] b
      → ⊥
  pub lone_if_has_no_type : (b : List ValueType) → HasType bare_context [] lone_if [] b → ⊥
  pub branch_has_no_label : (b : List ValueType)
      → HasType bare_context [] (Plain (instr.Br 0) Stop) [] b → ⊥

-- ---- execution

-- call 0 on 1, 0, 1 and 16; drop; call 1 on 7
abbrev pub hello_sequence : Sequence
hello_sequence =
    Plain (const_32 1)
    (Plain (const_32 0) (Plain (const_32 1) (Plain (const_32 16) (Plain (instr.Call 0)
    (Plain instr.Drop (Plain (const_32 7) (Plain (instr.Call 1) Stop)))))))

abbrev pub program_of_hello : Program
program_of_hello = record {
  types = no_type ∷ transfer_type ∷ exit_type ∷ [];
  functions = Imported transfer_type ∷ Imported exit_type ∷ Own no_type [] hello_sequence ∷ [];
  least_pages = 1;
  most_pages = 1;
}

-- inside of the only function, above these values
abbrev pub in_hello : Store → List Value → Sequence → Configuration
in_hello store values rest =
    record {
      store = store;
      thread = FrameOf 2 [] (LabelOf 0 Stop [] Stop Main ∷ []) values rest ∷ [];
      later = [];
    }

abbrev pub rest_behind_call : Sequence
rest_behind_call = Plain instr.Drop (Plain (const_32 7) (Plain (instr.Call 1) Stop))

abbrev pub v : ℕ → Value
v n = value.I32 n

-- The host calls function 2. Four constants are four steps, and the fifth asks the host with them,
-- the last one first. Its answer is dropped, a constant follows, and the eighth step asks the host
-- to exit.
pub record HelloRuns (store : Store) : Type 0 where
  pub begins : administrative_step program_of_hello (record
      { store = store; thread = []; later = 2 ∷ [] }) ≡ Some (in_hello store [] hello_sequence)
  pub reduced : administrative_step program_of_hello (in_hello store [] hello_sequence) ≡ None
  pub first : counted_step program_of_hello (in_hello store [] hello_sequence)
      ≡ Goes (in_hello store (v 1
      ∷ []) (Plain (const_32 0)
      (Plain (const_32 1) (Plain (const_32 16) (Plain (instr.Call 0) rest_behind_call)))))
  pub fifth : counted_step program_of_hello (in_hello store (v 16 ∷ v 1 ∷ v 0 ∷ v 1
      ∷ []) (Plain (instr.Call 0) rest_behind_call))
      ≡ Asks 0 (v 16 ∷ v 1 ∷ v 0 ∷ v 1 ∷ []) (in_hello store [] rest_behind_call).thread
  pub sixth : counted_step program_of_hello (in_hello store (v 0 ∷ []) rest_behind_call)
      ≡ Goes (in_hello store [] (Plain (const_32 7) (Plain (instr.Call 1) Stop)))
  pub eighth : counted_step program_of_hello (in_hello store (v 7 ∷ []) (Plain (instr.Call 1) Stop))
      ≡ Asks 1 (v 7 ∷ []) (in_hello store [] Stop).thread
  pub ends : administrative_step program_of_hello (in_hello store [] Stop) ≡ Some (record {
    store = store;
    thread = FrameOf 2 [] [] [] Stop ∷ [];
    later = [];
  })

-- a function that calls itself
abbrev pub endless : Program
endless = record {
  types = no_type ∷ [];
  functions = Own no_type [] (Plain (instr.Call 0) Stop) ∷ [];
  least_pages = 0;
  most_pages = 1;
}

abbrev pub one_byte_short : Store
one_byte_short = record { memory = 1 ∷ 2 ∷ 3 ∷ []; globals = []; table = [] }

abbrev pub four_bytes : Store
four_bytes = record { memory = 1 ∷ 2 ∷ 3 ∷ 0x80 ∷ []; globals = []; table = [] }

-- one instruction above these values
abbrev pub executing : Store → Instruction → List Value → Configuration
executing store i values =
    record { store = store; thread = FrameOf 0 [] [] values (Plain i Stop) ∷ []; later = [] }

abbrev pub goes_with : Store → List Value → Outcome
goes_with store values = Goes (record {
  store = store;
  thread = FrameOf 0 [] [] values Stop ∷ [];
  later = [];
})

pub record StepExamples : Type 0 where
  -- the least number divided by -1 has no quotient, and by 2 ^ 32 - 1 read without a sign it has
  pub overflows : counted_step endless (executing four_bytes (instr.Binary I32 DivS) (v 0xffffffff
      ∷ v 0x80000000 ∷ [])) ≡ Traps trap.IntegerOverflow
  pub divides : counted_step endless (executing four_bytes (instr.Binary I32 DivU) (v 0xffffffff
      ∷ v 0x80000000 ∷ [])) ≡ goes_with four_bytes (v 0 ∷ [])
  -- four bytes are there, and of three bytes four can't be read
  pub loads : counted_step endless (executing four_bytes (instr.Load load.I32 (record {
    align = 2;
    offset = 0;
  })) (v 0 ∷ [])) ≡ goes_with four_bytes (v 0x80030201 ∷ [])
  pub extends : counted_step endless (executing four_bytes (instr.Load load.I32Bits8S (record {
    align = 0;
    offset = 1;
  })) (v 2 ∷ [])) ≡ goes_with four_bytes (v 0xffffff80 ∷ [])
  pub is_outside : counted_step endless (executing one_byte_short (instr.Load load.I32 (record {
    align = 2;
    offset = 0;
  })) (v 0 ∷ [])) ≡ Traps trap.MemoryOutOfBounds
  -- the sum of address and offset doesn't wrap
  pub wraps_not : counted_step endless (executing four_bytes (instr.Load load.I32Bits8U (record {
    align = 0;
    offset = 1;
  })) (v 0xffffffff ∷ [])) ≡ Traps trap.MemoryOutOfBounds
  pub selects : counted_step endless (executing four_bytes instr.Select (v 1 ∷ v 20 ∷ v 10 ∷ []))
      ≡ goes_with four_bytes (v 10 ∷ [])
  pub grows_not : counted_step endless (executing four_bytes instr.MemoryGrow (v 2 ∷ []))
      ≡ goes_with four_bytes (v 0xffffffff ∷ [])
  -- no table, so no entry
  pub undefined_element : counted_step endless (executing four_bytes
      (instr.CallIndirect 0) (v 0 ∷ [])) ≡ Traps trap.UndefinedElement
