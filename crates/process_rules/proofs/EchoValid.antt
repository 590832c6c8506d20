-- The body of `echo`, and that `echo` is valid.
use Rattle.std.proofs.Common.{inl, arith, List, [], ◌∷◌, None, refl, lit<, lit≤}
use Rattle.wasm_syntax.specs.declared.types.ValueType.{ValueType}
use Rattle.wasm_syntax.specs.declared.types.ValueType.TheVariants.{I32}
use Rattle.wasm_syntax.specs.declared.types.FunctionType.{FunctionType}
use Rattle.wasm_syntax.specs.declared.value.Value.TheVariants as value
use Rattle.wasm_syntax.specs.declared.operator.LoadOperator.TheVariants as load
use Rattle.wasm_syntax.specs.declared.operator.StoreOperator.TheVariants as store
use Rattle.wasm_syntax.specs.declared.instruction.Instruction.{Instruction}
use Rattle.wasm_syntax.specs.declared.instruction.Instruction.TheVariants as instr
use Rattle.wasm_syntax.specs.rules.Sequence.{Sequence, Stop, Plain, InLoop, Spells}
use Rattle.wasm_syntax.specs.laws.Examples.{echo, echo_body, no_type, transfer_type, one_page}
use Rattle.wasm_rules.specs.laws.Examples.{const_32}
use Rattle.wasm_rules.specs.Typing.{Context, HasMemory, body_context}
use Rattle.wasm_rules.specs.Validity.{IsValid, module_context}
use Rattle.process_rules.proofs.ExamplesValid.{page_is_valid, names_differ, IsTyped, constant}
use Rattle.process_rules.proofs.ExamplesValid.{drops, calls}

-- ---- the body

abbrev pub load_there : Instruction
load_there = instr.Load load.I32 (record { align = 2; offset = 0 })

abbrev pub store_there : Instruction
store_there = instr.Store store.I32 (record { align = 2; offset = 0 })

-- a round from its end to its beginning: the count of the write is dropped, and the loop begins
-- anew
abbrev pub again : Sequence
again = Plain instr.Drop (Plain (instr.Br 0) Stop)

abbrev pub writing : Sequence
writing = Plain (const_32 1)
    (Plain (const_32 8) (Plain (const_32 1) (Plain (const_32 20) (Plain (instr.Call 1) again))))

abbrev pub copying : Sequence
copying = Plain (const_32 12) (Plain (const_32 16) (Plain load_there (Plain store_there writing)))

abbrev pub testing : Sequence
testing = Plain instr.Drop
    (Plain (const_32 16) (Plain load_there (Plain (instr.Eqz I32) (Plain (instr.BrIf 1) copying))))

abbrev pub round : Sequence
round = Plain (const_32 0)
    (Plain (const_32 0) (Plain (const_32 1) (Plain (const_32 16) (Plain (instr.Call 0) testing))))

abbrev pub looping : Sequence
looping = InLoop None round Stop

pub echo_spells : Spells echo_body looping
echo_spells = record { is = refl; nested = omega arith }

-- ---- its type

abbrev functions : List FunctionType
functions = transfer_type ∷ transfer_type ∷ no_type ∷ []

abbrev in_body : Context
in_body = body_context (module_context echo functions) no_type []

has_memory : HasMemory in_body
has_memory = (one_page, refl)

-- inside of the loop, from these operands to none
abbrev IsLooping : Sequence → List ValueType → Type 0
IsLooping = IsTyped in_body ([] ∷ [] ∷ [])

again_typed : IsLooping again (I32 ∷ [])
again_typed = drops (record { is = ([], [], [], refl, ([], [], refl, refl), refl) })

loads : {rest : Sequence} {operands : List ValueType} → IsLooping rest (I32 ∷ operands)
    → IsLooping (Plain load_there rest) (I32 ∷ operands)
loads {operands = operands} typed = record {
  is = (I32 ∷ [], I32 ∷ [], operands, refl, (has_memory, lit≤ tt, refl, refl), typed.is);
}

stores : {rest : Sequence} → IsLooping rest [] → IsLooping (Plain store_there rest) (I32 ∷ I32 ∷ [])
stores typed =
    record { is = (I32 ∷ I32 ∷ [], [], [], refl, (has_memory, lit≤ tt, refl, refl), typed.is) }

tests : {rest : Sequence} → IsLooping rest (I32 ∷ [])
    → IsLooping (Plain (instr.Eqz I32) rest) (I32 ∷ [])
tests typed = record { is = (I32 ∷ [], I32 ∷ [], [], refl, (refl, refl), typed.is) }

leaves : {rest : Sequence} → IsLooping rest [] → IsLooping (Plain (instr.BrIf 1) rest) (I32 ∷ [])
leaves typed = record { is = (I32 ∷ [], [], [], refl, ([], refl, refl, refl), typed.is) }

round_typed : IsLooping round []
round_typed =
    constant 0 (lit< tt) (constant 0 (lit< tt) (constant 1 (lit< tt) (constant 16 (lit< tt)
    (calls transfer_type refl (drops (constant 16 (lit< tt) (loads (tests (leaves
    (constant 12 (lit< tt) (constant 16 (lit< tt) (loads (stores
    (constant 1 (lit< tt) (constant 8 (lit< tt) (constant 1 (lit< tt) (constant 20 (lit< tt)
    (calls transfer_type refl again_typed))))))))))))))))))

-- ---- the module

pub echo_is_valid : IsValid echo
echo_is_valid = record {
  functions = functions;
  types = (lit≤ tt, (lit≤ tt, tt));
  function_types = (refl, (refl, (refl, tt)));
  bodies = ((no_type, looping, refl, echo_spells, (round_typed.is, refl)), tt);
  tables = tt;
  memories = page_is_valid;
  globals = tt;
  exports = (lit< tt, (lit< tt, tt));
  names = names_differ 2;
  start = tt;
  elements = tt;
  data_segments = ((lit< tt, inl (value.I32 0, lit< tt, refl), omega arith), tt);
  one_table = lit≤ tt;
  one_memory = lit≤ tt;
}
