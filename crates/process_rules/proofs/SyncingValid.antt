-- The body of `syncing`, and that `syncing` is valid.
use Rattle.std.proofs.Common.{inl, arith, List, [], ◌∷◌, refl, lit<, lit≤}
use Rattle.wasm_syntax.specs.declared.types.FunctionType.{FunctionType}
use Rattle.wasm_syntax.specs.declared.value.Value.TheVariants as value
use Rattle.wasm_syntax.specs.declared.instruction.Instruction.TheVariants as instr
use Rattle.wasm_syntax.specs.rules.Sequence.{Sequence, Stop, Plain, Spells}
use Rattle.wasm_syntax.specs.laws.Examples.{no_type, transfer_type}
use Rattle.wasm_rules.specs.laws.Examples.{const_32}
use Rattle.wasm_rules.specs.Typing.{body_context}
use Rattle.wasm_rules.specs.Validity.{IsValid, module_context}
use Rattle.process_rules.specs.laws.BehindExamples.{syncing, syncing_body, sync_type}
use Rattle.process_rules.proofs.ExamplesValid.{page_is_valid, names_differ, IsTyped, constant}
use Rattle.process_rules.proofs.ExamplesValid.{drops, calls, stops}

-- ---- the body, from its end to its beginning

abbrev pub behind_write : Sequence
behind_write = Plain instr.Drop Stop

abbrev pub writing : Sequence
writing = Plain (const_32 1)
    (Plain (const_32 0)
    (Plain (const_32 1) (Plain (const_32 12) (Plain (instr.Call 2) behind_write))))

abbrev pub behind_sync : Sequence
behind_sync = Plain instr.Drop writing

abbrev pub behind_failure : Sequence
behind_failure = Plain instr.Drop (Plain (const_32 3) (Plain (instr.Call 1) behind_sync))

abbrev pub behind_read : Sequence
behind_read = Plain instr.Drop (Plain (const_32 4) (Plain (instr.Call 1) behind_failure))

abbrev pub reading : Sequence
reading = Plain (const_32 0)
    (Plain (const_32 0)
    (Plain (const_32 1) (Plain (const_32 8) (Plain (instr.Call 0) behind_read))))

pub syncing_spells : Spells syncing_body reading
syncing_spells = record { is = refl; nested = omega arith }

-- ---- its type

abbrev functions : List FunctionType
functions = transfer_type ∷ sync_type ∷ transfer_type ∷ no_type ∷ []

reading_typed : IsTyped (body_context (module_context syncing functions) no_type []) ([] ∷ [])
    reading []
reading_typed =
    constant 0 (lit< tt) (constant 0 (lit< tt) (constant 1 (lit< tt) (constant 8 (lit< tt)
    (calls transfer_type refl (drops
    (constant 4 (lit< tt) (calls sync_type refl (drops
    (constant 3 (lit< tt) (calls sync_type refl (drops
    (constant 1 (lit< tt) (constant 0 (lit< tt) (constant 1 (lit< tt) (constant 12 (lit< tt)
    (calls transfer_type refl (drops stops)))))))))))))))))

-- ---- the module

pub syncing_is_valid : IsValid syncing
syncing_is_valid = record {
  functions = functions;
  types = (lit≤ tt, (lit≤ tt, (lit≤ tt, tt)));
  function_types = (refl, (refl, (refl, (refl, tt))));
  bodies = ((no_type, reading, refl, syncing_spells, reading_typed.is), tt);
  tables = tt;
  memories = page_is_valid;
  globals = tt;
  exports = (lit< tt, (lit< tt, tt));
  names = names_differ 3;
  start = tt;
  elements = tt;
  data_segments = ((lit< tt, inl (value.I32 0, lit< tt, refl), omega arith), tt);
  one_table = lit≤ tt;
  one_memory = lit≤ tt;
}
