-- What sections hold is the same, read in the order of the bytes.
use Rattle.std.proofs.Common.{◌≡◌, ℕ, ◌<◌, eqb, List, [], length, Option, Some, None, refl, ◌∙◌}
use Rattle.std.proofs.Common.{arith}
use Rattle.wasm_syntax.specs.declared.types.FunctionType.{FunctionType}
use Rattle.wasm_syntax.specs.declared.module.Module.{Module}
use Rattle.wasm_syntax.specs.declared.module.Import.{Import}
use Rattle.wasm_syntax.specs.declared.limits.TheConstants.{GLOBALS}
use Rattle.wasm_syntax.specs.laws.ReadingItems.{◌>>=◌, check, leb_u32_at, vector_at}
use Rattle.wasm_syntax.specs.laws.ReadingItems.{vector_up_to_at, sized_at, memory_type_at}
use Rattle.wasm_syntax.specs.laws.ReadingModules.{export_at, start_at, field_at, functions_of}
use Rattle.wasm_syntax.specs.laws.ReadingWithin.{function_type_within_at, import_within_at}
use Rattle.wasm_syntax.specs.laws.ReadingWithin.{table_type_within_at, global_within_at}
use Rattle.wasm_syntax.specs.laws.ReadingWithin.{element_within_at, data_within_at, code_within_at}
use Rattle.wasm_syntax.specs.laws.ReadingWithin.{functions_left, contents_within_at}
use Rattle.wasm_decode.proofs.ItemLemmas.Binds.{bind_same}
use Rattle.wasm_decode.specs.Contents.{functions_at, contents_read}
use Rattle.wasm_decode.proofs.Imports.{imports_step}
use Rattle.wasm_decode.proofs.Functions.{codes_step}

-- what is after the imports, by types and code apart
abbrev rest_within : (ℕ → Option (List ℕ)) → List FunctionType → List Import → ℕ → Option Module
rest_within body types imports count_left =
    field_at (vector_up_to_at leb_u32_at count_left) [] (body 3) >>= λ function_types.
    field_at (vector_at table_type_within_at) [] (body 4) >>= λ tables.
    field_at (vector_at memory_type_at) [] (body 5) >>= λ memories.
    field_at (vector_up_to_at global_within_at GLOBALS) [] (body 6) >>= λ globals.
    field_at (vector_at export_at) [] (body 7) >>= λ exports.
    field_at start_at None (body 8) >>= λ start.
    field_at (vector_at element_within_at) [] (body 9) >>= λ elements.
    field_at (vector_at (sized_at code_within_at)) [] (body 10) >>= λ codes.
    field_at (vector_at data_within_at) [] (body 11) >>= λ data_segments.
    functions_of function_types codes >>= λ functions.
    Some (record {
      types = types;
      imports = imports;
      functions = functions;
      tables = tables;
      memories = memories;
      globals = globals;
      exports = exports;
      start = start;
      elements = elements;
      data_segments = data_segments;
    })

-- the same, by functions
abbrev rest_read : (ℕ → Option (List ℕ)) → List FunctionType → List Import → ℕ → Option Module
rest_read body types imports count_left =
    field_at (vector_up_to_at leb_u32_at count_left) [] (body 3) >>= λ function_types.
    field_at (vector_at table_type_within_at) [] (body 4) >>= λ tables.
    field_at (vector_at memory_type_at) [] (body 5) >>= λ memories.
    field_at (vector_up_to_at global_within_at GLOBALS) [] (body 6) >>= λ globals.
    field_at (vector_at export_at) [] (body 7) >>= λ exports.
    field_at start_at None (body 8) >>= λ start.
    field_at (vector_at element_within_at) [] (body 9) >>= λ elements.
    field_at (functions_at function_types) [] (body 10) >>= λ functions.
    field_at (vector_at data_within_at) [] (body 11) >>= λ data_segments.
    check (eqb (length functions) (length function_types)) >>= λ _.
    Some (record {
      types = types;
      imports = imports;
      functions = functions;
      tables = tables;
      memories = memories;
      globals = globals;
      exports = exports;
      start = start;
      elements = elements;
      data_segments = data_segments;
    })

rest_are : (body : ℕ
    → Option (List ℕ)) (types : List FunctionType) (imports : List Import) (count_left : ℕ)
    → rest_within body types imports count_left ≡ rest_read body types imports count_left
rest_are body types imports count_left =
    bind_same (field_at (vector_up_to_at leb_u32_at count_left) [] (body 3)) _ _ (λ function_types.
    bind_same (field_at (vector_at table_type_within_at) [] (body 4)) _ _ (λ tables.
    bind_same (field_at (vector_at memory_type_at) [] (body 5)) _ _ (λ memories.
    bind_same (field_at (vector_up_to_at global_within_at GLOBALS) [] (body 6)) _ _ (λ globals.
    bind_same (field_at (vector_at export_at) [] (body 7)) _ _ (λ exports.
    bind_same (field_at start_at None (body 8)) _ _ (λ start_function.
    bind_same (field_at (vector_at element_within_at) [] (body 9)) _ _ (λ elements.
    codes_step function_types (body 10) (field_at (vector_at data_within_at) [] (body 11))
    (λ data_segments functions. Some (record {
      types = types;
      imports = imports;
      functions = functions;
      tables = tables;
      memories = memories;
      globals = globals;
      exports = exports;
      start = start_function;
      elements = elements;
      data_segments = data_segments;
    })))))))))

pub contents_are : (body : ℕ → Option (List ℕ)) → contents_within_at body ≡ contents_read body
unfolding contents_within_at contents_read
contents_are body =
    bind_same (field_at (vector_at function_type_within_at) [] (body 1)) _ _ (λ types.
    bind_same (field_at (vector_at import_within_at) [] (body 2)) (λ imports. functions_left imports
    >>= λ count_left. rest_within body types imports count_left) (λ imports. functions_left imports
    >>= λ count_left. rest_read body types imports count_left)
    (λ imports. bind_same (functions_left imports) _ _ (λ count_left. rest_are body types
    imports count_left)) ∙ imports_step (body 2) (λ imports count_left. rest_read body types
    imports count_left))

-- it is on the bytes under the ids of sections alone
pub contents_same : (b c : ℕ → Option (List ℕ)) → ((id : ℕ) → 0 < id → id < 12 → b id ≡ c id)
    → contents_within_at b ≡ contents_within_at c
unfolding contents_within_at
contents_same b c h =
    rw (
      h 1 (omega arith) (omega arith),
      h 2 (omega arith) (omega arith),
      h 3 (omega arith) (omega arith),
      h 4 (omega arith) (omega arith),
      h 5 (omega arith) (omega arith),
      h 6 (omega arith) (omega arith),
      h 7 (omega arith) (omega arith),
      h 8 (omega arith) (omega arith),
      h 9 (omega arith) (omega arith),
      h 10 (omega arith) (omega arith),
      h 11 (omega arith) (omega arith),
    ) refl
