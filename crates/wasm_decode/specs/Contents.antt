-- What sections hold, in the order in which it is read: limits on counts before their items, and
-- functions with their code.
use Rattle.std.specs.Prelude.{ℕ, ◌==◌, List, [], ◌∷◌, ◌++◌, length, Option, Some, None}
use Rattle.wasm_syntax.specs.declared.module.Module.{Module}
use Rattle.wasm_syntax.specs.declared.module.Function.{Function}
use Rattle.wasm_syntax.specs.declared.module.ImportItem.{ImportItem}
use Rattle.wasm_syntax.specs.declared.module.ImportItem.TheVariants as import
use Rattle.wasm_decode.specs.declared.imported.Imports.{Imports}
use Rattle.wasm_syntax.specs.declared.limits.TheConstants.{FUNCTIONS, GLOBALS}
use Rattle.wasm_syntax.specs.laws.ReadingItems.{◌>>=◌, check, leb_u32_at, vector_at}
use Rattle.wasm_syntax.specs.laws.ReadingItems.{vector_up_to_at, sized_at, memory_type_at}
use Rattle.wasm_syntax.specs.laws.ReadingModules.{export_at, start_at, field_at}
use Rattle.wasm_syntax.specs.laws.ReadingWithin.{function_type_within_at, import_within_at}
use Rattle.wasm_syntax.specs.laws.ReadingWithin.{table_type_within_at, global_within_at}
use Rattle.wasm_syntax.specs.laws.ReadingWithin.{element_within_at, data_within_at, code_within_at}
use Rattle.wasm_syntax.specs.laws.ReadingWithin.{functions_left}

-- how many functions an import is
abbrev pub functions_of_item : ImportItem → ℕ
functions_of_item (import.Function t) = 1
functions_of_item _ = 0

-- imports, and how many functions the module may have of its own
unfoldable pub imports_at : List ℕ → Option (Imports × List ℕ)
imports_at bytes =
    vector_at import_within_at bytes >>= λ imports. functions_left imports.0 >>= λ count_left.
    Some (record { items = imports.0; functions_left = count_left }, imports.1)

abbrev pub no_imports : Imports
no_imports = record { items = []; functions_left = FUNCTIONS }

-- code entries for functions of these types, after functions that were read before
unfoldable pub functions_onto_at : List ℕ → List Function → List ℕ → Option (List Function × List ℕ)
functions_onto_at [] functions bytes = Some (functions, bytes)
functions_onto_at (t ∷ ts) functions bytes =
    sized_at code_within_at bytes
    >>= λ code. functions_onto_at ts (functions ++ record {
      function_type = t;
      code = code.0;
    } ∷ []) code.1

-- as many code entries as there are types
unfoldable pub functions_at : List ℕ → List ℕ → Option (List Function × List ℕ)
functions_at types bytes = leb_u32_at bytes >>= λ count. check (count.0 == length types)
    >>= λ _. functions_onto_at types [] count.1

unfoldable pub contents_read : (ℕ → Option (List ℕ)) → Option Module
contents_read body =
    field_at (vector_at function_type_within_at) [] (body 1) >>= λ types.
    field_at imports_at no_imports (body 2) >>= λ imports.
    field_at (vector_up_to_at leb_u32_at imports.functions_left) [] (body 3) >>= λ function_types.
    field_at (vector_at table_type_within_at) [] (body 4) >>= λ tables.
    field_at (vector_at memory_type_at) [] (body 5) >>= λ memories.
    field_at (vector_up_to_at global_within_at GLOBALS) [] (body 6) >>= λ globals.
    field_at (vector_at export_at) [] (body 7) >>= λ exports.
    field_at start_at None (body 8) >>= λ start.
    field_at (vector_at element_within_at) [] (body 9) >>= λ elements.
    field_at (functions_at function_types) [] (body 10) >>= λ functions.
    field_at (vector_at data_within_at) [] (body 11) >>= λ data_segments.
    check (length functions == length function_types) >>= λ _.
    Some (record {
      types = types;
      imports = imports.items;
      functions = functions;
      tables = tables;
      memories = memories;
      globals = globals;
      exports = exports;
      start = start;
      elements = elements;
      data_segments = data_segments;
    })
