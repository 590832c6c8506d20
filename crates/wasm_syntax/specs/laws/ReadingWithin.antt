-- Reading from the front within this product's limits: nothing, where an item goes past one.
use Rattle.std.specs.Prelude.{◌≡◌, ℕ, ◌-◌, ◌==◌, nat_le, nat_lt, if◌then◌else◌, List, [], length}
use Rattle.std.specs.Prelude.{count_by, Option, Some, None, refl}
use Rattle.wasm_syntax.specs.declared.types.FunctionType.{FunctionType}
use Rattle.wasm_syntax.specs.declared.types.TableType.{TableType}
use Rattle.wasm_syntax.specs.declared.instruction.Instruction.{Instruction}
use Rattle.wasm_syntax.specs.declared.module.Module.{Module}
use Rattle.wasm_syntax.specs.declared.module.Import.{Import}
use Rattle.wasm_syntax.specs.declared.module.ImportItem.{ImportItem}
use Rattle.wasm_syntax.specs.declared.module.ImportItem.TheVariants as import
use Rattle.wasm_syntax.specs.declared.module.Code.{Code}
use Rattle.wasm_syntax.specs.declared.module.Global.{Global}
use Rattle.wasm_syntax.specs.declared.module.Element.{Element}
use Rattle.wasm_syntax.specs.declared.module.Data.{Data}
use Rattle.wasm_syntax.specs.declared.limits.TheConstants.{MODULE_BYTES, FUNCTIONS, INSTRUCTIONS}
use Rattle.wasm_syntax.specs.declared.limits.TheConstants.{PARAMETERS, LOCALS, TABLE_ENTRIES}
use Rattle.wasm_syntax.specs.declared.limits.TheConstants.{GLOBALS}
use Rattle.wasm_syntax.specs.rules.Modules.{locals_of, body_of, preamble}
use Rattle.wasm_syntax.specs.rules.Limits.{is_function}
use Rattle.wasm_syntax.specs.laws.ReadingItems.{◌>>=◌, check, read_as, byte_at, exactly_at}
use Rattle.wasm_syntax.specs.laws.ReadingItems.{fixed_at, leb_u32_at, vector_at, vector_up_to_at}
use Rattle.wasm_syntax.specs.laws.ReadingItems.{bytes_at, name_at, sized_at, value_type_at}
use Rattle.wasm_syntax.specs.laws.ReadingItems.{table_type_at, memory_type_at, global_type_at}
use Rattle.wasm_syntax.specs.laws.ReadingInstructions.{expression_up_to_at}
use Rattle.wasm_syntax.specs.laws.ReadingModules.{export_at, start_at, run_at, locals_count}
use Rattle.wasm_syntax.specs.laws.ReadingModules.{sections_at, field_at, functions_of}

-- ---- items

unfoldable pub function_type_within_at : List ℕ → Option (FunctionType × List ℕ)
function_type_within_at bytes =
    exactly_at 0x60 bytes >>= λ mark.
    vector_up_to_at value_type_at PARAMETERS mark.1 >>= λ parameters.
    vector_at value_type_at parameters.1 >>= λ results.
    Some (record { parameters = parameters.0; results = results.0 }, results.1)

unfoldable pub table_type_within_at : List ℕ → Option (TableType × List ℕ)
table_type_within_at bytes = table_type_at bytes >>= λ t. if nat_lt TABLE_ENTRIES t.0.limits.minimum
    then None else Some t

-- The most opcodes of an expression. A proof that goes through them one by one has the name and not
-- the number.
unfoldable pub most_instructions : ℕ
most_instructions = INSTRUCTIONS

pub most_instructions_is : most_instructions ≡ INSTRUCTIONS
unfolding most_instructions
most_instructions_is = refl

abbrev pub expression_within_at : List ℕ → Option (List Instruction × List ℕ)
expression_within_at bytes = expression_up_to_at most_instructions [] bytes

-- ---- what sections hold

abbrev pub behind_import_mark_within : ℕ → List ℕ → Option (ImportItem × List ℕ)
behind_import_mark_within b rest =
    if b == 0x00 then read_as import.Function leb_u32_at rest
    else if b == 0x01 then read_as import.Table table_type_within_at rest
    else if b == 0x02 then read_as import.Memory memory_type_at rest
    else if b == 0x03 then read_as import.Global global_type_at rest
    else None

unfoldable pub import_item_within_at : List ℕ → Option (ImportItem × List ℕ)
import_item_within_at bytes = byte_at bytes >>= λ b. behind_import_mark_within b.0 b.1

unfoldable pub import_within_at : List ℕ → Option (Import × List ℕ)
import_within_at bytes =
    name_at bytes >>= λ module_name. name_at module_name.1 >>= λ name. import_item_within_at name.1
    >>= λ item.
    Some (record { module_name = module_name.0; name = name.0; item = item.0 }, item.1)

unfoldable pub global_within_at : List ℕ → Option (Global × List ℕ)
global_within_at bytes =
    global_type_at bytes >>= λ t. expression_within_at t.1 >>= λ initial.
    Some (record { global_type = t.0; initial = initial.0 }, initial.1)

unfoldable pub element_within_at : List ℕ → Option (Element × List ℕ)
element_within_at bytes =
    leb_u32_at bytes >>= λ table. expression_within_at table.1
    >>= λ offset. vector_at leb_u32_at offset.1 >>= λ functions.
    Some (record { table = table.0; offset = offset.0; functions = functions.0 }, functions.1)

unfoldable pub data_within_at : List ℕ → Option (Data × List ℕ)
data_within_at bytes =
    leb_u32_at bytes >>= λ memory. expression_within_at memory.1 >>= λ offset. bytes_at offset.1
    >>= λ part.
    Some (record { memory = memory.0; offset = offset.0; bytes = part.0 }, part.1)

unfoldable pub code_within_at : List ℕ → Option (Code × List ℕ)
code_within_at bytes =
    vector_at run_at bytes >>= λ runs. check (nat_le (locals_count runs.0) LOCALS)
    >>= λ _. expression_within_at runs.1 >>= λ body.
    Some (record { locals = locals_of runs.0; body = body.0 }, body.1)

-- ---- modules

-- how many functions the module may have of its own
abbrev pub functions_left : List Import → Option ℕ
functions_left imports = check (nat_le (count_by is_function imports) FUNCTIONS)
    >>= λ _. Some (FUNCTIONS - count_by is_function imports)

-- the module that sections hold, by the bytes of each of them
unfoldable pub contents_within_at : (ℕ → Option (List ℕ)) → Option Module
contents_within_at body =
    field_at (vector_at function_type_within_at) [] (body 1) >>= λ types.
    field_at (vector_at import_within_at) [] (body 2) >>= λ imports.
    functions_left imports >>= λ count_left.
    field_at (vector_up_to_at leb_u32_at count_left) [] (body 3) >>= λ function_types.
    field_at (vector_at table_type_within_at) [] (body 4) >>= λ tables.
    field_at (vector_at memory_type_at) [] (body 5) >>= λ memories.
    field_at (vector_up_to_at global_within_at GLOBALS) [] (body 6) >>= λ globals.
    field_at (vector_at export_at) [] (body 7) >>= λ exports.
    field_at start_at None (body 8) >>= λ start.
    field_at (vector_at element_within_at) [] (body 9) >>= λ elements.
    field_at (vector_at (sized_at code_within_at)) [] (body 10) >>= λ codes.
    field_at (vector_at data_within_at) [] (body 11) >>= λ data_segments.
    functions_of function_types codes >>= λ functions.
    Some (record {
      types = types;
      imports = imports;
      functions = functions;
      tables = tables;
      memories = memories;
      globals = globals;
      exports = exports;
      start = start;
      elements = elements;
      data_segments = data_segments;
    })

-- the module within the limits that is spelled by these bytes, all of them
unfoldable pub module_within_at : List ℕ → Option Module
module_within_at bytes =
    check (nat_le (length bytes) MODULE_BYTES) >>= λ _.
    fixed_at preamble bytes >>= λ header. sections_at header.1
    >>= λ sections. contents_within_at (λ id. body_of id sections)
