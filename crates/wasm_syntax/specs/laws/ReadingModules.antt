-- Reading from the front: what sections hold, sections, and whole modules (Core Specification 1.0,
-- section 5.5).
use Rattle.std.specs.Prelude.{ℕ, zero, suc, ◌+◌, ◌^◌, ◌==◌, ◌&&◌, nat_lt, max, if◌then◌else◌, Bool}
use Rattle.std.specs.Prelude.{List, [], ◌∷◌, length, Option, Some, None, is_some}
use Rattle.wasm_syntax.specs.declared.module.Module.{Module}
use Rattle.wasm_syntax.specs.declared.module.Import.{Import}
use Rattle.wasm_syntax.specs.declared.module.ImportItem.{ImportItem}
use Rattle.wasm_syntax.specs.declared.module.ImportItem.TheVariants as import
use Rattle.wasm_syntax.specs.declared.module.Function.{Function}
use Rattle.wasm_syntax.specs.declared.module.Code.{Code}
use Rattle.wasm_syntax.specs.declared.module.Global.{Global}
use Rattle.wasm_syntax.specs.declared.module.Export.{Export}
use Rattle.wasm_syntax.specs.declared.module.ExportItem.{ExportItem}
use Rattle.wasm_syntax.specs.declared.module.ExportItem.TheVariants as export
use Rattle.wasm_syntax.specs.declared.module.Element.{Element}
use Rattle.wasm_syntax.specs.declared.module.Data.{Data}
use Rattle.wasm_syntax.specs.rules.Modules.{LocalRun, locals_of, Section, body_of, preamble}
use Rattle.wasm_syntax.specs.laws.ReadingItems.{◌>>=◌, check, read_as, whole_at, byte_at, fixed_at}
use Rattle.wasm_syntax.specs.laws.ReadingItems.{leb_u32_at, vector_at, bytes_at, name_at, sized_at}
use Rattle.wasm_syntax.specs.laws.ReadingItems.{value_type_at, function_type_at, table_type_at}
use Rattle.wasm_syntax.specs.laws.ReadingItems.{memory_type_at, global_type_at}
use Rattle.wasm_syntax.specs.laws.ReadingInstructions.{expression_at}

-- ---- what sections hold

abbrev pub behind_import_mark : ℕ → List ℕ → Option (ImportItem × List ℕ)
behind_import_mark b rest =
    if b == 0x00 then read_as import.Function leb_u32_at rest
    else if b == 0x01 then read_as import.Table table_type_at rest
    else if b == 0x02 then read_as import.Memory memory_type_at rest
    else if b == 0x03 then read_as import.Global global_type_at rest
    else None

unfoldable pub import_item_at : List ℕ → Option (ImportItem × List ℕ)
import_item_at bytes = byte_at bytes >>= λ b. behind_import_mark b.0 b.1

unfoldable pub import_at : List ℕ → Option (Import × List ℕ)
import_at bytes =
    name_at bytes >>= λ module_name. name_at module_name.1 >>= λ name. import_item_at name.1
    >>= λ item.
    Some (record { module_name = module_name.0; name = name.0; item = item.0 }, item.1)

unfoldable pub global_at : List ℕ → Option (Global × List ℕ)
global_at bytes =
    global_type_at bytes >>= λ t. expression_at t.1 >>= λ initial.
    Some (record { global_type = t.0; initial = initial.0 }, initial.1)

abbrev pub behind_export_mark : ℕ → List ℕ → Option (ExportItem × List ℕ)
behind_export_mark b rest =
    if b == 0x00 then read_as export.Function leb_u32_at rest
    else if b == 0x01 then read_as export.Table leb_u32_at rest
    else if b == 0x02 then read_as export.Memory leb_u32_at rest
    else if b == 0x03 then read_as export.Global leb_u32_at rest
    else None

unfoldable pub export_item_at : List ℕ → Option (ExportItem × List ℕ)
export_item_at bytes = byte_at bytes >>= λ b. behind_export_mark b.0 b.1

unfoldable pub export_at : List ℕ → Option (Export × List ℕ)
export_at bytes = name_at bytes >>= λ name. export_item_at name.1
    >>= λ item. Some (record { name = name.0; item = item.0 }, item.1)

unfoldable pub start_at : List ℕ → Option (Option ℕ × List ℕ)
start_at bytes = leb_u32_at bytes >>= λ n. Some (Some n.0, n.1)

unfoldable pub element_at : List ℕ → Option (Element × List ℕ)
element_at bytes =
    leb_u32_at bytes >>= λ table. expression_at table.1 >>= λ offset. vector_at leb_u32_at offset.1
    >>= λ functions.
    Some (record { table = table.0; offset = offset.0; functions = functions.0 }, functions.1)

unfoldable pub data_at : List ℕ → Option (Data × List ℕ)
data_at bytes =
    leb_u32_at bytes >>= λ memory. expression_at memory.1 >>= λ offset. bytes_at offset.1
    >>= λ part.
    Some (record { memory = memory.0; offset = offset.0; bytes = part.0 }, part.1)

unfoldable pub run_at : List ℕ → Option (LocalRun × List ℕ)
run_at bytes = leb_u32_at bytes >>= λ count. value_type_at count.1
    >>= λ t. Some (record { count = count.0; value_type = t.0 }, t.1)

-- how many locals these runs are
abbrev pub locals_count : List LocalRun → ℕ
locals_count [] = 0
locals_count (r ∷ runs) = r.count + locals_count runs

unfoldable pub code_at : List ℕ → Option (Code × List ℕ)
code_at bytes =
    vector_at run_at bytes >>= λ runs. check (nat_lt (locals_count runs.0) (2 ^ 32))
    >>= λ _. expression_at runs.1 >>= λ body.
    Some (record { locals = locals_of runs.0; body = body.0 }, body.1)

-- ---- sections

unfoldable pub section_at : List ℕ → Option (Section × List ℕ)
section_at bytes = byte_at bytes >>= λ id. bytes_at id.1
    >>= λ body. Some (record { id = id.0; body = body.0 }, body.1)

-- a custom section that begins with a name, or one whose id is above the last one
abbrev pub may_follow : ℕ → Section → Bool
may_follow last s = if s.id == 0 then is_some (name_at s.body) else nat_lt last s.id
    && nat_lt s.id 12

unfoldable pub next_section_at : ℕ → List ℕ → Option (Section × List ℕ)
next_section_at last bytes = section_at bytes >>= λ s. if may_follow last s.0 then Some s else None

-- at most so many sections that are all of the bytes
unfoldable pub sections_up_to : ℕ → ℕ → List ℕ → Option (List Section)
sections_up_to most last [] = Some []
sections_up_to zero last (b ∷ bytes) = None
sections_up_to (suc most) last (b ∷ bytes) =
    next_section_at last (b ∷ bytes) >>= λ s. sections_up_to most (max last s.0.id) s.1
    >>= λ others. Some (s.0 ∷ others)

-- sections that are all of the bytes: each takes a byte at least
abbrev pub sections_at : List ℕ → Option (List Section)
sections_at bytes = sections_up_to (length bytes) 0 bytes

-- ---- modules

-- what a section's bytes hold, all of them, or what an absent section stands for
abbrev pub field_at : {X : Type 0} → (List ℕ → Option (X × List ℕ)) → X → Option (List ℕ) → Option X
field_at content_at absent None = Some absent
field_at content_at absent (Some body) = whole_at content_at body

-- functions, by their types and their code
abbrev pub functions_of : List ℕ → List Code → Option (List Function)
functions_of [] [] = Some []
functions_of [] (c ∷ cs) = None
functions_of (t ∷ ts) [] = None
functions_of (t ∷ ts) (c ∷ cs) = functions_of ts cs >>= λ others. Some (record {
  function_type = t;
  code = c;
} ∷ others)

-- the module that sections hold, by the bytes of each of them
unfoldable pub contents_at : (ℕ → Option (List ℕ)) → Option Module
contents_at body =
    field_at (vector_at function_type_at) [] (body 1) >>= λ types.
    field_at (vector_at import_at) [] (body 2) >>= λ imports.
    field_at (vector_at leb_u32_at) [] (body 3) >>= λ function_types.
    field_at (vector_at table_type_at) [] (body 4) >>= λ tables.
    field_at (vector_at memory_type_at) [] (body 5) >>= λ memories.
    field_at (vector_at global_at) [] (body 6) >>= λ globals.
    field_at (vector_at export_at) [] (body 7) >>= λ exports.
    field_at start_at None (body 8) >>= λ start.
    field_at (vector_at element_at) [] (body 9) >>= λ elements.
    field_at (vector_at (sized_at code_at)) [] (body 10) >>= λ codes.
    field_at (vector_at data_at) [] (body 11) >>= λ data_segments.
    functions_of function_types codes >>= λ functions.
    Some (record {
      types = types;
      imports = imports;
      functions = functions;
      tables = tables;
      memories = memories;
      globals = globals;
      exports = exports;
      start = start;
      elements = elements;
      data_segments = data_segments;
    })

-- the module that is spelled by these bytes, all of them
unfoldable pub module_at : List ℕ → Option Module
module_at bytes =
    fixed_at preamble bytes >>= λ header. sections_at header.1
    >>= λ sections. contents_at (λ id. body_of id sections)
