-- Modules are read exactly.
use Rattle.std.proofs.Common.{◌≡◌, ℕ, List, [], ◌∷◌, ◌++◌, map, Option, Some, None, refl, sym}
use Rattle.std.proofs.Common.{ap, subst}
use Rattle.std.specs.Prelude.{MatchOption}
use Rattle.wasm_syntax.specs.declared.module.Module.{Module}
use Rattle.wasm_syntax.specs.declared.module.Function.{Function}
use Rattle.wasm_syntax.specs.declared.module.Code.{Code}
use Rattle.wasm_syntax.specs.rules.Items.{IsU32, IsVector, IsSized, IsFunctionType, IsTableType}
use Rattle.wasm_syntax.specs.rules.Items.{IsMemoryType}
use Rattle.wasm_syntax.specs.rules.Modules.{IsImport, IsGlobal, IsExport, IsStartFunction}
use Rattle.wasm_syntax.specs.rules.Modules.{IsElement, IsData, IsCode, Section, AreSections}
use Rattle.wasm_syntax.specs.rules.Modules.{body_of, preamble, function_type_of, code_of, IsModule}
use Rattle.wasm_syntax.specs.laws.ReadingItems.{fixed_at, leb_u32_at, vector_at, sized_at}
use Rattle.wasm_syntax.specs.laws.ReadingItems.{function_type_at, table_type_at, memory_type_at}
use Rattle.wasm_syntax.specs.laws.ReadingModules.{import_at, global_at, export_at, start_at}
use Rattle.wasm_syntax.specs.laws.ReadingModules.{element_at, data_at, code_at, sections_at}
use Rattle.wasm_syntax.specs.laws.ReadingModules.{field_at, functions_of, contents_at, module_at}
use Rattle.wasm_syntax.proofs.Grammar.Exact.{Reads, bind_some, with_some, just, some_is}
use Rattle.wasm_syntax.proofs.Grammar.Integers.{Reads-u32_at, fixed_sound, fixed_complete}
use Rattle.wasm_syntax.proofs.Grammar.Vectors.{whole_sound, whole_complete, Reads-vector_at}
use Rattle.wasm_syntax.proofs.Grammar.Vectors.{Reads-sized_at}
use Rattle.wasm_syntax.proofs.Grammar.Types.{Reads-function_type_at, Reads-table_type_at}
use Rattle.wasm_syntax.proofs.Grammar.Types.{Reads-memory_type_at}
use Rattle.wasm_syntax.proofs.Grammar.Entries.{Reads-import_at, Reads-global_at, Reads-export_at}
use Rattle.wasm_syntax.proofs.Grammar.Entries.{Reads-start_at, Reads-element_at, Reads-data_at}
use Rattle.wasm_syntax.proofs.Grammar.Entries.{Reads-code_at}
use Rattle.wasm_syntax.proofs.Grammar.Rising.{sections_sound, sections_complete}

-- ---- fields

pub field_sound : {X : Type 0} (IsContent : List ℕ → X → List ℕ → Type 0) (content_at : List ℕ
    → Option (X × List ℕ)) → Reads IsContent content_at
    → (absent : X) (body : Option (List ℕ)) (x : X)
    → field_at content_at absent body ≡ Some x
    → MatchOption body (x ≡ absent) (λ b. IsContent b x [])
field_sound IsContent content_at reads absent None x e = sym (some_is absent x e)
field_sound IsContent content_at reads absent (Some b) x e =
    whole_sound IsContent content_at reads b x e

pub field_complete : {X : Type 0} (IsContent : List ℕ → X → List ℕ → Type 0) (content_at : List ℕ
    → Option (X × List ℕ)) → Reads IsContent content_at
    → (absent : X) (body : Option (List ℕ)) (x : X)
    → MatchOption body (x ≡ absent) (λ b. IsContent b x [])
    → field_at content_at absent body ≡ Some x
field_complete IsContent content_at reads absent None x e = ap just (sym e)
field_complete IsContent content_at reads absent (Some b) x is =
    whole_complete IsContent content_at reads b x is

-- a section that is a vector, or its absence
abbrev pub IsRow : {X : Type 0} → (List ℕ → X → List ℕ → Type 0) → Option (List ℕ) → List X → Type 0
IsRow IsItem body xs = MatchOption body (xs ≡ []) (λ b. IsVector IsItem b xs [])

pub row_sound : {X : Type 0} (IsItem : List ℕ → X → List ℕ → Type 0) (item_at : List ℕ
    → Option (X × List ℕ)) → Reads IsItem item_at → (body : Option (List ℕ)) (xs : List X)
    → field_at (vector_at item_at) [] body ≡ Some xs → IsRow IsItem body xs
row_sound IsItem item_at reads body xs e =
    field_sound (IsVector IsItem) (vector_at item_at) (Reads-vector_at IsItem item_at reads) [] body
    xs e

pub row_complete : {X : Type 0} (IsItem : List ℕ → X → List ℕ → Type 0) (item_at : List ℕ
    → Option (X × List ℕ)) → Reads IsItem item_at → (body : Option (List ℕ)) (xs : List X)
    → IsRow IsItem body xs → field_at (vector_at item_at) [] body ≡ Some xs
row_complete IsItem item_at reads body xs h =
    field_complete (IsVector IsItem) (vector_at item_at) (Reads-vector_at IsItem item_at reads) []
    body xs h

-- ---- functions

pub functions_sound : (ts : List ℕ) (cs : List Code) (fs : List Function)
    → functions_of ts cs ≡ Some fs → (map function_type_of fs ≡ ts) × (map code_of fs ≡ cs)
functions_sound [] [] fs e = (let is = some_is [] fs e in rw (← is) (refl, refl))
functions_sound [] (c ∷ cs) fs e = absurd cc
functions_sound (t ∷ ts) [] fs e = absurd cc
functions_sound (t ∷ ts) (c ∷ cs) fs e =
    let others = bind_some (functions_of ts cs) _ _ e in
    let below = functions_sound ts cs others.0 others.1 in
    subst (λ (xs : List Function). (map function_type_of xs ≡ t ∷ ts)
    × (map code_of xs ≡ c ∷ cs)) (some_is (record {
      function_type = t;
      code = c;
    } ∷ others.0) fs others.2)
    (ap (λ (xs : List ℕ). t ∷ xs) below.0, ap (λ (xs : List Code). c ∷ xs) below.1)

pub functions_complete : (fs : List Function)
    → functions_of (map function_type_of fs) (map code_of fs) ≡ Some fs
functions_complete [] = refl
functions_complete (f ∷ fs) = rw (functions_complete fs) refl

-- ---- what the sections hold

pub record Holds (body : ℕ → Option (List ℕ)) (m : Module) : Type 0 where
  pub types : IsRow IsFunctionType (body 1) m.types
  pub imports : IsRow IsImport (body 2) m.imports
  pub function_types : IsRow IsU32 (body 3) (map function_type_of m.functions)
  pub tables : IsRow IsTableType (body 4) m.tables
  pub memories : IsRow IsMemoryType (body 5) m.memories
  pub globals : IsRow IsGlobal (body 6) m.globals
  pub exports : IsRow IsExport (body 7) m.exports
  pub start : MatchOption (body 8) (m.start ≡ None) (λ b. IsStartFunction b m.start [])
  pub elements : IsRow IsElement (body 9) m.elements
  pub codes : IsRow (IsSized IsCode) (body 10) (map code_of m.functions)
  pub data_segments : IsRow IsData (body 11) m.data_segments

pub contents_sound : (body : ℕ → Option (List ℕ)) (m : Module) → contents_at body ≡ Some m
    → Holds body m
unfolding contents_at
contents_sound body m e =
    with_some (field_at (vector_at function_type_at) [] (body 1)) _ _ e (λ types is_types e.
    with_some (field_at (vector_at import_at) [] (body 2)) _ _ e (λ imports is_imports e.
    with_some (field_at (vector_at leb_u32_at) [] (body 3)) _ _ e
    (λ function_types is_function_types e.
    with_some (field_at (vector_at table_type_at) [] (body 4)) _ _ e (λ tables is_tables e.
    with_some (field_at (vector_at memory_type_at) [] (body 5)) _ _ e (λ memories is_memories e.
    with_some (field_at (vector_at global_at) [] (body 6)) _ _ e (λ globals is_globals e.
    with_some (field_at (vector_at export_at) [] (body 7)) _ _ e (λ exports is_exports e.
    with_some (field_at start_at None (body 8)) _ _ e (λ start_function is_start e.
    with_some (field_at (vector_at element_at) [] (body 9)) _ _ e (λ elements is_elements e.
    with_some (field_at (vector_at (sized_at code_at)) [] (body 10)) _ _ e (λ codes is_codes e.
    with_some (field_at (vector_at data_at) [] (body 11)) _ _ e (λ data_segments is_data_segments e.
    with_some (functions_of function_types codes) _ _ e (λ functions is_functions e.
    let made : Module = record {
      types = types;
      imports = imports;
      functions = functions;
      tables = tables;
      memories = memories;
      globals = globals;
      exports = exports;
      start = start_function;
      elements = elements;
      data_segments = data_segments;
    } in
    let paired = functions_sound function_types codes functions is_functions in
    let held : Holds body made = record {
      types = row_sound IsFunctionType function_type_at Reads-function_type_at
          (body 1) types is_types;
      imports = row_sound IsImport import_at Reads-import_at (body 2) imports is_imports;
      function_types =
          subst (λ (ts : List ℕ). IsRow IsU32 (body 3) ts) (sym paired.0)
          (row_sound IsU32 leb_u32_at Reads-u32_at (body 3) function_types is_function_types);
      tables = row_sound IsTableType table_type_at Reads-table_type_at (body 4) tables is_tables;
      memories = row_sound IsMemoryType memory_type_at Reads-memory_type_at
          (body 5) memories is_memories;
      globals = row_sound IsGlobal global_at Reads-global_at (body 6) globals is_globals;
      exports = row_sound IsExport export_at Reads-export_at (body 7) exports is_exports;
      start = field_sound IsStartFunction start_at Reads-start_at None
          (body 8) start_function is_start;
      elements = row_sound IsElement element_at Reads-element_at (body 9) elements is_elements;
      codes = subst (λ (cs : List Code). IsRow (IsSized IsCode) (body 10) cs) (sym paired.1)
          (row_sound (IsSized IsCode) (sized_at code_at)
          (Reads-sized_at IsCode code_at Reads-code_at) (body 10) codes is_codes);
      data_segments =
          row_sound IsData data_at Reads-data_at (body 11) data_segments is_data_segments;
    } in
    subst (λ (x : Module). Holds body x) (some_is made m e) held))))))))))))

pub contents_complete : (body : ℕ → Option (List ℕ)) (m : Module) → Holds body m
    → contents_at body ≡ Some m
unfolding contents_at
contents_complete body m h =
    rw (
      row_complete IsFunctionType function_type_at Reads-function_type_at (body 1) m.types h.types,
      row_complete IsImport import_at Reads-import_at (body 2) m.imports h.imports,
      row_complete IsU32 leb_u32_at Reads-u32_at (body 3)
          (map function_type_of m.functions) h.function_types,
      row_complete IsTableType table_type_at Reads-table_type_at (body 4) m.tables h.tables,
      row_complete IsMemoryType memory_type_at Reads-memory_type_at (body 5) m.memories h.memories,
      row_complete IsGlobal global_at Reads-global_at (body 6) m.globals h.globals,
      row_complete IsExport export_at Reads-export_at (body 7) m.exports h.exports,
      field_complete IsStartFunction start_at Reads-start_at None (body 8) m.start h.start,
      row_complete IsElement element_at Reads-element_at (body 9) m.elements h.elements,
      row_complete (IsSized IsCode) (sized_at code_at) (Reads-sized_at IsCode code_at Reads-code_at)
          (body 10) (map code_of m.functions) h.codes,
      row_complete IsData data_at Reads-data_at (body 11) m.data_segments h.data_segments,
      functions_complete m.functions,
    ) refl

-- ---- modules

-- a module, by its header, its sections and what they hold
pub module_of : (bytes after : List ℕ) (sections : List Section) (m : Module)
    → bytes ≡ preamble ++ after → AreSections 0 after sections → Holds (λ id. body_of id sections) m
    → IsModule bytes m
module_of bytes after sections m header in_order held = record {
  after = after;
  sections = sections;
  header = header;
  in_order = in_order;
  types = held.types;
  imports = held.imports;
  function_types = held.function_types;
  tables = held.tables;
  memories = held.memories;
  globals = held.globals;
  exports = held.exports;
  start = held.start;
  elements = held.elements;
  codes = held.codes;
  data_segments = held.data_segments;
}

pub module_sound : (bytes : List ℕ) (m : Module) → module_at bytes ≡ Some m → IsModule bytes m
unfolding module_at
module_sound bytes m e =
    with_some (fixed_at preamble bytes) _ _ e (λ header is_header e.
    with_some (sections_at header.1) _ _ e (λ sections is_sections e.
    module_of bytes header.1 sections m (fixed_sound preamble bytes header.0 header.1 is_header)
    (sections_sound header.1 sections is_sections)
    (contents_sound (λ id. body_of id sections) m e)))

pub holds_of : (bytes : List ℕ) (m : Module) → (is : IsModule bytes m)
    → Holds (λ id. body_of id is.sections) m
holds_of bytes m is = search

pub module_complete : (bytes : List ℕ) (m : Module) → IsModule bytes m → module_at bytes ≡ Some m
unfolding module_at
module_complete bytes m is =
    rw (
      is.header,
      fixed_complete preamble is.after,
      sections_complete is.after is.sections is.in_order,
    )
    (contents_complete (λ id. body_of id is.sections) m (holds_of bytes m is))
