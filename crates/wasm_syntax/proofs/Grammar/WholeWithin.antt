-- Modules within this product's limits are read exactly.
use Rattle.std.proofs.Common.{◌≡◌, ℕ, suc, ◌+◌, ◌-◌, ◌≤◌, leb, List, [], ◌∷◌, length, map}
use Rattle.std.proofs.Common.{Option, Some, None, true, refl, sym, ap, subst, ◌∙◌, arith}
use Rattle.std.specs.Prelude.{MatchOption, count_by}
use Rattle.std.specs.List.{AllByRecursion}
use Rattle.std.proofs.lemmas.Bool.{leb-true, le-leb}
use Rattle.wasm_syntax.specs.declared.module.Module.{Module}
use Rattle.wasm_syntax.specs.declared.module.Import.{Import}
use Rattle.wasm_syntax.specs.declared.module.Function.{Function}
use Rattle.wasm_syntax.specs.declared.module.Code.{Code}
use Rattle.wasm_syntax.specs.declared.limits.TheConstants.{MODULE_BYTES, FUNCTIONS, GLOBALS}
use Rattle.wasm_syntax.specs.rules.Items.{IsU32, IsVector, IsSized, IsFunctionType, IsTableType}
use Rattle.wasm_syntax.specs.rules.Items.{IsMemoryType}
use Rattle.wasm_syntax.specs.rules.Modules.{IsImport, IsGlobal, IsExport, IsStartFunction}
use Rattle.wasm_syntax.specs.rules.Modules.{IsElement, IsData, IsCode, body_of, preamble}
use Rattle.wasm_syntax.specs.rules.Modules.{function_type_of, code_of, IsModule}
use Rattle.wasm_syntax.specs.rules.Limits.{is_function, HasFewParameters, IsSmallTable}
use Rattle.wasm_syntax.specs.rules.Limits.{IsSmallFunction, IsWithinLimits, HasNoModule}
use Rattle.wasm_syntax.specs.laws.ReadingItems.{fixed_at, leb_u32_at, vector_at, vector_up_to_at}
use Rattle.wasm_syntax.specs.laws.ReadingItems.{sized_at, memory_type_at}
use Rattle.wasm_syntax.specs.laws.ReadingModules.{export_at, start_at, sections_at, field_at}
use Rattle.wasm_syntax.specs.laws.ReadingModules.{functions_of}
use Rattle.wasm_syntax.specs.laws.ReadingWithin.{function_type_within_at, table_type_within_at}
use Rattle.wasm_syntax.specs.laws.ReadingWithin.{import_within_at, global_within_at}
use Rattle.wasm_syntax.specs.laws.ReadingWithin.{element_within_at, data_within_at, code_within_at}
use Rattle.wasm_syntax.specs.laws.ReadingWithin.{functions_left, contents_within_at}
use Rattle.wasm_syntax.specs.laws.ReadingWithin.{module_within_at}
use Rattle.wasm_syntax.proofs.Grammar.Exact.{Reads, check_some, with_some, just, some_is}
use Rattle.wasm_syntax.proofs.Grammar.Integers.{Reads-u32_at, fixed_sound, fixed_complete}
use Rattle.wasm_syntax.proofs.Grammar.Vectors.{Reads-vector_at-within, Reads-sized_at, IsVectorUpTo}
use Rattle.wasm_syntax.proofs.Grammar.Vectors.{Reads-vector_up_to_at, items_within, within_items}
use Rattle.wasm_syntax.proofs.Grammar.Types.{Reads-memory_type_at}
use Rattle.wasm_syntax.proofs.Grammar.Entries.{Reads-export_at, Reads-start_at}
use Rattle.wasm_syntax.proofs.Grammar.Rising.{sections_sound, sections_complete}
use Rattle.wasm_syntax.proofs.Grammar.Whole.{field_sound, field_complete, IsRow, row_sound}
use Rattle.wasm_syntax.proofs.Grammar.Whole.{row_complete, functions_sound, functions_complete}
use Rattle.wasm_syntax.proofs.Grammar.Whole.{Holds, module_of, holds_of}
use Rattle.wasm_syntax.proofs.Grammar.Within.{Within, Reads-function_type_within_at}
use Rattle.wasm_syntax.proofs.Grammar.Within.{Reads-table_type_within_at, FitsImport}
use Rattle.wasm_syntax.proofs.Grammar.Within.{Reads-import_within_at, FitsGlobal}
use Rattle.wasm_syntax.proofs.Grammar.Within.{Reads-global_within_at, FitsElement}
use Rattle.wasm_syntax.proofs.Grammar.Within.{Reads-element_within_at, FitsData}
use Rattle.wasm_syntax.proofs.Grammar.Within.{Reads-data_within_at, FitsCode, Reads-code_within_at}

-- ---- fields whose items keep to a limit each

-- a field, where what it may stand for keeps to a limit
field_within : {X : Type 0} (IsContent : List ℕ → X → List ℕ → Type 0) (Fits : X
    → Type 0) (absent : X) (body : Option (List ℕ)) (x : X) → Fits absent
    → MatchOption body (x ≡ absent) (λ b. Within IsContent Fits b x [])
    → MatchOption body (x ≡ absent) (λ b. IsContent b x []) × Fits x
field_within {X} IsContent Fits absent None x fits h = (h, subst (λ (y : X). Fits y) (sym h) fits)
field_within IsContent Fits absent (Some b) x fits h = h

within_field : {X : Type 0} (IsContent : List ℕ → X → List ℕ → Type 0) (Fits : X
    → Type 0) (absent : X) (body : Option (List ℕ)) (x : X)
    → MatchOption body (x ≡ absent) (λ b. IsContent b x []) → Fits x
    → MatchOption body (x ≡ absent) (λ b. Within IsContent Fits b x [])
within_field IsContent Fits absent None x h fits = h
within_field IsContent Fits absent (Some b) x h fits = (h, fits)

row_within_sound : {X : Type 0} (IsItem : List ℕ → X → List ℕ → Type 0) (Fits : X
    → Type 0) (item_at : List ℕ → Option (X × List ℕ)) → Reads (Within IsItem Fits) item_at
    → (body : Option (List ℕ)) (xs : List X) → field_at (vector_at item_at) [] body ≡ Some xs
    → IsRow IsItem body xs × AllByRecursion Fits xs
row_within_sound {X} IsItem Fits item_at reads body xs e =
    let AllFit = λ (ys : List X). AllByRecursion Fits ys in
    field_within (IsVector IsItem) AllFit [] body xs tt
    (field_sound (Within (IsVector IsItem) AllFit) (vector_at item_at)
    (Reads-vector_at-within IsItem Fits item_at reads) [] body xs e)

row_within_complete : {X : Type 0} (IsItem : List ℕ → X → List ℕ → Type 0) (Fits : X
    → Type 0) (item_at : List ℕ → Option (X × List ℕ)) → Reads (Within IsItem Fits) item_at
    → (body : Option (List ℕ)) (xs : List X) → IsRow IsItem body xs → AllByRecursion Fits xs
    → field_at (vector_at item_at) [] body ≡ Some xs
row_within_complete {X} IsItem Fits item_at reads body xs h fits =
    let AllFit = λ (ys : List X). AllByRecursion Fits ys in
    field_complete (Within (IsVector IsItem) AllFit) (vector_at item_at)
    (Reads-vector_at-within IsItem Fits item_at reads) [] body xs
    (within_field (IsVector IsItem) AllFit [] body xs h fits)

-- the same of at most so many items
row_up_to_sound : {X : Type 0} (IsItem : List ℕ → X → List ℕ → Type 0) (item_at : List ℕ
    → Option (X × List ℕ)) (most : ℕ) → Reads IsItem item_at
    → (body : Option (List ℕ)) (xs : List X)
    → field_at (vector_up_to_at item_at most) [] body ≡ Some xs → IsRow IsItem body xs
    × (length xs ≤ most)
row_up_to_sound {X} IsItem item_at most reads body xs e =
    field_within (IsVector IsItem) (λ (ys : List X). length ys ≤ most) [] body xs (omega arith)
    (field_sound (IsVectorUpTo IsItem most) (vector_up_to_at item_at most)
    (Reads-vector_up_to_at IsItem item_at most reads) [] body xs e)

row_up_to_complete : {X : Type 0} (IsItem : List ℕ → X → List ℕ → Type 0) (item_at : List ℕ
    → Option (X × List ℕ)) (most : ℕ) → Reads IsItem item_at
    → (body : Option (List ℕ)) (xs : List X) → IsRow IsItem body xs → length xs ≤ most
    → field_at (vector_up_to_at item_at most) [] body ≡ Some xs
row_up_to_complete {X} IsItem item_at most reads body xs h few =
    field_complete (IsVectorUpTo IsItem most) (vector_up_to_at item_at most)
    (Reads-vector_up_to_at IsItem item_at most reads) [] body xs (within_field (IsVector IsItem)
    (λ (ys : List X). length ys ≤ most) [] body xs h few)

-- items of a list that keep to a limit each
row_fits : {X : Type 0} (IsItem : List ℕ → X → List ℕ → Type 0) (Fits : X
    → Type 0) (body : Option (List ℕ)) (xs : List X) → IsRow (Within IsItem Fits) body xs
    → IsRow IsItem body xs × AllByRecursion Fits xs
row_fits {X} IsItem Fits None xs h = (h, subst (λ (ys : List X). AllByRecursion Fits ys) (sym h) tt)
row_fits IsItem Fits (Some b) xs h = (let split = items_within IsItem Fits h.0 xs [] h.2 in
    ((h.0, h.1, split.0), split.1))

fits_row : {X : Type 0} (IsItem : List ℕ → X → List ℕ → Type 0) (Fits : X
    → Type 0) (body : Option (List ℕ)) (xs : List X) → IsRow IsItem body xs → AllByRecursion Fits xs
    → IsRow (Within IsItem Fits) body xs
fits_row IsItem Fits None xs h fits = h
fits_row IsItem Fits (Some b) xs h fits = (h.0, h.1, within_items IsItem Fits h.0 xs [] h.2 fits)

-- code by its size
Reads-sized_code : Reads (Within (IsSized IsCode) FitsCode) (sized_at code_within_at)
Reads-sized_code =
    let all = Reads-sized_at (Within IsCode FitsCode) code_within_at Reads-code_within_at in
    record {
      sound = λ bytes c rest e. (let h = all.sound bytes c rest e in ((h.0, h.1, h.2.0), h.2.1));
      complete = λ bytes c rest h. all.complete bytes c rest (h.0.0, h.0.1, (h.0.2, h.1));
    }

bodies_fit : (fs : List Function) → AllByRecursion FitsCode (map code_of fs)
    → AllByRecursion IsSmallFunction fs
bodies_fit [] h = tt
bodies_fit (f ∷ fs) h = (h.0, bodies_fit fs h.1)

fit_bodies : (fs : List Function) → AllByRecursion IsSmallFunction fs
    → AllByRecursion FitsCode (map code_of fs)
fit_bodies [] h = tt
fit_bodies (f ∷ fs) h = (h.0, fit_bodies fs h.1)

same_count : (fs : List Function) → length (map function_type_of fs) ≡ length fs
same_count [] = refl
same_count (f ∷ fs) = ap suc (same_count fs)

-- ---- what the sections hold

-- what is within the limits of a module, but for the size of its bytes
pub record Fits (m : Module) : Type 0 where
  pub types : AllByRecursion HasFewParameters m.types
  pub imports : AllByRecursion FitsImport m.imports
  pub functions : count_by is_function m.imports + length m.functions ≤ FUNCTIONS
  pub bodies : AllByRecursion IsSmallFunction m.functions
  pub tables : AllByRecursion IsSmallTable m.tables
  pub globals : length m.globals ≤ GLOBALS
  pub initials : AllByRecursion FitsGlobal m.globals
  pub element_offsets : AllByRecursion FitsElement m.elements
  pub data_offsets : AllByRecursion FitsData m.data_segments

count_left_sound : (imports : List Import) (count_left : ℕ) → functions_left imports
    ≡ Some count_left → count_by is_function imports + count_left ≡ FUNCTIONS
count_left_sound imports count_left e =
    let few = check_some (leb (count_by is_function imports) FUNCTIONS) _ _ e in
    omega (
      arith,
      leb-true _ _ few.0,
      some_is (FUNCTIONS - count_by is_function imports)
          count_left few.1,
    )

count_left_complete : (imports : List Import) → count_by is_function imports ≤ FUNCTIONS
    → functions_left imports ≡ Some (FUNCTIONS - count_by is_function imports)
count_left_complete imports h = rw (le-leb _ _ h) refl

pub contents_within_sound : (body : ℕ → Option (List ℕ)) (m : Module)
    → contents_within_at body ≡ Some m → Holds body m × Fits m
unfolding contents_within_at
contents_within_sound body m e =
    with_some (field_at (vector_at function_type_within_at) [] (body 1)) _ _ e (λ types is_types e.
    with_some (field_at (vector_at import_within_at) [] (body 2)) _ _ e (λ imports is_imports e.
    with_some (functions_left imports) _ _ e (λ count_left is_left e.
    with_some (field_at (vector_up_to_at leb_u32_at count_left) [] (body 3)) _ _ e
    (λ function_types is_function_types e.
    with_some (field_at (vector_at table_type_within_at) [] (body 4)) _ _ e (λ tables is_tables e.
    with_some (field_at (vector_at memory_type_at) [] (body 5)) _ _ e (λ memories is_memories e.
    with_some (field_at (vector_up_to_at global_within_at GLOBALS) [] (body 6)) _ _ e
    (λ globals is_globals e.
    with_some (field_at (vector_at export_at) [] (body 7)) _ _ e (λ exports is_exports e.
    with_some (field_at start_at None (body 8)) _ _ e (λ start_function is_start e.
    with_some (field_at (vector_at element_within_at) [] (body 9)) _ _ e (λ elements is_elements e.
    with_some (field_at (vector_at (sized_at code_within_at)) [] (body 10)) _ _ e
    (λ codes is_codes e.
    with_some (field_at (vector_at data_within_at) [] (body 11)) _ _ e
    (λ data_segments is_data_segments e.
    with_some (functions_of function_types codes) _ _ e (λ functions is_functions e.
    let made : Module = record {
      types = types;
      imports = imports;
      functions = functions;
      tables = tables;
      memories = memories;
      globals = globals;
      exports = exports;
      start = start_function;
      elements = elements;
      data_segments = data_segments;
    } in
    let paired = functions_sound function_types codes functions is_functions in
    let t = row_within_sound IsFunctionType HasFewParameters function_type_within_at
    Reads-function_type_within_at (body 1) types is_types in
    let i = row_within_sound IsImport FitsImport import_within_at Reads-import_within_at
    (body 2) imports is_imports in
    let f = row_up_to_sound IsU32 leb_u32_at count_left Reads-u32_at
    (body 3) function_types is_function_types in
    let tb = row_within_sound IsTableType IsSmallTable table_type_within_at
    Reads-table_type_within_at (body 4) tables is_tables in
    let gs = row_up_to_sound (Within IsGlobal FitsGlobal) global_within_at GLOBALS
    Reads-global_within_at (body 6) globals is_globals in
    let g = row_fits IsGlobal FitsGlobal (body 6) globals gs.0 in
    let es = row_within_sound IsElement FitsElement element_within_at Reads-element_within_at
    (body 9) elements is_elements in
    let cs = row_within_sound (IsSized IsCode) FitsCode (sized_at code_within_at) Reads-sized_code
    (body 10) codes is_codes in
    let ds = row_within_sound IsData FitsData data_within_at Reads-data_within_at
    (body 11) data_segments is_data_segments in
    let count : length functions ≤ count_left =
    omega (arith, same_count functions, ap length paired.0, f.1) in
    let held : Holds body made = record {
      types = t.0;
      imports = i.0;
      function_types = subst (λ (ts : List ℕ). IsRow IsU32 (body 3) ts) (sym paired.0) f.0;
      tables = tb.0;
      memories = row_sound IsMemoryType memory_type_at Reads-memory_type_at
          (body 5) memories is_memories;
      globals = g.0;
      exports = row_sound IsExport export_at Reads-export_at (body 7) exports is_exports;
      start = field_sound IsStartFunction start_at Reads-start_at None
          (body 8) start_function is_start;
      elements = es.0;
      codes = subst (λ (xs : List Code). IsRow (IsSized IsCode) (body 10) xs) (sym paired.1) cs.0;
      data_segments = ds.0;
    } in
    let fits : Fits made = record {
      types = t.1;
      imports = i.1;
      functions = omega (arith, count_left_sound imports count_left is_left, count);
      bodies = bodies_fit functions (subst (λ (xs : List Code). AllByRecursion FitsCode xs)
          (sym paired.1) cs.1);
      tables = tb.1;
      globals = gs.1;
      initials = g.1;
      element_offsets = es.1;
      data_offsets = ds.1;
    } in
    subst (λ (x : Module). Holds body x × Fits x) (some_is made m e) (held, fits))))))))))))))

pub contents_within_complete : (body : ℕ → Option (List ℕ)) (m : Module) → Holds body m → Fits m
    → contents_within_at body ≡ Some m
unfolding contents_within_at
contents_within_complete body m h fits =
    let room : length (map function_type_of m.functions)
    ≤ FUNCTIONS - count_by is_function m.imports = omega (
      arith,
      same_count m.functions,
      fits.functions,
    ) in
    let imported : count_by is_function m.imports ≤ FUNCTIONS = omega (arith, fits.functions) in
    rw (
      row_within_complete IsFunctionType HasFewParameters function_type_within_at
          Reads-function_type_within_at (body 1) m.types h.types fits.types,
      row_within_complete IsImport FitsImport import_within_at Reads-import_within_at
          (body 2) m.imports h.imports fits.imports,
      count_left_complete m.imports imported,
      row_up_to_complete IsU32 leb_u32_at (FUNCTIONS - count_by is_function m.imports) Reads-u32_at
          (body 3) (map function_type_of m.functions) h.function_types room,
      row_within_complete IsTableType IsSmallTable table_type_within_at Reads-table_type_within_at
          (body 4) m.tables h.tables fits.tables,
      row_complete IsMemoryType memory_type_at Reads-memory_type_at (body 5) m.memories h.memories,
      row_up_to_complete (Within IsGlobal FitsGlobal) global_within_at GLOBALS
          Reads-global_within_at (body 6) m.globals
          (fits_row IsGlobal FitsGlobal (body 6) m.globals h.globals fits.initials) fits.globals,
      row_complete IsExport export_at Reads-export_at (body 7) m.exports h.exports,
      field_complete IsStartFunction start_at Reads-start_at None (body 8) m.start h.start,
      row_within_complete IsElement FitsElement element_within_at Reads-element_within_at
          (body 9) m.elements h.elements fits.element_offsets,
      row_within_complete (IsSized IsCode) FitsCode (sized_at code_within_at) Reads-sized_code
          (body 10) (map code_of m.functions) h.codes (fit_bodies m.functions fits.bodies),
      row_within_complete IsData FitsData data_within_at Reads-data_within_at
          (body 11) m.data_segments h.data_segments fits.data_offsets,
      functions_complete m.functions,
    ) refl

-- ---- modules

pub limits_of : (bytes : List ℕ) (m : Module) → length bytes ≤ MODULE_BYTES → Fits m
    → IsWithinLimits bytes m
limits_of bytes m size fits = search

pub fits_of : (bytes : List ℕ) (m : Module) → IsWithinLimits bytes m → Fits m
fits_of bytes m is = search

pub module_within_sound : (bytes : List ℕ) (m : Module) → module_within_at bytes ≡ Some m
    → IsModule bytes m × IsWithinLimits bytes m
unfolding module_within_at
module_within_sound bytes m e =
    let size = check_some (leb (length bytes) MODULE_BYTES) _ _ e in
    with_some (fixed_at preamble bytes) _ _ size.1 (λ header is_header e.
    with_some (sections_at header.1) _ _ e (λ sections is_sections e.
    let both = contents_within_sound (λ id. body_of id sections) m e in (
      module_of bytes header.1 sections m (fixed_sound preamble bytes header.0 header.1 is_header)
          (sections_sound header.1 sections is_sections) both.0,
      limits_of bytes m (leb-true _ _ size.0) both.1,
    )))

pub module_within_complete : (bytes : List ℕ) (m : Module) → IsModule bytes m
    → IsWithinLimits bytes m → module_within_at bytes ≡ Some m
unfolding module_within_at
module_within_complete bytes m is fits =
    let size : leb (length bytes) MODULE_BYTES ≡ true = le-leb _ _ fits.size in
    let header : fixed_at preamble bytes ≡ Some (tt, is.after) =
    rw is.header (fixed_complete preamble is.after) in
    rw (
      size,
      header,
      sections_complete is.after is.sections is.in_order,
    ) (contents_within_complete (λ id.
    body_of id is.sections) m (holds_of bytes m is) (fits_of bytes m fits))

-- where nothing is read within the limits there is no such module
pub no_module_within : (bytes : List ℕ) → module_within_at bytes ≡ None → HasNoModule bytes
no_module_within bytes none m is fits =
    absurd (let t : None ≡ just m = sym none ∙ module_within_complete bytes m is fits in cc)
