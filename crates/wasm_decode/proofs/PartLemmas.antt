-- Parts of a module, by the bytes of its sections.
use Rattle.std.proofs.Common.{◌≡◌, ◌∙◌, ℕ, ◌<◌, leb, List, [], ◌++◌, Option, Some, None}
use Rattle.std.proofs.Common.{refl, sym, ap, subst, arith}
use Rattle.std.specs.Prelude.{MatchOption, Result, Ok, Err, count_by}
use Rattle.std.specs.List.{AllByRecursion}
use Rattle.std.proofs.lemmas.Bool.{leb-true, le-leb}
use Rattle.wasm_syntax.specs.declared.types.FunctionType.{FunctionType}
use Rattle.wasm_syntax.specs.declared.module.Import.{Import}
use Rattle.wasm_syntax.specs.declared.limits.TheConstants.{FUNCTIONS}
use Rattle.wasm_syntax.specs.rules.Items.{IsVector, IsFunctionType}
use Rattle.wasm_syntax.specs.rules.Modules.{Section, AreSections, IsImport, body_of, preamble}
use Rattle.wasm_syntax.specs.rules.Limits.{HasFewParameters, is_function}
use Rattle.wasm_syntax.specs.laws.ReadingItems.{◌>>=◌, fixed_at, leb_u32_at, vector_at}
use Rattle.wasm_syntax.specs.laws.ReadingModules.{field_at}
use Rattle.wasm_syntax.specs.laws.ReadingWithin.{function_type_within_at, import_within_at}
use Rattle.wasm_syntax.specs.laws.ReadingWithin.{functions_left}
use Rattle.wasm_syntax.proofs.Grammar.Exact.{Reads, bind_some, check_some, just, parts, some_is}
use Rattle.wasm_syntax.proofs.Grammar.Integers.{Reads-u32_at, fixed_sound, fixed_complete}
use Rattle.wasm_syntax.proofs.Grammar.Rising.{same_sections}
use Rattle.wasm_syntax.proofs.Grammar.Whole.{IsRow}
use Rattle.wasm_syntax.proofs.Grammar.Vectors.{Reads-vector_at-within, whole_sound, whole_complete}
use Rattle.wasm_syntax.proofs.Grammar.Within.{Within, FitsImport, Reads-import_within_at}
use Rattle.wasm_syntax.proofs.Grammar.Within.{Reads-function_type_within_at}
use Rattle.wasm_decode.specs.declared.items.span.Span.{Span}
use Rattle.wasm_decode.specs.declared.items.fault.ItemFault.{ItemFault}
use Rattle.wasm_decode.specs.declared.items.fault.ItemFault.TheVariants as read
use Rattle.wasm_decode.specs.declared.imported.Imports.{Imports}
use Rattle.wasm_decode.specs.declared.fault.DecodeFault.TheVariants.{Memory}
use Rattle.wasm_decode.specs.declared.code_faults.CodeFaults.{CodeFaults}
use Rattle.wasm_decode.specs.rules.Parts.{AreFaultsOf, AreSectionFaults, HasCodeFaults, SpellsField}
use Rattle.wasm_decode.specs.rules.Parts.{HasImports, HasTypes, no_faults}
use Rattle.wasm_decode.specs.Answers.{GivesAll}
use Rattle.wasm_decode.specs.Contents.{imports_at, no_imports}
use Rattle.wasm_decode.specs.Items.Answers.{FailsToRead}
use Rattle.wasm_decode.specs.Parts.{FindsPart, HasNoSections, OpensSections}
use Rattle.wasm_decode.specs.Sections.{held, NoSections, Splits}
use Rattle.wasm_decode.proofs.Imports.{imports_step}

pub none_some : {A : Type 0} (x : A) → None ≡ just x → ⊥
none_some x e = absurd cc

-- ---- the sections

-- there is one list of bytes behind the header
behind_header : (bytes after others : List ℕ) (x : Unit {0}) → fixed_at preamble bytes
    ≡ Some (x, after) → bytes ≡ preamble ++ others → others ≡ after
behind_header bytes after others x e header =
    let read : fixed_at preamble bytes ≡ Some (tt, others) =
    rw header (fixed_complete preamble others) in
    (parts tt x others after (sym read ∙ e)).1

pub opened : (bytes after : List ℕ) (x : Unit {0}) (bodies : List (Option Span)) (ss : List Section)
    → fixed_at preamble bytes ≡ Some (x, after) → Splits after bodies ss
    → OpensSections bytes bodies
opened bytes after x bodies ss e split = record {
  after = after;
  sections = ss;
  header = fixed_sound preamble bytes x after e;
  split = split;
}

pub no_header : (bytes : List ℕ) → fixed_at preamble bytes ≡ None → HasNoSections bytes
no_header bytes e after ss header are =
    let read : fixed_at preamble bytes ≡ Some (tt, after) =
    rw header (fixed_complete preamble after) in
    none_some (tt, after) (sym e ∙ read)

pub unopened : (bytes after : List ℕ) (x : Unit {0}) → fixed_at preamble bytes ≡ Some (x, after)
    → NoSections 0 after → HasNoSections bytes
unopened bytes after x e none others ss header are =
    none ss (subst (λ (a : List ℕ). AreSections 0 a ss) (behind_header bytes after others x e
    header) are)

module _ {R : Type 0} (bytes after : List ℕ) (x : Unit {0}) (bodies : List (Option Span)) (header :
    fixed_at preamble bytes ≡ Some (x, after)) where
  pub split_opens : (fault : Option R) → fault ≡ None
      → MatchOption fault ((ss : List Section) × Splits after bodies ss) (λ _. NoSections 0 after)
      → OpensSections bytes bodies
  split_opens None is h = opened bytes after x bodies h.0 header h.1
  split_opens (Some r) is h = absurd cc

  pub split_fails : (fault : Option R) (r : R) → fault ≡ Some r
      → MatchOption fault ((ss : List Section) × Splits after bodies ss) (λ _. NoSections 0 after)
      → HasNoSections bytes
  split_fails None r is h = absurd cc
  split_fails (Some q) r is h = unopened bytes after x header h

-- ---- one section

module _ (bytes : List ℕ) (bodies : List (Option Span)) (o : OpensSections bytes bodies) (id : ℕ)
    (low : 0 < id) (high : id < 12) where
  pub field_here : {X : Type 0} (IsContent : List ℕ → X → List ℕ → Type 0) (absent x : X)
      → MatchOption (held bodies id) (x ≡ absent) (λ b. IsContent b x [])
      → SpellsField bytes id IsContent absent x
  field_here IsContent absent x h = record {
    after = o.after;
    sections = o.sections;
    header = o.header;
    in_order = o.split.in_order;
    field = subst (λ (body : Option (List ℕ)). MatchOption body (x ≡ absent)
        (λ b. IsContent b x [])) (o.split.bodies_of id low high) h;
  }

  pub field_held : {X : Type 0} (IsContent : List ℕ → X → List ℕ → Type 0) (absent x : X)
      → SpellsField bytes id IsContent absent x
      → MatchOption (held bodies id) (x ≡ absent) (λ b. IsContent b x [])
  field_held IsContent absent x f =
      let read : fixed_at preamble bytes ≡ Some (tt, o.after) =
      rw o.header (fixed_complete preamble o.after) in
      let after = behind_header bytes o.after f.after tt read f.header in
      let same = same_sections 0 o.after o.sections f.sections o.split.in_order
      (subst (λ (a : List ℕ). AreSections 0 a f.sections) after f.in_order) in
      subst (λ (body : Option (List ℕ)). MatchOption body (x ≡ absent) (λ b. IsContent b x []))
      (sym (o.split.bodies_of id low high ∙ ap (body_of id) same)) f.field

-- ---- a section of items that keep to a limit each

module _ {X : Type 0} (IsItem : List ℕ → X → List ℕ → Type 0) (Fits : X → Type 0) (item_at : List ℕ
    → Option (X × List ℕ)) (reads : Reads (Within IsItem Fits) item_at) where
  row_found : (body : Option (List ℕ)) (xs : List X)
      → field_at (vector_at item_at) [] body ≡ Some xs
      → IsRow IsItem body xs × AllByRecursion Fits xs
  row_found None xs e =
      let none : xs ≡ [] = sym (some_is [] xs e) in
      (none, subst (λ (ys : List X). AllByRecursion Fits ys) (sym none) tt)
  row_found (Some b) xs e =
      whole_sound (Within (IsVector IsItem) (λ (ys : List X). AllByRecursion Fits ys))
      (vector_at item_at) (Reads-vector_at-within IsItem Fits item_at reads) b xs e

  row_held : (body : Option (List ℕ)) (xs : List X) → IsRow IsItem body xs
      → AllByRecursion Fits xs → field_at (vector_at item_at) [] body ≡ Some xs
  row_held None xs h fits = ap just (sym h)
  row_held (Some b) xs h fits =
      whole_complete (Within (IsVector IsItem) (λ (ys : List X). AllByRecursion Fits ys))
      (vector_at item_at) (Reads-vector_at-within IsItem Fits item_at reads) b xs (h, fits)

-- ---- types, imports and code

module _ (bytes : List ℕ) (bodies : List (Option Span)) (o : OpensSections bytes bodies) where
  pub types_part : (r : Result (List FunctionType) ItemFault)
      → GivesAll r (field_at (vector_at function_type_within_at) [] (held bodies 1))
      → FindsPart (HasTypes bytes) r
  types_part (Ok types) e =
      let found = row_found IsFunctionType HasFewParameters function_type_within_at
      Reads-function_type_within_at (held bodies 1) types e in (
        field_here bytes bodies o 1 (omega arith) (omega arith) (IsVector IsFunctionType) [] types
            found.0,
        found.1,
      )
  types_part (Err read.Memory) e = tt
  types_part (Err (read.Refused refusal)) e = λ types h.
      none_some types (sym e ∙ row_held IsFunctionType HasFewParameters function_type_within_at
      Reads-function_type_within_at (held bodies 1) types (field_held bytes bodies o 1 (omega arith)
      (omega arith) (IsVector IsFunctionType) [] types h.0) h.1)

  abbrev imports_read : Option (List Import)
  imports_read = field_at (vector_at import_within_at) [] (held bodies 2)
      >>= λ imports. functions_left imports >>= λ count_left. Some imports

  abbrev imports_kept : Option (List Import)
  imports_kept = field_at imports_at no_imports (held bodies 2) >>= λ imports. Some imports.items

  imports_same : imports_read ≡ imports_kept
  imports_same = imports_step (held bodies 2) (λ imports count_left. Some imports)

  pub imports_found : (imports : Imports)
      → field_at imports_at no_imports (held bodies 2) ≡ Some imports
      → HasImports bytes imports.items
  imports_found imports e =
      let kept : imports_kept ≡ Some imports.items = rw e refl in
      let all = bind_some (field_at (vector_at import_within_at) [] (held bodies 2)) _ _
      (imports_same ∙ kept) in
      let few = bind_some (functions_left all.0) _ _ all.2 in
      let test = check_some (leb (count_by is_function all.0) FUNCTIONS) _ _ few.1 in
      let same : all.0 ≡ imports.items = some_is all.0 imports.items few.2 in
      let found = row_found IsImport FitsImport import_within_at Reads-import_within_at
      (held bodies 2) all.0 all.1 in
      subst (λ (is : List Import). HasImports bytes is) same (
        field_here bytes bodies o 2 (omega arith) (omega arith) (IsVector IsImport) [] all.0
            found.0,
        found.1,
        leb-true _ _ test.0,
      )

  pub no_imports_found : field_at imports_at no_imports (held bodies 2) ≡ None
      → (imports : List Import) → HasImports bytes imports → ⊥
  no_imports_found e imports h =
      let kept : imports_kept ≡ None = rw e refl in
      let all = row_held IsImport FitsImport import_within_at Reads-import_within_at
      (held bodies 2) imports (field_held bytes bodies o 2 (omega arith) (omega arith)
      (IsVector IsImport) [] imports h.0) h.1 in
      let found : imports_read ≡ Some imports = rw (all, le-leb _ _ h.2) refl in
      none_some imports (sym kept ∙ sym imports_same ∙ found)

  pub imports_fail : (e : ItemFault)
      → FailsToRead e (field_at imports_at no_imports (held bodies 2))
      → FindsPart (HasImports bytes) (Err e)
  imports_fail read.Memory h = tt
  imports_fail (read.Refused refusal) h = no_imports_found h

  pub code_with_count : (body : List ℕ) (count : ℕ) (entries : List ℕ) (found : CodeFaults)
      → Some body ≡ held bodies 10 → leb_u32_at body ≡ Some (count, entries)
      → AreFaultsOf count entries found → HasCodeFaults bytes found
  code_with_count body count entries found is e faults =
      let list : AreSectionFaults body found [] = record {
        count = count;
        entries = entries;
        counted = Reads-u32_at.sound body count entries e;
        faults = faults;
      } in
      field_here bytes bodies o 10 (omega arith) (omega arith) AreSectionFaults no_faults found
      (subst (λ (b : Option (List ℕ)). MatchOption b (found ≡ no_faults)
      (λ c. AreSectionFaults c found [])) is list)

  pub code_without_count : (body : List ℕ) → Some body ≡ held bodies 10 → leb_u32_at body ≡ None
      → (found : CodeFaults) → HasCodeFaults bytes found → ⊥
  code_without_count body is e found h =
      let list = subst (λ (b : Option (List ℕ)). MatchOption b (found ≡ no_faults)
      (λ c. AreSectionFaults c found [])) (sym is) (field_held bytes bodies o 10 (omega arith)
      (omega arith) AreSectionFaults no_faults found h) in
      none_some (list.count, list.entries) (sym e ∙ Reads-u32_at.complete body list.count
      list.entries list.counted)

-- ---- the faults that callers see
