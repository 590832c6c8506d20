-- Functions that are read one after another, and the first of them with a type.
use Rattle.std.proofs.Common.{◌≡◌, ℕ, ◌+◌, ◌-◌, ◌≤◌, ◌<◌, false, eqb, List, [], ◌∷◌}
use Rattle.std.proofs.Common.{◌++◌, length, map, Option, Some, None, refl, sym, ap, subst, ◌∙◌}
use Rattle.std.proofs.Common.{append_assoc, arith}
use Rattle.std.specs.Prelude.{option_map}
use Rattle.std.specs.List.{flat_map}
use Rattle.std.proofs.lemmas.Bool.{ne_eqb}
use Rattle.std.proofs.lemmas.List.{append-nil}
use Rattle.std.proofs.lemmas.Grind.{flat_map-append}
use Rattle.wasm_syntax.specs.declared.module.Import.{Import}
use Rattle.wasm_syntax.specs.rules.Items.{IsU32}
use Rattle.wasm_syntax.specs.rules.Modules.{IsImport, Section, body_of}
use Rattle.wasm_syntax.specs.laws.ReadingItems.{◌>>=◌, items_at, leb_u32_at, vector_at}
use Rattle.wasm_syntax.specs.laws.ReadingModules.{field_at, import_at}
use Rattle.wasm_syntax.proofs.Grammar.Entries.{Reads-import_at}
use Rattle.wasm_syntax.proofs.Grammar.Exact.{bind_some, parts, some_is}
use Rattle.wasm_syntax.proofs.Grammar.Integers.{Reads-u32_at}
use Rattle.wasm_syntax.proofs.Grammar.Loops.{with_front, with_front-nil, items_go_on, items_fail}
use Rattle.wasm_syntax.proofs.Grammar.Loops.{items_are_done}
use Rattle.wasm_syntax.proofs.Grammar.Whole.{IsRow, row_complete, row_sound}
use Rattle.wasm_places.specs.declared.sections.FunctionSections.{FunctionSections}
use Rattle.wasm_places.specs.declared.uses.Declaring.{Declaring}
use Rattle.wasm_places.specs.declared.uses.Declaring.TheVariants.{Imports, Own}
use Rattle.wasm_places.specs.declared.uses.Search.{Search}
use Rattle.wasm_places.specs.declared.uses.TypedFunction.{TypedFunction}
use Rattle.wasm_places.specs.Parts.{part_bytes}
use Rattle.wasm_places.specs.Uses.{FindsFirst, HoldsFunctionSections, IsSearched, ItemOf}
use Rattle.wasm_places.specs.Uses.{SearchesAll, SearchesIn, SearchesOn, declared_at}
use Rattle.wasm_places.specs.Uses.{declared_functions, item_functions, item_at}
use Rattle.wasm_places.specs.rules.Uses.{AreAllSections, DeclaredFunction, DeclaresFunctions}
use Rattle.wasm_places.specs.rules.Uses.{imported_function, own_function}
use Rattle.wasm_places.proofs.Walks.{none_some}

-- ---- one more function

module _ (wanted : ℕ) where
  -- ---- a search that goes on

  pub searched_none : (before : Search) → SearchesOn wanted before [] before
  searched_none before earlier h =
      subst (λ (fs : List DeclaredFunction). IsSearched wanted fs before)
      (sym (append-nil earlier)) h

  pub searched_both : (a b c : Search) (first second : List DeclaredFunction)
      → SearchesOn wanted a first b → SearchesOn wanted b second c
      → SearchesOn wanted a (first ++ second) c
  searched_both a b c first second h k earlier from =
      subst (λ (fs : List DeclaredFunction). IsSearched wanted fs c)
      (append_assoc earlier first second) (k (earlier ++ first) (h earlier from))

-- ---- a section

flat_map_one : (d : Declaring) (x : ItemOf d)
    → flat_map (item_functions d) (x ∷ []) ≡ item_functions d x
flat_map_one d x = append-nil (item_functions d x)

-- so many items were read, and their functions are searched
pub record SearchedSoFar (d : Declaring) (section : List ℕ) (wanted : ℕ) (before : Search)
    (count number : ℕ) (search : Search) (now : List ℕ) : Type 0 where
  pub items : List ℕ
  pub counted : leb_u32_at section ≡ Some (count, items)
  pub front : List (ItemOf d)
  pub so_far : with_front front (items_at (item_at d) (count - number) now)
      ≡ items_at (item_at d) count items
  pub searched : SearchesOn wanted before (flat_map (item_functions d) front) search
  pub few : search.functions ≤ before.functions + number

module _ (d : Declaring) (section : List ℕ) (wanted : ℕ) (before : Search) where
  pub no_count : leb_u32_at section ≡ None → declared_functions d (Some section) ≡ None
  unfolding vector_at
  no_count e = rw e refl

  pub search_begins : (count : ℕ) (items : List ℕ) → leb_u32_at section ≡ Some (count, items)
      → SearchedSoFar d section wanted before count 0 before items
  search_begins count items counted = record {
    items = items;
    counted = counted;
    front = [];
    so_far = (let all : count - 0 ≡ count = omega arith in
        rw all (with_front-nil (items_at (item_at d) count items)));
    searched = searched_none wanted before;
    few = omega arith;
  }

  -- the item that is such functions
  item_of : (now : List ℕ) (functions : List DeclaredFunction) (after : List ℕ)
      → declared_at d now ≡ Some (functions, after)
      → (x : ItemOf d) × (item_at d now ≡ Some (x, after)) × (item_functions d x ≡ functions)
  item_of now functions after e =
      let read = bind_some (item_at d now) _ _ e in
      let same = parts (item_functions d read.0.0) functions read.0.1 after read.2 in (
        read.0.0,
        read.1 ∙ ap (λ (r : List ℕ). Some (read.0.0, r)) same.1,
        same.0,
      )

  abbrev as_functions : ItemOf d × List ℕ → Option (List DeclaredFunction × List ℕ)
  as_functions x = Some (item_functions d x.0, x.1)

  no_item : (now : List ℕ) → declared_at d now ≡ None → item_at d now ≡ None
  no_item now e = by_item (item_at d now) e where
    by_item : (o : Option (ItemOf d × List ℕ)) → (o >>= as_functions) ≡ None → o ≡ None
    by_item None e = refl
    by_item (Some x) e = absurd cc

  module _ (count number : ℕ) (search : Search) (now : List ℕ) (s : SearchedSoFar d section wanted
      before count number search now) where
    pub search_goes_on : (functions : List DeclaredFunction) (after : List ℕ) (next : Search)
        → number < count → declared_at d now ≡ Some (functions, after)
        → SearchesOn wanted search functions next → next.functions ≤ search.functions + 1
        → SearchedSoFar d section wanted before count (number + 1) next after
    search_goes_on functions after next lt read one grows =
        let x = item_of now functions after read in record {
          items = s.items;
          counted = s.counted;
          front = s.front ++ x.0 ∷ [];
          so_far = items_go_on (item_at d) s.front count number now
              (items_at (item_at d) count s.items) x.0 after lt x.1 s.so_far;
          searched = subst (λ (fs : List DeclaredFunction). SearchesOn wanted before fs next)
              (ap (λ (fs : List DeclaredFunction). flat_map (item_functions d) s.front ++ fs)
              (sym (flat_map_one d x.0 ∙ x.2))
              ∙ sym (flat_map-append (item_functions d) s.front (x.0 ∷ [])))
              (searched_both wanted before search next (flat_map (item_functions d) s.front)
              functions s.searched one);
          few = omega (arith, s.few, grows);
        }

    pub search_fails : number < count → declared_at d now ≡ None
        → declared_functions d (Some section) ≡ None
    unfolding vector_at
    search_fails lt none =
        let all = items_fail (item_at d) s.front count number now
        (items_at (item_at d) count s.items) lt (no_item now none) s.so_far in
        rw (s.counted, all) refl

    all_read : count ≤ number → items_at (item_at d) count s.items ≡ Some (s.front, now)
    all_read done = items_are_done (item_at d) s.front count number now
        (items_at (item_at d) count s.items) done s.so_far

    pub search_done : count ≤ number → now ≡ []
        → SearchesIn wanted before (declared_functions d (Some section)) (Some search)
    unfolding vector_at
    search_done done ended =
        (flat_map (item_functions d) s.front, rw (s.counted, all_read done, ended) refl, s.searched)

    pub search_leaves : count ≤ number → (now ≡ [] → ⊥) → declared_functions d (Some section) ≡ None
    unfolding vector_at
    search_leaves done more = by_rest now (all_read done) more where
      by_rest : (rest : List ℕ) → items_at (item_at d) count s.items ≡ Some (s.front, rest)
          → (rest ≡ [] → ⊥) → declared_functions d (Some section) ≡ None
      by_rest [] e more = absurd (more refl)
      by_rest (b ∷ rest) e more =
          let some_left : eqb (length (b ∷ rest)) 0 ≡ false =
          ne_eqb (length (b ∷ rest)) 0 (λ none. absurd (omega (arith, none))) in
          rw (s.counted, e, some_left) refl

-- ---- both sections

-- the functions of a section that is read
read_of : {X : Type 0} (f : X → List DeclaredFunction) (items : Option (List X))
    (functions : List DeclaredFunction) → option_map (flat_map f) items ≡ Some functions
    → (xs : List X) × (items ≡ Some xs) × (functions ≡ flat_map f xs)
read_of f (Some xs) functions e = (xs, refl, sym (some_is (flat_map f xs) functions e))
read_of f None functions e = absurd cc

own_functions : (ts : List ℕ) → flat_map (item_functions Own) ts ≡ map own_function ts
own_functions [] = refl
own_functions (t ∷ ts) = ap (λ (fs : List DeclaredFunction). own_function t ∷ fs) (own_functions ts)

module _ (bytes : List ℕ) (wanted : ℕ) where
  pub no_sections : ((sections : List Section) → AreAllSections bytes sections → ⊥)
      → SearchesAll bytes wanted None
  no_sections none functions h = none h.sections h.are

  module _ (both : FunctionSections) (held : HoldsFunctionSections bytes both) where
    -- what a claim says of the two sections
    claimed_imports : (functions : List DeclaredFunction) (h : DeclaresFunctions bytes functions)
        → declared_functions Imports (part_bytes both.imports)
        ≡ Some (flat_map imported_function h.imports)
    claimed_imports functions h =
        ap (λ (o : Option (List Import)). option_map (flat_map imported_function) o)
        (row_complete IsImport import_at Reads-import_at (part_bytes both.imports) h.imports
        (subst (λ (o : Option (List ℕ)). IsRow IsImport o h.imports)
        (ap (λ (ss : List Section). body_of 2 ss) (held.only h.sections h.are)
        ∙ held.imports_are) h.imported))

    claimed_own : (functions : List DeclaredFunction) (h : DeclaresFunctions bytes functions)
        → declared_functions Own (part_bytes both.function_types)
        ≡ Some (flat_map (item_functions Own) h.own)
    claimed_own functions h =
        ap (λ (o : Option (List ℕ)). option_map (flat_map (item_functions Own)) o)
        (row_complete IsU32 leb_u32_at Reads-u32_at (part_bytes both.function_types) h.own
        (subst (λ (o : Option (List ℕ)). IsRow IsU32 o h.own)
        (ap (λ (ss : List Section). body_of 3 ss) (held.only h.sections h.are)
        ∙ held.function_types_are) h.declared))

    pub no_imports : declared_functions Imports (part_bytes both.imports) ≡ None
        → SearchesAll bytes wanted None
    no_imports none functions h =
        none_some (flat_map imported_function h.imports)
        (sym none ∙ claimed_imports functions h)

    no_own : declared_functions Own (part_bytes both.function_types) ≡ None
        → SearchesAll bytes wanted None
    no_own none functions h =
        none_some (flat_map (item_functions Own) h.own) (sym none ∙ claimed_own functions h)

    declared : (imported own : List DeclaredFunction)
        → declared_functions Imports (part_bytes both.imports) ≡ Some imported
        → declared_functions Own (part_bytes both.function_types) ≡ Some own
        → DeclaresFunctions bytes (imported ++ own)
    declared imported own is_imported is_own =
        let imports = read_of imported_function
        (field_at (vector_at import_at) [] (part_bytes both.imports)) imported is_imported in
        let types = read_of (item_functions Own)
        (field_at (vector_at leb_u32_at) [] (part_bytes both.function_types)) own is_own in record {
          sections = held.sections;
          are = held.are;
          imports = imports.0;
          imported = row_sound IsImport import_at Reads-import_at (body_of 2 held.sections)
              imports.0
              (subst (λ (o : Option (List ℕ)). field_at (vector_at import_at) [] o
              ≡ Some imports.0) (sym held.imports_are) imports.1);
          own = types.0;
          declared = row_sound IsU32 leb_u32_at Reads-u32_at (body_of 3 held.sections) types.0
              (subst (λ (o : Option (List ℕ)). field_at (vector_at leb_u32_at) [] o
              ≡ Some types.0) (sym held.function_types_are) types.1);
          functions_are = ap (λ (fs : List DeclaredFunction). fs ++ own) imports.2
              ∙ ap (λ (fs : List DeclaredFunction). flat_map imported_function imports.0 ++ fs)
              (types.2 ∙ own_functions types.0);
        }

    pub both_searched : (none imported : Search) (o : Option Search)
        → none.functions ≡ 0 → none.found ≡ None
        → SearchesIn wanted none (declared_functions Imports (part_bytes both.imports))
        (Some imported)
        → SearchesIn wanted imported (declared_functions Own (part_bytes both.function_types)) o
        → SearchesAll bytes wanted o
    both_searched none imported None zero unfound first second = no_own second
    both_searched none imported (Some search) zero unfound first second = (
      first.0 ++ second.0,
      declared first.0 second.0 first.1 second.1,
      searched_both wanted none imported search first.0 second.0 first.2 second.2 [] (
        zero,
        subst (λ (found : Option TypedFunction). FindsFirst wanted [] found) (sym unfound)
            tt,
      ),
    )
