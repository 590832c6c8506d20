-- From the section in which a byte lies to its place.
use Rattle.std.proofs.Common.{◌≡◌, ℕ, ◌+◌, List, [], Option, Some, None, refl, sym, ap, subst, ◌∙◌}
use Rattle.std.specs.Prelude.{option_map}
use Rattle.wasm_syntax.specs.declared.module.Import.{Import}
use Rattle.wasm_syntax.specs.rules.Items.{IsVector}
use Rattle.wasm_syntax.specs.rules.Modules.{Section, IsImport, IsField, body_of}
use Rattle.wasm_syntax.specs.laws.ReadingItems.{vector_at}
use Rattle.wasm_syntax.specs.laws.ReadingModules.{field_at, import_at}
use Rattle.wasm_syntax.proofs.Grammar.Exact.{some_is}
use Rattle.wasm_syntax.proofs.Grammar.Entries.{Reads-import_at}
use Rattle.wasm_syntax.proofs.Grammar.Whole.{row_complete, row_sound}
use Rattle.wasm_places.specs.declared.place.ModulePlace.{ModulePlace}
use Rattle.wasm_places.specs.declared.place.ModulePlace.TheVariants as place
use Rattle.wasm_places.specs.declared.entries.Entries.TheVariants.{Types, Codes}
use Rattle.wasm_places.specs.declared.sections.Around.{Around}
use Rattle.wasm_places.specs.Around.{FunctionIsIn, IsAround, IsFunctionIn, IsModulePlaceIn}
use Rattle.wasm_places.specs.Around.{IsTypeIn, LiesInNone, TypeIsIn, section_with}
use Rattle.wasm_places.specs.Imported.{count_functions, count_imported}
use Rattle.wasm_places.specs.Parts.{part_bytes}
use Rattle.wasm_places.specs.rules.Places.{HasNoPlace, IsInEntry, IsInFunction, IsInSection}
use Rattle.wasm_places.specs.rules.Places.{IsInType, IsModulePlace}

-- ---- imports that are counted

counted_of : (imports : Option (List Import)) (n : ℕ) → option_map count_functions imports ≡ Some n
    → (xs : List Import) × (imports ≡ Some xs) × (n ≡ count_functions xs)
counted_of (Some xs) n e = (xs, refl, sym (some_is (count_functions xs) n e))
counted_of None n e = absurd cc

imports_of : (before : List Section) (section : Option (List ℕ)) (n : ℕ)
    → body_of 2 before ≡ section → count_imported section ≡ Some n
    → (xs : List Import) × IsField before 2 (IsVector IsImport) [] xs × (n ≡ count_functions xs)
imports_of before section n is e =
    let xs = counted_of (field_at (vector_at import_at) [] section) n e in (
      xs.0,
      row_sound IsImport import_at Reads-import_at (body_of 2 before) xs.0
          (subst (λ (o : Option (List ℕ)). field_at (vector_at import_at) [] o ≡ Some xs.0) (sym is)
          xs.1),
      xs.2,
    )

of_imports : (before : List Section) (section : Option (List ℕ)) (xs : List Import)
    → body_of 2 before ≡ section → IsField before 2 (IsVector IsImport) [] xs
    → count_imported section ≡ Some (count_functions xs)
of_imports before section xs is field =
    subst (λ (o : Option (List ℕ)). count_imported o ≡ Some (count_functions xs)) is
    (ap (λ (o : Option (List Import)). option_map count_functions o)
    (row_complete IsImport import_at Reads-import_at (body_of 2 before) xs field))

-- ---- in the section that is found

module _ (bytes : List ℕ) (at : ℕ) (around : Around) (a : IsAround bytes at around) where
  abbrev here : ℕ → Section
  here id = record { id = id; body = around.body.bytes.now }

  with_id : (id : ℕ) → around.id ≡ id → IsInSection bytes at a.before (here id) around.left
  with_id id is =
      subst (λ (k : ℕ). IsInSection bytes at a.before (here k) around.left) is a.is

  in_function : (number : ℕ) → IsFunctionIn around number → IsInFunction bytes at number
  in_function number h =
      let imports = imports_of a.before (part_bytes around.imports) h.imported a.imports_are
      h.counted in record {
        before = a.before;
        body = around.body.bytes.now;
        left = around.left;
        section = with_id 10 h.is_code;
        imports = imports.0;
        imported = imports.1;
        own = h.own;
        entry = h.entry;
        number_is = h.number_is ∙ ap (λ (n : ℕ). n + h.own) imports.2;
      }

  in_type : (number : ℕ) → IsTypeIn around number → IsInType bytes at number
  in_type number h = record {
    before = a.before;
    body = around.body.bytes.now;
    left = around.left;
    section = with_id 1 h.is_types;
    entry = h.entry;
  }

  id_is : (s : Section) → s ≡ section_with around.id around.body → around.id ≡ s.id
  id_is s e = sym (ap (λ (t : Section). t.id) e)

  no_function : FunctionIsIn around None → (number : ℕ) → IsInFunction bytes at number → ⊥
  no_function none number h =
      let s : Section = record { id = 10; body = h.body } in
      let same = a.only h.before s h.left h.section in
      let body : h.body ≡ around.body.bytes.now = ap (λ (t : Section). t.body) same.1 in
      none number (record {
        is_code = id_is s same.1;
        imported = count_functions h.imports;
        counted = of_imports h.before (part_bytes around.imports) h.imports
            (ap (λ (ss : List Section). body_of 2 ss) same.0 ∙ a.imports_are) h.imported;
        own = h.own;
        entry = subst (λ (n : ℕ). IsInEntry Codes around.body.bytes.now n h.own) same.2
            (subst (λ (b : List ℕ). IsInEntry Codes b h.left h.own) body h.entry);
        number_is = h.number_is;
      })

  no_type : TypeIsIn around None → (number : ℕ) → IsInType bytes at number → ⊥
  no_type none number h =
      let s : Section = record { id = 1; body = h.body } in
      let same = a.only h.before s h.left h.section in
      let body : h.body ≡ around.body.bytes.now = ap (λ (t : Section). t.body) same.1 in
      none number (record {
        is_types = id_is s same.1;
        entry = subst (λ (n : ℕ). IsInEntry Types around.body.bytes.now n number) same.2
            (subst (λ (b : List ℕ). IsInEntry Types b h.left number) body h.entry);
      })

  pub place_is : (p : ModulePlace) → IsModulePlaceIn around p → IsModulePlace bytes at p
  place_is (place.Function number) h = in_function number h
  place_is (place.Type number) h = in_type number h
  place_is (place.Section id) h = (
    (a.before, section_with around.id around.body, around.left, a.is, sym h.0),
    no_function h.1,
    no_type h.2,
  )

-- ---- in none

pub no_place : (bytes : List ℕ) (at : ℕ) → LiesInNone bytes at → HasNoPlace bytes at
no_place bytes at none (place.Function number) h =
    none h.before (record { id = 10; body = h.body }) h.left h.section
no_place bytes at none (place.Type number) h =
    none h.before (record { id = 1; body = h.body }) h.left h.section
no_place bytes at none (place.Section id) h = none h.0.0 h.0.1 h.0.2 h.0.3
