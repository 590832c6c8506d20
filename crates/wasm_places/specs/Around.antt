-- The section in which a byte of a module lies, with the imports before it.
use Rattle.std.specs.Prelude.{◌≡◌, ℕ, ◌+◌, ◌==◌, if◌then◌else◌, List, Option, Some, None}
use Rattle.wasm_syntax.specs.rules.Modules.{Section, body_of}
use Rattle.wasm_places.specs.declared.sections.Around.{Around}
use Rattle.wasm_places.specs.declared.place.ModulePlace.{ModulePlace}
use Rattle.wasm_places.specs.declared.place.ModulePlace.TheVariants as place
use Rattle.wasm_places.specs.declared.entries.Entries.TheVariants.{Types, Codes}
use Rattle.wasm_places.specs.declared.reader.Part.{Part}
use Rattle.wasm_places.specs.Imported.{count_imported}
use Rattle.wasm_places.specs.Parts.{part_bytes}
use Rattle.wasm_places.specs.rules.Places.{IsInEntry, IsInSection}

abbrev pub section_with : ℕ → Part → Section
section_with id body = record { id = id; body = body.bytes.now }

-- the first section with the wanted id, of those before and this one
abbrev pub first_part : ℕ → Option Part → ℕ → Part → Option Part
first_part wanted (Some part) id body = Some part
first_part wanted None id body = if id == wanted then Some body else None

-- the byte at this offset lies in this section
pub record IsAround (bytes : List ℕ) (at : ℕ) (around : Around) : Type 0 where
  pub before : List Section
  pub is : IsInSection bytes at before (section_with around.id around.body) around.left
  pub imports_are : body_of 2 before ≡ part_bytes around.imports
  pub only : (others : List Section) (s : Section) (left : ℕ) → IsInSection bytes at others s left
      → (others ≡ before) × (s ≡ section_with around.id around.body) × (left ≡ around.left)

-- it lies in no section
abbrev pub LiesInNone : List ℕ → ℕ → Type 0
LiesInNone bytes at = (before : List Section) (s : Section) (left : ℕ)
    → IsInSection bytes at before s left → ⊥

-- ---- in the section: where the byte lies, by the section and the imports before it

-- in the function with this number
pub record IsFunctionIn (around : Around) (number : ℕ) : Type 0 where
  pub is_code : around.id ≡ 10
  pub imported : ℕ
  pub counted : count_imported (part_bytes around.imports) ≡ Some imported
  pub own : ℕ
  pub entry : IsInEntry Codes around.body.bytes.now around.left own
  pub number_is : number ≡ imported + own

-- in the type with this number
pub record IsTypeIn (around : Around) (number : ℕ) : Type 0 where
  pub is_types : around.id ≡ 1
  pub entry : IsInEntry Types around.body.bytes.now around.left number

-- in this function, or in none
abbrev pub FunctionIsIn : Around → Option ℕ → Type 0
FunctionIsIn around (Some number) = IsFunctionIn around number
FunctionIsIn around None = (number : ℕ) → IsFunctionIn around number → ⊥

-- in this type, or in none
abbrev pub TypeIsIn : Around → Option ℕ → Type 0
TypeIsIn around (Some number) = IsTypeIn around number
TypeIsIn around None = (number : ℕ) → IsTypeIn around number → ⊥

-- at this place
abbrev pub IsModulePlaceIn : Around → ModulePlace → Type 0
IsModulePlaceIn around (place.Function number) = IsFunctionIn around number
IsModulePlaceIn around (place.Type number) = IsTypeIn around number
IsModulePlaceIn around (place.Section id) =
    (id ≡ around.id) × FunctionIsIn around None × TypeIsIn around None
