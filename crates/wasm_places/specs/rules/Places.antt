-- Where in a module's bytes one of them lies (this project's own, in the words of the binary
-- grammar). Inside a section the byte is named by how many bytes are left from it on, itself among
-- them.
use Rattle.std.specs.Prelude.{◌≡◌, ℕ, ◌+◌, ◌<◌, ◌≤◌, List, [], ◌++◌, length, count_by, Option, Some}
use Rattle.std.specs.Prelude.{None}
use Rattle.wasm_syntax.specs.declared.module.Import.{Import}
use Rattle.wasm_syntax.specs.rules.Items.{IsThisByte, IsU32, AreItems, IsVector, IsBytes}
use Rattle.wasm_syntax.specs.rules.Modules.{Section, IsSection, IsImport, IsField, preamble}
use Rattle.wasm_syntax.specs.rules.Limits.{is_function}
use Rattle.wasm_places.specs.declared.entries.Entries.{Entries}
use Rattle.wasm_places.specs.declared.entries.Entries.TheVariants.{Types, Codes}
use Rattle.wasm_places.specs.declared.place.ModulePlace.{ModulePlace}
use Rattle.wasm_places.specs.declared.place.ModulePlace.TheVariants as place

-- ---- one item of several

-- Behind these items, from the front of the bytes, is the item x, and the byte lies in it.
pub record IsInItem {X : Type 0} (IsItem : List ℕ → X → List ℕ → Type 0) (bytes : List ℕ) (left : ℕ)
    (before : List X) (x : X) (rest : List ℕ) : Type 0 where
  pub from : List ℕ
  pub earlier : AreItems IsItem bytes before from
  pub is : IsItem from x rest
  pub begins : left ≤ length from
  pub ends : length rest < left

-- ---- sections

-- Behind these sections of the module is the section s, and the byte at this offset lies in it. So
-- many bytes of the section are left from it on.
pub record IsInSection (bytes : List ℕ) (at : ℕ) (before : List Section) (s : Section) (left : ℕ)
    : Type 0 where
  pub after : List ℕ
  pub rest : List ℕ
  pub header : bytes ≡ preamble ++ after
  pub inside : IsInItem IsSection after (left + length rest) before s rest
  pub offset : at + (left + length rest) ≡ length bytes

-- ---- entries of a section

-- A type: the mark, and the types of parameters and results, each of one byte. Any byte may be one.
abbrev pub IsTypeEntry : List ℕ → List ℕ → List ℕ → Type 0
IsTypeEntry bytes types rest =
    (a : List ℕ) × (b : List ℕ) × (parameters : List ℕ) × (results : List ℕ)
    × IsThisByte 0x60 bytes a × IsBytes a parameters b × IsBytes b results rest
    × (types ≡ parameters ++ results)

-- a type, or the size and the bytes of a function's code
abbrev pub IsSectionEntry : Entries → List ℕ → List ℕ → List ℕ → Type 0
IsSectionEntry Types bytes entry rest = IsTypeEntry bytes entry rest
IsSectionEntry Codes bytes entry rest = IsBytes bytes entry rest

-- The byte lies in the entry with this number, from 0 on, of a section that counts its entries.
pub record IsInEntry (entries : Entries) (body : List ℕ) (left number : ℕ) : Type 0 where
  pub count : ℕ
  pub items : List ℕ
  pub counted : IsU32 body count items
  pub before : List (List ℕ)
  pub entry : List ℕ
  pub rest : List ℕ
  pub inside : IsInItem (IsSectionEntry entries) items left before entry rest
  pub number_is : number ≡ length before
  pub is_counted : number < count

-- The byte at this offset lies in the type with this number.
pub record IsInType (bytes : List ℕ) (at number : ℕ) : Type 0 where
  pub before : List Section
  pub body : List ℕ
  pub left : ℕ
  pub section : IsInSection bytes at before (record { id = 1; body = body }) left
  pub entry : IsInEntry Types body left number

-- The byte at this offset lies in the code of the function with this number. Imported functions
-- come first.
pub record IsInFunction (bytes : List ℕ) (at number : ℕ) : Type 0 where
  pub before : List Section
  pub body : List ℕ
  pub left : ℕ
  pub section : IsInSection bytes at before (record { id = 10; body = body }) left
  pub imports : List Import
  pub imported : IsField before 2 (IsVector IsImport) [] imports
  pub own : ℕ
  pub entry : IsInEntry Codes body left own
  pub number_is : number ≡ count_by is_function imports + own

-- ---- the place of a byte

-- It lies in a function, in a type, or elsewhere in the section with this id.
abbrev pub IsModulePlace : List ℕ → ℕ → ModulePlace → Type 0
IsModulePlace bytes at (place.Function number) = IsInFunction bytes at number
IsModulePlace bytes at (place.Type number) = IsInType bytes at number
IsModulePlace bytes at (place.Section id) =
    ((before : List Section) × (s : Section) × (left : ℕ) × IsInSection bytes at before s left
    × (s.id ≡ id))
    × ((number : ℕ) → IsInFunction bytes at number → ⊥)
    × ((number : ℕ) → IsInType bytes at number → ⊥)

-- It has no place: it lies in no section.
abbrev pub HasNoPlace : List ℕ → ℕ → Type 0
HasNoPlace bytes at = (p : ModulePlace) → IsModulePlace bytes at p → ⊥

-- that is its place, if it has one
abbrev pub LiesAt : List ℕ → ℕ → Option ModulePlace → Type 0
LiesAt bytes at (Some p) = IsModulePlace bytes at p
LiesAt bytes at None = HasNoPlace bytes at
