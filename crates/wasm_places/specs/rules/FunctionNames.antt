-- The name that a module's name section gives a function (Core Specification 1.0, appendix, "Name
-- Section"). What lies behind that name isn't read, and may spell nothing.
use Rattle.std.specs.Prelude.{◌≡◌, ◌≢◌, ℕ, ◌<◌, ◌≤◌, List, [], ◌++◌, length, codes}
use Rattle.std.specs.List.{AllByRecursion}
use Rattle.wasm_syntax.specs.rules.Items.{AreItems, IsName, IsU32}
use Rattle.wasm_syntax.specs.rules.Modules.{Section, IsSection, preamble}

-- ---- the map of names

-- the number of a function, and its name
pub record FunctionName : Type 0 where
  pub function : ℕ
  pub name : List ℕ

-- an entry of the map
abbrev pub IsFunctionName : List ℕ → FunctionName → List ℕ → Type 0
IsFunctionName bytes n rest = (a : List ℕ) × IsU32 bytes n.function a × IsName a n.name rest

-- The entries of a map are counted, and their numbers rise. Behind those of lower numbers is the
-- entry of this function.
pub record MapNames (map : List ℕ) (function : ℕ) (name : List ℕ) : Type 0 where
  pub count : ℕ
  pub items : List ℕ
  pub counted : IsU32 map count items
  pub before : List FunctionName
  pub from : List ℕ
  pub earlier : AreItems IsFunctionName items before from
  pub lower : AllByRecursion (λ n. n.function < function) before
  pub rest : List ℕ
  pub is : IsFunctionName from (record { function = function; name = name }) rest
  pub is_counted : length before < count

-- ---- sections and subsections

-- Behind some sections, from the front of the bytes, is one of which P holds.
pub record HasSection (P : Section → Type 0) (bytes : List ℕ) : Type 0 where
  pub before : List Section
  pub from : List ℕ
  pub earlier : AreItems IsSection bytes before from
  pub found : Section
  pub rest : List ℕ
  pub is : IsSection from found rest
  pub holds : P found

-- A subsection has the form of a section. That of functions has the id 1, and is a map.
abbrev pub SubsectionNames : ℕ → List ℕ → Section → Type 0
SubsectionNames function name s = (s.id ≡ 1) × MapNames s.body function name

-- A name section: a custom one with the name "name". These bytes are its subsections.
abbrev pub IsNameSection : Section → List ℕ → Type 0
IsNameSection s subsections = (s.id ≡ 0) × IsName s.body (codes "name") subsections

-- a name section that gives the function this name
abbrev pub SectionNames : ℕ → List ℕ → Section → Type 0
SectionNames function name s = (subsections : List ℕ) × IsNameSection s subsections
    × HasSection (SubsectionNames function name) subsections

-- a module with such a section
abbrev pub ModuleNames : List ℕ → ℕ → List ℕ → Type 0
ModuleNames bytes function name = (after : List ℕ) × (bytes ≡ preamble ++ after)
    × HasSection (SectionNames function name) after

-- ---- names that may be printed

-- a printable byte of ASCII
abbrev pub IsPrintable : ℕ → Type 0
IsPrintable byte = (0x20 ≤ byte) × (byte ≤ 0x7e)

-- Such a name fits into a line, and no terminal obeys it.
abbrev pub IsGoodName : List ℕ → Type 0
IsGoodName name = (name ≢ []) × (length name ≤ 256) × AllByRecursion IsPrintable name

-- a good name, of those with P
abbrev pub IsGoodOf : (List ℕ → Type 0) → List ℕ → Type 0
IsGoodOf P name = P name × IsGoodName name

-- there is none
abbrev pub LacksGood : (List ℕ → Type 0) → Type 0
LacksGood P = (name : List ℕ) → IsGoodOf P name → ⊥
