-- The binary grammar of modules (Core Specification 1.0, section 5.5).
use Rattle.std.specs.Prelude.{◌≡◌, ℕ, ◌^◌, ◌<◌, ◌⊎◌, List, [], ◌∷◌, ◌++◌, length, map, max}
use Rattle.std.specs.Prelude.{replicate, Option, Some, None, MatchOption, ◌==◌, if◌then◌else◌}
use Rattle.wasm_syntax.specs.declared.types.ValueType.{ValueType}
use Rattle.wasm_syntax.specs.declared.module.Module.{Module}
use Rattle.wasm_syntax.specs.declared.module.Import.{Import}
use Rattle.wasm_syntax.specs.declared.module.ImportItem.{ImportItem}
use Rattle.wasm_syntax.specs.declared.module.ImportItem.TheVariants as import
use Rattle.wasm_syntax.specs.declared.module.Function.{Function}
use Rattle.wasm_syntax.specs.declared.module.Code.{Code}
use Rattle.wasm_syntax.specs.declared.module.Global.{Global}
use Rattle.wasm_syntax.specs.declared.module.Export.{Export}
use Rattle.wasm_syntax.specs.declared.module.ExportItem.{ExportItem}
use Rattle.wasm_syntax.specs.declared.module.ExportItem.TheVariants as export
use Rattle.wasm_syntax.specs.declared.module.Element.{Element}
use Rattle.wasm_syntax.specs.declared.module.Data.{Data}
use Rattle.wasm_syntax.specs.rules.Items.{IsU32, IsVector, IsBytes, IsName, IsSized, IsValueType}
use Rattle.wasm_syntax.specs.rules.Items.{IsFunctionType, IsTableType, IsMemoryType, IsGlobalType}
use Rattle.wasm_syntax.specs.rules.Instructions.{IsOpcode, IsExpression}

-- ---- what sections hold (5.5.4 to 5.5.14)

-- what an import is of
abbrev pub IsImportItem : List ℕ → ImportItem → List ℕ → Type 0
IsImportItem bytes (import.Function function_type) rest =
    IsOpcode 0x00 (λ a. IsU32 a function_type rest) bytes
IsImportItem bytes (import.Table t) rest = IsOpcode 0x01 (λ a. IsTableType a t rest) bytes
IsImportItem bytes (import.Memory t) rest = IsOpcode 0x02 (λ a. IsMemoryType a t rest) bytes
IsImportItem bytes (import.Global t) rest = IsOpcode 0x03 (λ a. IsGlobalType a t rest) bytes

-- an import: two names and its item
abbrev pub IsImport : List ℕ → Import → List ℕ → Type 0
IsImport bytes i rest = (a : List ℕ) × (b : List ℕ) × IsName bytes i.module_name a
    × IsName a i.name b × IsImportItem b i.item rest

-- a global with its first value
abbrev pub IsGlobal : List ℕ → Global → List ℕ → Type 0
IsGlobal bytes g rest = (a : List ℕ) × IsGlobalType bytes g.global_type a
    × IsExpression a g.initial rest

-- what an export is of
abbrev pub IsExportItem : List ℕ → ExportItem → List ℕ → Type 0
IsExportItem bytes (export.Function index) rest = IsOpcode 0x00 (λ a. IsU32 a index rest) bytes
IsExportItem bytes (export.Table index) rest = IsOpcode 0x01 (λ a. IsU32 a index rest) bytes
IsExportItem bytes (export.Memory index) rest = IsOpcode 0x02 (λ a. IsU32 a index rest) bytes
IsExportItem bytes (export.Global index) rest = IsOpcode 0x03 (λ a. IsU32 a index rest) bytes

-- an export: its name and its item
abbrev pub IsExport : List ℕ → Export → List ℕ → Type 0
IsExport bytes e rest = (a : List ℕ) × IsName bytes e.name a × IsExportItem a e.item rest

-- the start function
abbrev pub IsStartFunction : List ℕ → Option ℕ → List ℕ → Type 0
IsStartFunction bytes None rest = ⊥
IsStartFunction bytes (Some function) rest = IsU32 bytes function rest

-- an element segment
abbrev pub IsElement : List ℕ → Element → List ℕ → Type 0
IsElement bytes e rest = (a : List ℕ) × (b : List ℕ) × IsU32 bytes e.table a
    × IsExpression a e.offset b × IsVector IsU32 b e.functions rest

-- a data segment
abbrev pub IsData : List ℕ → Data → List ℕ → Type 0
IsData bytes d rest = (a : List ℕ) × (b : List ℕ) × IsU32 bytes d.memory a
    × IsExpression a d.offset b × IsBytes b d.bytes rest

-- so many locals of one type
pub record LocalRun : Type 0 where
  pub count : ℕ
  pub value_type : ValueType

-- so many locals of one type
abbrev pub IsLocalRun : List ℕ → LocalRun → List ℕ → Type 0
IsLocalRun bytes r rest = (a : List ℕ) × IsU32 bytes r.count a × IsValueType a r.value_type rest

-- the locals of these runs, one by one
abbrev pub locals_of : List LocalRun → List ValueType
locals_of [] = []
locals_of (r ∷ runs) = replicate r.count r.value_type ++ locals_of runs

-- runs of locals, and the body. There are fewer than 2 ^ 32 locals
abbrev pub IsCode : List ℕ → Code → List ℕ → Type 0
IsCode bytes c rest =
    (runs : List LocalRun) × (a : List ℕ) × IsVector IsLocalRun bytes runs a
    × (c.locals ≡ locals_of runs) × (length c.locals < 2 ^ 32) × IsExpression a c.body rest

-- ---- sections (5.5.2, 5.5.3)

-- an id and the bytes after it
pub record Section : Type 0 where
  pub id : ℕ
  pub body : List ℕ

-- a section: its id and its bytes
abbrev pub IsSection : List ℕ → Section → List ℕ → Type 0
IsSection bytes s rest = IsOpcode s.id (λ a. IsBytes a s.body rest) bytes

-- a custom section begins with a name
abbrev pub IsCustom : Section → Type 0
IsCustom s = (s.id ≡ 0) × (name : List ℕ) × (rest : List ℕ) × IsName s.body name rest

-- a section that may come after one of id `last`: a custom one, or one whose id is greater
abbrev pub MayFollow : ℕ → Section → Type 0
MayFollow last s = IsCustom s ⊎ ((last < s.id) × (s.id < 12))

-- All of the bytes are these sections: custom ones anywhere, the others once at most, in rising id.
abbrev pub AreSections : ℕ → List ℕ → List Section → Type 0
AreSections last bytes [] = bytes ≡ []
AreSections last bytes (s ∷ ss) =
    (rest : List ℕ) × IsSection bytes s rest × MayFollow last s
    × AreSections (max last s.id) rest ss

-- ---- modules (5.5.15)

-- the bytes of the section with this id, if it is there
abbrev pub body_of : ℕ → List Section → Option (List ℕ)
body_of id [] = None
body_of id (s ∷ ss) = if s.id == id then Some s.body else body_of id ss

-- The section with this id spells x, all of it. Without it, x is what an absent one stands for.
abbrev pub IsField : {X : Type 0} → List Section → ℕ → (List ℕ → X → List ℕ → Type 0) → X → X
    → Type 0
IsField ss id IsContent absent x =
    MatchOption (body_of id ss) (x ≡ absent) (λ body. IsContent body x [])

-- the mark and the version
abbrev pub preamble : List ℕ
preamble = 0x00 ∷ 0x61 ∷ 0x73 ∷ 0x6d ∷ 0x01 ∷ 0x00 ∷ 0x00 ∷ 0x00 ∷ []

-- the type index of a function
abbrev pub function_type_of : Function → ℕ
function_type_of f = f.function_type

-- the code of a function
abbrev pub code_of : Function → Code
code_of f = f.code

-- these bytes spell the module, all of them
pub record IsModule (bytes : List ℕ) (m : Module) : Type 0 where
  pub after : List ℕ
  pub sections : List Section
  pub header : bytes ≡ preamble ++ after
  pub in_order : AreSections 0 after sections
  pub types : IsField sections 1 (IsVector IsFunctionType) [] m.types
  pub imports : IsField sections 2 (IsVector IsImport) [] m.imports
  pub function_types : IsField sections 3 (IsVector IsU32) [] (map function_type_of m.functions)
  pub tables : IsField sections 4 (IsVector IsTableType) [] m.tables
  pub memories : IsField sections 5 (IsVector IsMemoryType) [] m.memories
  pub globals : IsField sections 6 (IsVector IsGlobal) [] m.globals
  pub exports : IsField sections 7 (IsVector IsExport) [] m.exports
  pub start : IsField sections 8 IsStartFunction None m.start
  pub elements : IsField sections 9 (IsVector IsElement) [] m.elements
  pub codes : IsField sections 10 (IsVector (IsSized IsCode)) [] (map code_of m.functions)
  pub data_segments : IsField sections 11 (IsVector IsData) [] m.data_segments
