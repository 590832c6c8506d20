-- Parts of a module that are read whatever its other parts hold (this project's own, in the words
-- of the binary grammar).
use Rattle.std.specs.Prelude.{◌≡◌, ◌≢◌, ◌⊎◌, ℕ, ◌+◌, ◌<◌, ◌≤◌, List, [], ◌∷◌, ◌++◌, length}
use Rattle.std.specs.Prelude.{count_by, Option, Some, None}
use Rattle.std.specs.List.{AllByRecursion}
use Rattle.wasm_syntax.specs.declared.types.FunctionType.{FunctionType}
use Rattle.wasm_syntax.specs.declared.module.Import.{Import}
use Rattle.wasm_syntax.specs.declared.module.Code.{Code}
use Rattle.wasm_syntax.specs.declared.limits.TheConstants.{FUNCTIONS, LOCALS}
use Rattle.wasm_syntax.specs.rules.Items.{IsU32, AreItems, IsVector, IsBytes, IsFunctionType}
use Rattle.wasm_syntax.specs.rules.Modules.{Section, AreSections, IsField, IsImport, IsCode}
use Rattle.wasm_syntax.specs.rules.Modules.{preamble}
use Rattle.wasm_syntax.specs.rules.Limits.{HasFewParameters, IsSmallImport, IsShortExpression}
use Rattle.wasm_syntax.specs.rules.Limits.{is_function}
use Rattle.wasm_decode.specs.declared.fault.DecodeFault.{DecodeFault}
use Rattle.wasm_decode.specs.declared.fault.DecodeFault.TheVariants.{Memory}
use Rattle.wasm_decode.specs.declared.code_faults.CodeFault.{CodeFault}
use Rattle.wasm_decode.specs.declared.code_faults.CodeFaults.{CodeFaults}

-- ---- one section

-- The bytes are a header and sections. The one with this id spells x, all of it; without it, x is
-- what an absent one stands for.
pub record SpellsField {X : Type 0} (bytes : List ℕ) (id : ℕ) (IsContent : List ℕ → X → List ℕ
    → Type 0) (absent x : X) : Type 0 where
  pub after : List ℕ
  pub sections : List Section
  pub header : bytes ≡ preamble ++ after
  pub in_order : AreSections 0 after sections
  pub field : IsField sections id IsContent absent x

-- what a fault says of bytes: unless it is want of memory, they have no such part
abbrev pub LacksPart : {X : Type 0} → (X → Type 0) → DecodeFault → Type 0
LacksPart {X} IsPart fault = fault ≢ Memory → (x : X) → IsPart x → ⊥

-- the types of functions, within the limits
abbrev pub HasTypes : List ℕ → List FunctionType → Type 0
HasTypes bytes types = SpellsField bytes 1 (IsVector IsFunctionType) [] types
    × AllByRecursion HasFewParameters types

-- the imports, within the limits
abbrev pub HasImports : List ℕ → List Import → Type 0
HasImports bytes imports = SpellsField bytes 2 (IsVector IsImport) [] imports
    × AllByRecursion (λ (i : Import). IsSmallImport i.item) imports
    × (count_by is_function imports ≤ FUNCTIONS)

-- ---- code entries

-- the bytes of an entry, behind its size, are the code of a function within the limits
abbrev pub IsCodeEntry : List ℕ → Type 0
IsCodeEntry entry = (c : Code) × IsCode entry c [] × (length c.locals ≤ LOCALS)
    × IsShortExpression c.body

-- The faults of these entries, in their order: one of each entry that is no code, and none of the
-- others. Entries are numbered from the first number on.
abbrev pub AreCodeFaults : ℕ → List (List ℕ) → List CodeFault → Type 0
AreCodeFaults first [] faults = faults ≡ []
AreCodeFaults first (entry ∷ entries) faults =
    (IsCodeEntry entry × AreCodeFaults (first + 1) entries faults)
    ⊎ ((IsCodeEntry entry → ⊥) × (fault : CodeFault) × (others : List CodeFault)
    × (faults ≡ fault ∷ others) × (fault.number ≡ first) × (fault.why ≢ Memory)
    × AreCodeFaults (first + 1) entries others)

-- Not all of so many entries are these, and then all bytes: bytes are left over, or what is next
-- isn't a size and so many bytes.
abbrev pub IsCutShort : ℕ → List (List ℕ) → List ℕ → Type 0
IsCutShort count entries rest =
    ((length entries ≡ count) × (rest ≢ []))
    ⊎ ((length entries < count) × ((entry after : List ℕ) → IsBytes rest entry after → ⊥))

-- All of so many entries were read. Or a fault says why not: unless it is want of memory, no more
-- can be read.
abbrev pub EndsFaults : ℕ → List (List ℕ) → List ℕ → Option DecodeFault → Type 0
EndsFaults count entries rest None = (length entries ≡ count) × (rest ≡ [])
EndsFaults count entries rest (Some fault) = fault ≢ Memory → IsCutShort count entries rest

-- the faults of so many entries, at the front of the bytes, as far as entries can be read
pub record AreFaultsOf (count : ℕ) (bytes : List ℕ) (found : CodeFaults) : Type 0 where
  pub entries : List (List ℕ)
  pub rest : List ℕ
  pub read : AreItems IsBytes bytes entries rest
  pub faults : AreCodeFaults 0 entries found.faults
  pub end : EndsFaults count entries rest found.end

-- the faults of a section that counts its entries
pub record AreSectionFaults (body : List ℕ) (found : CodeFaults) (after : List ℕ) : Type 0 where
  pub count : ℕ
  pub entries : List ℕ
  pub counted : IsU32 body count entries
  pub faults : AreFaultsOf count entries found

-- no faults
abbrev pub no_faults : CodeFaults
no_faults = record { faults = []; end = None }

-- the faults of all code entries of a module
abbrev pub HasCodeFaults : List ℕ → CodeFaults → Type 0
HasCodeFaults bytes found = SpellsField bytes 10 AreSectionFaults no_faults found
