-- What readers of a module's parts answer.
use Rattle.std.specs.Prelude.{◌≡◌, ◌≢◌, ◌⊎◌, ⊤, ℕ, List, [], ◌∷◌, ◌++◌, length, Option, Result}
use Rattle.std.specs.Prelude.{Ok, Err}
use Rattle.wasm_syntax.specs.rules.Items.{AreItems, IsBytes}
use Rattle.wasm_syntax.specs.rules.Modules.{Section, AreSections, preamble}
use Rattle.wasm_decode.specs.declared.items.fault.ReadRefusal.{ReadRefusal}
use Rattle.wasm_decode.specs.declared.items.fault.ItemFault.{ItemFault}
use Rattle.wasm_decode.specs.declared.items.fault.ItemFault.TheVariants.{Refused, Memory}
use Rattle.wasm_decode.specs.declared.items.span.Span.{Span}
use Rattle.wasm_decode.specs.declared.code_faults.CodeFault.{CodeFault}
use Rattle.wasm_decode.specs.declared.fault.DecodeFault.TheVariants.{Memory as unread}
use Rattle.wasm_decode.specs.Sections.{Splits}
use Rattle.wasm_decode.specs.rules.Parts.{AreCodeFaults, IsCodeEntry, IsCutShort}

-- the bytes are a header and sections, which are these
pub record OpensSections (bytes : List ℕ) (bodies : List (Option Span)) : Type 0 where
  pub after : List ℕ
  pub sections : List Section
  pub header : bytes ≡ preamble ++ after
  pub split : Splits after bodies sections

-- the bytes aren't a header and sections
abbrev pub HasNoSections : List ℕ → Type 0
HasNoSections bytes = (after : List ℕ) (sections : List Section) → bytes ≡ preamble ++ after
    → AreSections 0 after sections → ⊥

-- A part, or that there is none. Want of memory says nothing of the bytes.
abbrev pub FindsPart : {X : Type 0} → (X → Type 0) → Result X ItemFault → Type 0
FindsPart {X} IsPart (Ok x) = IsPart x
FindsPart {X} IsPart (Err Memory) = Unit {0}
FindsPart {X} IsPart (Err (Refused refusal)) = (x : X) → IsPart x → ⊥

-- the same of a reader that takes no memory
abbrev pub TakesPart : {X : Type 0} → (X → Type 0) → Result X ReadRefusal → Type 0
TakesPart {X} IsPart (Ok x) = IsPart x
TakesPart {X} IsPart (Err refusal) = (x : X) → IsPart x → ⊥

-- The entry with this number is code, or its fault is put behind those of others. Where memory runs
-- out they stay as they were.
abbrev pub JudgesEntry : ℕ → List ℕ → List CodeFault → List CodeFault → Result ⊤ ItemFault → Type 0
JudgesEntry number entry old new (Ok done) =
    (IsCodeEntry entry × (new ≡ old))
    ⊎ ((IsCodeEntry entry → ⊥) × (fault : CodeFault) × (new ≡ old ++ fault ∷ [])
    × (fault.number ≡ number) × (fault.why ≢ unread))
JudgesEntry number entry old new (Err e) = (e ≡ Memory) × (new ≡ old)

-- how the faults of so many entries end
abbrev pub StopsFaults : ℕ → List (List ℕ) → List ℕ → Result ⊤ ItemFault → Type 0
StopsFaults count entries rest (Ok done) = (length entries ≡ count) × (rest ≡ [])
StopsFaults count entries rest (Err Memory) = Unit {0}
StopsFaults count entries rest (Err (Refused refusal)) = IsCutShort count entries rest

-- these faults of so many entries are collected
pub record Collects (count : ℕ) (bytes : List ℕ) (faults : List CodeFault) (answer : Result ⊤
    ItemFault) : Type 0 where
  pub entries : List (List ℕ)
  pub rest : List ℕ
  pub read : AreItems IsBytes bytes entries rest
  pub are : AreCodeFaults 0 entries faults
  pub stops : StopsFaults count entries rest answer
