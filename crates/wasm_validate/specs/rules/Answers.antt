-- What checks answer.
use Rattle.std.specs.Prelude.{◌≡◌, ◌⊎◌, Result, Ok, Err}
use Rattle.wasm_validate.specs.declared.parts.fault.ValidFault.{ValidFault}
use Rattle.wasm_validate.specs.declared.parts.fault.ValidFault.TheVariants.{Typing, Index, Limits}
use Rattle.wasm_validate.specs.declared.parts.fault.ValidFault.TheVariants.{DuplicateExport, Memory}

-- A fault says that P doesn't hold. Want of memory says nothing of it.
abbrev pub Denies : ValidFault → Type 0 → Type 0
Denies Memory P = Unit {0}
Denies Typing P = P → ⊥
Denies Index P = P → ⊥
Denies Limits P = P → ⊥
Denies DuplicateExport P = P → ⊥

-- Ok exactly where P holds, as far as memory goes
abbrev pub Judges : {X : Type 0} → Result X ValidFault → Type 0 → Type 0
Judges (Ok x) P = P
Judges (Err e) P = Denies e P

-- the same of what takes no memory
abbrev pub DeniesOutright : ValidFault → Type 0 → Type 0
DeniesOutright Memory P = ⊥
DeniesOutright Typing P = P → ⊥
DeniesOutright Index P = P → ⊥
DeniesOutright Limits P = P → ⊥
DeniesOutright DuplicateExport P = P → ⊥

-- by Ok it holds, and by an error it doesn't
abbrev pub Decides : {X : Type 0} → Result X ValidFault → Type 0 → Type 0
Decides (Ok x) P = P
Decides (Err e) P = DeniesOutright e P

-- Ok exactly where P holds, and elsewhere this fault
abbrev pub Demands : {X : Type 0} → ValidFault → Result X ValidFault → Type 0 → Type 0
Demands fault (Ok x) P = P
Demands fault (Err e) P = (e ≡ fault) × (P → ⊥)

-- Ok exactly where Q holds. Elsewhere it is the first fault where P doesn't hold, and the second
-- where it does.
abbrev pub DemandsInTurn : {X : Type 0} → Result X ValidFault → ValidFault → Type 0 → ValidFault
    → Type 0 → Type 0
DemandsInTurn (Ok x) first P second Q = Q
DemandsInTurn (Err e) first P second Q = ((e ≡ first) × (P → ⊥) × (Q → ⊥))
    ⊎ ((e ≡ second) × P × (Q → ⊥))

-- The fault is this one and P doesn't hold, or memory has run out, which says nothing.
abbrev pub IsFor : ValidFault → Type 0 → ValidFault → Type 0
IsFor fault P Memory = Unit {0}
IsFor fault P e = (e ≡ fault) × (P → ⊥)

-- Ok where P and Q hold, as far as memory goes. `Index` says that P doesn't hold, `DuplicateExport`
-- that Q doesn't.
abbrev pub JudgesExports : {X : Type 0} → Result X ValidFault → Type 0 → Type 0 → Type 0
JudgesExports (Ok x) P Q = P × Q
JudgesExports (Err Memory) P Q = Unit {0}
JudgesExports (Err Index) P Q = P → ⊥
JudgesExports (Err DuplicateExport) P Q = Q → ⊥
JudgesExports (Err Typing) P Q = ⊥
JudgesExports (Err Limits) P Q = ⊥

-- A fault says which of three things doesn't hold: that there is a type for all, that indices are
-- defined, that limits hold. Want of memory says nothing.
abbrev pub DeniesOne : ValidFault → Type 0 → Type 0 → Type 0 → Type 0
DeniesOne Typing typed defined limited = typed → ⊥
DeniesOne Index typed defined limited = defined → ⊥
DeniesOne Limits typed defined limited = limited → ⊥
DeniesOne DuplicateExport typed defined limited = ⊥
DeniesOne Memory typed defined limited = Unit {0}
