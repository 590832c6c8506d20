-- The binary grammar: bytes, integers, vectors, names and types (Core Specification 1.0, sections
-- 5.1 to 5.3). A fact `IsX bytes x rest` says that a spelling of x is at the front of the bytes
-- and that the rest follows it.
use Rattle.std.specs.Prelude.{◌≡◌, ℕ, ◌+◌, ◌-◌, ◌*◌, ◌^◌, ◌<◌, ◌≤◌, ◌⊎◌, List, [], ◌∷◌, ◌++◌}
use Rattle.std.specs.Prelude.{length, Option, Some, None}
use Rattle.std.specs.Str.{IsUtf8}
use Rattle.wasm_syntax.specs.declared.types.ValueType.{ValueType}
use Rattle.wasm_syntax.specs.declared.types.ValueType.TheVariants.{I32, I64}
use Rattle.wasm_syntax.specs.declared.types.FunctionType.{FunctionType}
use Rattle.wasm_syntax.specs.declared.types.Limits.{Limits}
use Rattle.wasm_syntax.specs.declared.types.TableType.{TableType}
use Rattle.wasm_syntax.specs.declared.types.MemoryType.{MemoryType}
use Rattle.wasm_syntax.specs.declared.types.Mutability.{Mutability}
use Rattle.wasm_syntax.specs.declared.types.Mutability.TheVariants.{Constant, Variable}
use Rattle.wasm_syntax.specs.declared.types.GlobalType.{GlobalType}

-- ---- bytes and integers (5.2)

-- this one byte
abbrev pub IsThisByte : ℕ → List ℕ → List ℕ → Type 0
IsThisByte b bytes rest = bytes ≡ b ∷ rest

-- An unsigned integer of so many bits. A byte below 128 that fits is the last one. One from 128 on
-- has the low seven bits, and an integer of seven bits less follows. So longer spellings exist, and
-- unused bits are 0.
abbrev pub IsUnsigned : ℕ → List ℕ → ℕ → List ℕ → Type 0
IsUnsigned bits [] n rest = ⊥
IsUnsigned bits (b ∷ bytes) n rest =
    ((b < 128) × (b < 2 ^ bits) × (n ≡ b) × (rest ≡ bytes))
    ⊎ ((128 ≤ b) × (7 < bits) × (high : ℕ) × IsUnsigned (bits - 7) bytes high rest
    × (n ≡ high * 128 + (b - 128)))

-- an unsigned integer of 32 bits
abbrev pub IsU32 : List ℕ → ℕ → List ℕ → Type 0
IsU32 bytes n rest = IsUnsigned 32 bytes n rest

-- The last byte of a signed integer of so many bits: below 64 it is the number itself, from 64 to
-- 127 the number is b - 128. Unused bits are copies of the sign. A negative number z is given as z
-- + 2 ^ bits.
abbrev pub IsLastSigned : ℕ → ℕ → ℕ → Type 0
IsLastSigned bits b n =
    ((b < 64) × (b < 2 ^ (bits - 1)) × (n ≡ b))
    ⊎ ((64 ≤ b) × (b < 128) × (128 ≤ b + 2 ^ (bits - 1)) × (n + 128 ≡ b + 2 ^ bits))

-- a signed integer of so many bits
abbrev pub IsSigned : ℕ → List ℕ → ℕ → List ℕ → Type 0
IsSigned bits [] n rest = ⊥
IsSigned bits (b ∷ bytes) n rest =
    ((b < 128) × IsLastSigned bits b n × (rest ≡ bytes))
    ⊎ ((128 ≤ b) × (7 < bits) × (high : ℕ) × IsSigned (bits - 7) bytes high rest
    × (n ≡ high * 128 + (b - 128)))

-- ---- vectors and names (5.1.3, 5.2.4)

-- these items, one after another
abbrev pub AreItems : {X : Type 0} → (List ℕ → X → List ℕ → Type 0) → List ℕ → List X → List ℕ
    → Type 0
AreItems IsItem bytes [] rest = rest ≡ bytes
AreItems IsItem bytes (x ∷ xs) rest = (after : List ℕ) × IsItem bytes x after
    × AreItems IsItem after xs rest

-- a count, and so many items
abbrev pub IsVector : {X : Type 0} → (List ℕ → X → List ℕ → Type 0) → List ℕ → List X → List ℕ
    → Type 0
IsVector IsItem bytes xs rest = (items : List ℕ) × IsU32 bytes (length xs) items
    × AreItems IsItem items xs rest

-- a length, and so many bytes
abbrev pub IsBytes : List ℕ → List ℕ → List ℕ → Type 0
IsBytes bytes part rest = (after : List ℕ) × IsU32 bytes (length part) after
    × (after ≡ part ++ rest)

-- a length, and so many bytes of UTF-8
abbrev pub IsName : List ℕ → List ℕ → List ℕ → Type 0
IsName bytes name rest = IsBytes bytes name rest × IsUtf8 name

-- a length, and so many bytes that spell x, all of them
abbrev pub IsSized : {X : Type 0} → (List ℕ → X → List ℕ → Type 0) → List ℕ → X → List ℕ → Type 0
IsSized IsContent bytes x rest = (part : List ℕ) × IsBytes bytes part rest × IsContent part x []

-- ---- types (5.3)

-- a value type
abbrev pub IsValueType : List ℕ → ValueType → List ℕ → Type 0
IsValueType bytes I32 rest = IsThisByte 0x7f bytes rest
IsValueType bytes I64 rest = IsThisByte 0x7e bytes rest

-- a block leaves nothing, or one value
abbrev pub IsBlockType : List ℕ → Option ValueType → List ℕ → Type 0
IsBlockType bytes None rest = IsThisByte 0x40 bytes rest
IsBlockType bytes (Some t) rest = IsValueType bytes t rest

-- a function type
abbrev pub IsFunctionType : List ℕ → FunctionType → List ℕ → Type 0
IsFunctionType bytes t rest =
    (a : List ℕ) × (b : List ℕ) × IsThisByte 0x60 bytes a × IsVector IsValueType a t.parameters b
    × IsVector IsValueType b t.results rest

-- a minimum, with a maximum or none
abbrev pub IsRange : List ℕ → ℕ → Option ℕ → List ℕ → Type 0
IsRange bytes least None rest = (a : List ℕ) × IsThisByte 0x00 bytes a × IsU32 a least rest
IsRange bytes least (Some most) rest = (a : List ℕ) × (b : List ℕ) × IsThisByte 0x01 bytes a
    × IsU32 a least b × IsU32 b most rest

-- limits
abbrev pub IsLimits : List ℕ → Limits → List ℕ → Type 0
IsLimits bytes l rest = IsRange bytes l.minimum l.maximum rest

-- a table type
abbrev pub IsTableType : List ℕ → TableType → List ℕ → Type 0
IsTableType bytes t rest = (a : List ℕ) × IsThisByte 0x70 bytes a × IsLimits a t.limits rest

-- a memory type
abbrev pub IsMemoryType : List ℕ → MemoryType → List ℕ → Type 0
IsMemoryType bytes t rest = IsLimits bytes t.limits rest

-- whether a global is variable
abbrev pub IsMutability : List ℕ → Mutability → List ℕ → Type 0
IsMutability bytes Constant rest = IsThisByte 0x00 bytes rest
IsMutability bytes Variable rest = IsThisByte 0x01 bytes rest

-- a global type
abbrev pub IsGlobalType : List ℕ → GlobalType → List ℕ → Type 0
IsGlobalType bytes t rest = (a : List ℕ) × IsValueType bytes t.value_type a
    × IsMutability a t.mutability rest
