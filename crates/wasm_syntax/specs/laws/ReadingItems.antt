-- Reading from the front: bytes, integers, vectors, names and types (Core Specification 1.0,
-- sections 5.1 to 5.3). A reader answers the item at the front and the bytes after it, or nothing.
use Rattle.std.specs.Prelude.{ℕ, zero, suc, ◌+◌, ◌-◌, ◌*◌, ◌^◌, ◌==◌, nat_lt, nat_le, Bool, true}
use Rattle.std.specs.Prelude.{false, if◌then◌else◌, List, [], ◌∷◌, length, take, drop, Option, Some}
use Rattle.std.specs.Prelude.{None}
use Rattle.std.specs.Str.{is_utf8}
use Rattle.wasm_syntax.specs.declared.types.ValueType.{ValueType}
use Rattle.wasm_syntax.specs.declared.types.ValueType.TheVariants.{I32, I64}
use Rattle.wasm_syntax.specs.declared.types.FunctionType.{FunctionType}
use Rattle.wasm_syntax.specs.declared.types.Limits.{Limits}
use Rattle.wasm_syntax.specs.declared.types.TableType.{TableType}
use Rattle.wasm_syntax.specs.declared.types.MemoryType.{MemoryType}
use Rattle.wasm_syntax.specs.declared.types.Mutability.{Mutability}
use Rattle.wasm_syntax.specs.declared.types.Mutability.TheVariants.{Constant, Variable}
use Rattle.wasm_syntax.specs.declared.types.GlobalType.{GlobalType}

-- ---- steps

infixl 10 ◌>>=◌
abbrev pub ◌>>=◌ : {A B : Type 0} → Option A → (A → Option B) → Option B
(Some x) >>= f = f x
None >>= f = None

-- nothing where a test fails
abbrev pub check : Bool → Option (Unit {0})
check true = Some tt
check false = None

-- an item, and what is made of it
abbrev pub read_as : {X Y : Type 0} → (X → Y) → (List ℕ → Option (X × List ℕ)) → List ℕ
    → Option (Y × List ℕ)
read_as f item_at bytes = item_at bytes >>= λ x. Some (f x.0, x.1)

-- an item that is all of the bytes
abbrev pub whole_at : {X : Type 0} → (List ℕ → Option (X × List ℕ)) → List ℕ → Option X
whole_at item_at bytes = item_at bytes >>= λ x. check (length x.1 == 0) >>= λ _. Some x.0

-- ---- bytes and integers

abbrev pub byte_at : List ℕ → Option (ℕ × List ℕ)
byte_at [] = None
byte_at (b ∷ rest) = Some (b, rest)

-- this one byte
abbrev pub exactly_at : ℕ → List ℕ → Option (Unit {0} × List ℕ)
exactly_at wanted [] = None
exactly_at wanted (b ∷ rest) = check (b == wanted) >>= λ _. Some (tt, rest)

-- these bytes
unfoldable pub fixed_at : List ℕ → List ℕ → Option (Unit {0} × List ℕ)
fixed_at [] bytes = Some (tt, bytes)
fixed_at (b ∷ bs) bytes = exactly_at b bytes >>= λ one. fixed_at bs one.1

-- an unsigned integer of so many bits
unfoldable pub unsigned_at : ℕ → List ℕ → Option (ℕ × List ℕ)
unsigned_at bits [] = None
unsigned_at bits (b ∷ rest) =
    if nat_lt b 128 then (check (nat_lt b (2 ^ bits)) >>= λ _. Some (b, rest))
    else (check (nat_lt 7 bits) >>= λ _. unsigned_at (bits - 7) rest
    >>= λ high. Some (high.0 * 128 + (b - 128), high.1))

-- the number that the last byte of a signed integer stands for
unfoldable pub last_signed : ℕ → ℕ → Option ℕ
last_signed bits b =
    if nat_lt b 64 then (check (nat_lt b (2 ^ (bits - 1))) >>= λ _. Some b)
    else (check (nat_le 128 (b + 2 ^ (bits - 1))) >>= λ _. Some (b + 2 ^ bits - 128))

-- a signed integer of so many bits: a negative number z is given as z + 2 ^ bits
unfoldable pub signed_at : ℕ → List ℕ → Option (ℕ × List ℕ)
signed_at bits [] = None
signed_at bits (b ∷ rest) =
    if nat_lt b 128 then (last_signed bits b >>= λ n. Some (n, rest))
    else (check (nat_lt 7 bits) >>= λ _. signed_at (bits - 7) rest
    >>= λ high. Some (high.0 * 128 + (b - 128), high.1))

abbrev pub leb_u32_at : List ℕ → Option (ℕ × List ℕ)
leb_u32_at bytes = unsigned_at 32 bytes

-- ---- vectors and names

-- so many bytes
abbrev pub part_at : ℕ → List ℕ → Option (List ℕ × List ℕ)
part_at len bytes = if nat_lt (length bytes) len then None
    else Some (take len bytes, drop len bytes)

-- so many items
unfoldable pub items_at : {X : Type 0} → (List ℕ → Option (X × List ℕ)) → ℕ → List ℕ
    → Option (List X × List ℕ)
items_at item_at zero bytes = Some ([], bytes)
items_at item_at (suc n) bytes =
    item_at bytes >>= λ first. items_at item_at n first.1
    >>= λ others. Some (first.0 ∷ others.0, others.1)

unfoldable pub vector_at : {X : Type 0} → (List ℕ → Option (X × List ℕ)) → List ℕ
    → Option (List X × List ℕ)
vector_at item_at bytes = leb_u32_at bytes >>= λ count. items_at item_at count.0 count.1

-- a vector of at most so many items
unfoldable pub vector_up_to_at : {X : Type 0} → (List ℕ → Option (X × List ℕ)) → ℕ → List ℕ
    → Option (List X × List ℕ)
vector_up_to_at item_at most bytes =
    leb_u32_at bytes >>= λ count. if nat_lt most count.0 then None
    else items_at item_at count.0 count.1

unfoldable pub bytes_at : List ℕ → Option (List ℕ × List ℕ)
bytes_at bytes = leb_u32_at bytes >>= λ len. part_at len.0 len.1

unfoldable pub name_at : List ℕ → Option (List ℕ × List ℕ)
name_at bytes = bytes_at bytes >>= λ name. if is_utf8 name.0 then Some name else None

unfoldable pub sized_at : {X : Type 0} → (List ℕ → Option (X × List ℕ)) → List ℕ
    → Option (X × List ℕ)
sized_at content_at bytes = bytes_at bytes >>= λ part. whole_at content_at part.0
    >>= λ x. Some (x, part.1)

-- ---- types

abbrev pub value_type_at : List ℕ → Option (ValueType × List ℕ)
value_type_at [] = None
value_type_at (b ∷ rest) = if b == 0x7f then Some (I32, rest) else if b == 0x7e
    then Some (I64, rest) else None

abbrev pub block_type_at : List ℕ → Option (Option ValueType × List ℕ)
block_type_at [] = None
block_type_at (b ∷ rest) =
    if b == 0x40 then Some (None, rest)
    else if b == 0x7f then Some (Some I32, rest)
    else if b == 0x7e then Some (Some I64, rest)
    else None

unfoldable pub function_type_at : List ℕ → Option (FunctionType × List ℕ)
function_type_at bytes =
    exactly_at 0x60 bytes >>= λ mark.
    vector_at value_type_at mark.1 >>= λ parameters.
    vector_at value_type_at parameters.1 >>= λ results.
    Some (record { parameters = parameters.0; results = results.0 }, results.1)

unfoldable pub limits_at : List ℕ → Option (Limits × List ℕ)
limits_at [] = None
limits_at (b ∷ bytes) =
    if b == 0x00
    then (leb_u32_at bytes >>= λ least. Some (
      record { minimum = least.0; maximum = None },
      least.1,
    ))
    else if b == 0x01 then (leb_u32_at bytes >>= λ least. leb_u32_at least.1
    >>= λ most. Some (record { minimum = least.0; maximum = Some most.0 }, most.1))
    else None

unfoldable pub table_type_at : List ℕ → Option (TableType × List ℕ)
table_type_at bytes = exactly_at 0x70 bytes >>= λ mark. limits_at mark.1
    >>= λ limits. Some (record { limits = limits.0 }, limits.1)

unfoldable pub memory_type_at : List ℕ → Option (MemoryType × List ℕ)
memory_type_at bytes = limits_at bytes >>= λ limits. Some (record { limits = limits.0 }, limits.1)

abbrev pub mutability_at : List ℕ → Option (Mutability × List ℕ)
mutability_at [] = None
mutability_at (b ∷ rest) = if b == 0x00 then Some (Constant, rest) else if b == 0x01
    then Some (Variable, rest) else None

unfoldable pub global_type_at : List ℕ → Option (GlobalType × List ℕ)
global_type_at bytes =
    value_type_at bytes >>= λ t. mutability_at t.1
    >>= λ m. Some (record { value_type = t.0; mutability = m.0 }, m.1)
