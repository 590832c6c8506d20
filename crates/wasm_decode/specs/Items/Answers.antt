-- What a reader answers, beside what is at the front of the bytes: an item with the bytes after it,
-- or nothing.
use Rattle.std.specs.Prelude.{◌≡◌, ℕ, List, Option, Some, None, Result, Ok, Err}
use Rattle.wasm_decode.specs.declared.items.fault.ReadRefusal.{ReadRefusal}
use Rattle.wasm_decode.specs.declared.items.fault.ItemFault.{ItemFault}
use Rattle.wasm_decode.specs.declared.items.fault.ItemFault.TheVariants.{Refused, Memory}

-- the item, and then these bytes are left; a refusal where nothing is there
abbrev pub TakesItem : {X : Type 0} → Result X ReadRefusal → List ℕ → Option (X × List ℕ) → Type 0
TakesItem (Ok x) rest read = read ≡ Some (x, rest)
TakesItem (Err e) rest read = read ≡ None

-- Bytes are refused where nothing is there. Want of memory says nothing of them.
abbrev pub FailsToRead : {X : Type 0} → ItemFault → Option X → Type 0
FailsToRead Memory read = Unit {0}
FailsToRead (Refused e) read = read ≡ None

-- the same of a reader that takes memory
abbrev pub GivesItem : {X : Type 0} → Result X ItemFault → List ℕ → Option (X × List ℕ) → Type 0
GivesItem (Ok x) rest read = read ≡ Some (x, rest)
GivesItem (Err e) rest read = FailsToRead e read

-- the same of a reader that doesn't say why
abbrev pub FindsItem : {X : Type 0} → Option X → List ℕ → Option (X × List ℕ) → Type 0
FindsItem (Some x) rest read = read ≡ Some (x, rest)
FindsItem None rest read = read ≡ None
