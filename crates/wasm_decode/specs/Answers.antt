-- What readers of a whole section answer.
use Rattle.std.specs.Prelude.{◌≡◌, List, ℕ, Option, Some, None, Result, Ok, Err}
use Rattle.wasm_decode.specs.declared.items.fault.ReadRefusal.{ReadRefusal}
use Rattle.wasm_decode.specs.declared.items.fault.ItemFault.{ItemFault}
use Rattle.wasm_decode.specs.Items.Answers.{FailsToRead}

-- what all of the bytes are; a refusal where they are nothing
abbrev pub GivesAll : {X : Type 0} → Result X ItemFault → Option X → Type 0
GivesAll (Ok x) read = read ≡ Some x
GivesAll (Err e) read = FailsToRead e read

-- the same of a reader that takes no memory
abbrev pub TakesAll : {X : Type 0} → Result X ReadRefusal → Option X → Type 0
TakesAll (Ok x) read = read ≡ Some x
TakesAll (Err e) read = read ≡ None

-- an item, seen through f, and then these bytes are left; a refusal where nothing is there
abbrev pub TakesAs : {X Y : Type 0} → (X → Y) → Result X ReadRefusal → List ℕ → Option (Y × List ℕ)
    → Type 0
TakesAs f (Ok x) rest read = read ≡ Some (f x, rest)
TakesAs f (Err e) rest read = read ≡ None
