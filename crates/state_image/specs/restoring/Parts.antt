-- Reading the nodes of an image with all that is after them (this project's own).
use Rattle.std.specs.Prelude.{◌≡◌, ℕ, List, Option, Some, None, Result, Ok, Err}
use Rattle.wasm_syntax.specs.laws.ReadingItems.{◌>>=◌, items_at}
use Rattle.state_image.specs.declared.restoring.fault.RestoreFault.{RestoreFault}
use Rattle.state_image.specs.declared.restoring.fault.RestoreFault.TheVariants as fault
use Rattle.state_image.specs.rules.Fronts.{ContentFront, EntryCount, FileBytes}
use Rattle.state_image.specs.restoring.ListReaders.{integer_at, entry_at, node_front_at}
use Rattle.state_image.specs.restoring.Named.{Held, Entries, Bytes, NamedNode}

-- what the code answers, by what it shows, beside what is at the front: the field, and then these
-- bytes are left; or nothing, where that is the fault
abbrev pub RestoresField : {X Y : Type 0} → (X → Y) → Result X RestoreFault → List ℕ
    → Option (Y × List ℕ) → Type 0
RestoresField shown (Ok x) rest read = read ≡ Some (shown x, rest)
RestoresField shown (Err fault.NotAnImage) rest read = read ≡ None
RestoresField shown (Err fault.Memory) rest read = Unit {0}

-- the entries of a directory, or the bytes of a file
unfoldable pub held_at : ContentFront → List ℕ → Option (Held × List ℕ)
held_at (EntryCount count) bytes = items_at entry_at count bytes >>= λ es. Some (Entries es.0, es.1)
held_at (FileBytes file) bytes = Some (Bytes file, bytes)

-- a node, and the entries after it
unfoldable pub whole_node_at : List ℕ → Option (NamedNode × List ℕ)
whole_node_at bytes =
    node_front_at bytes >>= λ front. held_at front.0.content front.1
    >>= λ held. Some (record { number = front.0.number; held = held.0 }, held.1)

-- how many nodes there are, and the nodes
unfoldable pub wholes_at : List ℕ → Option (List NamedNode × List ℕ)
wholes_at bytes = integer_at 4 bytes >>= λ count. items_at whole_node_at count.0 count.1
