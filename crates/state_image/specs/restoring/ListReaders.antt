-- Fields that are at the front of bytes, as functions on lists (this project's own): second forms
-- of what readers give. They answer the field and the bytes after it, or nothing.
use Rattle.std.specs.Prelude.{◌≡◌, ℕ, ◌==◌, if◌then◌else◌, List, Option, Some, None}
use Rattle.guest_memory.specs.rules.Bytes.{number_of}
use Rattle.wasm_syntax.specs.laws.ReadingItems.{◌>>=◌, byte_at, part_at}
use Rattle.wasi_abi.specs.rules.Numbers.{directory_type, regular_file}
use Rattle.file_tree.specs.rules.Files.{Entry}
use Rattle.state_image.specs.rules.Fronts.{ContentFront, EntryCount, FileBytes, NodeFront}

-- What the code answers, by what it shows, beside what is at the front: the field, and then these
-- bytes are left; or nothing.
abbrev pub LendsField : {X Y : Type 0} → (X → Y) → Option X → List ℕ → Option (Y × List ℕ) → Type 0
LendsField shown (Some x) rest read = read ≡ Some (shown x, rest)
LendsField shown None rest read = read ≡ None

-- a number in so many bytes
unfoldable pub integer_at : ℕ → List ℕ → Option (ℕ × List ℕ)
integer_at n bytes = part_at n bytes >>= λ p. Some (number_of p.0, p.1)

-- a length in so many bytes, and the bytes
unfoldable pub text_at : ℕ → List ℕ → Option (List ℕ × List ℕ)
text_at n bytes = integer_at n bytes >>= λ len. part_at len.0 len.1

-- the bytes of a file, or how many entries a directory has
unfoldable pub content_front_at : List ℕ → Option (ContentFront × List ℕ)
content_front_at bytes =
    byte_at bytes >>= λ file_type.
    if file_type.0 == directory_type then (integer_at 4 file_type.1
    >>= λ n. Some (EntryCount n.0, n.1)) else if file_type.0 == regular_file
    then (text_at 8 file_type.1 >>= λ file. Some (FileBytes file.0, file.1)) else None

-- a node before the entries
unfoldable pub node_front_at : List ℕ → Option (NodeFront × List ℕ)
node_front_at bytes =
    integer_at 8 bytes >>= λ number. content_front_at number.1 >>= λ content.
    Some (record { number = number.0; content = content.0 }, content.1)

-- an entry of a directory
unfoldable pub entry_at : List ℕ → Option (Entry × List ℕ)
entry_at bytes =
    text_at 2 bytes >>= λ name. integer_at 8 name.1
    >>= λ number. Some (record { name = name.0; number = number.0 }, number.1)
