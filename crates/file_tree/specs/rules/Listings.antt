-- The nodes by rising numbers, and the entries of a directory by the order of their names.
use Rattle.std.specs.Prelude.{◌≡◌, ℕ, find, Option, Some, option_map, slice_get}
use Rattle.file_tree.specs.rules.Files.{Name, FileNode, Files, Entry, is_before, entries_of}

-- the number of the node at a place, from 0 on
abbrev pub number_at : Files → ℕ → Option ℕ
number_at fs place = option_map (λ (n : FileNode). n.number) (slice_get fs.nodes place)

-- the number of the entry at a place of a directory, from 0 on
abbrev pub number_at_place : Files → ℕ → ℕ → Option ℕ
number_at_place fs d place =
    option_map (λ (e : Entry). e.number) (slice_get (entries_of fs d) place)

-- the number of the first entry of a directory whose name comes after this one
abbrev pub number_after : Files → ℕ → Name → Option ℕ
number_after fs d name =
    option_map (λ (e : Entry). e.number) (find (λ (e : Entry). is_before name e.name)
    (entries_of fs d))

-- the entry at this place of a directory has this name
abbrev pub HasNameAtPlace : Files → ℕ → ℕ → Name → Type 0
HasNameAtPlace fs d place name =
    option_map (λ (e : Entry). e.name) (slice_get (entries_of fs d) place) ≡ Some name
