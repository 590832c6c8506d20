-- How far the nodes of an image have got their paths (this project's own).
use Rattle.std.specs.Prelude.{◌≡◌, ℕ, ◌<◌, List, [], ◌∷◌, take, slice_get, Some, Bool, true, false}
use Rattle.std.specs.Prelude.{is_some}
use Rattle.file_tree.specs.rules.Files.{Files, IsFiles, is_directory, path_of, entries_of}
use Rattle.state_image.specs.restoring.Named.{NamedNode}
use Rattle.state_image.specs.restoring.SavedNodes.{AreAs, listed_node}

-- this number alone where it is a directory's, or else none
abbrev pub directory_alone : Bool → ℕ → List ℕ
directory_alone true k = k ∷ []
directory_alone false k = []

-- The directories that have a path are in a list. Those before a place of it have all the entries
-- that are told of them, the one there has so many, and those after it have none.
pub record HangsUpTo (ns : List NamedNode) (fs : Files) (waiting : List ℕ) (at count : ℕ) : Type 0
  where
    pub are : IsFiles fs
    pub same : AreAs fs ns
    pub done : (j d : ℕ) → slice_get waiting j ≡ Some d → j < at
        → entries_of fs d ≡ listed_node ns d
    pub begun : (d : ℕ) → slice_get waiting at ≡ Some d
        → entries_of fs d ≡ take count (listed_node ns d)
    pub still : (j d : ℕ) → slice_get waiting j ≡ Some d → at < j → entries_of fs d ≡ []
    pub hung : (j d : ℕ) → slice_get waiting j ≡ Some d
        → (is_directory fs d ≡ true) × (is_some (path_of fs d) ≡ true)
    pub once : (j l d : ℕ) → slice_get waiting j ≡ Some d → slice_get waiting l ≡ Some d → j ≡ l
    pub all : (d : ℕ) → is_directory fs d ≡ true → is_some (path_of fs d) ≡ true
        → (j : ℕ) × (slice_get waiting j ≡ Some d)

-- each directory that has a path has the entries that are told of it
pub record IsHung (ns : List NamedNode) (fs : Files) : Type 0 where
  pub are : IsFiles fs
  pub same : AreAs fs ns
  pub entries : (d : ℕ) → is_directory fs d ≡ true → is_some (path_of fs d) ≡ true
      → entries_of fs d ≡ listed_node ns d
