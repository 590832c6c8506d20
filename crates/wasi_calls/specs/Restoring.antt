-- What is tested of the parts of a host, one by one (this project's own).
use Rattle.std.specs.Prelude.{◌≡◌, ℕ, ◌||◌, is_some, Bool, true, List, length, Option, Some, None}
use Rattle.std.specs.Prelude.{slice_get}
use Rattle.std.specs.List.{list_any}
use Rattle.file_tree.specs.rules.Files.{Files, path_of}
use Rattle.wasi_calls_rules.specs.WasiStates.{Stream, Node, Descriptor, IsDescriptor, IsStreamAt}
use Rattle.wasi_calls_rules.specs.WasiStates.{IsRemoved}
use Rattle.wasi_calls_rules.specs.Small.{names}
use Rattle.wasi_calls_rules.specs.declared.limits.TheConstants.{DESCRIPTORS}

-- where it names a stream, it may be under this number
abbrev pub IsOwnStream : ℕ → Descriptor → Type 0
IsOwnStream n d = (s : ℕ) → d.target ≡ Stream s → IsStreamAt n s d

-- it may be open under this number
pub record MayBeOpen (fs : Files) (n : ℕ) (d : Descriptor) : Type 0 where
  pub descriptor : IsDescriptor fs d
  pub stream : IsOwnStream n d

-- each that is open may be
abbrev pub MayAllBeOpen : Files → List (Option Descriptor) → Type 0
MayAllBeOpen fs ds =
    (n : ℕ) (d : Descriptor) → slice_get ds n ≡ Some (Some d) → MayBeOpen fs n d

-- number 3 names the root
abbrev pub HasRoot : List (Option Descriptor) → Type 0
HasRoot ds = (d : Descriptor) × (slice_get ds 3 ≡ Some (Some d)) × (d.target ≡ Node 1)

-- a node has a path, or a descriptor names it
abbrev pub is_kept : Files → List (Option Descriptor) → Option ℕ → Bool
is_kept fs ds None = true
is_kept fs ds (Some k) = is_some (path_of fs k) || list_any (names k) ds

-- a descriptor names each node without a path
abbrev pub AreRemovedNamed : Files → List (Option Descriptor) → Type 0
AreRemovedNamed fs ds =
    (k : ℕ) → IsRemoved fs k
    → (n : ℕ) × (d : Descriptor) × (slice_get ds n ≡ Some (Some d)) × (d.target ≡ Node k)

-- these can be the descriptors of a host with these files
pub record IsDescriptorTable (fs : Files) (ds : List (Option Descriptor)) : Type 0 where
  pub places : length ds ≡ DESCRIPTORS
  pub open_ones : MayAllBeOpen fs ds
  pub root : HasRoot ds
  pub removed : AreRemovedNamed fs ds
