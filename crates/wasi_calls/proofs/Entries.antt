-- Nodes of a host that are made, and those that lose their path.
use Rattle.std.proofs.Common.{◌≡◌, ◌≢◌, ◌<◌, ◌++◌, ℕ, [], ◌∷◌, length, refl, sym, ap, ◌∙◌}
use Rattle.std.specs.Prelude.{true, Some, Result, Ok, Err, OnOk, OnErr}
use Rattle.std.specs.declared.alloc.AllocError.{AllocError}
use Rattle.file_tree.specs.declared.node_type.NodeType.{NodeType}
use Rattle.file_tree.specs.declared.limits.TheConstants.{NODES}
use Rattle.file_tree.specs.rules.Changes.{empty, path_at, IsFree, CanLose}
use Rattle.file_tree.specs.rules.Files.{Name, Files, IsFiles, path_of, child, is_directory, created}
use Rattle.file_tree.proofs.Seen.{some_path, not_nil}
use Rattle.wasi_calls_rules.specs.WasiStates.{WasiState, IsWasiState}
use Rattle.wasi_calls_rules.specs.Entries.{is_directory_empty, without}
use Rattle.wasi_calls_rules.proofs.KeepsWasiStates.{file_state, with_file_state, losing_kept}
use Rattle.wasi_calls_rules.proofs.FileState.{created_kept}
use Rattle.wasi_calls_rules.proofs.NodesAfter.{child_path, child_parent}

-- a node is made under a free name
made_host : (h : WasiState) (d : ℕ) (name : Name) (node_type : NodeType) → IsWasiState h
    → IsFree h.files d name → length h.files.nodes < NODES
    → IsWasiState (record h {
      files =
          created (path_at h.files d ++ name ∷ []) (empty node_type) h.files;
    })
made_host h d name node_type is free few =
    with_file_state h (created (path_at h.files d ++ name ∷ []) (empty node_type) h.files)
    h.descriptors is (created_kept h.files h.descriptors h.room d name (path_at h.files d ++ name
    ∷ []) node_type (file_state h is) free few refl)

-- a node is made under a free name, or nothing has changed
pub made_or_same : (r : Result ℕ AllocError) (h : WasiState) (fs : Files) (d : ℕ) (name : Name)
    (node_type : NodeType) → IsWasiState h → IsFree h.files d name → length h.files.nodes < NODES
    → OnOk r (fs ≡ created (path_at h.files d ++ name ∷ []) (empty node_type) h.files)
    → OnErr r (fs ≡ h.files) → IsWasiState (record h { files = fs })
made_or_same (Ok k) h fs d name node_type is free few made same =
    rw made (made_host h d name node_type is free few)
made_or_same (Err e) h fs d name node_type is free few made same = rw same is

-- a child isn't the root
under_root : (fs : Files) (d k : ℕ) (name : Name) → IsFiles fs → child fs d name ≡ Some k → k ≢ 1
under_root fs d k name are there e =
    let above = child_parent fs d k name there in
    let path = child_path fs d k name above.0 are above.1 there in
    not_nil above.0 name
    (some_path [] (above.0 ++ name ∷ [])
    (sym are.root ∙ ap (path_of fs) (sym e) ∙ path))

pub can_lose : (h : WasiState) (d k : ℕ) (name : Name) → IsWasiState h
    → child h.files d name ≡ Some k → (is_directory h.files k ≡ true → is_directory_empty h.files k
    ≡ true) → CanLose h.files k
can_lose h d k name is there empty = record {
  not_root = under_root h.files d k name is.files there;
  empty = empty;
}

-- a node loses its path
pub lost_host : (h : WasiState) (d k : ℕ) (name : Name) → IsWasiState h
    → child h.files d name ≡ Some k → (is_directory h.files k ≡ true
    → is_directory_empty h.files k ≡ true) → IsWasiState (without k h)
lost_host h d k name is there empty =
    with_file_state h (without k h).files h.descriptors is (losing_kept h d k name is there empty)
