-- Files of a host that are cut or made longer.
use Rattle.std.proofs.Common.{◌≡◌, ℕ, ◌+◌, ◌≤◌, List, length}
use Rattle.std.specs.Prelude.{false}
use Rattle.file_tree.specs.rules.Bytes.{resized}
use Rattle.file_tree.specs.rules.Files.{is_directory, bytes_of_node, used, with_file_bytes}
use Rattle.file_tree.specs.declared.limits.TheConstants.{FILE_BYTES}
use Rattle.wasi_abi.specs.rules.Answers.{AreBytes}
use Rattle.wasi_calls_rules.specs.WasiStates.{WasiState, Node, IsThere, IsWasiState}
use Rattle.file_tree.proofs.Sizes.{small_resized, length-resized}
use Rattle.wasi_calls_rules.proofs.KeepsWasiStates.{file_state, with_file_state, small_file}
use Rattle.wasi_calls_rules.proofs.FileState.{rewritten_kept}
use Rattle.wasi_calls_rules.proofs.NodesAfter.{node_there}

-- a file gets other bytes, for which there is room
pub rewritten_host : (h : WasiState) (k : ℕ) (bytes : List ℕ) → IsWasiState h
    → IsThere h.files (Node k) → is_directory h.files k ≡ false → length bytes ≤ FILE_BYTES
    → AreBytes bytes → used h.files + length bytes ≤ h.room + length (bytes_of_node h.files k)
    → IsWasiState (record h { files = with_file_bytes k bytes h.files })
rewritten_host h k bytes is there file few low room =
    let at = node_there h.files k there in
    with_file_state h (with_file_bytes k bytes h.files) h.descriptors is
    (rewritten_kept h.files h.descriptors h.room k at.0 bytes (file_state h is) at.1 file (
      few,
      low,
    ) room)

pub resized_host : (h : WasiState) (k size : ℕ) → IsWasiState h → IsThere h.files (Node k)
    → is_directory h.files k ≡ false → size ≤ FILE_BYTES
    → used h.files + size ≤ h.room + length (bytes_of_node h.files k)
    → IsWasiState (record h {
      files =
          with_file_bytes k (resized (bytes_of_node h.files k) size) h.files;
    })
resized_host h k size is there file few room =
    let old = bytes_of_node h.files k in
    let small = small_resized old size (small_file h.files k is.files) few in
    let len = length-resized old size in
    rewritten_host h k (resized old size) is there file small.0 small.1 (rw len room)
