-- What a call that is done makes of the host: one case for each way in which a rule changes it.
use Rattle.std.specs.Prelude.{◌≡◌, ℕ, ◌+◌, ◌≤◌, ◌<◌, ◌^◌, ◌==◌, max, Bool, true, false, List, []}
use Rattle.std.specs.Prelude.{◌∷◌, ◌++◌, length, drop, slice_get, slice_set, Option, Some, None, Ok}
use Rattle.wasi_abi.specs.declared.call.Call.{Call}
use Rattle.wasi_abi.specs.declared.call.Call.TheVariants as call
use Rattle.wasi_abi.specs.rules.Answers.{newline, AreBytes}
use Rattle.wasi_abi.specs.rules.Versions.{text_limit}
use Rattle.file_tree.specs.rules.Files.{Name, Path, Directory, File, child, is_directory}
use Rattle.file_tree.specs.rules.Files.{bytes_of_node, used, with_file_bytes, created}
use Rattle.file_tree.specs.declared.limits.TheConstants.{NODES, FILE_BYTES}
use Rattle.wasi_calls_rules.specs.WasiStates.{Node, Descriptor, WasiState}
use Rattle.wasi_calls_rules.specs.Checks.{Bytes, names_directory, lent}
use Rattle.wasi_calls_rules.specs.Checks.{has_64_bits, has_bytes_alone}
use Rattle.wasi_calls_rules.specs.Lines.{stream_written}
use Rattle.wasi_calls_rules.specs.declared.limits.TheConstants.{MOVED_BYTES}
use Rattle.wasi_calls_rules.specs.declared.output_stream.OutputStream.{OutputStream}
use Rattle.wasi_calls_rules.specs.Paths.{WalkEnd, Leaf, formed, node_at}
use Rattle.wasi_calls_rules.specs.Small.{swept, with_descriptor}
use Rattle.wasi_calls_rules.specs.Moving.{file_read, moved_to}
use Rattle.wasi_calls_rules.specs.Entries.{placed, whole_path, is_directory_empty, without}
use Rattle.wasi_calls_rules.specs.Entries.{is_within_node, gives_way, is_same_node, renamed_over}
use Rattle.wasi_calls_rules.specs.Entries.{free_number, new_descriptor, cut_if}

-- this descriptor is open under this number
abbrev pub IsOpen : WasiState → ℕ → Descriptor → Type 0
IsOpen h fd d = slice_get h.descriptors fd ≡ Some (Some d)

-- where a path of the guest's leads from an open directory
pub record Reached (m : Bytes) (h : WasiState) (place : WalkEnd) : Type 0 where
  pub fd : ℕ
  pub base : Descriptor
  pub from : ℕ
  pub len : ℕ
  pub bytes : Bytes
  pub names : List Name
  pub is_open : IsOpen h fd base
  pub directory : names_directory h base.target ≡ true
  pub read : lent m from len ≡ Ok bytes
  pub form : formed bytes ≡ Ok names
  pub led : placed h base names ≡ Ok place

-- an open file gets other bytes, for which there is room
pub record Rewriting (m : Bytes) (h : WasiState) (k : ℕ) (bytes : Bytes) : Type 0 where
  pub fd : ℕ
  pub own : Descriptor
  pub is_open : IsOpen h fd own
  pub target : own.target ≡ Node k
  pub file : is_directory h.files k ≡ false
  pub small : length bytes ≤ FILE_BYTES
  pub room : used h.files + length bytes ≤ h.room + length (bytes_of_node h.files k)
  pub are_bytes : AreBytes m → AreBytes (bytes_of_node h.files k) → AreBytes bytes

-- a node is made where a path of the guest's leads, and nothing is
pub record Making (m : Bytes) (h : WasiState) (p : Path) : Type 0 where
  pub parent : ℕ
  pub name : Name
  pub reached : Reached m h (Leaf parent name)
  pub free : child h.files parent name ≡ None
  pub path : whole_path h.files parent name ≡ Ok p
  pub few : length h.files.nodes < NODES

-- a node to which a path of the guest's leads is opened under a free number
pub record Opening (m : Bytes) (h : WasiState) (k n : ℕ) (is_cut : Bool) : Type 0 where
  pub place : WalkEnd
  pub reached : Reached m h place
  pub there : node_at h.files place ≡ Some k
  pub file : is_cut ≡ true → is_directory h.files k ≡ false
  pub free : free_number h ≡ Ok n

-- a node to which a path of the guest's leads loses its path; a directory is empty then
pub record Losing (m : Bytes) (h : WasiState) (k : ℕ) : Type 0 where
  pub parent : ℕ
  pub name : Name
  pub reached : Reached m h (Leaf parent name)
  pub there : child h.files parent name ≡ Some k
  pub empty : is_directory h.files k ≡ true → is_directory_empty h.files k ≡ true

-- a node goes from one place to another, at which the node j may be
pub record Renaming (m : Bytes) (h : WasiState) (k : ℕ) (j : Option ℕ) (from to : Path)
    : Type 0 where
  pub parent : ℕ
  pub name : Name
  pub new_parent : ℕ
  pub new_name : Name
  pub source : Reached m h (Leaf parent name)
  pub target : Reached m h (Leaf new_parent new_name)
  pub there : child h.files parent name ≡ Some k
  pub over : child h.files new_parent new_name ≡ j
  pub old_path : whole_path h.files parent name ≡ Ok from
  pub new_path : whole_path h.files new_parent new_name ≡ Ok to
  pub outside : is_within_node h.files k new_parent ≡ false
  pub differ : is_same_node k j ≡ false
  pub way : gives_way h.files k j ≡ Ok tt

-- what a host becomes by this call, in this memory
pub data Becomes (c : Call) (m : Bytes) (h : WasiState) : WasiState → Type 0 where
  stays : Becomes c m h h
  sees_time : (n : ℕ) → has_64_bits n ≡ true
      → Becomes c m h (record h { last_monotonic = max n h.last_monotonic })
  leaves_unread : (n : ℕ) → Becomes c m h (record h { unread = drop n h.unread })
  takes_text : (n : ℕ) (text : Bytes) → has_bytes_alone text ≡ true
      → length text ≤ text_limit h.version → Becomes c m h (record h
      { unread = drop n (text ++ newline ∷ []) })
  ends_input : Becomes c m h (record h { input_ended = true })
  closes : (fd : ℕ) (d : Descriptor) → IsOpen h fd d → (fd == 3) ≡ false
      → Becomes c m h (record h {
        descriptors = slice_set h.descriptors fd None;
        files = swept d.target (slice_set h.descriptors fd None) h.files;
      })
  sets_flags : (fd flags : ℕ) (d : Descriptor) → IsOpen h fd d → flags ≤ 31
      → Becomes c m h (with_descriptor fd (record d { flags = flags }) h)
  seeks : (fd offset : ℕ) (d : Descriptor) → IsOpen h fd d → offset < 2 ^ 63
      → Becomes c m h (moved_to fd d offset h)
  reads_file : (fd n k : ℕ) (d : Descriptor) → IsOpen h fd d → d.target ≡ Node k
      → Becomes c m h (moved_to fd d (d.offset + length (file_read h k d.offset n)) h)
  -- only `fd_write` does, and no more bytes than a call moves
  writes_stream : (s : OutputStream) (bytes : Bytes) → c ≡ call.FdWrite
      → length bytes ≤ MOVED_BYTES → (AreBytes m → AreBytes bytes)
      → Becomes c m h (stream_written s bytes h)
  rewrites : (k : ℕ) (bytes : Bytes) → Rewriting m h k bytes
      → Becomes c m h (record h { files = with_file_bytes k bytes h.files })
  writes_file : (fd k offset : ℕ) (d : Descriptor) (bytes : Bytes) → IsOpen h fd d
      → offset ≤ FILE_BYTES → Rewriting m h k bytes
      → Becomes c m h (moved_to fd d offset (record h {
        files = with_file_bytes k bytes h.files;
      }))
  makes : (p : Path) → Making m h p
      → Becomes c m h (record h { files = created p Directory h.files })
  opens_new : (p : Path) (n flags base inheriting : ℕ) → Making m h p → free_number h ≡ Ok n
      → flags ≤ 31
      → Becomes c m h (with_descriptor n (new_descriptor false h.files.next flags base inheriting)
      (record h { files = created p (File []) h.files }))
  opens : (k n flags base inheriting : ℕ) (is_cut : Bool) → Opening m h k n is_cut → flags ≤ 31
      → Becomes c m h (with_descriptor n
      (new_descriptor (is_directory h.files k) k flags base inheriting)
      (record h { files = cut_if is_cut k h.files }))
  loses : (k : ℕ) → Losing m h k → Becomes c m h (without k h)
  renames : (k : ℕ) (j : Option ℕ) (from to : Path) → Renaming m h k j from to
      → Becomes c m h (renamed_over k j from to h)
