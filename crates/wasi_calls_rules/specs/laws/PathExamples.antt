-- Worked examples of directories and paths. Where a call has several faults, the first in the
-- order of the checks is told.
use Rattle.std.specs.Prelude.{◌≡◌, ℕ, ◌-◌, ◌^◌, List, [], ◌∷◌, ◌+◌, ◌++◌, length, replicate}
use Rattle.std.specs.Prelude.{codes, Ok, Err}
use Rattle.wasi_abi.specs.declared.errno.Errno.TheVariants.{Badf, Exist, Fault, Ilseq, Inval}
use Rattle.wasi_abi.specs.declared.errno.Errno.TheVariants.{Isdir, Nametoolong, Noent, Nospc}
use Rattle.wasi_abi.specs.declared.errno.Errno.TheVariants.{Notdir, Notempty, Notcapable}
use Rattle.wasi_abi.specs.declared.call.Call.TheVariants as call
use Rattle.wasi_abi.specs.rules.Numbers.{directory_rights}
use Rattle.wasi_abi.specs.rules.Layouts.{padding}
use Rattle.file_tree.specs.rules.Files.{Path, Directory, File, FileNode, Files}
use Rattle.wasi_calls_rules.specs.WasiStates.{WasiState}
use Rattle.wasi_calls_rules.specs.Checks.{Bytes, Refuses, Ruling}
use Rattle.wasi_calls_rules.specs.Small.{call_done, with_descriptor}
use Rattle.wasi_calls_rules.specs.Paths.{formed}
use Rattle.wasi_calls_rules.specs.laws.Examples.{bare_host}
use Rattle.wasi_calls_rules.specs.laws.Scenes.{bare_call, refused_by, old_bytes, small_u32}
use Rattle.wasi_calls_rules.specs.laws.Scenes.{small_u64, root_node, file_a, node_descriptor}
use Rattle.wasi_calls_rules.specs.laws.Scenes.{root_open}
use Rattle.wasi_calls_rules.specs.laws.DescriptorExamples.{status}
use Rattle.wasi_calls_rules.specs.laws.Trees.{placed_node, lost_node, lost_nodes, directory_d}
use Rattle.wasi_calls_rules.specs.laws.Trees.{file_d_b, directory_d_e, directory_f, before_seven}
use Rattle.wasi_calls_rules.specs.laws.Trees.{grove, in_grove, in_other, and_open, in_removed}
use Rattle.wasi_calls_rules.specs.laws.Trees.{no_directory_open, with_path, status_at, renames}

-- ---- listing

-- an entry: the place after it, a node, a length and a file type, and then a name
abbrev pub directory_entry : ℕ → ℕ → ℕ → Bytes → Bytes
directory_entry next node type name =
    small_u64 next ++ (small_u64 node ++ (small_u32 (length name) ++ (small_u32 type ++ name)))

-- the entries of the root
abbrev pub root_entries : Bytes
root_entries =
    directory_entry 1 2 4 (codes "a") ++ (directory_entry 2 3 3 (codes "d") ++ directory_entry 3 6
    3 (codes "f"))

-- the root is open with bit 14, and in it are the files `b`, `ab` and `a`, made in this order
abbrev pub two_files : WasiState
two_files = root_open (2 ^ 14) (record {
  nodes = root_node ∷ placed_node 2 (codes "b" ∷ []) (File []) ∷ placed_node 3 (codes "ab" ∷ [])
      (File []) ∷ placed_node 4 (codes "a" ∷ []) (File []) ∷ [];
  next = 5;
})

pub record ListingExamples : Type 0 where
  -- the whole directory, whose own entries alone are listed; bit 14 alone is needed
  pub whole : bare_call call.FdReaddir (4 ∷ 4 ∷ 80 ∷ 0 ∷ 0 ∷ []) (old_bytes 84)
      (in_grove (2 ^ 14))
      ≡ call_done (small_u32 75 ++ (root_entries ++ old_bytes 5)) (in_grove (2 ^ 14))
  pub behind_one : bare_call call.FdReaddir (4 ∷ 4 ∷ 25 ∷ 1 ∷ 0 ∷ []) (old_bytes 29)
      (in_grove (2 ^ 14))
      ≡ call_done (small_u32 25 ++ directory_entry 2 3 3 (codes "d")) (in_grove (2 ^ 14))
  pub behind_all : bare_call call.FdReaddir (4 ∷ 0 ∷ 25 ∷ 3 ∷ 25 ∷ []) (old_bytes 29)
      (in_grove (2 ^ 14)) ≡ call_done (old_bytes 25 ++ padding 4) (in_grove (2 ^ 14))
  pub far_behind : bare_call call.FdReaddir (4 ∷ 4 ∷ 25 ∷ (2 ^ 64 - 1) ∷ 0 ∷ []) (old_bytes 29)
      (in_grove (2 ^ 14)) ≡ call_done (padding 4 ++ old_bytes 25) (in_grove (2 ^ 14))
  pub cut : bare_call call.FdReaddir (4 ∷ 4 ∷ 2 ∷ 1 ∷ 0 ∷ []) (old_bytes 6) (in_grove (2 ^ 14))
      ≡ call_done (small_u32 2 ++ (2 ∷ 0 ∷ [])) (in_grove (2 ^ 14))
  -- names are in the order of their bytes, a shorter one first
  pub in_order : bare_call call.FdReaddir (4 ∷ 4 ∷ 76 ∷ 0 ∷ 0 ∷ []) (old_bytes 80) two_files
      ≡ call_done (small_u32 76
      ++ (directory_entry 1 4 4 (codes "a")
      ++ (directory_entry 2 3 4 (codes "ab") ++ directory_entry 3 2 4 (codes "b")))) two_files
  -- the cell is put after the entries, here over the first of them
  pub count_last : bare_call call.FdReaddir (4 ∷ 0 ∷ 9 ∷ 1 ∷ 0 ∷ []) (old_bytes 9)
      (in_grove (2 ^ 14)) ≡ call_done (small_u32 9 ++ (padding 4 ++ (3 ∷ []))) (in_grove (2 ^ 14))
  pub in_removed_one : bare_call call.FdReaddir (4 ∷ 4 ∷ 2 ∷ 0 ∷ 0 ∷ []) (old_bytes 6)
      (in_removed (2 ^ 14)) ≡ call_done (padding 4 ++ old_bytes 2) (in_removed (2 ^ 14))
  pub buffer_beyond : bare_call call.FdReaddir (4 ∷ 4 ∷ 3 ∷ 0 ∷ 0 ∷ []) (old_bytes 6)
      (in_grove (2 ^ 14)) ≡ refused_by Fault
  pub cell_beyond : bare_call call.FdReaddir (4 ∷ 4 ∷ 2 ∷ 0 ∷ 3 ∷ []) (old_bytes 6)
      (in_grove (2 ^ 14)) ≡ refused_by Fault
  pub without : bare_call call.FdReaddir (4 ∷ 4 ∷ 3 ∷ 0 ∷ 3 ∷ []) (old_bytes 6)
      (in_grove (directory_rights - 2 ^ 14)) ≡ refused_by Notcapable
  pub file : bare_call call.FdReaddir (4 ∷ 4 ∷ 3 ∷ 0 ∷ 3 ∷ []) (old_bytes 6) no_directory_open
      ≡ refused_by Notdir
  pub stream : bare_call call.FdReaddir (0 ∷ 4 ∷ 3 ∷ 0 ∷ 3 ∷ []) (old_bytes 6) bare_host
      ≡ refused_by Notdir
  pub not_open : bare_call call.FdReaddir (4 ∷ 4 ∷ 3 ∷ 0 ∷ 3 ∷ []) (old_bytes 6) bare_host
      ≡ refused_by Badf

-- ---- the form of a path

-- a path of so many bytes whose only part is `a`
abbrev pub slashes_behind : ℕ → Bytes
slashes_behind n = 97 ∷ replicate (n - 1) 47

pub record FormExamples : Type 0 where
  pub empty : formed [] ≡ Err (Refuses Noent)
  pub longest : formed (slashes_behind 4096) ≡ Ok (codes "a" ∷ [])
  pub too_long : formed (slashes_behind 4097) ≡ Err (Refuses Nametoolong)
  pub longest_name : formed (replicate 255 97 ++ codes "/b")
      ≡ Ok (replicate 255 97 ∷ codes "b" ∷ [])
  pub name_too_long : formed (codes "b/" ++ replicate 256 97) ≡ Err (Refuses Nametoolong)
  -- a byte that begins no character, a zero byte, and a leading `/`
  pub no_text : formed (97 ∷ 128 ∷ []) ≡ Err (Refuses Ilseq)
  pub zero_byte : formed (97 ∷ 0 ∷ []) ≡ Err (Refuses Inval)
  pub from_top : formed (codes "/a") ≡ Err (Refuses Notcapable)
  -- the earlier of two faults is told
  pub too_long_first : formed (255 ∷ slashes_behind 4096) ≡ Err (Refuses Nametoolong)
  pub no_text_first : formed (0 ∷ 255 ∷ []) ≡ Err (Refuses Ilseq)
  pub zero_byte_first : formed (47 ∷ 0 ∷ []) ≡ Err (Refuses Inval)
  pub from_top_first : formed (47 ∷ replicate 256 97) ≡ Err (Refuses Notcapable)
  pub dropped : formed (codes ".//a/./..a/...//")
      ≡ Ok (codes "a" ∷ codes "..a" ∷ codes "..." ∷ [])

-- ---- the walk, seen through the status of the node at its end

-- the status is told
abbrev pub has_status : ℕ → ℕ → ℕ → ℕ → Bytes → WasiState → Ruling
has_status node type links size path h = call_done (path ++ status node type links size) h

-- bit 18 is the right that is needed
abbrev pub looking : WasiState
looking = in_grove (2 ^ 18)

pub record WalkExamples : Type 0 where
  pub leaf : status_at (codes "a") looking ≡ has_status 2 4 1 3 (codes "a") looking
  pub below : status_at (codes "d/b") looking ≡ has_status 4 4 1 1 (codes "d/b") looking
  -- `.` and empty parts are dropped
  pub dropped : status_at (codes "./d//e/.") looking
      ≡ has_status 5 3 1 0 (codes "./d//e/.") looking
  pub slash_behind_file : status_at (codes "a/") looking ≡ has_status 2 4 1 3 (codes "a/") looking
  pub self : status_at (codes ".") looking ≡ has_status 1 3 1 0 (codes ".") looking
  pub back : status_at (codes "d/../a") looking ≡ has_status 2 4 1 3 (codes "d/../a") looking
  pub back_twice : status_at (codes "d/e/../../f") looking
      ≡ has_status 6 3 1 0 (codes "d/e/../../f") looking
  pub self_by_back : status_at (codes "d/e/..") looking
      ≡ has_status 3 3 1 0 (codes "d/e/..") looking
  pub above : status_at (codes "..") looking ≡ refused_by Notcapable
  pub above_later : status_at (codes "d/../..") looking ≡ refused_by Notcapable
  pub missing_leaf : status_at (codes "x") looking ≡ refused_by Noent
  pub missing_before : status_at (codes "x/..") looking ≡ refused_by Noent
  pub through_file : status_at (codes "a/..") looking ≡ refused_by Notdir
  pub leaf_in_file : status_at (codes "a/b") looking ≡ refused_by Notdir
  -- a walk from `d`, above which there is nothing
  pub from_d : bare_call call.PathFilestatGet (5 ∷ 0 ∷ 0 ∷ 1 ∷ 1 ∷ []) (codes "b" ++ old_bytes 64)
      (and_open 3 looking) ≡ has_status 4 4 1 1 (codes "b") (and_open 3 looking)
  pub above_d : bare_call call.PathFilestatGet (5 ∷ 0 ∷ 0 ∷ 2 ∷ 2 ∷ [])
      (codes ".." ++ old_bytes 64) (and_open 3 looking) ≡ refused_by Notcapable
  -- a directory that was removed has no links and no names
  pub removed_self : status_at (codes ".") (in_removed (2 ^ 18))
      ≡ has_status 7 3 0 0 (codes ".") (in_removed (2 ^ 18))
  pub removed_leaf : status_at (codes "x") (in_removed (2 ^ 18)) ≡ refused_by Noent
  pub removed_above : status_at (codes "..") (in_removed (2 ^ 18)) ≡ refused_by Notcapable

pub record PathStatusExamples : Type 0 where
  -- the flags are 0 or 1
  pub other_flag : bare_call call.PathFilestatGet (4 ∷ 2 ∷ 0 ∷ 2 ∷ 1 ∷ [])
      (codes "a" ++ old_bytes 64) looking ≡ refused_by Inval
  pub path_beyond : bare_call call.PathFilestatGet (4 ∷ 0 ∷ 64 ∷ 2 ∷ 1 ∷ [])
      (codes "a" ++ old_bytes 64) looking ≡ refused_by Fault
  pub cell_beyond : bare_call call.PathFilestatGet (4 ∷ 0 ∷ 0 ∷ 0 ∷ 2 ∷ [])
      (codes "a" ++ old_bytes 64) looking ≡ refused_by Fault
  pub no_path : bare_call call.PathFilestatGet (4 ∷ 0 ∷ 0 ∷ 0 ∷ 1 ∷ [])
      (codes "a" ++ old_bytes 64) looking ≡ refused_by Noent
  pub without : bare_call call.PathFilestatGet (4 ∷ 2 ∷ 0 ∷ 2 ∷ 2 ∷ [])
      (codes "a" ++ old_bytes 64) (in_grove (directory_rights - 2 ^ 18)) ≡ refused_by Notcapable
  pub file : bare_call call.PathFilestatGet (4 ∷ 2 ∷ 0 ∷ 2 ∷ 2 ∷ []) (codes "a" ++ old_bytes 64)
      no_directory_open ≡ refused_by Notdir
  pub stream : bare_call call.PathFilestatGet (1 ∷ 2 ∷ 0 ∷ 2 ∷ 2 ∷ []) (codes "a" ++ old_bytes 64)
      bare_host ≡ refused_by Notdir
  pub not_open : bare_call call.PathFilestatGet (4 ∷ 2 ∷ 0 ∷ 2 ∷ 2 ∷ [])
      (codes "a" ++ old_bytes 64) bare_host ≡ refused_by Badf

-- ---- making a directory

-- the call from descriptor 4
abbrev pub makes_directory : Bytes → WasiState → Ruling
makes_directory path h = with_path call.PathCreateDirectory path h

-- bit 9 is the right that is needed
abbrev pub making : WasiState
making = in_grove (2 ^ 9)

-- the tree with one more directory
abbrev pub grove_with : Path → Files
grove_with p = record { nodes = grove.nodes ++ placed_node 7 p Directory ∷ []; next = 8 }

-- a tree of so many nodes beside the root
abbrev pub crowded : ℕ → ℕ → WasiState
crowded base n = root_open base (record { nodes = root_node ∷ lost_nodes n 2; next = n + 2 })

pub record MakingExamples : Type 0 where
  pub made : makes_directory (codes "g") making
      ≡ call_done (codes "g") (root_open (2 ^ 9) (grove_with (codes "g" ∷ [])))
  pub made_below : makes_directory (codes "d/e/b/") making
      ≡ call_done (codes "d/e/b/") (root_open (2 ^ 9)
      (grove_with (codes "d" ∷ codes "e" ∷ codes "b" ∷ [])))
  pub there : makes_directory (codes "d/e") making ≡ refused_by Exist
  pub there_as_file : makes_directory (codes "a") making ≡ refused_by Exist
  pub self : makes_directory (codes ".") making ≡ refused_by Inval
  pub in_missing : makes_directory (codes "x/g") making ≡ refused_by Noent
  pub in_file : makes_directory (codes "a/g") making ≡ refused_by Notdir
  pub in_removed_one : makes_directory (codes "g") (in_removed (2 ^ 9)) ≡ refused_by Noent
  -- 1,024 nodes are the most
  pub last_node : makes_directory (codes "g") (crowded (2 ^ 9) 1022)
      ≡ call_done (codes "g") (root_open (2 ^ 9) (record {
        nodes = root_node ∷ lost_nodes 1022 2 ++ placed_node 1024 (codes "g" ∷ []) Directory ∷ [];
        next = 1025;
      }))
  pub no_node : makes_directory (codes "g") (crowded (2 ^ 9) 1023) ≡ refused_by Nospc
  pub path_beyond : bare_call call.PathCreateDirectory (4 ∷ 0 ∷ 2 ∷ []) (codes "g") making
      ≡ refused_by Fault
  pub without : bare_call call.PathCreateDirectory (4 ∷ 0 ∷ 2 ∷ []) (codes "g")
      (in_grove (directory_rights - 2 ^ 9)) ≡ refused_by Notcapable
  pub file : bare_call call.PathCreateDirectory (4 ∷ 0 ∷ 2 ∷ []) (codes "g") no_directory_open
      ≡ refused_by Notdir
  pub not_open : bare_call call.PathCreateDirectory (5 ∷ 0 ∷ 2 ∷ []) (codes "g") making
      ≡ refused_by Badf

-- ---- removing

-- the calls from descriptor 4
abbrev pub removes_directory : Bytes → WasiState → Ruling
removes_directory path h = with_path call.PathRemoveDirectory path h

abbrev pub unlinks : Bytes → WasiState → Ruling
unlinks path h = with_path call.PathUnlinkFile path h

-- bit 25 is the right that removes a directory, and bit 26 the one that unlinks a file
abbrev pub removing : WasiState
removing = in_grove (2 ^ 25)

abbrev pub unlinking : WasiState
unlinking = in_grove (2 ^ 26)

pub record RemovalExamples : Type 0 where
  pub removed_directory : removes_directory (codes "d/e") removing
      ≡ call_done (codes "d/e") (in_other (2 ^ 25)
      (root_node ∷ file_a (codes "xyz") ∷ directory_d ∷ file_d_b ∷ directory_f ∷ []))
  -- one that is open stays
  pub open_directory : removes_directory (codes "f") (and_open 6 removing)
      ≡ call_done (codes "f") (and_open 6
      (in_other (2 ^ 25) (root_node ∷ file_a (codes "xyz") ∷ directory_d ∷ file_d_b
      ∷ directory_d_e ∷ lost_node 6 Directory ∷ [])))
  pub not_empty : removes_directory (codes "d") removing ≡ refused_by Notempty
  pub no_directory : removes_directory (codes "a") removing ≡ refused_by Notdir
  pub missing_directory : removes_directory (codes "x") removing ≡ refused_by Noent
  pub self_directory : removes_directory (codes "d/e/..") removing ≡ refused_by Inval
  pub directory_beyond : bare_call call.PathRemoveDirectory (4 ∷ 0 ∷ 2 ∷ []) (codes "f") removing
      ≡ refused_by Fault
  pub without_right : bare_call call.PathRemoveDirectory (4 ∷ 0 ∷ 2 ∷ []) (codes "f")
      (in_grove (directory_rights - 2 ^ 25)) ≡ refused_by Notcapable
  pub from_file : bare_call call.PathRemoveDirectory (4 ∷ 0 ∷ 2 ∷ []) (codes "f")
      no_directory_open ≡ refused_by Notdir
  pub from_none : bare_call call.PathRemoveDirectory (5 ∷ 0 ∷ 2 ∷ []) (codes "f") removing
      ≡ refused_by Badf
  pub unlinked : unlinks (codes "d/b") unlinking
      ≡ call_done (codes "d/b") (in_other (2 ^ 26)
      (root_node ∷ file_a (codes "xyz") ∷ directory_d ∷ directory_d_e ∷ directory_f ∷ []))
  -- a file that is open stays, with its bytes
  pub open_file : unlinks (codes "a") (and_open 2 unlinking)
      ≡ call_done (codes "a") (and_open 2
      (in_other (2 ^ 26) (root_node ∷ lost_node 2 (File (codes "xyz")) ∷ directory_d ∷ file_d_b
      ∷ directory_d_e ∷ directory_f ∷ [])))
  pub unlinked_directory : unlinks (codes "f") unlinking ≡ refused_by Isdir
  pub missing_file : unlinks (codes "d/x") unlinking ≡ refused_by Noent
  pub self_file : unlinks (codes ".") unlinking ≡ refused_by Inval
  pub file_beyond : bare_call call.PathUnlinkFile (4 ∷ 0 ∷ 2 ∷ []) (codes "a") unlinking
      ≡ refused_by Fault
  pub unlinked_without : bare_call call.PathUnlinkFile (4 ∷ 0 ∷ 2 ∷ []) (codes "a")
      (in_grove (directory_rights - 2 ^ 26)) ≡ refused_by Notcapable
  pub unlinked_from_file : bare_call call.PathUnlinkFile (4 ∷ 0 ∷ 2 ∷ []) (codes "a")
      no_directory_open ≡ refused_by Notdir
  pub unlinked_from_none : bare_call call.PathUnlinkFile (5 ∷ 0 ∷ 2 ∷ []) (codes "a") unlinking
      ≡ refused_by Badf

-- ---- renaming

-- bits 16 and 17 are the rights of source and target
abbrev pub moving : WasiState
moving = in_grove (2 ^ 16 + 2 ^ 17)

-- after a rename of one path to another the root is open in these nodes
abbrev pub has_moved : Bytes → Bytes → List FileNode → Ruling
has_moved old new nodes = call_done (old ++ new) (in_other (2 ^ 16 + 2 ^ 17) nodes)

-- descriptor 4 has the right of a source alone, and 5, which names `d`, that of a target
abbrev pub from_root_to_d : Files → WasiState
from_root_to_d files =
    with_descriptor 5 (node_descriptor 3 (2 ^ 17) 0 0) (root_open (2 ^ 16) files)

pub record RenameExamples : Type 0 where
  pub file_moved : renames (codes "a") (codes "d/c") moving
      ≡ has_moved (codes "a") (codes "d/c")
      (root_node ∷ placed_node 2 (codes "d" ∷ codes "c" ∷ []) (File (codes "xyz")) ∷ directory_d
      ∷ file_d_b ∷ directory_d_e ∷ directory_f ∷ [])
  -- all that lies in a directory moves with it, here onto an empty one
  pub subtree_moved : renames (codes "d") (codes "f") moving
      ≡ has_moved (codes "d") (codes "f")
      (root_node ∷ file_a (codes "xyz") ∷ placed_node 3 (codes "f" ∷ []) Directory ∷ placed_node 4
      (codes "f" ∷ codes "b" ∷ []) (File (codes "v")) ∷ placed_node 5 (codes "f" ∷ codes "e" ∷ [])
      Directory ∷ [])
  pub over_file : renames (codes "a") (codes "d/b") moving
      ≡ has_moved (codes "a") (codes "d/b")
      (root_node ∷ placed_node 2 (codes "d" ∷ codes "b" ∷ []) (File (codes "xyz")) ∷ directory_d
      ∷ directory_d_e ∷ directory_f ∷ [])
  -- what stood at the target stays where it is open
  pub over_open_file : renames (codes "d/b") (codes "a") (and_open 2 moving)
      ≡ call_done (codes "d/ba") (and_open 2
      (in_other (2 ^ 16 + 2 ^ 17) (root_node ∷ lost_node 2 (File (codes "xyz")) ∷ directory_d
      ∷ placed_node 4 (codes "a" ∷ []) (File (codes "v")) ∷ directory_d_e ∷ directory_f ∷ [])))
  pub same_node : renames (codes "d/b") (codes "d/./b") moving
      ≡ has_moved (codes "d/b") (codes "d/./b") grove.nodes
  pub same_directory : renames (codes "d") (codes "d") moving
      ≡ has_moved (codes "d") (codes "d") grove.nodes
  pub file_on_directory : renames (codes "a") (codes "f") moving ≡ refused_by Isdir
  pub directory_on_file : renames (codes "f") (codes "a") moving ≡ refused_by Notdir
  pub not_empty : renames (codes "f") (codes "d") moving ≡ refused_by Notempty
  pub into_itself : renames (codes "d") (codes "d/g") moving ≡ refused_by Inval
  pub below_itself : renames (codes "d") (codes "d/e/g") moving ≡ refused_by Inval
  -- the source is no part of its own target also where something is there
  pub onto_own_file : renames (codes "d") (codes "d/b") moving ≡ refused_by Inval
  pub missing : renames (codes "x") (codes "y") moving ≡ refused_by Noent
  pub self_source : renames (codes ".") (codes "y") moving ≡ refused_by Inval
  pub self_target : renames (codes "x") (codes ".") moving ≡ refused_by Inval
  pub target_walked_first : renames (codes ".") (codes "x/y") moving ≡ refused_by Noent
  pub source_walked_first : renames (codes "x/y") (codes "a/y") moving ≡ refused_by Noent
  pub target_formed_first : renames (codes "x/y") (codes "/") moving ≡ refused_by Notcapable
  pub two_directories : bare_call call.PathRename (4 ∷ 0 ∷ 1 ∷ 5 ∷ 1 ∷ 1 ∷ []) (codes "ac")
      (from_root_to_d grove)
      ≡ call_done (codes "ac") (from_root_to_d
      (before_seven (root_node ∷ placed_node 2 (codes "d" ∷ codes "c" ∷ []) (File (codes "xyz"))
      ∷ directory_d ∷ file_d_b ∷ directory_d_e ∷ directory_f ∷ [])))
  pub into_removed : bare_call call.PathRename (4 ∷ 0 ∷ 1 ∷ 5 ∷ 1 ∷ 1 ∷ []) (codes "fc")
      (and_open 3 (in_other (2 ^ 16) (root_node ∷ lost_node 3 Directory ∷ directory_f ∷ [])))
      ≡ refused_by Noent
  pub source_beyond : bare_call call.PathRename (4 ∷ 1 ∷ 2 ∷ 5 ∷ 0 ∷ 0 ∷ []) (codes "ac")
      (from_root_to_d grove) ≡ refused_by Fault
  pub target_beyond : bare_call call.PathRename (4 ∷ 0 ∷ 0 ∷ 5 ∷ 1 ∷ 2 ∷ []) (codes "ac")
      (from_root_to_d grove) ≡ refused_by Fault
  -- each needs its own right
  pub without_source : bare_call call.PathRename (5 ∷ 0 ∷ 9 ∷ 5 ∷ 0 ∷ 9 ∷ []) (codes "ac")
      (from_root_to_d grove) ≡ refused_by Notcapable
  pub without_target : bare_call call.PathRename (4 ∷ 0 ∷ 9 ∷ 4 ∷ 0 ∷ 9 ∷ []) (codes "ac")
      (from_root_to_d grove) ≡ refused_by Notcapable
  -- both are directories before a right is looked at, and both are open before that
  pub target_no_directory : bare_call call.PathRename (5 ∷ 0 ∷ 9 ∷ 1 ∷ 0 ∷ 9 ∷ []) (codes "ac")
      (from_root_to_d grove) ≡ refused_by Notdir
  pub source_no_directory : bare_call call.PathRename (1 ∷ 0 ∷ 9 ∷ 4 ∷ 0 ∷ 9 ∷ []) (codes "ac")
      (from_root_to_d grove) ≡ refused_by Notdir
  pub target_not_open : bare_call call.PathRename (1 ∷ 0 ∷ 9 ∷ 6 ∷ 0 ∷ 9 ∷ []) (codes "ac")
      (from_root_to_d grove) ≡ refused_by Badf
  pub source_not_open : bare_call call.PathRename (6 ∷ 0 ∷ 9 ∷ 1 ∷ 0 ∷ 9 ∷ []) (codes "ac")
      (from_root_to_d grove) ≡ refused_by Badf
