-- Worked examples of opening. Where a call has several faults, the first in the order of the
-- checks is told.
use Rattle.std.specs.Prelude.{◌≡◌, ℕ, ◌+◌, ◌-◌, ◌^◌, [], ◌∷◌, ◌++◌, take, replicate, codes, Some}
use Rattle.std.specs.Prelude.{None}
use Rattle.wasi_abi.specs.declared.errno.Errno.TheVariants.{Badf, Exist, Fault, Inval, Isdir, Mfile}
use Rattle.wasi_abi.specs.declared.errno.Errno.TheVariants.{Noent, Nospc, Notdir, Notcapable}
use Rattle.wasi_abi.specs.declared.call.Call.TheVariants as call
use Rattle.wasi_abi.specs.rules.Numbers.{file_rights, directory_rights, all_rights}
use Rattle.file_tree.specs.rules.Files.{File}
use Rattle.wasi_calls_rules.specs.WasiStates.{Descriptor, WasiState, first_descriptors}
use Rattle.wasi_calls_rules.specs.Checks.{Bytes, Ruling}
use Rattle.wasi_calls_rules.specs.Small.{call_done, with_descriptor}
use Rattle.wasi_calls_rules.specs.laws.Examples.{bare_host}
use Rattle.wasi_calls_rules.specs.laws.Scenes.{bare_call, refused_by, old_bytes, small_u32}
use Rattle.wasi_calls_rules.specs.laws.Scenes.{root_node, file_a, node_descriptor, a_open}
use Rattle.wasi_calls_rules.specs.laws.Trees.{placed_node, lost_nodes, directory_d, file_d_b}
use Rattle.wasi_calls_rules.specs.laws.Trees.{directory_d_e, directory_f, before_seven, grove}
use Rattle.wasi_calls_rules.specs.laws.Trees.{in_removed, opens_from_root}

-- the tree, of which nothing is open but the root, as descriptor 3
abbrev pub closed_grove : WasiState
closed_grove = record bare_host { files = grove }

-- the path is opened as this number, with this descriptor, and leaves the host otherwise
abbrev pub is_opened_as : ℕ → Descriptor → Bytes → WasiState → Ruling
is_opened_as n d path h = call_done (path ++ small_u32 n) (with_descriptor n d h)

-- the tree with other bytes in `a`
abbrev pub grove_with_a : Bytes → WasiState
grove_with_a bytes = record bare_host {
  files = before_seven (root_node ∷ file_a bytes ∷ directory_d ∷ file_d_b ∷ directory_d_e
      ∷ directory_f ∷ []);
}

-- the tree with a new, empty file `d/c`, node 7
abbrev pub grove_with_c : WasiState
grove_with_c = record bare_host {
  files = record {
    nodes = grove.nodes ++ placed_node 7 (codes "d" ∷ codes "c" ∷ []) (File []) ∷ [];
    next = 8;
  };
}

-- a descriptor of a directory that has and hands on every right of a directory
abbrev pub directory_descriptor : ℕ → Descriptor
directory_descriptor k =
    record (node_descriptor k directory_rights 0 0) { inheriting = all_rights }

pub record OpenedExamples : Type 0 where
  -- a file has no more rights than a file may have, hands on none, and is open at 0 with its
  -- flags
  pub file : opens_from_root (codes "a") 0 all_rights all_rights 31 closed_grove
      ≡ is_opened_as 4 (node_descriptor 2 file_rights 0 31) (codes "a") closed_grove
  pub few_rights : opens_from_root (codes "d/b") 0 (2 ^ 1 + 2 ^ 14) 0 0 closed_grove
      ≡ is_opened_as 4 (node_descriptor 4 2 0 0) (codes "d/b") closed_grove
  -- a directory has no more rights than a directory may have, and hands on what is asked for
  pub directory : opens_from_root (codes "d/e") 2 (all_rights - 2 ^ 6) all_rights 0 closed_grove
      ≡ is_opened_as 4 (directory_descriptor 5) (codes "d/e") closed_grove
  pub fewer_to_hand_on : opens_from_root (codes ".") 0 (2 ^ 14) (2 ^ 6) 0 closed_grove
      ≡ is_opened_as 4 (record (node_descriptor 1 (2 ^ 14) 0 0) { inheriting = 2 ^ 6 })
      (codes ".") closed_grove
  -- open flags: 1 creates, 2 wants a directory, 4 is exclusive, 8 truncates
  pub created_file : opens_from_root (codes "d/c") 1 2 0 1 closed_grove
      ≡ is_opened_as 4 (node_descriptor 7 2 0 1) (codes "d/c") grove_with_c
  pub created_alone : opens_from_root (codes "d/c") 13 all_rights all_rights 0 closed_grove
      ≡ is_opened_as 4 (node_descriptor 7 file_rights 0 0) (codes "d/c") grove_with_c
  pub there_already : opens_from_root (codes "a") 1 2 0 0 closed_grove
      ≡ is_opened_as 4 (node_descriptor 2 2 0 0) (codes "a") closed_grove
  pub exclusive_alone : opens_from_root (codes "a") 4 2 0 0 closed_grove
      ≡ is_opened_as 4 (node_descriptor 2 2 0 0) (codes "a") closed_grove
  pub truncated : opens_from_root (codes "a") 8 2 0 0 closed_grove
      ≡ is_opened_as 4 (node_descriptor 2 2 0 0) (codes "a") (grove_with_a [])
  pub wanted_directory : opens_from_root (codes "f") 2 0 0 0 closed_grove
      ≡ is_opened_as 4 (node_descriptor 6 0 0 0) (codes "f") closed_grove

pub record OpenRefusedExamples : Type 0 where
  pub exclusive : opens_from_root (codes "a") 5 2 0 0 closed_grove ≡ refused_by Exist
  pub exclusive_root : opens_from_root (codes ".") 5 0 0 0 closed_grove ≡ refused_by Exist
  pub created_root : opens_from_root (codes ".") 1 0 0 0 closed_grove ≡ refused_by Isdir
  pub created_directory : opens_from_root (codes "d") 1 0 0 0 closed_grove ≡ refused_by Isdir
  pub truncated_directory : opens_from_root (codes "d") 8 0 0 0 closed_grove ≡ refused_by Isdir
  pub written_directory : opens_from_root (codes "d") 0 (2 ^ 6) 0 0 closed_grove
      ≡ refused_by Isdir
  pub file_as_directory : opens_from_root (codes "a") 2 0 0 0 closed_grove ≡ refused_by Notdir
  pub missing : opens_from_root (codes "x") 0 0 0 0 closed_grove ≡ refused_by Noent
  pub missing_exclusive : opens_from_root (codes "x") 12 0 0 0 closed_grove ≡ refused_by Noent
  pub missing_directory : opens_from_root (codes "x") 2 0 0 0 closed_grove ≡ refused_by Noent
  pub in_missing : opens_from_root (codes "x/y") 1 0 0 0 closed_grove ≡ refused_by Noent
  pub in_removed_one : bare_call call.PathOpen (4 ∷ 0 ∷ 0 ∷ 1 ∷ 1 ∷ 0 ∷ 0 ∷ 0 ∷ 1 ∷ [])
      (codes "x" ++ old_bytes 4) (in_removed directory_rights) ≡ refused_by Noent
  -- flags: a file is made, or a directory is wanted; and no flag but those that there are
  pub largest_flags : opens_from_root (codes "d") 14 0 0 0 closed_grove ≡ refused_by Isdir
  pub flags_beyond : opens_from_root (codes "a") 16 0 0 0 closed_grove ≡ refused_by Inval
  pub created_as_directory : opens_from_root (codes "x") 3 0 0 0 closed_grove ≡ refused_by Inval
  pub descriptor_flags_beyond : opens_from_root (codes "a") 0 0 0 32 closed_grove
      ≡ refused_by Inval
  -- numbers and flags before ranges, and those before the path
  pub lookup_beyond : bare_call call.PathOpen (3 ∷ 2 ∷ 0 ∷ 6 ∷ 0 ∷ 0 ∷ 0 ∷ 0 ∷ 2 ∷ [])
      (codes "/" ++ old_bytes 4) closed_grove ≡ refused_by Inval
  pub path_beyond : bare_call call.PathOpen (3 ∷ 1 ∷ 0 ∷ 6 ∷ 0 ∷ 0 ∷ 0 ∷ 0 ∷ 1 ∷ [])
      (codes "/" ++ old_bytes 4) closed_grove ≡ refused_by Fault
  pub cell_beyond : bare_call call.PathOpen (3 ∷ 1 ∷ 0 ∷ 1 ∷ 0 ∷ 0 ∷ 0 ∷ 0 ∷ 2 ∷ [])
      (codes "/" ++ old_bytes 4) closed_grove ≡ refused_by Fault
  pub from_top : bare_call call.PathOpen (3 ∷ 1 ∷ 0 ∷ 1 ∷ 0 ∷ 0 ∷ 0 ∷ 0 ∷ 1 ∷ [])
      (codes "/" ++ old_bytes 4) closed_grove ≡ refused_by Notcapable
  pub not_open : bare_call call.PathOpen (4 ∷ 2 ∷ 0 ∷ 6 ∷ 0 ∷ 0 ∷ 0 ∷ 0 ∷ 2 ∷ [])
      (codes "/" ++ old_bytes 4) closed_grove ≡ refused_by Badf
  pub from_stream : bare_call call.PathOpen (0 ∷ 2 ∷ 0 ∷ 6 ∷ 0 ∷ 0 ∷ 0 ∷ 0 ∷ 2 ∷ [])
      (codes "/" ++ old_bytes 4) closed_grove ≡ refused_by Notdir
  pub from_file : bare_call call.PathOpen (4 ∷ 2 ∷ 0 ∷ 6 ∷ 0 ∷ 0 ∷ 0 ∷ 0 ∷ 2 ∷ [])
      (codes "/" ++ old_bytes 4) (a_open [] all_rights 0) ≡ refused_by Notdir

-- ---- rights

-- descriptor 4 is the root of the tree, with rights of its own and to hand on
abbrev pub root_with : ℕ → ℕ → WasiState
root_with base inheriting =
    with_descriptor 4 (record (node_descriptor 1 base 0 0) { inheriting = inheriting })
    closed_grove

-- `a` is opened from descriptor 4, with open flags, and rights to have and to hand on; the flags
-- for lookup are 2
abbrev pub badly_opens : ℕ → ℕ → ℕ → WasiState → Ruling
badly_opens oflags base inheriting h =
    bare_call call.PathOpen (4 ∷ 2 ∷ 0 ∷ 9 ∷ oflags ∷ base ∷ inheriting ∷ 0 ∷ 9 ∷ [])
    (codes "a" ++ old_bytes 4) h

-- A right that is wanting is told before flags that aren't there.
pub record OpenRightExamples : Type 0 where
  pub bit_13 : badly_opens 0 0 0 (root_with (2 ^ 13) 0) ≡ refused_by Inval
  pub without_13 : badly_opens 0 0 0 (root_with (directory_rights - 2 ^ 13) all_rights)
      ≡ refused_by Notcapable
  pub bit_10 : badly_opens 1 0 0 (root_with (2 ^ 13 + 2 ^ 10) 0) ≡ refused_by Inval
  pub without_10 : badly_opens 1 0 0 (root_with (directory_rights - 2 ^ 10) all_rights)
      ≡ refused_by Notcapable
  pub bit_19 : badly_opens 8 0 0 (root_with (2 ^ 13 + 2 ^ 19) 0) ≡ refused_by Inval
  pub without_19 : badly_opens 8 0 0 (root_with (directory_rights - 2 ^ 19) all_rights)
      ≡ refused_by Notcapable
  pub neither : badly_opens 6 0 0 (root_with (directory_rights - 2 ^ 10 - 2 ^ 19) 0)
      ≡ refused_by Inval
  -- what is asked for lies within what the directory hands on
  pub own_rights : badly_opens 0 6 0 (root_with (2 ^ 13) 6) ≡ refused_by Inval
  pub more_rights : badly_opens 0 6 0 (root_with directory_rights 4) ≡ refused_by Notcapable
  pub to_hand_on : badly_opens 0 0 6 (root_with (2 ^ 13) 6) ≡ refused_by Inval
  pub more_to_hand_on : badly_opens 0 0 6 (root_with directory_rights 4) ≡ refused_by Notcapable
  pub no_such_right : badly_opens 0 (2 ^ 29) 0 (root_with directory_rights all_rights)
      ≡ refused_by Notcapable

-- ---- numbers and nodes

-- so many descriptors from 4 on are open
abbrev pub many_open : ℕ → WasiState → WasiState
many_open n h = record h {
  descriptors = take 4 first_descriptors ++ replicate n (Some (node_descriptor 1 0 0 0))
      ++ replicate (60 - n) None;
}

-- no stream is open
abbrev pub no_streams : WasiState
no_streams = record closed_grove {
  descriptors = None ∷ None ∷ None ∷ Some (directory_descriptor 1) ∷ replicate 60 None;
}

-- the root, and so many nodes that were removed
abbrev pub full_of_nodes : ℕ → WasiState
full_of_nodes n = record bare_host {
  files = record {
    nodes = root_node ∷ lost_nodes n 2;
    next = n + 2;
  };
}

pub record OpenLimitExamples : Type 0 where
  -- the lowest free number from 3 on, also where 0 is free
  pub lowest : opens_from_root (codes "a") 0 2 0 0
      (with_descriptor 4 (node_descriptor 1 0 0 0) closed_grove)
      ≡ is_opened_as 5 (node_descriptor 2 2 0 0) (codes "a")
      (with_descriptor 4 (node_descriptor 1 0 0 0) closed_grove)
  pub lower : opens_from_root (codes "a") 0 2 0 0
      (with_descriptor 5 (node_descriptor 1 0 0 0) closed_grove)
      ≡ is_opened_as 4 (node_descriptor 2 2 0 0) (codes "a")
      (with_descriptor 5 (node_descriptor 1 0 0 0) closed_grove)
  pub streams_closed : opens_from_root (codes "a") 0 2 0 0 no_streams
      ≡ is_opened_as 4 (node_descriptor 2 2 0 0) (codes "a") no_streams
  pub last_number : opens_from_root (codes "a") 0 2 0 0 (many_open 59 closed_grove)
      ≡ is_opened_as 63 (node_descriptor 2 2 0 0) (codes "a") (many_open 59 closed_grove)
  pub no_number : opens_from_root (codes "a") 8 2 0 0 (many_open 60 closed_grove)
      ≡ refused_by Mfile
  -- what is at the path is told before that, and that before there is no node
  pub directory_first : opens_from_root (codes "a") 2 2 0 0 (many_open 60 closed_grove)
      ≡ refused_by Notdir
  pub missing_first : opens_from_root (codes "x") 0 2 0 0 (many_open 60 closed_grove)
      ≡ refused_by Noent
  pub number_first : opens_from_root (codes "x") 1 2 0 0 (many_open 60 (full_of_nodes 1023))
      ≡ refused_by Mfile
  -- 1,024 nodes are the most, and a node that is there needs none
  pub last_node : opens_from_root (codes "x") 1 2 0 0 (full_of_nodes 1022)
      ≡ is_opened_as 4 (node_descriptor 1024 2 0 0) (codes "x") (record bare_host {
        files = record {
          nodes = root_node ∷ lost_nodes 1022 2 ++ placed_node 1024 (codes "x" ∷ []) (File [])
              ∷ [];
          next = 1025;
        };
      })
  pub no_node : opens_from_root (codes "x") 1 2 0 0 (full_of_nodes 1023) ≡ refused_by Nospc
  pub no_new_node : opens_from_root (codes ".") 0 0 0 0 (full_of_nodes 1023)
      ≡ is_opened_as 4 (node_descriptor 1 0 0 0) (codes ".") (full_of_nodes 1023)
