-- Worked examples of the calls on single descriptors. Where one has several faults, the first in
-- the order of the checks is told.
use Rattle.std.specs.Prelude.{◌≡◌, ℕ, ◌-◌, ◌^◌, [], ◌∷◌, ◌++◌, take, drop, replicate, codes, Some}
use Rattle.std.specs.Prelude.{None}
use Rattle.wasi_abi.specs.declared.errno.Errno.TheVariants.{Badf, Fault, Fbig, Inval, Isdir}
use Rattle.wasi_abi.specs.declared.errno.Errno.TheVariants.{Nametoolong, Nospc, Spipe, Notcapable}
use Rattle.wasi_abi.specs.declared.call.Call.TheVariants as call
use Rattle.wasi_abi.specs.rules.Numbers.{file_rights}
use Rattle.wasi_abi.specs.rules.Layouts.{padding}
use Rattle.file_tree.specs.rules.Files.{Files, FileNode, File}
use Rattle.wasi_calls_rules.specs.WasiStates.{WasiState, first_descriptors}
use Rattle.wasi_calls_rules.specs.Checks.{Bytes}
use Rattle.wasi_calls_rules.specs.Small.{with_descriptor, call_done}
use Rattle.wasi_calls_rules.specs.laws.Examples.{bare_host}
use Rattle.wasi_calls_rules.specs.laws.Scenes.{bare_call, refused_by, old_bytes, small_u32}
use Rattle.wasi_calls_rules.specs.laws.Scenes.{small_u64, root_node, file_a, tree_of_a}
use Rattle.wasi_calls_rules.specs.laws.Scenes.{node_descriptor, a_open}

-- ---- closing

-- `a`, which holds `xyz`, is open as descriptor 4 with every right of a file
abbrev pub xyz_open : WasiState
xyz_open = a_open (codes "xyz") file_rights 0

-- the root, and node 2, which was removed
abbrev pub removed_a : FileNode
removed_a = record { number = 2; path = None; content = File (codes "xyz") }

abbrev pub tree_without_a : Files
tree_without_a = record { nodes = root_node ∷ removed_a ∷ []; next = 3 }

-- a removed file that is open as 4 and as 5
abbrev pub open_twice : WasiState
open_twice =
    with_descriptor 5 (node_descriptor 2 file_rights 0 0)
    (record xyz_open { files = tree_without_a })

-- the same without 4
abbrev pub open_once : WasiState
open_once = record open_twice {
  descriptors = take 4 first_descriptors
      ++ (None ∷ Some (node_descriptor 2 file_rights 0 0) ∷ replicate 58 None);
}

pub record CloseExamples : Type 0 where
  pub closed : bare_call call.FdClose (4 ∷ []) [] xyz_open
      ≡ call_done [] (record bare_host { files = tree_of_a (codes "xyz") })
  pub input_closed : bare_call call.FdClose (0 ∷ []) [] bare_host
      ≡ call_done [] (record bare_host { descriptors = None ∷ drop 1 first_descriptors })
  pub root_kept : bare_call call.FdClose (3 ∷ []) [] bare_host ≡ refused_by Notcapable
  pub not_open : bare_call call.FdClose (4 ∷ []) [] bare_host ≡ refused_by Badf
  -- 63 is the last number
  pub last_number : bare_call call.FdClose (63 ∷ []) []
      (with_descriptor 63 (node_descriptor 1 0 0 0) bare_host) ≡ call_done [] bare_host
  pub no_number : bare_call call.FdClose (64 ∷ []) [] bare_host ≡ refused_by Badf
  -- a removed file stays while a descriptor names it
  pub one_of_two : bare_call call.FdClose (4 ∷ []) [] open_twice ≡ call_done [] open_once
  pub last_of_two : bare_call call.FdClose (5 ∷ []) [] open_once
      ≡ call_done [] (record bare_host { files = record { nodes = root_node ∷ []; next = 3 } })

-- ---- guest syncs

-- the file `a`, open as descriptor 4 with these rights
abbrev pub xyz_with : ℕ → WasiState
xyz_with base = a_open (codes "xyz") base 0

pub record SyncExamples : Type 0 where
  -- bit 0 alone is needed
  pub data_synced : bare_call call.FdDatasync (4 ∷ []) [] (xyz_with 1) ≡ call_done [] (xyz_with 1)
  pub data_without : bare_call call.FdDatasync (4 ∷ []) [] (xyz_with (file_rights - 1))
      ≡ refused_by Notcapable
  pub data_not_open : bare_call call.FdDatasync (5 ∷ []) [] (xyz_with 1) ≡ refused_by Badf
  -- bit 4 alone is needed
  pub synced : bare_call call.FdSync (4 ∷ []) [] (xyz_with 16) ≡ call_done [] (xyz_with 16)
  pub without : bare_call call.FdSync (4 ∷ []) [] (xyz_with (file_rights - 16))
      ≡ refused_by Notcapable
  pub not_open : bare_call call.FdSync (5 ∷ []) [] (xyz_with 16) ≡ refused_by Badf
  pub root_synced : bare_call call.FdSync (3 ∷ []) [] bare_host ≡ call_done [] bare_host
  pub output_not : bare_call call.FdSync (1 ∷ []) [] bare_host ≡ refused_by Notcapable

-- ---- what a descriptor is

-- `a` is open with the flags `append` and `nonblock`, and inheriting rights
abbrev pub with_flags : ℕ → WasiState
with_flags flags = with_descriptor 4 (node_descriptor 2 file_rights 2 flags) xyz_open

pub record StatusExamples : Type 0 where
  -- file type 2 and right bits 1 and 21
  pub input : bare_call call.FdFdstatGet (0 ∷ 1 ∷ []) (old_bytes 26) bare_host
      ≡ call_done (255
      ∷ ((2 ∷ padding 7) ++ ((2 ∷ 0 ∷ 32 ∷ padding 5) ++ (padding 8 ++ old_bytes 1)))) bare_host
  -- right bits 6 and 21
  pub output : bare_call call.FdFdstatGet (2 ∷ 2 ∷ []) (old_bytes 26) bare_host
      ≡ call_done (old_bytes 2 ++ ((2 ∷ padding 7) ++ ((64 ∷ 0 ∷ 32 ∷ padding 5) ++ padding 8)))
      bare_host
  -- file type 3, the rights of a directory, and all to inherit
  pub root : bare_call call.FdFdstatGet (3 ∷ 0 ∷ []) (old_bytes 24) bare_host
      ≡ call_done ((3 ∷ padding 7)
      ++ ((17 ∷ 102 ∷ 47 ∷ 6 ∷ padding 4) ++ (127 ∷ 102 ∷ 111 ∷ 6 ∷ padding 4))) bare_host
  -- file type 4, the flags 5, and the rights of a file
  pub file : bare_call call.FdFdstatGet (4 ∷ 0 ∷ []) (old_bytes 24) (with_flags 5)
      ≡ call_done ((4 ∷ 0 ∷ 5 ∷ padding 5) ++ ((127 ∷ 0 ∷ 96 ∷ padding 5) ++ padding 8))
      (with_flags 5)
  pub beyond_end : bare_call call.FdFdstatGet (0 ∷ 3 ∷ []) (old_bytes 26) bare_host
      ≡ refused_by Fault
  pub not_open : bare_call call.FdFdstatGet (4 ∷ 3 ∷ []) (old_bytes 26) bare_host
      ≡ refused_by Badf

pub record FlagExamples : Type 0 where
  pub most : bare_call call.FdFdstatSetFlags (4 ∷ 31 ∷ []) [] (with_flags 5)
      ≡ call_done [] (with_flags 31)
  pub replaced : bare_call call.FdFdstatSetFlags (4 ∷ 2 ∷ []) [] (with_flags 5)
      ≡ call_done [] (with_flags 2)
  pub too_many : bare_call call.FdFdstatSetFlags (4 ∷ 32 ∷ []) [] (with_flags 5)
      ≡ refused_by Inval
  -- bit 3 alone is needed
  pub with_right : bare_call call.FdFdstatSetFlags (4 ∷ 0 ∷ []) [] (xyz_with 8)
      ≡ call_done [] (xyz_with 8)
  pub without : bare_call call.FdFdstatSetFlags (4 ∷ 32 ∷ []) [] (xyz_with (file_rights - 8))
      ≡ refused_by Notcapable
  pub not_open : bare_call call.FdFdstatSetFlags (5 ∷ 32 ∷ []) [] (with_flags 5) ≡ refused_by Badf

-- a file's status: 64 bytes, with its node, file type, links and size
abbrev pub status : ℕ → ℕ → ℕ → ℕ → Bytes
status node type links size =
    padding 8 ++ (small_u64 node
    ++ (small_u64 type ++ (small_u64 links ++ (small_u64 size ++ padding 24))))

pub record FileStatusExamples : Type 0 where
  pub stream : bare_call call.FdFilestatGet (1 ∷ 1 ∷ []) (old_bytes 66) bare_host
      ≡ call_done (old_bytes 1 ++ (status 0 2 1 0 ++ old_bytes 1)) bare_host
  pub root : bare_call call.FdFilestatGet (3 ∷ 2 ∷ []) (old_bytes 66) bare_host
      ≡ call_done (old_bytes 2 ++ status 1 3 1 0) bare_host
  -- bit 21 alone is needed
  pub file : bare_call call.FdFilestatGet (4 ∷ 0 ∷ []) (old_bytes 64) (xyz_with (2 ^ 21))
      ≡ call_done (status 2 4 1 3) (xyz_with (2 ^ 21))
  pub removed_file : bare_call call.FdFilestatGet (4 ∷ 0 ∷ []) (old_bytes 64) open_twice
      ≡ call_done (status 2 4 0 3) open_twice
  pub beyond_end : bare_call call.FdFilestatGet (1 ∷ 3 ∷ []) (old_bytes 66) bare_host
      ≡ refused_by Fault
  pub without : bare_call call.FdFilestatGet (4 ∷ 3 ∷ []) (old_bytes 66)
      (xyz_with (file_rights - 2 ^ 21)) ≡ refused_by Notcapable
  pub not_open : bare_call call.FdFilestatGet (5 ∷ 3 ∷ []) (old_bytes 66) xyz_open
      ≡ refused_by Badf

-- ---- sizes

-- the file `b`, node 3
abbrev pub file_b : FileNode
file_b = record { number = 3; path = Some (codes "b" ∷ []); content = File (codes "abc") }

-- `a` holds these bytes and is open as descriptor 4, at offset 3, with bit 22. All files may have
-- 8 bytes, of which `b` has 3
abbrev pub eight_in_all : Bytes → WasiState
eight_in_all bytes = record (a_open bytes (2 ^ 22) 3) {
  room = 8;
  files = record { nodes = root_node ∷ file_a bytes ∷ file_b ∷ []; next = 4 };
}

pub record SizeExamples : Type 0 where
  -- bit 22 alone is needed, and the offset stays
  pub cut : bare_call call.FdFilestatSetSize (4 ∷ 1 ∷ []) [] (eight_in_all (codes "xyz"))
      ≡ call_done [] (eight_in_all (codes "x"))
  pub longer : bare_call call.FdFilestatSetSize (4 ∷ 5 ∷ []) [] (eight_in_all (codes "xyz"))
      ≡ call_done [] (eight_in_all (codes "xyz" ++ padding 2))
  pub too_long_for_all : bare_call call.FdFilestatSetSize (4 ∷ 6 ∷ []) []
      (eight_in_all (codes "xyz")) ≡ refused_by Nospc
  -- a file may have 1 MiB, and here there is no room for it
  pub most : bare_call call.FdFilestatSetSize (4 ∷ 1048576 ∷ []) [] (eight_in_all [])
      ≡ refused_by Nospc
  pub too_long : bare_call call.FdFilestatSetSize (4 ∷ 1048577 ∷ []) [] (eight_in_all [])
      ≡ refused_by Fbig
  pub without : bare_call call.FdFilestatSetSize (4 ∷ 1048577 ∷ []) []
      (xyz_with (file_rights - 2 ^ 22)) ≡ refused_by Notcapable
  pub directory : bare_call call.FdFilestatSetSize (3 ∷ 0 ∷ []) [] bare_host ≡ refused_by Isdir
  pub stream : bare_call call.FdFilestatSetSize (1 ∷ 0 ∷ []) [] bare_host ≡ refused_by Spipe
  pub not_open : bare_call call.FdFilestatSetSize (4 ∷ 0 ∷ []) [] bare_host ≡ refused_by Badf

-- ---- the directory that was open from the start

pub record PrestatExamples : Type 0 where
  pub root : bare_call call.FdPrestatGet (3 ∷ 1 ∷ []) (old_bytes 10) bare_host
      ≡ call_done (255 ∷ (padding 4 ++ (small_u32 1 ++ old_bytes 1))) bare_host
  pub last_place : bare_call call.FdPrestatGet (3 ∷ 2 ∷ []) (old_bytes 10) bare_host
      ≡ call_done (old_bytes 2 ++ (padding 4 ++ small_u32 1)) bare_host
  pub beyond_end : bare_call call.FdPrestatGet (3 ∷ 3 ∷ []) (old_bytes 10) bare_host
      ≡ refused_by Fault
  -- another descriptor is none of those, and its ranges are looked at first
  pub other : bare_call call.FdPrestatGet (4 ∷ 2 ∷ []) (old_bytes 10) xyz_open ≡ refused_by Badf
  pub other_beyond : bare_call call.FdPrestatGet (4 ∷ 3 ∷ []) (old_bytes 10) xyz_open
      ≡ refused_by Fault
  pub not_open : bare_call call.FdPrestatGet (5 ∷ 3 ∷ []) (old_bytes 10) xyz_open
      ≡ refused_by Badf
  -- a `/`, whatever there is room for
  pub name : bare_call call.FdPrestatDirName (3 ∷ 1 ∷ 1 ∷ []) (old_bytes 3) bare_host
      ≡ call_done (255 ∷ 47 ∷ 255 ∷ []) bare_host
  pub longer_room : bare_call call.FdPrestatDirName (3 ∷ 2 ∷ 9 ∷ []) (old_bytes 3) bare_host
      ≡ call_done (255 ∷ 255 ∷ 47 ∷ []) bare_host
  pub no_room : bare_call call.FdPrestatDirName (3 ∷ 2 ∷ 0 ∷ []) (old_bytes 3) bare_host
      ≡ refused_by Nametoolong
  pub name_beyond : bare_call call.FdPrestatDirName (3 ∷ 3 ∷ 0 ∷ []) (old_bytes 3) bare_host
      ≡ refused_by Fault
  pub other_name : bare_call call.FdPrestatDirName (4 ∷ 2 ∷ 0 ∷ []) (old_bytes 3) xyz_open
      ≡ refused_by Badf
  pub other_name_beyond : bare_call call.FdPrestatDirName (4 ∷ 3 ∷ 0 ∷ []) (old_bytes 3) xyz_open
      ≡ refused_by Fault
  pub name_not_open : bare_call call.FdPrestatDirName (5 ∷ 3 ∷ 0 ∷ []) (old_bytes 3) xyz_open
      ≡ refused_by Badf

-- ---- offsets

-- `a` is open with these rights, at this offset
abbrev pub at_offset : ℕ → ℕ → WasiState
at_offset base offset = a_open (codes "xyz") base offset

-- so many back, as a number of 64 bits
abbrev pub back : ℕ → ℕ
back n = 2 ^ 64 - n

pub record SeekExamples : Type 0 where
  -- from the start, from the offset, and from the end; bit 2 alone is needed
  pub from_start : bare_call call.FdSeek (4 ∷ 9 ∷ 0 ∷ 1 ∷ []) (old_bytes 10) (at_offset 4 2)
      ≡ call_done (255 ∷ (small_u64 9 ++ old_bytes 1)) (at_offset 4 9)
  pub from_offset : bare_call call.FdSeek (4 ∷ back 1 ∷ 1 ∷ 2 ∷ []) (old_bytes 10) (at_offset 4 2)
      ≡ call_done (old_bytes 2 ++ small_u64 1) (at_offset 4 1)
  pub from_end : bare_call call.FdSeek (4 ∷ back 3 ∷ 2 ∷ 0 ∷ []) (old_bytes 8) (at_offset 4 2)
      ≡ call_done (padding 8) (at_offset 4 0)
  pub before_start : bare_call call.FdSeek (4 ∷ back 1 ∷ 1 ∷ 0 ∷ []) (old_bytes 8) (at_offset 4 0)
      ≡ refused_by Inval
  pub before_start_from_end : bare_call call.FdSeek (4 ∷ back 4 ∷ 2 ∷ 0 ∷ []) (old_bytes 8)
      (at_offset 4 9) ≡ refused_by Inval
  -- the last offset is 2 ^ 63 - 1
  pub last_offset : bare_call call.FdSeek (4 ∷ (2 ^ 63 - 2) ∷ 1 ∷ 0 ∷ []) (old_bytes 8)
      (at_offset 4 1) ≡ call_done (old_bytes 7 ++ (127 ∷ [])) (at_offset 4 (2 ^ 63 - 1))
  pub beyond_last : bare_call call.FdSeek (4 ∷ (2 ^ 63 - 1) ∷ 1 ∷ 0 ∷ []) (old_bytes 8)
      (at_offset 4 1) ≡ refused_by Inval
  -- ranges before the new offset, and numbers before ranges
  pub beyond_end : bare_call call.FdSeek (4 ∷ back 1 ∷ 0 ∷ 1 ∷ []) (old_bytes 8) (at_offset 4 0)
      ≡ refused_by Fault
  pub from_nowhere : bare_call call.FdSeek (4 ∷ 0 ∷ 3 ∷ 1 ∷ []) (old_bytes 8) (at_offset 4 0)
      ≡ refused_by Inval
  pub without : bare_call call.FdSeek (4 ∷ 0 ∷ 3 ∷ 1 ∷ []) (old_bytes 8)
      (at_offset (file_rights - 4) 0) ≡ refused_by Notcapable
  pub directory : bare_call call.FdSeek (3 ∷ 0 ∷ 3 ∷ 1 ∷ []) (old_bytes 8) bare_host
      ≡ refused_by Isdir
  pub stream : bare_call call.FdSeek (0 ∷ 0 ∷ 3 ∷ 1 ∷ []) (old_bytes 8) bare_host
      ≡ refused_by Spipe
  pub not_open : bare_call call.FdSeek (4 ∷ 0 ∷ 3 ∷ 1 ∷ []) (old_bytes 8) bare_host
      ≡ refused_by Badf

pub record TellExamples : Type 0 where
  -- bit 5 alone is needed
  pub told : bare_call call.FdTell (4 ∷ 1 ∷ []) (old_bytes 10) (at_offset 32 7)
      ≡ call_done (255 ∷ (small_u64 7 ++ old_bytes 1)) (at_offset 32 7)
  pub last_place : bare_call call.FdTell (4 ∷ 2 ∷ []) (old_bytes 10) (at_offset 32 7)
      ≡ call_done (old_bytes 2 ++ small_u64 7) (at_offset 32 7)
  pub beyond_end : bare_call call.FdTell (4 ∷ 3 ∷ []) (old_bytes 10) (at_offset 32 7)
      ≡ refused_by Fault
  pub without : bare_call call.FdTell (4 ∷ 3 ∷ []) (old_bytes 10) (at_offset (file_rights - 32) 7)
      ≡ refused_by Notcapable
  pub directory : bare_call call.FdTell (3 ∷ 3 ∷ []) (old_bytes 10) bare_host ≡ refused_by Isdir
  pub stream : bare_call call.FdTell (2 ∷ 3 ∷ []) (old_bytes 10) bare_host ≡ refused_by Spipe
  pub not_open : bare_call call.FdTell (4 ∷ 3 ∷ []) (old_bytes 10) bare_host ≡ refused_by Badf
