-- The rules of the calls on directories and paths (this project's profile).
use Rattle.std.specs.Prelude.{ℕ, ◌+◌, ◌==◌, not, ◌&&◌, ◌||◌, nat_le, nat_lt, bit_and, if◌then◌else◌}
use Rattle.std.specs.Prelude.{Bool, false, List, [], ◌∷◌, ◌++◌, length, take, drop, Option, Some}
use Rattle.std.specs.Prelude.{None, option_map, Result, Ok, Err, is_some}
use Rattle.wasi_abi.specs.declared.errno.Errno.TheVariants.{Exist, Inval, Isdir, Mfile, Noent}
use Rattle.wasi_abi.specs.declared.errno.Errno.TheVariants.{Nospc, Notdir, Notempty}
use Rattle.wasi_abi.specs.rules.Numbers.{path_create_directory_right, path_create_file_right}
use Rattle.wasi_abi.specs.rules.Numbers.{path_open_right, fd_readdir_right}
use Rattle.wasi_abi.specs.rules.Numbers.{path_rename_source_right, path_rename_target_right}
use Rattle.wasi_abi.specs.rules.Numbers.{path_filestat_get_right, path_filestat_set_size_right}
use Rattle.wasi_abi.specs.rules.Numbers.{path_remove_directory_right, path_unlink_file_right}
use Rattle.wasi_abi.specs.rules.Numbers.{file_rights, directory_rights, all_rights, create_flag}
use Rattle.wasi_abi.specs.rules.Numbers.{directory_flag, exclusive_flag, truncate_flag, has_flag}
use Rattle.wasi_abi.specs.rules.Numbers.{directory_type, regular_file}
use Rattle.wasi_abi.specs.rules.Layouts.{u32_bytes, dirent_bytes}
use Rattle.guest_memory.specs.rules.Bytes.{with_part}
use Rattle.file_tree.specs.rules.Files.{Name, Path, Files, Entry, Directory, File, path_of}
use Rattle.file_tree.specs.rules.Files.{is_directory, entries_of, created, removed, renamed}
use Rattle.file_tree.specs.rules.Files.{with_file_bytes, path_behind}
use Rattle.file_tree.specs.declared.limits.TheConstants.{NODES}
use Rattle.wasi_calls_rules.specs.WasiStates.{Node, Descriptor, WasiState}
use Rattle.wasi_calls_rules.specs.Checks.{Bytes, Halt, Refuses, Ruling, ◌>>=◌, check_or, some_or}
use Rattle.wasi_calls_rules.specs.Checks.{open_descriptor, a_directory, with_right, needs}
use Rattle.wasi_calls_rules.specs.Checks.{within_rights, in_memory, lent, node_named}
use Rattle.wasi_calls_rules.specs.Paths.{WalkEnd, Self, Leaf, formed, walk, node_at}
use Rattle.wasi_calls_rules.specs.Small.{call_done, with_descriptor, filestat_bytes_of, swept}

-- ---- directories

-- the file type of a node
abbrev pub node_type : Files → ℕ → ℕ
node_type fs k = if is_directory fs k then directory_type else regular_file

-- the entries from this place on, each with the place after it
abbrev pub listed : Files → ℕ → List Entry → Bytes
listed fs place [] = []
listed fs place (e ∷ entries) = dirent_bytes (place + 1) e.number (node_type fs e.number) e.name
    ++ listed fs (place + 1) entries

-- as much of the entries after the first `cookie` ones as there is room for
abbrev pub fd_readdir : ℕ → ℕ → ℕ → ℕ → ℕ → Bytes → WasiState → Ruling
fd_readdir fd buf len cookie ret m h =
    open_descriptor h fd >>= λ d.
    a_directory h d >>= λ _.
    with_right fd_readdir_right d >>= λ _.
    in_memory m buf len >>= λ _.
    in_memory m ret 4 >>= λ _.
    let bytes : Bytes =
    take len (listed h.files cookie (drop cookie (entries_of h.files (node_named d.target)))) in
    call_done (with_part (with_part m buf bytes) ret (u32_bytes (length bytes))) h

-- ---- places

-- where the names lead from the descriptor's directory
abbrev pub placed : WasiState → Descriptor → List Name → Result WalkEnd Halt
placed h d names = walk h.files (node_named d.target) [] names

-- a place that is a name in a directory, and no self path
abbrev pub a_leaf : {A : Type 0} → WalkEnd → (ℕ → Name → Result A Halt) → Result A Halt
a_leaf (Self k) go = Err (Refuses Inval)
a_leaf (Leaf d name) go = go d name

-- the whole path of a name in a directory, which is missing where the directory was removed
abbrev pub whole_path : Files → ℕ → Name → Result Path Halt
whole_path fs d name = some_or Noent (option_map (λ p. p ++ name ∷ []) (path_of fs d))

-- room for one more node
abbrev pub a_free_node : Files → Result (Unit {0}) Halt
a_free_node fs = check_or (nat_lt (length fs.nodes) NODES) Nospc

-- `path_create_directory`
abbrev pub path_create_directory : ℕ → ℕ → ℕ → Bytes → WasiState → Ruling
path_create_directory fd path len m h =
    open_descriptor h fd >>= λ d.
    a_directory h d >>= λ _.
    with_right path_create_directory_right d >>= λ _.
    lent m path len >>= λ bytes.
    formed bytes >>= λ names.
    placed h d names >>= λ place.
    a_leaf place (λ parent name.
    check_or (not (is_some (node_at h.files place))) Exist >>= λ _.
    whole_path h.files parent name >>= λ p.
    a_free_node h.files >>= λ _.
    call_done m (record h { files = created p Directory h.files }))

-- `path_filestat_get`
abbrev pub path_filestat_get : ℕ → ℕ → ℕ → ℕ → ℕ → Bytes → WasiState → Ruling
path_filestat_get fd flags path len ret m h =
    open_descriptor h fd >>= λ d.
    a_directory h d >>= λ _.
    with_right path_filestat_get_right d >>= λ _.
    check_or (nat_le flags 1) Inval >>= λ _.
    lent m path len >>= λ bytes.
    in_memory m ret 64 >>= λ _.
    formed bytes >>= λ names.
    placed h d names >>= λ place.
    some_or Noent (node_at h.files place) >>= λ k.
    call_done (with_part m ret (filestat_bytes_of h (Node k))) h

-- a directory without entries
abbrev pub is_directory_empty : Files → ℕ → Bool
is_directory_empty fs k = length (entries_of fs k) == 0

-- the host after a node has lost its path
abbrev pub without : ℕ → WasiState → WasiState
without k h = record h { files = swept (Node k) h.descriptors (removed k h.files) }

-- `path_remove_directory`
abbrev pub path_remove_directory : ℕ → ℕ → ℕ → Bytes → WasiState → Ruling
path_remove_directory fd path len m h =
    open_descriptor h fd >>= λ d.
    a_directory h d >>= λ _.
    with_right path_remove_directory_right d >>= λ _.
    lent m path len >>= λ bytes.
    formed bytes >>= λ names.
    placed h d names >>= λ place.
    a_leaf place (λ parent name.
    some_or Noent (node_at h.files place) >>= λ k.
    check_or (is_directory h.files k) Notdir >>= λ _.
    check_or (is_directory_empty h.files k) Notempty >>= λ _.
    call_done m (without k h))

-- `path_unlink_file`
abbrev pub path_unlink_file : ℕ → ℕ → ℕ → Bytes → WasiState → Ruling
path_unlink_file fd path len m h =
    open_descriptor h fd >>= λ d.
    a_directory h d >>= λ _.
    with_right path_unlink_file_right d >>= λ _.
    lent m path len >>= λ bytes.
    formed bytes >>= λ names.
    placed h d names >>= λ place.
    a_leaf place (λ parent name.
    some_or Noent (node_at h.files place) >>= λ k.
    check_or (not (is_directory h.files k)) Isdir >>= λ _.
    call_done m (without k h))

-- ---- renaming

-- a path that is, or lies below, another
abbrev pub is_below : Path → Path → Bool
is_below above p = is_some (path_behind above p)

-- directory d is node k, or lies below it
abbrev pub is_within_node : Files → ℕ → ℕ → Bool
is_within_node fs k d = within_path (path_of fs k) (path_of fs d)
  where
    within_path : Option Path → Option Path → Bool
    within_path (Some above) (Some p) = is_below above p
    within_path _ _ = false

-- what is at the target gives way to what comes
abbrev pub gives_way : Files → ℕ → Option ℕ → Result (Unit {0}) Halt
gives_way fs k None = Ok tt
gives_way fs k (Some j) =
    check_or (is_directory fs k || not (is_directory fs j)) Isdir >>= λ _.
    check_or (not (is_directory fs k) || is_directory fs j) Notdir >>= λ _.
    check_or (not (is_directory fs j) || is_directory_empty fs j) Notempty

-- the host without the node that a rename replaces, if there is one
abbrev pub without_target : Option ℕ → WasiState → WasiState
without_target None h = h
without_target (Some j) h = without j h

-- the node k, whose path is `from`, takes the path `to`, at which j may be
abbrev pub renamed_over : ℕ → Option ℕ → Path → Path → WasiState → WasiState
renamed_over k j from to h = let cleared : WasiState = without_target j h in
    record cleared { files = renamed from to cleared.files }

-- there is a node, and it is this one
abbrev pub is_same_node : ℕ → Option ℕ → Bool
is_same_node k None = false
is_same_node k (Some j) = j == k

-- from a name in one directory to a name in another. Both are one node: nothing changes
abbrev pub renamed_to : ℕ → Name → WalkEnd → ℕ → Name → WalkEnd → Bytes → WasiState → Ruling
renamed_to d name source e other target m h =
    some_or Noent (node_at h.files source) >>= λ k.
    whole_path h.files d name >>= λ from.
    whole_path h.files e other >>= λ to.
    check_or (not (is_within_node h.files k e)) Inval >>= λ _.
    if is_same_node k (node_at h.files target) then call_done m h
    else (gives_way h.files k (node_at h.files target)
    >>= λ _. call_done m (renamed_over k (node_at h.files target) from to h))

-- `path_rename`
abbrev pub path_rename : ℕ → ℕ → ℕ → ℕ → ℕ → ℕ → Bytes → WasiState → Ruling
path_rename old_fd old_path old_len new_fd new_path new_len m h =
    open_descriptor h old_fd >>= λ d.
    open_descriptor h new_fd >>= λ e.
    a_directory h d >>= λ _.
    a_directory h e >>= λ _.
    with_right path_rename_source_right d >>= λ _.
    with_right path_rename_target_right e >>= λ _.
    lent m old_path old_len >>= λ old_bytes.
    lent m new_path new_len >>= λ new_bytes.
    formed old_bytes >>= λ old_names.
    formed new_bytes >>= λ new_names.
    placed h d old_names >>= λ source.
    placed h e new_names >>= λ target.
    a_leaf source (λ from name.
    a_leaf target (λ to other.
    renamed_to from name source to other target m h))

-- ---- opening

-- the lowest free number from 3 on
abbrev pub free_from : ℕ → List (Option Descriptor) → Option ℕ
free_from n [] = None
free_from n (None ∷ ds) = if nat_lt n 3 then free_from (n + 1) ds else Some n
free_from n (Some d ∷ ds) = free_from (n + 1) ds

-- the lowest number that no descriptor has, or `mfile`
abbrev pub free_number : WasiState → Result ℕ Halt
free_number h = some_or Mfile (free_from 0 h.descriptors)

-- The descriptor of a node that was opened. Its rights are cut to what a node of its type may have.
abbrev pub new_descriptor : Bool → ℕ → ℕ → ℕ → ℕ → Descriptor
new_descriptor is_dir k flags base inheriting = record {
  target = Node k;
  offset = 0;
  flags = flags;
  base = bit_and base (if is_dir then directory_rights else file_rights);
  inheriting = if is_dir then bit_and inheriting all_rights else 0;
}

-- what was asked for: open flags, rights and descriptor flags
pub record OpenMode : Type 0 where
  pub oflags : ℕ
  pub base : ℕ
  pub inheriting : ℕ
  pub fdflags : ℕ

-- the files, where `trunc` was asked for with no bytes in this one
abbrev pub cut_if : Bool → ℕ → Files → Files
cut_if is_cut k fs = if is_cut then with_file_bytes k [] fs else fs

-- the new descriptor's number is put into memory
abbrev pub opened_as : ℕ → ℕ → Descriptor → Bytes → WasiState → Ruling
opened_as ret n d m h = call_done (with_part m ret (u32_bytes n)) (with_descriptor n d h)

-- a node that is there is opened
abbrev pub opened_there : ℕ → OpenMode → ℕ → Bytes → WasiState → Ruling
opened_there k w ret m h =
    check_or (not (has_flag w.oflags create_flag && has_flag w.oflags exclusive_flag)) Exist
    >>= λ _.
    check_or (not (is_directory h.files k && (has_flag w.oflags create_flag
    || has_flag w.oflags truncate_flag || has_flag w.base 6))) Isdir >>= λ _.
    check_or (is_directory h.files k || not (has_flag w.oflags directory_flag)) Notdir >>= λ _.
    free_number h >>= λ n.
    opened_as ret n (new_descriptor (is_directory h.files k) k w.fdflags w.base w.inheriting) m
    (record h { files = cut_if (has_flag w.oflags truncate_flag) k h.files })

-- a file is made and opened where nothing is
abbrev pub opened_new : WalkEnd → OpenMode → ℕ → Bytes → WasiState → Ruling
opened_new place w ret m h =
    check_or (has_flag w.oflags create_flag) Noent >>= λ _.
    a_leaf place (λ d name.
    whole_path h.files d name >>= λ p.
    free_number h >>= λ n.
    a_free_node h.files >>= λ _.
    opened_as ret n (new_descriptor false h.files.next w.fdflags w.base w.inheriting) m
    (record h { files = created p (File []) h.files }))

-- what is opened: a node that is there, or a new one
abbrev pub opened_at : Option ℕ → WalkEnd → OpenMode → ℕ → Bytes → WasiState → Ruling
opened_at None place w ret m h = opened_new place w ret m h
opened_at (Some k) place w ret m h = opened_there k w ret m h

-- `path_open`
abbrev pub path_open : ℕ → ℕ → ℕ → ℕ → OpenMode → ℕ → Bytes → WasiState → Ruling
path_open fd dirflags path len w ret m h =
    open_descriptor h fd >>= λ d.
    a_directory h d >>= λ _.
    with_right path_open_right d >>= λ _.
    needs (has_flag w.oflags create_flag) path_create_file_right d >>= λ _.
    needs (has_flag w.oflags truncate_flag) path_filestat_set_size_right d >>= λ _.
    within_rights w.base d.inheriting >>= λ _.
    within_rights w.inheriting d.inheriting >>= λ _.
    check_or (nat_le dirflags 1 && nat_le w.oflags 15 && nat_le w.fdflags 31
    && not (has_flag w.oflags create_flag && has_flag w.oflags directory_flag)) Inval >>= λ _.
    lent m path len >>= λ bytes.
    in_memory m ret 4 >>= λ _.
    formed bytes >>= λ names.
    placed h d names >>= λ place.
    opened_at (node_at h.files place) place w ret m h
