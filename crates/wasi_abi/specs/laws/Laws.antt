-- What holds of the definitions that the contracts cite.
use Rattle.std.specs.Prelude.{◌≡◌, ℕ, ◌+◌, ◌<◌, ◌^◌, List, [], ◌∷◌, ◌++◌, length, map, take, codes}
use Rattle.std.specs.Prelude.{Contains}
use Rattle.std.specs.List.{AllByRecursion, IsDistinct}
use Rattle.std.specs.Str.{bytes_eq}
use Rattle.guest_memory.specs.rules.Bytes.{IsByte, bytes_of, number_of}
use Rattle.wasi_abi.specs.declared.call.Call.{Call}
use Rattle.wasi_abi.specs.declared.errno.Errno.{Errno}
use Rattle.wasi_abi.specs.rules.Calls.{all_calls, name_of}
use Rattle.wasi_abi.specs.rules.Layouts.{fdstat_bytes, filestat_bytes, dirent_bytes, prestat_bytes}
use Rattle.wasi_abi.specs.rules.Layouts.{iovec_bytes}
use Rattle.wasi_abi.specs.rules.Numbers.{errno_number, regular_file, fd_datasync_right}
use Rattle.wasi_abi.specs.rules.Numbers.{fd_read_right, fd_seek_right, fd_fdstat_set_flags_right}
use Rattle.wasi_abi.specs.rules.Numbers.{fd_sync_right, fd_tell_right, fd_write_right}
use Rattle.wasi_abi.specs.rules.Numbers.{fd_advise_right, fd_allocate_right}
use Rattle.wasi_abi.specs.rules.Numbers.{path_create_directory_right, path_create_file_right}
use Rattle.wasi_abi.specs.rules.Numbers.{path_link_source_right, path_link_target_right}
use Rattle.wasi_abi.specs.rules.Numbers.{path_open_right, fd_readdir_right, path_readlink_right}
use Rattle.wasi_abi.specs.rules.Numbers.{path_rename_source_right, path_rename_target_right}
use Rattle.wasi_abi.specs.rules.Numbers.{path_filestat_get_right, path_filestat_set_size_right}
use Rattle.wasi_abi.specs.rules.Numbers.{path_filestat_set_times_right, fd_filestat_get_right}
use Rattle.wasi_abi.specs.rules.Numbers.{fd_filestat_set_size_right, fd_filestat_set_times_right}
use Rattle.wasi_abi.specs.rules.Numbers.{path_symlink_right, path_remove_directory_right}
use Rattle.wasi_abi.specs.rules.Numbers.{path_unlink_file_right, poll_fd_readwrite_right}
use Rattle.wasi_abi.specs.rules.Numbers.{sock_shutdown_right}
use Rattle.wasi_abi.specs.declared.version.Version.{Version}
use Rattle.wasi_abi.specs.rules.Versions.{version_number, text_limit, length_bytes}

-- 0 is success, so no error has it
abbrev pub ErrorsAreNoSuccess : Type 0
ErrorsAreNoSuccess = (e : Errno) → 0 < errno_number e

-- the masks of all rights, in the order of their bits
abbrev pub right_masks : List ℕ
right_masks =
    map (λ bit. 2 ^ bit) (fd_datasync_right ∷ fd_read_right ∷ fd_seek_right
    ∷ fd_fdstat_set_flags_right ∷
    fd_sync_right ∷ fd_tell_right ∷ fd_write_right ∷ fd_advise_right ∷ fd_allocate_right ∷
    path_create_directory_right ∷ path_create_file_right ∷ path_link_source_right ∷
    path_link_target_right ∷ path_open_right ∷ fd_readdir_right ∷ path_readlink_right ∷
    path_rename_source_right ∷ path_rename_target_right ∷ path_filestat_get_right ∷
    path_filestat_set_size_right ∷ path_filestat_set_times_right ∷ fd_filestat_get_right ∷
    fd_filestat_set_size_right ∷ fd_filestat_set_times_right ∷ path_symlink_right ∷
    path_remove_directory_right ∷ path_unlink_file_right ∷ poll_fd_readwrite_right ∷
    sock_shutdown_right ∷ [])

-- there are 31 calls, and their names differ
pub record CallsDiffer : Type 0 where
  pub count : length all_calls ≡ 31
  pub every : (c : Call) → Contains all_calls c
  pub distinct : IsDistinct bytes_eq (map name_of all_calls)
  pub names : (c d : Call) → name_of c ≡ name_of d → c ≡ d

-- each layout has its size, whatever its fields are
pub record LayoutSizes : Type 0 where
  pub fdstat : (file_type flags base inheriting : ℕ)
      → length (fdstat_bytes file_type flags base inheriting) ≡ 24
  pub filestat : (node file_type links size : ℕ)
      → length (filestat_bytes node file_type links size) ≡ 64
  pub dirent : (next node file_type : ℕ) (name : List ℕ)
      → length (dirent_bytes next node file_type name) ≡ 24 + length name
  pub prestat : (name_length : ℕ) → length (prestat_bytes name_length) ≡ 8
  pub iovec : (from len : ℕ) → length (iovec_bytes from len) ≡ 8

-- a number with room in so many bytes is spelled by them, and bytes are those of the number that
-- they spell
pub record BytesSpellNumbers : Type 0 where
  pub numbers : (n x : ℕ) → x < 256 ^ n → number_of (bytes_of n x) ≡ x
  pub bytes : (bs : List ℕ) → AllByRecursion IsByte bs → bytes_of (length bs) (number_of bs) ≡ bs

-- Each version has a number of its own, and its longest payload has a length that its bytes spell.
pub record VersionsHaveRoom : Type 0 where
  pub own : (v w : Version) → version_number v ≡ version_number w → v ≡ w
  pub room : (v : Version) → text_limit v < 256 ^ length_bytes v

-- a directory with the files `a`, node 2, and `b`, node 3
abbrev pub entry_a : List ℕ
entry_a = dirent_bytes 1 2 regular_file (codes "a")

abbrev pub entry_b : List ℕ
entry_b = dirent_bytes 2 3 regular_file (codes "b")

-- its entries have 25 bytes each, and in a buffer of 30 bytes five of the second are left
pub record WorkedDirectory : Type 0 where
  pub first : entry_a ≡ 1 ∷ 0 ∷ 0 ∷ 0 ∷ 0 ∷ 0 ∷ 0 ∷ 0 ∷ 2 ∷ 0 ∷ 0 ∷ 0 ∷ 0 ∷ 0 ∷ 0 ∷ 0 ∷ 1 ∷ 0 ∷ 0
      ∷ 0 ∷ 4 ∷ 0 ∷ 0 ∷ 0 ∷ 97 ∷ []
  pub first_length : length entry_a ≡ 25
  pub second_length : length entry_b ≡ 25
  pub front : take 30 (entry_a ++ entry_b) ≡ entry_a ++ 2 ∷ 0 ∷ 0 ∷ 0 ∷ 0 ∷ []
