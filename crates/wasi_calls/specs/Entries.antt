-- The rules of the calls on names in directories, in the pieces that the code is made of (this
-- project's own).
use Rattle.std.specs.Prelude.{ℕ, not, is_some, Result}
use Rattle.wasi_abi.specs.declared.errno.Errno.TheVariants.{Exist, Isdir, Noent, Notdir, Notempty}
use Rattle.file_tree.specs.rules.Files.{Directory, is_directory, created}
use Rattle.wasi_calls_rules.specs.WasiStates.{WasiState}
use Rattle.wasi_calls_rules.specs.Checks.{Bytes, Halt, Ruling, ◌>>=◌, check_or, some_or}
use Rattle.wasi_calls_rules.specs.Checks.{open_descriptor, a_directory, with_right, lent}
use Rattle.wasi_calls_rules.specs.Paths.{WalkEnd, formed, node_at}
use Rattle.wasi_calls_rules.specs.Small.{call_done}
use Rattle.wasi_calls_rules.specs.Entries.{placed, a_leaf, whole_path, a_free_node}
use Rattle.wasi_calls_rules.specs.Entries.{is_directory_empty, without}

-- where a path leads from an open directory whose descriptor needs this right
abbrev pub place_of_path : ℕ → ℕ → ℕ → ℕ → Bytes → WasiState → Result WalkEnd Halt
place_of_path right fd path len m h =
    open_descriptor h fd >>= λ d.
    a_directory h d >>= λ _.
    with_right right d >>= λ _.
    lent m path len >>= λ bytes.
    formed bytes >>= λ names.
    placed h d names

-- a directory is made at a place
abbrev pub directory_made : WalkEnd → Bytes → WasiState → Ruling
directory_made place m h =
    a_leaf place (λ parent name.
    check_or (not (is_some (node_at h.files place))) Exist >>= λ _.
    whole_path h.files parent name >>= λ p.
    a_free_node h.files >>= λ _.
    call_done m (record h { files = created p Directory h.files }))

-- the directory at a place is removed
abbrev pub directory_removed : WalkEnd → Bytes → WasiState → Ruling
directory_removed place m h =
    a_leaf place (λ parent name.
    some_or Noent (node_at h.files place) >>= λ k.
    check_or (is_directory h.files k) Notdir >>= λ _.
    check_or (is_directory_empty h.files k) Notempty >>= λ _.
    call_done m (without k h))

-- the file at a place is unlinked
abbrev pub file_unlinked : WalkEnd → Bytes → WasiState → Ruling
file_unlinked place m h =
    a_leaf place (λ parent name.
    some_or Noent (node_at h.files place) >>= λ k.
    check_or (not (is_directory h.files k)) Isdir >>= λ _.
    call_done m (without k h))
