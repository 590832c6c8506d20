-- The rule of `path_open` in the pieces that the code is made of (this project's own).
use Rattle.std.specs.Prelude.{ℕ, not, ◌&&◌, ◌||◌, nat_le, Bool, false, Option, Some, None, Result}
use Rattle.wasi_abi.specs.declared.errno.Errno.TheVariants.{Exist, Inval, Isdir, Notdir}
use Rattle.wasi_abi.specs.rules.Numbers.{path_create_file_right, path_open_right}
use Rattle.wasi_abi.specs.rules.Numbers.{path_filestat_set_size_right, create_flag, directory_flag}
use Rattle.wasi_abi.specs.rules.Numbers.{exclusive_flag, truncate_flag, has_flag, open_flags_number}
use Rattle.wasi_abi.specs.rules.Numbers.{descriptor_flags_number, rights_number}
use Rattle.wasi_calls_rules.specs.WasiStates.{Descriptor}
use Rattle.wasi_calls_rules.specs.Checks.{Halt, ◌>>=◌, check_or, with_right, needs, within_rights}
use Rattle.wasi_calls_rules.specs.Entries.{OpenMode}
use Rattle.wasi_calls.specs.declared.opening.CheckedMode.{CheckedMode}
use Rattle.wasi_calls.specs.declared.opening.AskedMode.{AskedMode}

-- what a guest asks for
abbrev pub asked_for : AskedMode → OpenMode
asked_for w = record {
  oflags = w.oflags;
  base = w.base;
  inheriting = w.inheriting;
  fdflags = w.fdflags;
}

-- the same, in flags that there are
abbrev pub checked_mode : CheckedMode → OpenMode
checked_mode w = record {
  oflags = open_flags_number w.flags;
  base = rights_number w.base;
  inheriting = rights_number w.inheriting;
  fdflags = descriptor_flags_number w.descriptor_flags;
}

-- the rights that an opening needs of the directory's descriptor
abbrev pub may_open : Descriptor → OpenMode → Result (Unit {0}) Halt
may_open d w =
    with_right path_open_right d >>= λ _.
    needs (has_flag w.oflags create_flag) path_create_file_right d >>= λ _.
    needs (has_flag w.oflags truncate_flag) path_filestat_set_size_right d >>= λ _.
    within_rights w.base d.inheriting >>= λ _.
    within_rights w.inheriting d.inheriting

-- no flags but those that there are, and no directory that is made
abbrev pub right_flags : ℕ → OpenMode → Result (Unit {0}) Halt
right_flags dirflags w =
    check_or (nat_le dirflags 1 && nat_le w.oflags 15 && nat_le w.fdflags 31
    && not (has_flag w.oflags create_flag && has_flag w.oflags directory_flag)) Inval

-- a node that is there may be opened so
abbrev pub may_be_opened : Bool → OpenMode → Result (Unit {0}) Halt
may_be_opened is_dir w =
    check_or (not (has_flag w.oflags create_flag && has_flag w.oflags exclusive_flag)) Exist
    >>= λ _.
    check_or (not (is_dir && (has_flag w.oflags create_flag || has_flag w.oflags truncate_flag
    || has_flag w.base 6))) Isdir >>= λ _.
    check_or (is_dir || not (has_flag w.oflags directory_flag)) Notdir

-- nothing is open at this place, which may be given
abbrev pub is_free : ℕ → Option Descriptor → Bool
is_free n None = nat_le 3 n
is_free n (Some d) = false
