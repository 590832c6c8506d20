-- With other lines in front each call does the same.
use Rattle.std.proofs.Common.{ℕ, List, [], ◌∷◌, refl}
use Rattle.std.specs.Prelude.{Option}
use Rattle.wasi_abi.specs.declared.answer.Answer.{Answer}
use Rattle.wasi_abi.specs.declared.call.Call.{Call}
use Rattle.wasi_abi.specs.declared.call.Call.TheVariants as call
use Rattle.wasi_calls_rules.specs.WasiStates.{Line, WasiState}
use Rattle.wasi_calls_rules.specs.Checks.{Bytes}
use Rattle.wasi_calls_rules.specs.CallRules.{call_rule}
use Rattle.wasi_calls.proofs.LinesInFront.{next, write_behind}
use Rattle.wasi_calls.proofs.OpeningInFront.{renamed_to_behind, opened_at_behind}
use Rattle.wasi_calls.proofs.SmallInFront.{IsBehind, either, leaf_next, time_put_behind}
use Rattle.wasi_calls.proofs.SmallInFront.{random_put_behind}
use Rattle.wasi_calls.proofs.MovesInFront.{pwrite_behind, read_behind}

module _ (before : List Line) (given : Option Answer) (m : Bytes) (h : WasiState) where
  behind : (c : Call) (arguments : List ℕ) → IsBehind before (call_rule c arguments given m) h
  behind call.ArgsGet (argv ∷ buf ∷ []) = search (next before) depth 14
  behind call.ArgsSizesGet (count ∷ size ∷ []) = search (next before) depth 14
  behind call.EnvironGet (environ ∷ buf ∷ []) = search (next before) depth 14
  behind call.EnvironSizesGet (count ∷ size ∷ []) = search (next before) depth 14
  behind call.ClockResGet (id ∷ ret ∷ []) = search (next before) depth 14
  behind call.ClockTimeGet (id ∷ precision ∷ ret ∷ []) =
      search (next before, time_put_behind before m h) depth 14
  behind call.FdClose (fd ∷ []) = search (next before) depth 14
  behind call.FdDatasync (fd ∷ []) = search (next before) depth 14
  behind call.FdFdstatGet (fd ∷ ret ∷ []) = search (next before) depth 14
  behind call.FdFdstatSetFlags (fd ∷ flags ∷ []) = search (next before) depth 14
  behind call.FdFilestatGet (fd ∷ ret ∷ []) = search (next before) depth 14
  behind call.FdFilestatSetSize (fd ∷ size ∷ []) = search (next before) depth 14
  behind call.FdPrestatGet (fd ∷ ret ∷ []) = search (next before) depth 14
  behind call.FdPrestatDirName (fd ∷ path ∷ len ∷ []) = search (next before) depth 14
  behind call.FdSeek (fd ∷ delta ∷ whence ∷ ret ∷ []) = search (next before) depth 14
  behind call.FdSync (fd ∷ []) = search (next before) depth 14
  behind call.FdTell (fd ∷ ret ∷ []) = search (next before) depth 14
  behind call.FdWrite (fd ∷ iovs ∷ count ∷ ret ∷ []) = write_behind before fd iovs count ret m h
  behind call.ProcExit (code ∷ []) = refl
  behind call.SchedYield [] = refl
  behind call.RandomGet (buf ∷ len ∷ []) =
      search (next before, either before, random_put_behind before m h) depth 14
  behind call.FdPread (fd ∷ iovs ∷ count ∷ offset ∷ ret ∷ []) = search (next before) depth 14
  behind call.FdPwrite (fd ∷ iovs ∷ count ∷ offset ∷ ret ∷ []) =
      pwrite_behind before m h fd iovs count offset ret
  behind call.FdRead (fd ∷ iovs ∷ count ∷ ret ∷ []) = read_behind before m h fd iovs count ret given
  behind call.FdReaddir (fd ∷ buf ∷ len ∷ cookie ∷ ret ∷ []) = search (next before) depth 14
  behind call.PathCreateDirectory (fd ∷ path ∷ len ∷ []) =
      search (next before, leaf_next before) depth 14
  behind call.PathFilestatGet (fd ∷ flags ∷ path ∷ len ∷ ret ∷ []) = search (next before) depth 14
  behind call.PathOpen
      (fd ∷ dirflags ∷ path ∷ len ∷ oflags ∷ base ∷ inheriting ∷ fdflags ∷ ret ∷ []) =
      search (next before, opened_at_behind before m h) depth 20
  behind call.PathRemoveDirectory (fd ∷ path ∷ len ∷ []) =
      search (next before, leaf_next before) depth 14
  behind call.PathRename (old_fd ∷ old_path ∷ old_len ∷ new_fd ∷ new_path ∷ new_len ∷ []) =
      search (next before, leaf_next before, renamed_to_behind before m h) depth 20
  behind call.PathUnlinkFile (fd ∷ path ∷ len ∷ []) =
      search (next before, leaf_next before) depth 14
  behind _ _ = refl

pub call_rule_behind : (before : List Line) (c : Call) (arguments : List ℕ) (given : Option Answer)
    (m : Bytes) (h : WasiState) → IsBehind before (call_rule c arguments given m) h
call_rule_behind before c arguments given m h = behind before given m h c arguments
