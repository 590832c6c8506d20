-- All calls: what each does with its arguments, and what a caller is told (this project's profile).
use Rattle.std.specs.Prelude.{◌≡◌, ℕ, List, [], ◌∷◌, Option, Ok, Err, IsOk}
use Rattle.wasi_abi.specs.declared.errno.Errno.{Errno}
use Rattle.wasi_abi.specs.declared.errno.Errno.TheVariants.{Inval}
use Rattle.wasi_abi.specs.declared.answer.Question.{Question}
use Rattle.wasi_abi.specs.declared.answer.Answer.{Answer}
use Rattle.wasi_abi.specs.declared.call.Call.{Call}
use Rattle.wasi_abi.specs.declared.call.Call.TheVariants as call
use Rattle.wasi_abi.specs.rules.Numbers.{fd_datasync_right, fd_sync_right}
use Rattle.wasi_calls_rules.specs.WasiStates.{WasiState}
use Rattle.wasi_calls_rules.specs.Checks.{Bytes, Refuses, Asks, Ends, Ruling}
use Rattle.wasi_calls_rules.specs.Small.{texts_get, texts_sizes_get, clock_res_get, clock_time_get}
use Rattle.wasi_calls_rules.specs.Small.{fd_close, fd_syncs, fd_fdstat_get, fd_fdstat_set_flags}
use Rattle.wasi_calls_rules.specs.Small.{fd_filestat_get, fd_filestat_set_size, fd_prestat_get}
use Rattle.wasi_calls_rules.specs.Small.{fd_prestat_dir_name, fd_seek, fd_tell, proc_exit}
use Rattle.wasi_calls_rules.specs.Small.{sched_yield, random_get}
use Rattle.wasi_calls_rules.specs.Moving.{fd_read, fd_pread, fd_write, fd_pwrite}
use Rattle.wasi_calls_rules.specs.Entries.{fd_readdir, path_create_directory, path_filestat_get}
use Rattle.wasi_calls_rules.specs.Entries.{path_remove_directory, path_unlink_file, path_rename}
use Rattle.wasi_calls_rules.specs.Entries.{path_open}

-- the numbers of the arguments, in order; `given` is the outside answer, where one is there
abbrev pub call_rule : Call → List ℕ → Option Answer → Bytes → WasiState → Ruling
call_rule call.ArgsGet (argv ∷ buf ∷ []) given m h = texts_get h.arguments argv buf m h
call_rule call.ArgsSizesGet (count ∷ size ∷ []) given m h = texts_sizes_get h.arguments
    count size m h
call_rule call.EnvironGet (environ ∷ buf ∷ []) given m h = texts_get h.environment environ buf m h
call_rule call.EnvironSizesGet (count ∷ size ∷ []) given m h =
    texts_sizes_get h.environment count size m h
call_rule call.ClockResGet (id ∷ ret ∷ []) given m h = clock_res_get id ret m h
call_rule call.ClockTimeGet (id ∷ precision ∷ ret ∷ []) given m h = clock_time_get id ret given m h
call_rule call.FdClose (fd ∷ []) given m h = fd_close fd m h
call_rule call.FdDatasync (fd ∷ []) given m h = fd_syncs fd_datasync_right fd m h
call_rule call.FdFdstatGet (fd ∷ ret ∷ []) given m h = fd_fdstat_get fd ret m h
call_rule call.FdFdstatSetFlags (fd ∷ flags ∷ []) given m h = fd_fdstat_set_flags fd flags m h
call_rule call.FdFilestatGet (fd ∷ ret ∷ []) given m h = fd_filestat_get fd ret m h
call_rule call.FdFilestatSetSize (fd ∷ size ∷ []) given m h = fd_filestat_set_size fd size m h
call_rule call.FdPread (fd ∷ iovs ∷ count ∷ offset ∷ ret ∷ []) given m h =
    fd_pread fd iovs count offset ret m h
call_rule call.FdPrestatGet (fd ∷ ret ∷ []) given m h = fd_prestat_get fd ret m h
call_rule call.FdPrestatDirName (fd ∷ path ∷ len ∷ []) given m h = fd_prestat_dir_name
    fd path len m h
call_rule call.FdPwrite (fd ∷ iovs ∷ count ∷ offset ∷ ret ∷ []) given m h =
    fd_pwrite fd iovs count offset ret m h
call_rule call.FdRead (fd ∷ iovs ∷ count ∷ ret ∷ []) given m h = fd_read fd iovs count ret given m h
call_rule call.FdReaddir (fd ∷ buf ∷ len ∷ cookie ∷ ret ∷ []) given m h =
    fd_readdir fd buf len cookie ret m h
call_rule call.FdSeek (fd ∷ delta ∷ whence ∷ ret ∷ []) given m h = fd_seek fd delta whence ret m h
call_rule call.FdSync (fd ∷ []) given m h = fd_syncs fd_sync_right fd m h
call_rule call.FdTell (fd ∷ ret ∷ []) given m h = fd_tell fd ret m h
call_rule call.FdWrite (fd ∷ iovs ∷ count ∷ ret ∷ []) given m h = fd_write fd iovs count ret m h
call_rule call.PathCreateDirectory (fd ∷ path ∷ len ∷ []) given m h =
    path_create_directory fd path len m h
call_rule call.PathFilestatGet (fd ∷ flags ∷ path ∷ len ∷ ret ∷ []) given m h =
    path_filestat_get fd flags path len ret m h
call_rule call.PathOpen (fd ∷ dirflags ∷ path ∷ len ∷ oflags ∷ base ∷ inheriting ∷ fdflags ∷ ret
    ∷ []) given m h =
    path_open fd dirflags path len (record {
      oflags = oflags;
      base = base;
      inheriting = inheriting;
      fdflags = fdflags;
    }) ret m h
call_rule call.PathRemoveDirectory (fd ∷ path ∷ len ∷ []) given m h =
    path_remove_directory fd path len m h
call_rule call.PathRename (old_fd ∷ old_path ∷ old_len ∷ new_fd ∷ new_path ∷ new_len
    ∷ []) given m h = path_rename old_fd old_path old_len new_fd new_path new_len m h
call_rule call.PathUnlinkFile (fd ∷ path ∷ len ∷ []) given m h = path_unlink_file fd path len m h
call_rule call.ProcExit (code ∷ []) given m h = proc_exit code
call_rule call.SchedYield [] given m h = sched_yield m h
call_rule call.RandomGet (buf ∷ len ∷ []) given m h = random_get buf len given m h
-- no call has other arguments
call_rule _ _ given m h = Err (Refuses Inval)

-- a call that, when it answers 0, is a guest sync
abbrev pub IsSync : Call → Type 0
IsSync call.FdDatasync = Unit {0}
IsSync call.FdSync = Unit {0}
IsSync _ = ⊥

-- how a call of the code ends: it is done or refused, or it ends with a question, with the end of
-- the process, or out of memory
pub data CallEnding : Type 0 where
  IsDone : CallEnding
  IsRefused : Errno → CallEnding
  IsAsk : Question → CallEnding
  IsExit : ℕ → CallEnding
  NoMemory : CallEnding

-- What a caller is told is what the call's rule says. All but a call that is done leave memory and
-- host as they were. Memory may be wanting for a call alone that its rule does.
abbrev pub TellsCallRule : CallEnding → Bytes → WasiState → Bytes → WasiState → Ruling → Type 0
TellsCallRule IsDone m h old_m old_h ruling = ruling ≡ Ok (record { memory = m; host = h })
TellsCallRule (IsRefused e) m h old_m old_h ruling = (ruling ≡ Err (Refuses e))
    × (m ≡ old_m) × (h ≡ old_h)
TellsCallRule (IsAsk k) m h old_m old_h ruling = (ruling ≡ Err (Asks k)) × (m ≡ old_m) × (h ≡ old_h)
TellsCallRule (IsExit code) m h old_m old_h ruling = (ruling ≡ Err (Ends code))
    × (m ≡ old_m) × (h ≡ old_h)
TellsCallRule NoMemory m h old_m old_h ruling = IsOk ruling × (m ≡ old_m) × (h ≡ old_h)
