-- The names and types of the calls (the functions of the witx files of `wasi_snapshot_preview1`).
use Rattle.std.specs.Prelude.{ℕ, List, [], ◌∷◌, codes}
use Rattle.wasm_syntax.specs.declared.types.ValueType.{ValueType}
use Rattle.wasm_syntax.specs.declared.types.ValueType.TheVariants.{I32, I64}
use Rattle.wasm_syntax.specs.declared.types.FunctionType.{FunctionType}
use Rattle.wasi_abi.specs.declared.call.Call.{Call}
use Rattle.wasi_abi.specs.declared.call.Call.TheVariants as call

-- the module name of the calls
abbrev pub module_name : List ℕ
module_name = codes "wasi_snapshot_preview1"

-- every call
abbrev pub all_calls : List Call
all_calls =
    call.ArgsGet ∷ call.ArgsSizesGet ∷ call.EnvironGet ∷ call.EnvironSizesGet ∷ call.ClockResGet ∷
    call.ClockTimeGet ∷ call.FdClose ∷ call.FdDatasync ∷ call.FdFdstatGet ∷ call.FdFdstatSetFlags ∷
    call.FdFilestatGet ∷ call.FdFilestatSetSize ∷ call.FdPread ∷ call.FdPrestatGet
    ∷ call.FdPrestatDirName ∷
    call.FdPwrite ∷ call.FdRead ∷ call.FdReaddir ∷ call.FdSeek ∷ call.FdSync ∷ call.FdTell
    ∷ call.FdWrite ∷
    call.PathCreateDirectory ∷ call.PathFilestatGet ∷ call.PathOpen ∷ call.PathRemoveDirectory ∷
    call.PathRename ∷ call.PathUnlinkFile ∷ call.ProcExit ∷ call.SchedYield ∷ call.RandomGet ∷ []

-- the name of a call
abbrev pub name_of : Call → List ℕ
name_of call.ArgsGet = codes "args_get"
name_of call.ArgsSizesGet = codes "args_sizes_get"
name_of call.EnvironGet = codes "environ_get"
name_of call.EnvironSizesGet = codes "environ_sizes_get"
name_of call.ClockResGet = codes "clock_res_get"
name_of call.ClockTimeGet = codes "clock_time_get"
name_of call.FdClose = codes "fd_close"
name_of call.FdDatasync = codes "fd_datasync"
name_of call.FdFdstatGet = codes "fd_fdstat_get"
name_of call.FdFdstatSetFlags = codes "fd_fdstat_set_flags"
name_of call.FdFilestatGet = codes "fd_filestat_get"
name_of call.FdFilestatSetSize = codes "fd_filestat_set_size"
name_of call.FdPread = codes "fd_pread"
name_of call.FdPrestatGet = codes "fd_prestat_get"
name_of call.FdPrestatDirName = codes "fd_prestat_dir_name"
name_of call.FdPwrite = codes "fd_pwrite"
name_of call.FdRead = codes "fd_read"
name_of call.FdReaddir = codes "fd_readdir"
name_of call.FdSeek = codes "fd_seek"
name_of call.FdSync = codes "fd_sync"
name_of call.FdTell = codes "fd_tell"
name_of call.FdWrite = codes "fd_write"
name_of call.PathCreateDirectory = codes "path_create_directory"
name_of call.PathFilestatGet = codes "path_filestat_get"
name_of call.PathOpen = codes "path_open"
name_of call.PathRemoveDirectory = codes "path_remove_directory"
name_of call.PathRename = codes "path_rename"
name_of call.PathUnlinkFile = codes "path_unlink_file"
name_of call.ProcExit = codes "proc_exit"
name_of call.SchedYield = codes "sched_yield"
name_of call.RandomGet = codes "random_get"

-- pointers, sizes, descriptors, numbers and flags are i32; offsets, cookies, rights and time stamps
-- are i64
abbrev pub parameters_of : Call → List ValueType
parameters_of call.ArgsGet = I32 ∷ I32 ∷ []
parameters_of call.ArgsSizesGet = I32 ∷ I32 ∷ []
parameters_of call.EnvironGet = I32 ∷ I32 ∷ []
parameters_of call.EnvironSizesGet = I32 ∷ I32 ∷ []
parameters_of call.ClockResGet = I32 ∷ I32 ∷ []
parameters_of call.ClockTimeGet = I32 ∷ I64 ∷ I32 ∷ []
parameters_of call.FdClose = I32 ∷ []
parameters_of call.FdDatasync = I32 ∷ []
parameters_of call.FdFdstatGet = I32 ∷ I32 ∷ []
parameters_of call.FdFdstatSetFlags = I32 ∷ I32 ∷ []
parameters_of call.FdFilestatGet = I32 ∷ I32 ∷ []
parameters_of call.FdFilestatSetSize = I32 ∷ I64 ∷ []
parameters_of call.FdPread = I32 ∷ I32 ∷ I32 ∷ I64 ∷ I32 ∷ []
parameters_of call.FdPrestatGet = I32 ∷ I32 ∷ []
parameters_of call.FdPrestatDirName = I32 ∷ I32 ∷ I32 ∷ []
parameters_of call.FdPwrite = I32 ∷ I32 ∷ I32 ∷ I64 ∷ I32 ∷ []
parameters_of call.FdRead = I32 ∷ I32 ∷ I32 ∷ I32 ∷ []
parameters_of call.FdReaddir = I32 ∷ I32 ∷ I32 ∷ I64 ∷ I32 ∷ []
parameters_of call.FdSeek = I32 ∷ I64 ∷ I32 ∷ I32 ∷ []
parameters_of call.FdSync = I32 ∷ []
parameters_of call.FdTell = I32 ∷ I32 ∷ []
parameters_of call.FdWrite = I32 ∷ I32 ∷ I32 ∷ I32 ∷ []
parameters_of call.PathCreateDirectory = I32 ∷ I32 ∷ I32 ∷ []
parameters_of call.PathFilestatGet = I32 ∷ I32 ∷ I32 ∷ I32 ∷ I32 ∷ []
parameters_of call.PathOpen = I32 ∷ I32 ∷ I32 ∷ I32 ∷ I32 ∷ I64 ∷ I64 ∷ I32 ∷ I32 ∷ []
parameters_of call.PathRemoveDirectory = I32 ∷ I32 ∷ I32 ∷ []
parameters_of call.PathRename = I32 ∷ I32 ∷ I32 ∷ I32 ∷ I32 ∷ I32 ∷ []
parameters_of call.PathUnlinkFile = I32 ∷ I32 ∷ I32 ∷ []
parameters_of call.ProcExit = I32 ∷ []
parameters_of call.SchedYield = []
parameters_of call.RandomGet = I32 ∷ I32 ∷ []

-- every call but the end of the process gives an error number
abbrev pub result_types : Call → List ValueType
result_types call.ProcExit = []
result_types _ = I32 ∷ []

-- the type of a call
abbrev pub call_type_of : Call → FunctionType
call_type_of c = record { parameters = parameters_of c; results = result_types c }
