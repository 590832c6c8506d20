-- The rules of the calls on arguments, clocks, single descriptors and the process (this project's
-- profile). Each reads in the order of its checks, and then says what it puts into memory and what
-- it changes.
use Rattle.std.specs.Prelude.{ℕ, ◌+◌, ◌*◌, ◌^◌, ◌==◌, not, nat_le, nat_lt, max, if◌then◌else◌, Bool}
use Rattle.std.specs.Prelude.{true, false, List, [], ◌∷◌, ◌++◌, length, slice_set, Option, Some}
use Rattle.std.specs.Prelude.{None, Result, Ok, Err, ℤ, pos, ◌+ℤ◌, negsuc}
use Rattle.std.specs.List.{list_any}
use Rattle.std.specs.Int.{w64, cast_signed}
use Rattle.wasi_abi.specs.declared.errno.Errno.TheVariants.{Badf, Fbig, Inval, Nametoolong, Nospc}
use Rattle.wasi_abi.specs.declared.errno.Errno.TheVariants.{Notcapable}
use Rattle.wasi_abi.specs.declared.answer.Question.{Question}
use Rattle.wasi_abi.specs.declared.answer.Question.TheVariants as question
use Rattle.wasi_abi.specs.declared.answer.Answer.{Answer}
use Rattle.wasi_abi.specs.declared.answer.Answer.TheVariants as answer
use Rattle.wasi_abi.specs.rules.Numbers.{fd_fdstat_set_flags_right, fd_filestat_get_right}
use Rattle.wasi_abi.specs.rules.Numbers.{fd_filestat_set_size_right, fd_seek_right, fd_tell_right}
use Rattle.wasi_abi.specs.rules.Numbers.{character_device, directory_type, regular_file}
use Rattle.wasi_abi.specs.rules.Layouts.{u32_bytes, u64_bytes, fdstat_bytes, filestat_bytes}
use Rattle.wasi_abi.specs.rules.Layouts.{prestat_bytes}
use Rattle.wasi_abi.specs.rules.Versions.{text_limit}
use Rattle.guest_memory.specs.rules.Bytes.{with_part}
use Rattle.file_tree.specs.rules.Bytes.{resized}
use Rattle.file_tree.specs.rules.Files.{Files, slash, path_of, is_directory, bytes_of_node, used}
use Rattle.file_tree.specs.rules.Files.{with_file_bytes, forgotten}
use Rattle.file_tree.specs.declared.limits.TheConstants.{FILE_BYTES}
use Rattle.wasi_calls_rules.specs.WasiStates.{Target, Stream, Node, Descriptor, WasiState}
use Rattle.wasi_calls_rules.specs.Checks.{Bytes, Halt, Refuses, Ends, Ruling, ◌>>=◌, check_or}
use Rattle.wasi_calls_rules.specs.Checks.{open_descriptor, a_file, with_right, in_memory}
use Rattle.wasi_calls_rules.specs.Checks.{node_named, answered_by}

-- a call that is done
abbrev pub call_done : Bytes → WasiState → Ruling
call_done m h = Ok (record { memory = m; host = h })

-- ---- arguments and environment

-- the texts, each with a zero byte after it
abbrev pub with_zeros : List Bytes → Bytes
with_zeros [] = []
with_zeros (text ∷ texts) = text ++ (0 ∷ with_zeros texts)

-- where each of them begins
abbrev pub pointers_to : ℕ → List Bytes → Bytes
pointers_to from [] = []
pointers_to from (text ∷ texts) = u32_bytes from ++ pointers_to (from + length text + 1) texts

-- `args_get` and `environ_get`: the texts, and where each begins
abbrev pub texts_get : List Bytes → ℕ → ℕ → Bytes → WasiState → Ruling
texts_get texts array buf m h =
    in_memory m array (4 * length texts) >>= λ _.
    in_memory m buf (length (with_zeros texts)) >>= λ _.
    call_done (with_part (with_part m array (pointers_to buf texts)) buf (with_zeros texts)) h

-- `args_sizes_get` and `environ_sizes_get`: how many texts, of how many bytes
abbrev pub texts_sizes_get : List Bytes → ℕ → ℕ → Bytes → WasiState → Ruling
texts_sizes_get texts count size m h =
    in_memory m count 4 >>= λ _.
    in_memory m size 4 >>= λ _.
    call_done (with_part (with_part m count (u32_bytes (length texts))) size
    (u32_bytes (length (with_zeros texts)))) h

-- ---- clocks

-- `clock_res_get`
abbrev pub clock_res_get : ℕ → ℕ → Bytes → WasiState → Ruling
clock_res_get id ret m h =
    check_or (nat_le id 1) Inval >>= λ _.
    in_memory m ret 8 >>= λ _.
    call_done (with_part m ret (u64_bytes 1)) h

-- what the guest sees of a monotonic answer: the larger of it and the last one seen
abbrev pub time_put : Answer → ℕ → Bytes → WasiState → Ruling
time_put (answer.Monotonic n) ret m h =
    call_done (with_part m ret (u64_bytes (max n h.last_monotonic)))
    (record h { last_monotonic = max n h.last_monotonic })
time_put (answer.Realtime n) ret m h = call_done (with_part m ret (u64_bytes n)) h
time_put _ ret m h = Err (Refuses Inval)

-- which time a clock asks for
abbrev pub clock_question : ℕ → Question
clock_question id = if id == 0 then question.Realtime else question.Monotonic

-- `clock_time_get`
abbrev pub clock_time_get : ℕ → ℕ → Option Answer → Bytes → WasiState → Ruling
clock_time_get id ret given m h =
    check_or (nat_le id 1) Inval >>= λ _.
    in_memory m ret 8 >>= λ _.
    answered_by h (clock_question id) given >>= λ a.
    time_put a ret m h

-- ---- descriptors

-- this node, and no stream
abbrev pub is_node : ℕ → Target → Bool
is_node k (Stream s) = false
is_node k (Node j) = j == k

-- an open descriptor of this node
abbrev pub names : ℕ → Option Descriptor → Bool
names k None = false
names k (Some d) = is_node k d.target

-- node k has a path
abbrev pub has_path : Files → ℕ → Bool
has_path fs k = is_some_path (path_of fs k)
  where
    is_some_path : {X : Type 0} → Option X → Bool
    is_some_path None = false
    is_some_path (Some p) = true

-- a removed node goes with the last descriptor that names it
abbrev pub swept : Target → List (Option Descriptor) → Files → Files
swept (Stream s) ds fs = fs
swept (Node k) ds fs = if has_path fs k then fs else if list_any (names k) ds then fs
    else forgotten k fs

-- `fd_close`
abbrev pub fd_close : ℕ → Bytes → WasiState → Ruling
fd_close fd m h =
    open_descriptor h fd >>= λ d.
    check_or (not (fd == 3)) Notcapable >>= λ _.
    call_done m (record h {
      descriptors = slice_set h.descriptors fd None;
      files = swept d.target (slice_set h.descriptors fd None) h.files;
    })

-- a guest sync
abbrev pub fd_syncs : ℕ → ℕ → Bytes → WasiState → Ruling
fd_syncs right fd m h =
    open_descriptor h fd >>= λ d.
    with_right right d >>= λ _.
    call_done m h

-- the file type of a target
abbrev pub file_type_of : WasiState → Target → ℕ
file_type_of h (Stream s) = character_device
file_type_of h (Node k) = if is_directory h.files k then directory_type else regular_file

-- `fd_fdstat_get`
abbrev pub fd_fdstat_get : ℕ → ℕ → Bytes → WasiState → Ruling
fd_fdstat_get fd ret m h =
    open_descriptor h fd >>= λ d.
    in_memory m ret 24 >>= λ _.
    call_done (with_part m ret (fdstat_bytes (file_type_of h d.target) d.flags d.base d.inheriting))
    h

-- the host with another descriptor at this number
abbrev pub with_descriptor : ℕ → Descriptor → WasiState → WasiState
with_descriptor fd d h = record h { descriptors = slice_set h.descriptors fd (Some d) }

-- `fd_fdstat_set_flags`
abbrev pub fd_fdstat_set_flags : ℕ → ℕ → Bytes → WasiState → Ruling
fd_fdstat_set_flags fd flags m h =
    open_descriptor h fd >>= λ d.
    with_right fd_fdstat_set_flags_right d >>= λ _.
    check_or (nat_le flags 31) Inval >>= λ _.
    call_done m (with_descriptor fd (record d { flags = flags }) h)

-- a node has one link, a removed one none; a directory has no size
abbrev pub links_of : Files → ℕ → ℕ
links_of fs k = if has_path fs k then 1 else 0

-- the `filestat` of a target as bytes
abbrev pub filestat_bytes_of : WasiState → Target → Bytes
filestat_bytes_of h (Stream s) = filestat_bytes 0 character_device 1 0
filestat_bytes_of h (Node k) =
    filestat_bytes k (file_type_of h (Node k)) (links_of h.files k)
    (length (bytes_of_node h.files k))

-- `fd_filestat_get`
abbrev pub fd_filestat_get : ℕ → ℕ → Bytes → WasiState → Ruling
fd_filestat_get fd ret m h =
    open_descriptor h fd >>= λ d.
    with_right fd_filestat_get_right d >>= λ _.
    in_memory m ret 64 >>= λ _.
    call_done (with_part m ret (filestat_bytes_of h d.target)) h

-- a file may have so many bytes, for itself and among all files
abbrev pub roomy : WasiState → ℕ → ℕ → Result (Unit {0}) Halt
roomy h k size =
    check_or (nat_le size FILE_BYTES) Fbig >>= λ _.
    check_or (nat_le (used h.files + size) (h.room + length (bytes_of_node h.files k))) Nospc

-- `fd_filestat_set_size`
abbrev pub fd_filestat_set_size : ℕ → ℕ → Bytes → WasiState → Ruling
fd_filestat_set_size fd size m h =
    open_descriptor h fd >>= λ d.
    a_file h d >>= λ _.
    with_right fd_filestat_set_size_right d >>= λ _.
    roomy h (node_named d.target) size >>= λ _.
    call_done m (record h {
      files = with_file_bytes (node_named d.target)
          (resized (bytes_of_node h.files (node_named d.target)) size) h.files;
    })

-- descriptor 3 alone was opened for the guest before it began, as `/`
abbrev pub fd_prestat_get : ℕ → ℕ → Bytes → WasiState → Ruling
fd_prestat_get fd ret m h =
    open_descriptor h fd >>= λ d.
    in_memory m ret 8 >>= λ _.
    check_or (fd == 3) Badf >>= λ _.
    call_done (with_part m ret (prestat_bytes 1)) h

-- `fd_prestat_dir_name`
abbrev pub fd_prestat_dir_name : ℕ → ℕ → ℕ → Bytes → WasiState → Ruling
fd_prestat_dir_name fd path len m h =
    open_descriptor h fd >>= λ d.
    in_memory m path 1 >>= λ _.
    check_or (fd == 3) Badf >>= λ _.
    check_or (not (len == 0)) Nametoolong >>= λ _.
    call_done (with_part m path (slash ∷ [])) h

-- where a seek counts from: the start, the offset, or the end
abbrev pub seek_base : WasiState → Descriptor → ℕ → ℕ
seek_base h d whence = if whence == 0 then 0 else if whence == 1 then d.offset
    else length (bytes_of_node h.files (node_named d.target))

-- an offset is below 2 ^ 63
abbrev pub file_offset : ℤ → Result ℕ Halt
file_offset (pos n) = if nat_lt n (2 ^ 63) then Ok n else Err (Refuses Inval)
file_offset (negsuc n) = Err (Refuses Inval)

-- `fd_seek`
abbrev pub fd_seek : ℕ → ℕ → ℕ → ℕ → Bytes → WasiState → Ruling
fd_seek fd delta whence ret m h =
    open_descriptor h fd >>= λ d.
    a_file h d >>= λ _.
    with_right fd_seek_right d >>= λ _.
    check_or (nat_le whence 2) Inval >>= λ _.
    in_memory m ret 8 >>= λ _.
    file_offset (pos (seek_base h d whence) +ℤ cast_signed w64 delta) >>= λ offset.
    call_done (with_part m ret (u64_bytes offset))
    (with_descriptor fd (record d { offset = offset }) h)

-- `fd_tell`
abbrev pub fd_tell : ℕ → ℕ → Bytes → WasiState → Ruling
fd_tell fd ret m h =
    open_descriptor h fd >>= λ d.
    a_file h d >>= λ _.
    with_right fd_tell_right d >>= λ _.
    in_memory m ret 8 >>= λ _.
    call_done (with_part m ret (u64_bytes d.offset)) h

-- ---- the process

-- `proc_exit`
abbrev pub proc_exit : ℕ → Ruling
proc_exit code = Err (Ends code)

-- `sched_yield`
abbrev pub sched_yield : Bytes → WasiState → Ruling
sched_yield m h = call_done m h

-- random bytes are written, and no other answer
abbrev pub random_put : Answer → ℕ → Bytes → WasiState → Ruling
random_put (answer.Random bytes) buf m h = call_done (with_part m buf bytes) h
random_put _ buf m h = Err (Refuses Inval)

-- no bytes are asked for where none are wanted
abbrev pub random_get : ℕ → ℕ → Option Answer → Bytes → WasiState → Ruling
random_get buf len given m h =
    check_or (nat_le len (text_limit h.version)) Inval >>= λ _.
    in_memory m buf len >>= λ _.
    if len == 0 then call_done m h else (answered_by h (question.Random len) given
    >>= λ a. random_put a buf m h)
