-- The rules of the calls that move bytes between memory and files or streams (this project's
-- profile).
use Rattle.std.specs.Prelude.{ℕ, ◌+◌, ◌==◌, max, if◌then◌else◌, Bool, true, false, [], ◌∷◌, ◌++◌}
use Rattle.std.specs.Prelude.{length, take, drop, Option, Result, Ok, Err}
use Rattle.wasi_abi.specs.declared.errno.Errno.TheVariants.{Inval}
use Rattle.wasi_abi.specs.declared.answer.Question.TheVariants as question
use Rattle.wasi_abi.specs.declared.answer.Answer.{Answer}
use Rattle.wasi_abi.specs.declared.answer.Answer.TheVariants as answer
use Rattle.wasi_abi.specs.rules.Numbers.{fd_read_right, fd_seek_right, fd_write_right, append_flag}
use Rattle.wasi_abi.specs.rules.Numbers.{has_flag}
use Rattle.wasi_abi.specs.rules.Answers.{newline}
use Rattle.wasi_abi.specs.rules.Layouts.{u32_bytes}
use Rattle.guest_memory.specs.rules.Bytes.{with_part}
use Rattle.file_tree.specs.rules.Bytes.{written}
use Rattle.file_tree.specs.rules.Files.{bytes_of_node, with_file_bytes}
use Rattle.wasi_calls_rules.specs.WasiStates.{Target, Stream, Node, Descriptor, WasiState}
use Rattle.wasi_calls_rules.specs.Checks.{Bytes, Halt, Refuses, Ruling, ◌>>=◌, open_descriptor}
use Rattle.wasi_calls_rules.specs.Checks.{a_file, no_directory, with_right, in_memory, buffers}
use Rattle.wasi_calls_rules.specs.Checks.{few_buffers, movable, gathered, scattered, node_named}
use Rattle.wasi_calls_rules.specs.Checks.{answered_by}
use Rattle.wasi_calls_rules.specs.Lines.{output_stream, stream_written}
use Rattle.wasi_calls_rules.specs.Small.{call_done, with_descriptor, roomy}

-- ---- reads

-- bytes that were read, and the host after it
pub record Got : Type 0 where
  pub bytes : Bytes
  pub host : WasiState

-- at most n of the bytes that are there
abbrev pub bytes_taken : ℕ → Bytes → WasiState → Got
bytes_taken n bytes h = record { bytes = take n bytes; host = record h { unread = drop n bytes } }

-- a request's bytes are its text and a newline
abbrev pub input_taken : ℕ → Answer → WasiState → Result Got Halt
input_taken n (answer.Request text) h = Ok (bytes_taken n (text ++ newline ∷ []) h)
input_taken n answer.End h = Ok (record { bytes = []; host = record h { input_ended = true } })
input_taken n _ h = Err (Refuses Inval)

-- there is a byte
abbrev pub has_bytes : Bytes → Bool
has_bytes [] = false
has_bytes (b ∷ bytes) = true

-- A read of at least one byte gives bytes that were not read yet. Where there are none it asks for
-- a request, unless input has ended.
abbrev pub input_read : ℕ → Option Answer → WasiState → Result Got Halt
input_read n given h =
    if n == 0 then Ok (record { bytes = []; host = h })
    else if has_bytes h.unread then Ok (bytes_taken n h.unread h)
    else if h.input_ended then Ok (record { bytes = []; host = h })
    else (answered_by h question.Request given >>= λ a. input_taken n a h)

-- at most n bytes of a file from an offset on
abbrev pub file_read : WasiState → ℕ → ℕ → ℕ → Bytes
file_read h k offset n = take n (drop offset (bytes_of_node h.files k))

-- the descriptor after a read or a write that ended at this offset
abbrev pub moved_to : ℕ → Descriptor → ℕ → WasiState → WasiState
moved_to fd d offset h = with_descriptor fd (record d { offset = offset }) h

-- what a read of a descriptor gives: of a stream its input, of a file what is at its offset, which
-- moves on
abbrev pub target_read : Target → ℕ → Descriptor → ℕ → Option Answer → WasiState → Result Got Halt
target_read (Stream s) fd d n given h = input_read n given h
target_read (Node k) fd d n given h =
    Ok (record {
      bytes = file_read h k d.offset n;
      host = moved_to fd d (d.offset + length (file_read h k d.offset n)) h;
    })

-- `fd_read`
abbrev pub fd_read : ℕ → ℕ → ℕ → ℕ → Option Answer → Bytes → WasiState → Ruling
fd_read fd iovs count ret given m h =
    open_descriptor h fd >>= λ d.
    no_directory h d >>= λ _.
    with_right fd_read_right d >>= λ _.
    few_buffers count >>= λ _.
    buffers m iovs count >>= λ bs.
    in_memory m ret 4 >>= λ _.
    target_read d.target fd d (movable bs) given h >>= λ got.
    call_done (with_part (scattered m bs got.bytes) ret (u32_bytes (length got.bytes))) got.host

-- `fd_pread`
abbrev pub fd_pread : ℕ → ℕ → ℕ → ℕ → ℕ → Bytes → WasiState → Ruling
fd_pread fd iovs count offset ret m h =
    open_descriptor h fd >>= λ d.
    a_file h d >>= λ _.
    with_right fd_read_right d >>= λ _.
    with_right fd_seek_right d >>= λ _.
    few_buffers count >>= λ _.
    buffers m iovs count >>= λ bs.
    in_memory m ret 4 >>= λ _.
    let bytes : Bytes = file_read h (node_named d.target) offset (movable bs) in
    call_done (with_part (scattered m bs bytes) ret (u32_bytes (length bytes))) h

-- ---- writes

-- the size of a file after a write
abbrev pub size_after : Bytes → ℕ → Bytes → ℕ
size_after old offset bytes = max (length old) (offset + length bytes)

-- a file after bytes were written to it from an offset on; none change nothing
abbrev pub file_written : ℕ → ℕ → Bytes → WasiState → Result WasiState Halt
file_written k offset [] h = Ok h
file_written k offset (b ∷ bytes) h =
    roomy h k (size_after (bytes_of_node h.files k) offset (b ∷ bytes)) >>= λ _.
    Ok (record h {
      files = with_file_bytes k (written (bytes_of_node h.files k) offset (b
          ∷ bytes)) h.files;
    })

-- where a write to a file begins: at its offset, or with `append` at its end
abbrev pub write_offset : WasiState → ℕ → Descriptor → ℕ
write_offset h k d = if has_flag d.flags append_flag then length (bytes_of_node h.files k)
    else d.offset

-- the offset after a write is where it ended; after one of no bytes it stays
abbrev pub offset_after : ℕ → ℕ → Descriptor → Bytes → WasiState → WasiState
offset_after fd offset d [] h = h
offset_after fd offset d (b ∷ bytes) h = moved_to fd d (offset + length (b ∷ bytes)) h

-- these bytes are written to a stream or a file
abbrev pub target_written : Target → ℕ → Descriptor → Bytes → WasiState → Result WasiState Halt
target_written (Stream s) fd d bytes h = Ok (stream_written (output_stream s) bytes h)
target_written (Node k) fd d bytes h =
    file_written k (write_offset h k d) bytes h
    >>= λ after. Ok (offset_after fd (write_offset h k d) d bytes after)

-- `fd_write`
abbrev pub fd_write : ℕ → ℕ → ℕ → ℕ → Bytes → WasiState → Ruling
fd_write fd iovs count ret m h =
    open_descriptor h fd >>= λ d.
    no_directory h d >>= λ _.
    with_right fd_write_right d >>= λ _.
    few_buffers count >>= λ _.
    buffers m iovs count >>= λ bs.
    in_memory m ret 4 >>= λ _.
    let bytes : Bytes = take (movable bs) (gathered m bs) in
    target_written d.target fd d bytes h >>= λ after.
    call_done (with_part m ret (u32_bytes (length bytes))) after

-- `fd_pwrite`
abbrev pub fd_pwrite : ℕ → ℕ → ℕ → ℕ → ℕ → Bytes → WasiState → Ruling
fd_pwrite fd iovs count offset ret m h =
    open_descriptor h fd >>= λ d.
    a_file h d >>= λ _.
    with_right fd_write_right d >>= λ _.
    with_right fd_seek_right d >>= λ _.
    few_buffers count >>= λ _.
    buffers m iovs count >>= λ bs.
    in_memory m ret 4 >>= λ _.
    let bytes : Bytes = take (movable bs) (gathered m bs) in
    file_written (node_named d.target) offset bytes h >>= λ after.
    call_done (with_part m ret (u32_bytes (length bytes))) after
