-- Worked examples of reads and writes. Where one has several faults, the first in the order of
-- the checks is told.
use Rattle.std.specs.Prelude.{◌≡◌, ℕ, ◌-◌, ◌^◌, true, List, [], ◌∷◌, ◌++◌, replicate, codes, Err}
use Rattle.wasi_abi.specs.declared.errno.Errno.TheVariants.{Badf, Fault, Fbig, Inval, Isdir}
use Rattle.wasi_abi.specs.declared.errno.Errno.TheVariants.{Nospc, Spipe, Notcapable}
use Rattle.wasi_abi.specs.declared.version.Version.TheVariants.{Two}
use Rattle.wasi_abi.specs.declared.answer.Question.TheVariants as question
use Rattle.wasi_abi.specs.declared.answer.Answer.TheVariants as answer
use Rattle.wasi_abi.specs.declared.call.Call.TheVariants as call
use Rattle.wasi_abi.specs.rules.Numbers.{file_rights}
use Rattle.wasi_abi.specs.rules.Layouts.{iovec_bytes, padding}
use Rattle.wasi_calls_rules.specs.WasiStates.{Line, WasiState}
use Rattle.wasi_calls_rules.specs.Checks.{Bytes, Asks, Ruling, movable}
use Rattle.wasi_calls_rules.specs.Lines.{lines_ended}
use Rattle.wasi_calls_rules.specs.declared.output_stream.OutputStream.{OutputStream}
use Rattle.wasi_calls_rules.specs.declared.output_stream.OutputStream.TheVariants.{Stdout, Stderr}
use Rattle.wasi_calls_rules.specs.Small.{with_descriptor, call_done}
use Rattle.wasi_calls_rules.specs.laws.Examples.{bare_host}
use Rattle.wasi_calls_rules.specs.laws.Scenes.{bare_call, answered_call, refused_by, old_bytes}
use Rattle.wasi_calls_rules.specs.laws.Scenes.{small_u32, one_buffer, node_descriptor, a_open}
use Rattle.wasi_calls_rules.specs.laws.Scenes.{tree_of_a}

-- ---- input

-- a line of so many bytes `a`
abbrev pub a_line : ℕ → Bytes
a_line n = replicate n 97

-- a host that has these bytes of requests unread
abbrev pub with_unread : Bytes → WasiState
with_unread bytes = record bare_host { unread = bytes }

-- a read of descriptor 0 into one buffer
abbrev pub reads_input : Bytes → WasiState → Ruling
reads_input m h = bare_call call.FdRead (0 ∷ 0 ∷ 1 ∷ 8 ∷ []) m h

-- the same, answered by a request's text
abbrev pub reads_request : Bytes → Bytes → WasiState → Ruling
reads_request text m h = answered_call (answer.Request text) call.FdRead (0 ∷ 0 ∷ 1 ∷ 8 ∷ []) m h

-- input has ended
abbrev pub ended_input : WasiState
ended_input = record bare_host { input_ended = true }

pub record InputExamples : Type 0 where
  -- as much of what is unread as there is room for
  pub unread_first : reads_input (one_buffer (old_bytes 4) (old_bytes 3))
      (with_unread (codes "abcde"))
      ≡ call_done (one_buffer (small_u32 3) (codes "abc")) (with_unread (codes "de"))
  pub all_unread : reads_input (one_buffer (old_bytes 4) (old_bytes 3)) (with_unread (codes "de"))
      ≡ call_done (one_buffer (small_u32 2) (codes "de" ++ old_bytes 1)) bare_host
  pub unread_before_answer : reads_request (codes "zz") (one_buffer (old_bytes 4) (old_bytes 3))
      (with_unread (codes "de"))
      ≡ call_done (one_buffer (small_u32 2) (codes "de" ++ old_bytes 1)) bare_host
  pub asks_for_input : reads_input (one_buffer (old_bytes 4) (old_bytes 1)) bare_host
      ≡ Err (Asks question.Request)
  -- a request's text and a newline
  pub hello : reads_request (codes "hello") (one_buffer (old_bytes 4) (old_bytes 8)) bare_host
      ≡ call_done (one_buffer (small_u32 6) (codes "hello" ++ (10 ∷ old_bytes 2))) bare_host
  pub rest_is_unread : reads_request (codes "hello") (one_buffer (old_bytes 4) (old_bytes 2))
      bare_host
      ≡ call_done (one_buffer (small_u32 2) (codes "he")) (with_unread (codes "llo" ++ 10 ∷ []))
  -- the end of input, after which nothing is asked, whatever is answered
  pub ends : answered_call answer.End call.FdRead (0 ∷ 0 ∷ 1 ∷ 8 ∷ [])
      (one_buffer (old_bytes 4) (old_bytes 2)) bare_host
      ≡ call_done (one_buffer (padding 4) (old_bytes 2)) ended_input
  pub after_end : reads_input (one_buffer (old_bytes 4) (old_bytes 2)) ended_input
      ≡ call_done (one_buffer (padding 4) (old_bytes 2)) ended_input
  pub unread_at_end : reads_input (one_buffer (old_bytes 4) (old_bytes 2))
      (record ended_input { unread = codes "x" })
      ≡ call_done (one_buffer (small_u32 1) (codes "x" ++ old_bytes 1)) ended_input
  -- nothing is asked where there is no room
  pub no_room : reads_input (one_buffer (old_bytes 4) []) bare_host
      ≡ call_done (one_buffer (padding 4) []) bare_host
  pub no_buffer : bare_call call.FdRead (0 ∷ 0 ∷ 0 ∷ 0 ∷ []) (old_bytes 4) bare_host
      ≡ call_done (padding 4) bare_host
  -- a text of more bytes than the limit, or with a newline, is as none; and so is another answer
  pub longest : reads_request (a_line 4096) (one_buffer (old_bytes 4) (old_bytes 8)) bare_host
      ≡ call_done (one_buffer (small_u32 8) (a_line 8)) (with_unread (a_line 4088 ++ 10 ∷ []))
  pub too_long : reads_request (a_line 4097) (one_buffer (old_bytes 4) (old_bytes 8)) bare_host
      ≡ Err (Asks question.Request)
  pub longer_in_two : reads_request (a_line 4097) (one_buffer (old_bytes 4) (old_bytes 8))
      (record bare_host { version = Two })
      ≡ call_done (one_buffer (small_u32 8) (a_line 8))
      (record (with_unread (a_line 4089 ++ 10 ∷ [])) { version = Two })
  pub two_lines : reads_request (97 ∷ 10 ∷ []) (one_buffer (old_bytes 4) (old_bytes 8)) bare_host
      ≡ Err (Asks question.Request)
  pub no_byte : reads_request (97 ∷ 256 ∷ []) (one_buffer (old_bytes 4) (old_bytes 8)) bare_host
      ≡ Err (Asks question.Request)
  pub no_request : answered_call (answer.Realtime 5) call.FdRead (0 ∷ 0 ∷ 1 ∷ 8 ∷ [])
      (one_buffer (old_bytes 4) (old_bytes 8)) bare_host ≡ Err (Asks question.Request)

-- ---- reads of a file

-- `a` holds `abcde` and is open with these rights, at this offset
abbrev pub abcde_open : ℕ → ℕ → WasiState
abcde_open base offset = a_open (codes "abcde") base offset

-- two buffers, of 2 and 1 bytes, the later one in memory first
abbrev pub two_places : Bytes → Bytes → Bytes → Bytes
two_places cell second first =
    iovec_bytes 21 2 ++ (iovec_bytes 20 1 ++ (cell ++ (second ++ first)))

pub record FileReadExamples : Type 0 where
  -- bit 1 alone is needed, and the offset moves by what was read
  pub at_offset : bare_call call.FdRead (4 ∷ 0 ∷ 1 ∷ 8 ∷ [])
      (one_buffer (old_bytes 4) (old_bytes 3)) (abcde_open 2 1)
      ≡ call_done (one_buffer (small_u32 3) (codes "bcd")) (abcde_open 2 4)
  pub up_to_end : bare_call call.FdRead (4 ∷ 0 ∷ 1 ∷ 8 ∷ [])
      (one_buffer (old_bytes 4) (old_bytes 3)) (abcde_open 2 4)
      ≡ call_done (one_buffer (small_u32 1) (codes "e" ++ old_bytes 2)) (abcde_open 2 5)
  pub behind_end : bare_call call.FdRead (4 ∷ 0 ∷ 1 ∷ 8 ∷ [])
      (one_buffer (old_bytes 4) (old_bytes 3)) (abcde_open 2 9)
      ≡ call_done (one_buffer (padding 4) (old_bytes 3)) (abcde_open 2 9)
  pub into_two : bare_call call.FdRead (4 ∷ 0 ∷ 2 ∷ 16 ∷ [])
      (two_places (old_bytes 4) (old_bytes 1) (old_bytes 2)) (abcde_open 2 1)
      ≡ call_done (two_places (small_u32 3) (codes "d") (codes "bc")) (abcde_open 2 4)
  -- the count is put after the bytes, here over the first of them
  pub count_last : bare_call call.FdRead (4 ∷ 0 ∷ 1 ∷ 8 ∷ []) (iovec_bytes 8 5 ++ old_bytes 5)
      (abcde_open 2 0)
      ≡ call_done (iovec_bytes 8 5 ++ (small_u32 5 ++ codes "e")) (abcde_open 2 5)
  pub not_open : bare_call call.FdRead (5 ∷ 9 ∷ 1025 ∷ 99 ∷ []) (old_bytes 8) (abcde_open 2 0)
      ≡ refused_by Badf
  pub directory : bare_call call.FdRead (3 ∷ 9 ∷ 1025 ∷ 99 ∷ []) (old_bytes 8) bare_host
      ≡ refused_by Isdir
  pub output : bare_call call.FdRead (1 ∷ 9 ∷ 1025 ∷ 99 ∷ []) (old_bytes 8) bare_host
      ≡ refused_by Notcapable
  pub without : bare_call call.FdRead (4 ∷ 9 ∷ 1025 ∷ 99 ∷ []) (old_bytes 8)
      (abcde_open (file_rights - 2) 0) ≡ refused_by Notcapable
  pub too_many_buffers : bare_call call.FdRead (4 ∷ 9 ∷ 1025 ∷ 99 ∷ []) (old_bytes 8)
      (abcde_open 2 0) ≡ refused_by Inval
  pub most_buffers : bare_call call.FdRead (4 ∷ 9 ∷ 1024 ∷ 99 ∷ []) (old_bytes 8) (abcde_open 2 0)
      ≡ refused_by Fault
  pub array_beyond : bare_call call.FdRead (4 ∷ 1 ∷ 1 ∷ 0 ∷ []) (padding 8) (abcde_open 2 0)
      ≡ refused_by Fault
  pub buffer_beyond : bare_call call.FdRead (4 ∷ 0 ∷ 1 ∷ 8 ∷ []) (iovec_bytes 11 2 ++ old_bytes 4)
      (abcde_open 2 0) ≡ refused_by Fault
  pub buffer_ends : bare_call call.FdRead (4 ∷ 0 ∷ 1 ∷ 8 ∷ []) (iovec_bytes 12 0 ++ old_bytes 4)
      (abcde_open 2 0) ≡ call_done (iovec_bytes 12 0 ++ padding 4) (abcde_open 2 0)
  pub count_beyond : bare_call call.FdRead (4 ∷ 0 ∷ 1 ∷ 9 ∷ []) (iovec_bytes 12 0 ++ old_bytes 4)
      (abcde_open 2 0) ≡ refused_by Fault

pub record PlaceReadExamples : Type 0 where
  -- bits 1 and 2 are needed, and the offset stays
  pub at_place : bare_call call.FdPread (4 ∷ 0 ∷ 1 ∷ 1 ∷ 8 ∷ [])
      (one_buffer (old_bytes 4) (old_bytes 3)) (abcde_open 6 4)
      ≡ call_done (one_buffer (small_u32 3) (codes "bcd")) (abcde_open 6 4)
  pub up_to_end : bare_call call.FdPread (4 ∷ 0 ∷ 1 ∷ 4 ∷ 8 ∷ [])
      (one_buffer (old_bytes 4) (old_bytes 3)) (abcde_open 6 0)
      ≡ call_done (one_buffer (small_u32 1) (codes "e" ++ old_bytes 2)) (abcde_open 6 0)
  pub far_behind : bare_call call.FdPread (4 ∷ 0 ∷ 1 ∷ (2 ^ 64 - 1) ∷ 8 ∷ [])
      (one_buffer (old_bytes 4) (old_bytes 3)) (abcde_open 6 0)
      ≡ call_done (one_buffer (padding 4) (old_bytes 3)) (abcde_open 6 0)
  pub count_last : bare_call call.FdPread (4 ∷ 0 ∷ 1 ∷ 0 ∷ 8 ∷ [])
      (iovec_bytes 8 5 ++ old_bytes 5) (abcde_open 6 0)
      ≡ call_done (iovec_bytes 8 5 ++ (small_u32 5 ++ codes "e")) (abcde_open 6 0)
  pub not_open : bare_call call.FdPread (5 ∷ 9 ∷ 1025 ∷ 0 ∷ 99 ∷ []) (old_bytes 8)
      (abcde_open 6 0) ≡ refused_by Badf
  pub stream : bare_call call.FdPread (0 ∷ 9 ∷ 1025 ∷ 0 ∷ 99 ∷ []) (old_bytes 8) bare_host
      ≡ refused_by Spipe
  pub directory : bare_call call.FdPread (3 ∷ 9 ∷ 1025 ∷ 0 ∷ 99 ∷ []) (old_bytes 8) bare_host
      ≡ refused_by Isdir
  pub without_read : bare_call call.FdPread (4 ∷ 9 ∷ 1025 ∷ 0 ∷ 99 ∷ []) (old_bytes 8)
      (abcde_open (file_rights - 2) 0) ≡ refused_by Notcapable
  pub without_seek : bare_call call.FdPread (4 ∷ 9 ∷ 1025 ∷ 0 ∷ 99 ∷ []) (old_bytes 8)
      (abcde_open (file_rights - 4) 0) ≡ refused_by Notcapable
  pub too_many_buffers : bare_call call.FdPread (4 ∷ 9 ∷ 1025 ∷ 0 ∷ 99 ∷ []) (old_bytes 8)
      (abcde_open 6 0) ≡ refused_by Inval
  pub most_buffers : bare_call call.FdPread (4 ∷ 9 ∷ 1024 ∷ 0 ∷ 99 ∷ []) (old_bytes 8)
      (abcde_open 6 0) ≡ refused_by Fault
  pub buffer_beyond : bare_call call.FdPread (4 ∷ 0 ∷ 1 ∷ 0 ∷ 8 ∷ [])
      (iovec_bytes 11 2 ++ old_bytes 4) (abcde_open 6 0) ≡ refused_by Fault
  pub count_beyond : bare_call call.FdPread (4 ∷ 0 ∷ 1 ∷ 0 ∷ 9 ∷ [])
      (iovec_bytes 12 0 ++ old_bytes 4) (abcde_open 6 0) ≡ refused_by Fault

-- ---- writes to a file

-- `a` holds these bytes and is open with these rights, at this offset, with these flags. All
-- files may have 8 bytes
abbrev pub writing_a : Bytes → ℕ → ℕ → ℕ → WasiState
writing_a bytes base offset flags =
    with_descriptor 4 (node_descriptor 2 base offset flags)
    (record bare_host { files = tree_of_a bytes; room = 8 })

-- a write of this text to descriptor 4
abbrev pub writes_to_a : Bytes → WasiState → Ruling
writes_to_a text h = bare_call call.FdWrite (4 ∷ 0 ∷ 1 ∷ 8 ∷ []) (one_buffer (old_bytes 4) text) h

-- memory after it
abbrev pub has_written : ℕ → Bytes → WasiState → Ruling
has_written n text after = call_done (one_buffer (small_u32 n) text) after

pub record FileWriteExamples : Type 0 where
  -- bit 6 alone is needed, and the offset is where the write has ended
  pub inside : writes_to_a (codes "XY") (writing_a (codes "abcde") 64 1 0)
      ≡ has_written 2 (codes "XY") (writing_a (codes "aXYde") 64 3 0)
  pub over_end : writes_to_a (codes "XY") (writing_a (codes "abcde") 64 4 0)
      ≡ has_written 2 (codes "XY") (writing_a (codes "abcdXY") 64 6 0)
  -- a gap is zeros
  pub behind_end : writes_to_a (codes "XY") (writing_a (codes "ab") 64 4 0)
      ≡ has_written 2 (codes "XY") (writing_a (codes "ab" ++ (0 ∷ 0 ∷ codes "XY")) 64 6 0)
  -- the flag `append` alone has an effect
  pub appended : writes_to_a (codes "XY") (writing_a (codes "abcde") 64 1 1)
      ≡ has_written 2 (codes "XY") (writing_a (codes "abcdeXY") 64 7 1)
  pub other_flags : writes_to_a (codes "XY") (writing_a (codes "abcde") 64 1 30)
      ≡ has_written 2 (codes "XY") (writing_a (codes "aXYde") 64 3 30)
  -- no bytes change nothing, wherever they are written
  pub no_bytes : writes_to_a [] (writing_a (codes "abc") 64 (2 ^ 63 - 1) 0)
      ≡ has_written 0 [] (writing_a (codes "abc") 64 (2 ^ 63 - 1) 0)
  pub no_bytes_appended : writes_to_a [] (writing_a (codes "abc") 64 1 1)
      ≡ has_written 0 [] (writing_a (codes "abc") 64 1 1)
  pub last_room : writes_to_a (codes "XY") (writing_a (codes "abc") 64 6 0)
      ≡ has_written 2 (codes "XY") (writing_a (codes "abc" ++ (padding 3 ++ codes "XY")) 64 8 0)
  pub no_room : writes_to_a (codes "XY") (writing_a (codes "abc") 64 7 0) ≡ refused_by Nospc
  -- a file may have 1 MiB, and here there is no room for it
  pub most : writes_to_a (codes "XY") (writing_a (codes "abc") 64 1048574 0) ≡ refused_by Nospc
  pub too_large : writes_to_a (codes "XY") (writing_a (codes "abc") 64 1048575 0)
      ≡ refused_by Fbig
  -- what is read from two buffers is in the file in their order
  pub from_two : bare_call call.FdWrite (4 ∷ 0 ∷ 2 ∷ 16 ∷ [])
      (two_places (old_bytes 4) (codes "Z") (codes "XY")) (writing_a [] 64 0 0)
      ≡ call_done (two_places (small_u32 3) (codes "Z") (codes "XY"))
      (writing_a (codes "XYZ") 64 3 0)
  pub not_open : bare_call call.FdWrite (5 ∷ 9 ∷ 1025 ∷ 99 ∷ []) (old_bytes 8)
      (writing_a [] 64 0 0) ≡ refused_by Badf
  pub directory : bare_call call.FdWrite (3 ∷ 9 ∷ 1025 ∷ 99 ∷ []) (old_bytes 8) bare_host
      ≡ refused_by Isdir
  pub input : bare_call call.FdWrite (0 ∷ 9 ∷ 1025 ∷ 99 ∷ []) (old_bytes 8) bare_host
      ≡ refused_by Notcapable
  pub without : bare_call call.FdWrite (4 ∷ 9 ∷ 1025 ∷ 99 ∷ []) (old_bytes 8)
      (writing_a [] (file_rights - 64) 0 0) ≡ refused_by Notcapable
  pub too_many_buffers : bare_call call.FdWrite (4 ∷ 9 ∷ 1025 ∷ 99 ∷ []) (old_bytes 8)
      (writing_a [] 64 0 0) ≡ refused_by Inval
  pub most_buffers : bare_call call.FdWrite (4 ∷ 9 ∷ 1024 ∷ 99 ∷ []) (old_bytes 8)
      (writing_a [] 64 0 0) ≡ refused_by Fault
  pub count_beyond : bare_call call.FdWrite (4 ∷ 0 ∷ 1 ∷ 9 ∷ []) (iovec_bytes 12 0 ++ old_bytes 4)
      (writing_a [] 64 0 0) ≡ refused_by Fault

-- a write of this text to descriptor 4 from a place on
abbrev pub writes_at : ℕ → Bytes → WasiState → Ruling
writes_at place text h =
    bare_call call.FdPwrite (4 ∷ 0 ∷ 1 ∷ place ∷ 8 ∷ []) (one_buffer (old_bytes 4) text) h

pub record PlaceWriteExamples : Type 0 where
  -- bits 6 and 2 are needed; the offset stays, and `append` has no effect
  pub inside : writes_at 1 (codes "XY") (writing_a (codes "abcde") 68 4 1)
      ≡ has_written 2 (codes "XY") (writing_a (codes "aXYde") 68 4 1)
  pub behind_end : writes_at 4 (codes "XY") (writing_a (codes "ab") 68 0 0)
      ≡ has_written 2 (codes "XY") (writing_a (codes "ab" ++ (0 ∷ 0 ∷ codes "XY")) 68 0 0)
  pub no_bytes : writes_at (2 ^ 64 - 1) [] (writing_a (codes "abc") 68 0 0)
      ≡ has_written 0 [] (writing_a (codes "abc") 68 0 0)
  pub last_room : writes_at 6 (codes "XY") (writing_a (codes "abc") 68 0 0)
      ≡ has_written 2 (codes "XY") (writing_a (codes "abc" ++ (padding 3 ++ codes "XY")) 68 0 0)
  pub no_room : writes_at 7 (codes "XY") (writing_a (codes "abc") 68 0 0) ≡ refused_by Nospc
  pub most : writes_at 1048575 (codes "X") (writing_a [] 68 0 0) ≡ refused_by Nospc
  pub too_large : writes_at 1048576 (codes "X") (writing_a [] 68 0 0) ≡ refused_by Fbig
  pub far_too_large : writes_at (2 ^ 64 - 1) (codes "X") (writing_a [] 68 0 0) ≡ refused_by Fbig
  pub not_open : bare_call call.FdPwrite (5 ∷ 9 ∷ 1025 ∷ 0 ∷ 99 ∷ []) (old_bytes 8)
      (writing_a [] 68 0 0) ≡ refused_by Badf
  pub stream : bare_call call.FdPwrite (1 ∷ 9 ∷ 1025 ∷ 0 ∷ 99 ∷ []) (old_bytes 8) bare_host
      ≡ refused_by Spipe
  pub directory : bare_call call.FdPwrite (3 ∷ 9 ∷ 1025 ∷ 0 ∷ 99 ∷ []) (old_bytes 8) bare_host
      ≡ refused_by Isdir
  pub without_write : bare_call call.FdPwrite (4 ∷ 9 ∷ 1025 ∷ 0 ∷ 99 ∷ []) (old_bytes 8)
      (writing_a [] (file_rights - 64) 0 0) ≡ refused_by Notcapable
  pub without_seek : bare_call call.FdPwrite (4 ∷ 9 ∷ 1025 ∷ 0 ∷ 99 ∷ []) (old_bytes 8)
      (writing_a [] (file_rights - 4) 0 0) ≡ refused_by Notcapable
  pub too_many_buffers : bare_call call.FdPwrite (4 ∷ 9 ∷ 1025 ∷ 0 ∷ 99 ∷ []) (old_bytes 8)
      (writing_a [] 68 0 0) ≡ refused_by Inval
  pub most_buffers : bare_call call.FdPwrite (4 ∷ 9 ∷ 1024 ∷ 0 ∷ 99 ∷ []) (old_bytes 8)
      (writing_a [] 68 0 0) ≡ refused_by Fault
  pub count_beyond : bare_call call.FdPwrite (4 ∷ 0 ∷ 1 ∷ (2 ^ 64 - 1) ∷ 9 ∷ [])
      (iovec_bytes 11 1 ++ old_bytes 4) (writing_a [] 68 0 0) ≡ refused_by Fault

-- at most 65,536 bytes are moved at once
pub record MovedExamples : Type 0 where
  pub sum : movable (record { from = 0; len = 40 } ∷ record { from = 9; len = 2 } ∷ []) ≡ 42
  pub most : movable (record { from = 0; len = 65535 } ∷ record { from = 0; len = 1 } ∷ [])
      ≡ 65536
  pub more : movable (record { from = 0; len = 65536 } ∷ record { from = 0; len = 1 } ∷ [])
      ≡ 65536
  -- lengths are added without wrapping
  pub much_more : movable (record { from = 0; len = 2 ^ 32 - 1 } ∷ record
      { from = 0; len = 2 ^ 32 - 1 } ∷ []) ≡ 65536

-- ---- lines

-- a line of a stream
abbrev pub line_of : OutputStream → Bytes → Line
line_of stream text = record { stream = stream; text = text }

-- a host with these lines, and these unfinished ones
abbrev pub with_lines : List Line → Bytes → Bytes → WasiState
with_lines lines first second = record bare_host { lines = lines; first = first; second = second }

-- a write of this text to a descriptor
abbrev pub writes_to : ℕ → Bytes → WasiState → Ruling
writes_to fd text h =
    bare_call call.FdWrite (fd ∷ 0 ∷ 1 ∷ 8 ∷ []) (one_buffer (old_bytes 4) text) h

pub record LineExamples : Type 0 where
  pub unfinished : writes_to 1 (codes "hi") (with_lines [] (codes "oh, ") (codes "no"))
      ≡ has_written 2 (codes "hi") (with_lines [] (codes "oh, hi") (codes "no"))
  pub finished : writes_to 1 (10 ∷ codes "hi")
      (with_lines (line_of Stderr [] ∷ []) (codes "oh") (codes "no"))
      ≡ has_written 3 (10 ∷ codes "hi")
      (with_lines (line_of Stderr [] ∷ line_of Stdout (codes "oh") ∷ []) (codes "hi") (codes "no"))
  pub to_stderr : writes_to 2 (codes "!" ++ 10 ∷ []) (with_lines [] (codes "oh") (codes "no"))
      ≡ has_written 2 (codes "!" ++ 10 ∷ [])
      (with_lines (line_of Stderr (codes "no!") ∷ []) (codes "oh") [])
  pub empty_lines : writes_to 1 (10 ∷ 10 ∷ []) bare_host
      ≡ has_written 2 (10 ∷ 10 ∷ []) (with_lines (line_of Stdout [] ∷ line_of Stdout [] ∷ []) [] [])
  pub nothing : writes_to 1 [] (with_lines [] (codes "oh") [])
      ≡ has_written 0 [] (with_lines [] (codes "oh") [])
  -- the 4,096th byte is in the line, and a newline then ends it; the 4,097th begins the next one
  pub full : writes_to 1 (97 ∷ 10 ∷ []) (with_lines [] (a_line 4095) [])
      ≡ has_written 2 (97 ∷ 10 ∷ []) (with_lines (line_of Stdout (a_line 4096) ∷ []) [] [])
  pub more_than_full : writes_to 1 (97 ∷ 97 ∷ 10 ∷ []) (with_lines [] (a_line 4095) [])
      ≡ has_written 3 (97 ∷ 97 ∷ 10 ∷ [])
      (with_lines (line_of Stdout (a_line 4096) ∷ line_of Stdout (codes "a") ∷ []) [] [])
  -- at the end of the process the unfinished lines are emitted, that of stdout first; one
  -- without a byte isn't
  pub ended : lines_ended (with_lines (line_of Stdout [] ∷ []) (codes "oh") (codes "no"))
      ≡ with_lines
      (line_of Stdout [] ∷ line_of Stdout (codes "oh") ∷ line_of Stderr (codes "no") ∷ []) [] []
  pub none_unfinished : lines_ended bare_host ≡ bare_host
