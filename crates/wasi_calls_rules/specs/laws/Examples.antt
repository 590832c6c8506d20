-- Worked examples of the calls: a root with the file `a`, and a few bytes of memory.
use Rattle.std.specs.Prelude.{◌≡◌, ℕ, ◌-◌, ◌^◌, List, [], ◌∷◌, ◌++◌, length, take, drop, codes}
use Rattle.std.specs.Prelude.{Some, None, Ok, Err}
use Rattle.wasi_abi.specs.declared.errno.Errno.TheVariants.{Exist, Fault, Fbig, Inval, Noent, Nospc}
use Rattle.wasi_abi.specs.declared.errno.Errno.TheVariants.{Notcapable, Notdir, Notempty}
use Rattle.wasi_abi.specs.declared.answer.Question.TheVariants as question
use Rattle.wasi_abi.specs.declared.answer.Answer.TheVariants as answer
use Rattle.wasi_abi.specs.declared.call.Call.TheVariants as call
use Rattle.wasi_abi.specs.rules.Numbers.{file_rights, errno_number}
use Rattle.wasi_abi.specs.rules.Layouts.{u32_bytes, u64_bytes, iovec_bytes, padding}
use Rattle.guest_memory.specs.rules.Bytes.{part}
use Rattle.file_tree.specs.rules.Files.{Path, Files, Directory, File, fresh, created}
use Rattle.wasi_abi.specs.declared.version.Version.TheVariants.{One}
use Rattle.wasi_calls_rules.specs.WasiStates.{Node, WasiState, first_host}
use Rattle.wasi_calls_rules.specs.Checks.{Bytes, Refuses, Asks, Ruling}
use Rattle.wasi_calls_rules.specs.Lines.{cut_all}
use Rattle.wasi_calls_rules.specs.declared.output_stream.OutputStream.TheVariants.{Stdout}
use Rattle.wasi_calls_rules.specs.Small.{with_descriptor, clock_time_get, fd_seek, random_get}
use Rattle.wasi_calls_rules.specs.Small.{fd_close}
use Rattle.wasi_calls_rules.specs.Moving.{fd_read, fd_write, fd_pwrite}
use Rattle.wasi_calls_rules.specs.CallRules.{call_rule, CallEnding, TellsCallRule}
use Rattle.wasi_calls_rules.specs.Entries.{OpenMode, path_open, path_rename, path_remove_directory}
use Rattle.wasi_calls_rules.specs.Entries.{fd_readdir}

abbrev pub path_to : List ℕ → Path
path_to name = name ∷ []

-- a fresh host with one unit of room, and one with the file `a`, node 2, and with `b`, node 3
abbrev pub bare_host : WasiState
bare_host = first_host 65536 One [] []

abbrev pub with_a : WasiState
with_a = record bare_host { files = created (path_to (codes "a")) (File (codes "xyz")) fresh }

abbrev pub with_a_and_b : WasiState
with_a_and_b = record bare_host { files = created (path_to (codes "b")) (File []) with_a.files }

-- the file open as descriptor 4
abbrev pub with_open_a : WasiState
with_open_a = with_descriptor 4 (record {
  target = Node 2;
  offset = 0;
  flags = 0;
  base = file_rights;
  inheriting = 0;
}) with_a

abbrev pub nothing_asked : OpenMode
nothing_asked = record { oflags = 0; base = 0; inheriting = 0; fdflags = 0 }

abbrev pub made_new : OpenMode
made_new = record { oflags = 5; base = 0; inheriting = 0; fdflags = 0 }

-- a path at the front of memory, and a cell after it
abbrev pub path_and_cell : List ℕ → Bytes
path_and_cell path = path ++ padding 8

abbrev pub opens : List ℕ → OpenMode → Ruling
opens path w = path_open 3 0 0 (length path) w (length path) (path_and_cell path) with_a

abbrev pub memory_after : Ruling → Bytes
memory_after (Ok done) = done.memory
memory_after (Err halt) = []

abbrev pub files_after : Ruling → Files
files_after (Ok done) = done.host.files
files_after (Err halt) = record { nodes = []; next = 0 }

pub record OpeningExamples : Type 0 where
  pub there_already : opens (codes "a") made_new ≡ Err (Refuses Exist)
  pub above_the_root : opens (codes "..") nothing_asked ≡ Err (Refuses Notcapable)
  pub through_a_file : opens (codes "a/../b") nothing_asked ≡ Err (Refuses Notdir)
  pub empty : opens [] nothing_asked ≡ Err (Refuses Noent)
  pub leading_slash : opens (codes "/a") nothing_asked ≡ Err (Refuses Notcapable)
  pub is_opened : memory_after (opens (codes "./a") nothing_asked) ≡ codes "./a" ++ (4 ∷ padding 7)

-- two buffers, the first of which lies over the array that names them
abbrev pub two_buffers : Bytes
two_buffers = iovec_bytes 0 8 ++ (iovec_bytes 16 8 ++ padding 8)

abbrev pub with_request : WasiState
with_request = record bare_host { unread = codes "ABCDEFGHIJKLMNO" ++ 10 ∷ [] }

-- a buffer of 1 byte at 20, beyond 20 bytes of memory
abbrev pub beyond : Bytes
beyond = iovec_bytes 0 1 ++ (iovec_bytes 20 1 ++ padding 4)

pub record MovingExamples : Type 0 where
  pub first_buffer : take 8 (memory_after (fd_read 0 0 2 4 None two_buffers with_request))
      ≡ codes "ABCD" ++ (16 ∷ 0 ∷ 0 ∷ 0 ∷ [])
  pub second_iovec : part (memory_after (fd_read 0 0 2 4 None two_buffers with_request)) 8 8
      ≡ iovec_bytes 16 8
  pub second_buffer : drop 16 (memory_after (fd_read 0 0 2 4 None two_buffers with_request))
      ≡ codes "IJKLMNO" ++ 10 ∷ []
  pub asks_for_a_request : fd_read 0 0 2 4 None two_buffers bare_host ≡ Err (Asks question.Request)
  pub out_of_range : fd_write 1 0 2 16 beyond bare_host ≡ Err (Refuses Fault)
  pub file_too_large : fd_pwrite 4 0 1 1048576 8 (iovec_bytes 0 1 ++ padding 4) with_open_a
      ≡ Err (Refuses Fbig)
  pub no_room : fd_pwrite 4 0 1 65536 8 (iovec_bytes 0 1 ++ padding 4) with_open_a
      ≡ Err (Refuses Nospc)
  pub empty_line : cut_all Stdout (record { lines = []; unfinished = [] }) (10 ∷ [])
      ≡ record { lines = record { stream = Stdout; text = [] } ∷ []; unfinished = [] }

-- two buffers for one write, the first of them after the second, and then a cell for the count
abbrev pub two_texts : ℕ → Bytes
two_texts count =
    iovec_bytes 19 3
    ++ (iovec_bytes 16 3 ++ (codes "you" ++ ((codes "hi" ++ 10 ∷ []) ++ u32_bytes count)))

-- a write to descriptor 1 of the buffers that two iovecs at 0 name
abbrev pub write_call_rule : ℕ → Bytes → Ruling
write_call_rule ret m = call_rule call.FdWrite (1 ∷ 0 ∷ 2 ∷ ret ∷ []) None m bare_host

-- the first buffer is the newline that ends 21 bytes of memory; the second begins there too, and is
-- one byte longer
abbrev pub one_beyond : Bytes
one_beyond = iovec_bytes 20 1 ++ (iovec_bytes 20 2 ++ (padding 4 ++ 10 ∷ []))

pub record WritingExamples : Type 0 where
  -- The cell counts six bytes, the newline has ended the line `hi`, and `you` is unfinished.
  -- Nothing else has changed.
  pub is_done : write_call_rule 22 (two_texts 0) ≡ Ok (record {
    memory = two_texts 6;
    host = record bare_host {
      lines = record { stream = Stdout; text = codes "hi" } ∷ [];
      first = codes "you";
    };
  })
  -- The error is 21. Whatever a caller is told, memory is as it was, and no line is emitted or
  -- begun.
  pub is_refused : write_call_rule 16 one_beyond ≡ Err (Refuses Fault)
  pub number : errno_number Fault ≡ 21
  pub nothing_changes : (told : CallEnding) (m : Bytes) (h : WasiState)
      → TellsCallRule told m h one_beyond bare_host (write_call_rule 16 one_beyond)
      → (m ≡ one_beyond) × (h ≡ bare_host)

pub record SmallExamples : Type 0 where
  pub before_the_start : fd_seek 4 (2 ^ 64 - 1) 0 0 (padding 8) with_open_a ≡ Err (Refuses Inval)
  pub no_random_bytes : random_get 0 0 None (padding 8) bare_host ≡ Ok (record {
    memory = padding 8;
    host = bare_host;
  })
  pub too_many : random_get 0 4097 None (padding 8) bare_host ≡ Err (Refuses Inval)
  -- an answer that doesn't fit is as none
  pub does_not_fit : random_get 0 3 (Some (answer.Random (1 ∷ 2 ∷ 3 ∷ 4 ∷ [])))
      (padding 8) bare_host ≡ Err (Asks (question.Random 3))
  pub time_never_falls : memory_after (clock_time_get 1 0 (Some (answer.Monotonic 40)) (padding 8)
      (record bare_host { last_monotonic = 50 })) ≡ u64_bytes 50
  pub root_stays_open : fd_close 3 (padding 8) bare_host ≡ Err (Refuses Notcapable)

-- a directory `d`, node 3, and a rename of `a` to `d/a`
abbrev pub with_d : WasiState
with_d = record with_a { files = created (path_to (codes "d")) Directory with_a.files }

abbrev pub two_paths : Bytes
two_paths = codes "ad/a"

pub record DirectoryExamples : Type 0 where
  pub cut_entries : part (memory_after (fd_readdir 3 0 30 0 30 (padding 34) with_a_and_b)) 25 5
      ≡ 2 ∷ 0 ∷ 0 ∷ 0 ∷ 0 ∷ []
  pub used_up : part (memory_after (fd_readdir 3 0 30 0 30 (padding 34) with_a_and_b)) 30 4
      ≡ u32_bytes 30
  pub last_entry : part (memory_after (fd_readdir 3 0 30 1 30 (padding 34) with_a_and_b)) 30 4
      ≡ u32_bytes 25
  pub is_renamed : files_after (path_rename 3 0 1 3 1 3 two_paths with_d)
      ≡ record {
        nodes = record {
          number = 1;
          path = Some [];
          content = Directory;
        } ∷ record {
          number = 2;
          path = Some (codes "d" ∷ codes "a" ∷ []);
          content = File (codes "xyz");
        } ∷ record {
          number = 3;
          path = Some (codes "d" ∷ []);
          content = Directory;
        } ∷ [];
        next = 4;
      }
  pub not_empty : path_remove_directory 3 0 1 (codes "d")
      (record with_d { files = files_after (path_rename 3 0 1 3 1 3 two_paths with_d) })
      ≡ Err (Refuses Notempty)
  pub below_itself : path_rename 3 0 1 3 0 3 (codes "d/d") with_d ≡ Err (Refuses Inval)
