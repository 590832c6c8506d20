-- Worked examples of several calls, one after another.
use Rattle.std.specs.Prelude.{◌≡◌, ℕ, true, List, [], ◌∷◌, ◌++◌, length, replicate, codes, Option}
use Rattle.std.specs.Prelude.{Some, None, Ok, Err}
use Rattle.wasi_abi.specs.declared.errno.Errno.TheVariants.{Fault, Fbig, Noent, Nospc, Notempty}
use Rattle.wasi_abi.specs.declared.answer.Answer.{Answer}
use Rattle.wasi_abi.specs.declared.answer.Answer.TheVariants as answer
use Rattle.wasi_abi.specs.declared.call.Call.{Call}
use Rattle.wasi_abi.specs.declared.call.Call.TheVariants as call
use Rattle.wasi_abi.specs.rules.Numbers.{file_rights}
use Rattle.wasi_abi.specs.rules.Layouts.{iovec_bytes, padding}
use Rattle.file_tree.specs.rules.Files.{Directory, File}
use Rattle.wasi_calls_rules.specs.WasiStates.{WasiState}
use Rattle.wasi_calls_rules.specs.Checks.{Bytes, Ruling}
use Rattle.wasi_calls_rules.specs.declared.output_stream.OutputStream.TheVariants.{Stdout}
use Rattle.wasi_calls_rules.specs.Small.{call_done, with_descriptor}
use Rattle.wasi_calls_rules.specs.CallRules.{call_rule}
use Rattle.wasi_calls_rules.specs.laws.Examples.{bare_host}
use Rattle.wasi_calls_rules.specs.laws.Scenes.{bare_call, answered_call, refused_by, old_bytes}
use Rattle.wasi_calls_rules.specs.laws.Scenes.{small_u32, small_u64, one_buffer, root_node}
use Rattle.wasi_calls_rules.specs.laws.Scenes.{node_descriptor, a_open}
use Rattle.wasi_calls_rules.specs.laws.DescriptorExamples.{status}
use Rattle.wasi_calls_rules.specs.laws.TransferExamples.{a_line, line_of}
use Rattle.wasi_calls_rules.specs.laws.Trees.{placed_node}

-- a call of a guest: its arguments, the memory that it finds, and an outside answer
pub record GuestCall : Type 0 where
  pub call : Call
  pub arguments : List ℕ
  pub memory : Bytes
  pub answer : Option Answer

abbrev pub ruling_of : GuestCall → WasiState → Ruling
ruling_of g h = call_rule g.call g.arguments g.answer g.memory h

-- the host after a call; one that isn't done leaves it
abbrev pub host_behind : Ruling → WasiState → WasiState
host_behind (Ok done) h = done.host
host_behind (Err halt) h = h

-- the host after calls, one after another
abbrev pub after_calls : List GuestCall → WasiState → WasiState
after_calls [] h = h
after_calls (g ∷ calls) h = after_calls calls (host_behind (ruling_of g h) h)

-- a call with a path, from descriptor 3
abbrev pub on_path : Call → Bytes → GuestCall
on_path c path = record {
  call = c;
  arguments = 3 ∷ 0 ∷ length path ∷ [];
  memory = path;
  answer = None;
}

-- an opening of a path from descriptor 3, with open flags and rights
abbrev pub opening : Bytes → ℕ → ℕ → GuestCall
opening path oflags base = record {
  call = call.PathOpen;
  arguments = 3 ∷ 0 ∷ 0 ∷ length path ∷ oflags ∷ base ∷ 0 ∷ 0 ∷ length path ∷ [];
  memory = path ++ old_bytes 4;
  answer = None;
}

-- the status of what a path names, from descriptor 3
abbrev pub looking_at : Bytes → GuestCall
looking_at path = record {
  call = call.PathFilestatGet;
  arguments = 3 ∷ 0 ∷ 0 ∷ length path ∷ length path ∷ [];
  memory = path ++ old_bytes 64;
  answer = None;
}

-- a call with these numbers alone
abbrev pub plain : Call → List ℕ → GuestCall
plain c arguments = record { call = c; arguments = arguments; memory = []; answer = None }

-- a rename from descriptor 3 to descriptor 3
abbrev pub renaming : Bytes → Bytes → GuestCall
renaming old new = record {
  call = call.PathRename;
  arguments = 3 ∷ 0 ∷ length old ∷ 3 ∷ length old ∷ length new ∷ [];
  memory = old ++ new;
  answer = None;
}

-- a read or a write by descriptor 4, of a buffer with these bytes
abbrev pub moving_bytes : Call → Bytes → GuestCall
moving_bytes c bytes = record {
  call = c;
  arguments = 4 ∷ 0 ∷ 1 ∷ 8 ∷ [];
  memory = one_buffer (old_bytes 4) bytes;
  answer = None;
}

-- ---- a file moves into a directory

-- `a` is made as descriptor 4, which is closed; `d` is made, and `a` goes to `d/a`
abbrev pub moved_in : WasiState
moved_in =
    after_calls (opening (codes "a") 1 0 ∷ plain call.FdClose (4 ∷ []) ∷ on_path
    call.PathCreateDirectory (codes "d") ∷ renaming (codes "a") (codes "d/a") ∷ []) bare_host

-- `d/a` is unlinked, and then `d` is removed
abbrev pub moved_out : WasiState
moved_out =
    after_calls (on_path call.PathUnlinkFile (codes "d/a") ∷ on_path call.PathRemoveDirectory
    (codes "d") ∷ []) moved_in

pub record RenameStory : Type 0 where
  pub made : ruling_of (opening (codes "a") 1 0) bare_host
      ≡ call_done (codes "a" ++ small_u32 4) (a_open [] 0 0)
  pub moved : moved_in.files ≡ record {
    nodes = root_node ∷ placed_node 2 (codes "d" ∷ codes "a" ∷ []) (File []) ∷ placed_node 3
        (codes "d" ∷ []) Directory ∷ [];
    next = 4;
  }
  pub status_of_file : ruling_of (looking_at (codes "d/a")) moved_in
      ≡ call_done (codes "d/a" ++ status 2 4 1 0) moved_in
  pub not_empty : ruling_of (on_path call.PathRemoveDirectory (codes "d")) moved_in
      ≡ refused_by Notempty
  pub emptied : moved_out
      ≡ record bare_host { files = record { nodes = root_node ∷ []; next = 4 } }
  -- numbers aren't used again
  pub made_again : ruling_of (opening (codes "a") 1 0) moved_out
      ≡ call_done (codes "a" ++ small_u32 4)
      (with_descriptor 4 (node_descriptor 4 0 0 0) (record bare_host {
        files = record {
          nodes = root_node ∷ placed_node 4 (codes "a" ∷ []) (File []) ∷ [];
          next = 5;
        };
      }))

-- ---- a file that is open is unlinked

-- `a`, which holds `abc`, is open as descriptor 4, and is unlinked
abbrev pub unlinked_abc : WasiState
unlinked_abc =
    after_calls (on_path call.PathUnlinkFile (codes "a") ∷ [])
    (a_open (codes "abc") file_rights 0)

pub record UnlinkStory : Type 0 where
  pub still_read : ruling_of (moving_bytes call.FdRead (old_bytes 4)) unlinked_abc
      ≡ call_done (one_buffer (small_u32 3) (codes "abc" ++ old_bytes 1))
      (with_descriptor 4 (node_descriptor 2 file_rights 3 0) unlinked_abc)
  pub no_link : bare_call call.FdFilestatGet (4 ∷ 0 ∷ []) (old_bytes 64) unlinked_abc
      ≡ call_done (status 2 4 0 3) unlinked_abc
  pub not_found : ruling_of (opening (codes "a") 0 0) unlinked_abc ≡ refused_by Noent
  pub gone : after_calls (plain call.FdClose (4 ∷ []) ∷ []) unlinked_abc
      ≡ record bare_host { files = record { nodes = root_node ∷ []; next = 3 } }

-- ---- sizes

-- 5,000 bytes `a`, cut to 4,100 and made as long again
pub record SizeStory : Type 0 where
  pub zeros_behind : after_calls (plain call.FdFilestatSetSize (4 ∷ 4100 ∷ []) ∷ plain
      call.FdFilestatSetSize (4 ∷ 5000 ∷ []) ∷ []) (a_open (replicate 5000 97) file_rights 0)
      ≡ a_open (replicate 4100 97 ++ padding 900) file_rights 0
  -- one file unit of 65,536 bytes: the last byte that there is room for, and the first for which
  -- there is none
  pub last_byte : bare_call call.FdPwrite (4 ∷ 0 ∷ 1 ∷ 65535 ∷ 8 ∷ [])
      (one_buffer (old_bytes 4) (codes "z")) (a_open [] file_rights 0)
      ≡ call_done (one_buffer (small_u32 1) (codes "z"))
      (a_open (padding 65535 ++ codes "z") file_rights 0)
  pub no_room : bare_call call.FdPwrite (4 ∷ 0 ∷ 1 ∷ 65536 ∷ 8 ∷ [])
      (one_buffer (old_bytes 4) (codes "z")) (a_open [] file_rights 0) ≡ refused_by Nospc
  pub too_large : bare_call call.FdPwrite (4 ∷ 0 ∷ 1 ∷ 1048576 ∷ 8 ∷ [])
      (one_buffer (old_bytes 4) (codes "z")) (a_open [] file_rights 0) ≡ refused_by Fbig

-- ---- answers

-- a call of the monotonic clock, with this answer
abbrev pub looking_at_clock : ℕ → GuestCall
looking_at_clock n = record {
  call = call.ClockTimeGet;
  arguments = 1 ∷ 0 ∷ 0 ∷ [];
  memory = old_bytes 8;
  answer = Some (answer.Monotonic n);
}

-- a read of descriptor 0 into so many bytes, with this answer or none
abbrev pub reading_input : ℕ → Option Answer → GuestCall
reading_input n a = record {
  call = call.FdRead;
  arguments = 0 ∷ 0 ∷ 1 ∷ 8 ∷ [];
  memory = one_buffer (old_bytes 4) (old_bytes n);
  answer = a;
}

-- a request `hello` of which three bytes were read
abbrev pub lo_unread : WasiState
lo_unread = after_calls (reading_input 3 (Some (answer.Request (codes "hello"))) ∷ []) bare_host

-- the rest was read too, and then the end came
abbrev pub all_read : WasiState
all_read = after_calls (reading_input 3 None ∷ reading_input 3 (Some answer.End) ∷ []) lo_unread

pub record AnswerStory : Type 0 where
  pub first_time : ruling_of (looking_at_clock 50) bare_host
      ≡ call_done (small_u64 50) (record bare_host { last_monotonic = 50 })
  pub second_time : ruling_of (looking_at_clock 40)
      (after_calls (looking_at_clock 50 ∷ []) bare_host)
      ≡ call_done (small_u64 50) (record bare_host { last_monotonic = 50 })
  pub lo : lo_unread ≡ record bare_host { unread = codes "lo" ++ 10 ∷ [] }
  pub read_without_asking : ruling_of (reading_input 3 None) lo_unread
      ≡ call_done (one_buffer (small_u32 3) (codes "lo" ++ 10 ∷ [])) bare_host
  pub ended : all_read ≡ record bare_host { input_ended = true }
  pub nothing_more : ruling_of (reading_input 3 None) all_read
      ≡ call_done (one_buffer (padding 4) (old_bytes 3)) all_read

-- ---- a page of memory, and long lines

-- one page: two buffers, of 1 byte and, where memory ends, of so many, and then 1
abbrev pub page_with : ℕ → Bytes → Bytes
page_with len cell = iovec_bytes 20 1 ++ (iovec_bytes 65536 len ++ (cell ++ old_bytes 65516))

-- one page: two buffers, which are the whole page and its first byte, and then a cell
abbrev pub page_of : Bytes → Bytes
page_of cell = iovec_bytes 0 65536 ++ (iovec_bytes 0 1 ++ (cell ++ old_bytes 65516))

abbrev pub page_twice : Bytes
page_twice = page_of (old_bytes 4)

pub record PageStory : Type 0 where
  pub beyond_page : bare_call call.FdWrite (1 ∷ 0 ∷ 2 ∷ 16 ∷ []) (page_with 1 (old_bytes 4))
      bare_host ≡ refused_by Fault
  pub at_end_of_page : bare_call call.FdWrite (1 ∷ 0 ∷ 2 ∷ 16 ∷ []) (page_with 0 (old_bytes 4))
      bare_host ≡ call_done (page_with 0 (small_u32 1)) (record bare_host { first = 255 ∷ [] })
  pub long_line : bare_call call.FdWrite (1 ∷ 0 ∷ 1 ∷ 8 ∷ [])
      (one_buffer (old_bytes 4) (a_line 4097 ++ 10 ∷ [])) bare_host
      ≡ call_done (one_buffer (2 ∷ 16 ∷ 0 ∷ 0 ∷ []) (a_line 4097 ++ 10 ∷ []))
      (record bare_host { lines = line_of Stdout (a_line 4096) ∷ line_of Stdout (codes "a") ∷ [] })
  pub full_line : bare_call call.FdWrite (1 ∷ 0 ∷ 1 ∷ 8 ∷ [])
      (one_buffer (old_bytes 4) (a_line 4096 ++ 10 ∷ [])) bare_host
      ≡ call_done (one_buffer (1 ∷ 16 ∷ 0 ∷ 0 ∷ []) (a_line 4096 ++ 10 ∷ []))
      (record bare_host { lines = line_of Stdout (a_line 4096) ∷ [] })
  -- of 65,537 bytes in two buffers 65,536 are moved, as many as there is room for
  pub most_moved : bare_call call.FdPwrite (4 ∷ 0 ∷ 2 ∷ 0 ∷ 16 ∷ []) page_twice
      (a_open [] file_rights 0)
      ≡ call_done (page_of (0 ∷ 0 ∷ 1 ∷ 0 ∷ [])) (a_open page_twice file_rights 0)
  pub long_random : answered_call (answer.Random (a_line 4096)) call.RandomGet (0 ∷ 4096 ∷ [])
      (old_bytes 4097) bare_host ≡ call_done (a_line 4096 ++ old_bytes 1) bare_host
