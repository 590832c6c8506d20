-- Worked examples of the calls on arguments, clocks, random bytes and the process.
use Rattle.std.specs.Prelude.{◌≡◌, ◌-◌, ◌^◌, [], ◌∷◌, ◌++◌, map, codes, Err}
use Rattle.wasi_abi.specs.declared.errno.Errno.TheVariants.{Badf, Exist, Fault, Fbig, Ilseq, Inval}
use Rattle.wasi_abi.specs.declared.errno.Errno.TheVariants.{Isdir, Mfile, Nametoolong, Noent, Nospc}
use Rattle.wasi_abi.specs.declared.errno.Errno.TheVariants.{Notdir, Notempty, Spipe, Notcapable}
use Rattle.wasi_abi.specs.declared.answer.Question.TheVariants as question
use Rattle.wasi_abi.specs.declared.answer.Answer.TheVariants as answer
use Rattle.wasi_abi.specs.declared.call.Call.TheVariants as call
use Rattle.wasi_abi.specs.rules.Numbers.{errno_number}
use Rattle.wasi_abi.specs.rules.Layouts.{padding}
use Rattle.wasi_abi.specs.declared.version.Version.TheVariants.{One, Two}
use Rattle.wasi_calls_rules.specs.WasiStates.{WasiState, first_host}
use Rattle.wasi_calls_rules.specs.Checks.{Asks, Ends}
use Rattle.wasi_calls_rules.specs.Small.{call_done}
use Rattle.wasi_calls_rules.specs.laws.Examples.{bare_host}
use Rattle.wasi_calls_rules.specs.laws.Scenes.{bare_call, answered_call, refused_by, old_bytes}
use Rattle.wasi_calls_rules.specs.laws.Scenes.{small_u32, small_u64}

-- each error, and its number
pub record ErrorNumbers : Type 0 where
  pub first_half : map errno_number (Badf ∷ Exist ∷ Fault ∷ Fbig ∷ Ilseq ∷ Inval ∷ Isdir ∷ [])
      ≡ 8 ∷ 20 ∷ 21 ∷ 22 ∷ 25 ∷ 28 ∷ 31 ∷ []
  pub second_half : map errno_number (Mfile ∷ Nametoolong ∷ Noent ∷ Nospc ∷ Notdir ∷ Notempty
      ∷ Spipe ∷ Notcapable ∷ []) ≡ 33 ∷ 37 ∷ 44 ∷ 51 ∷ 54 ∷ 55 ∷ 70 ∷ 76 ∷ []

-- ---- arguments and environment

-- two arguments, and one entry of the environment
abbrev pub with_texts : WasiState
with_texts = first_host 65536 One (codes "ab" ∷ codes "c" ∷ []) (codes "X=1" ∷ [])

pub record TextExamples : Type 0 where
  -- pointers at 1, texts at 10
  pub arguments : bare_call call.ArgsGet (1 ∷ 10 ∷ []) (old_bytes 16) with_texts
      ≡ call_done (255 ∷ 10 ∷ 0 ∷ 0 ∷ 0 ∷ 13 ∷ 0 ∷ 0 ∷ 0 ∷ 255 ∷ 97 ∷ 98 ∷ 0 ∷ 99 ∷ 0 ∷ 255 ∷ [])
      with_texts
  -- the texts are put after the pointers, here over the end of them, and end where memory ends
  pub over_pointers : bare_call call.ArgsGet (5 ∷ 8 ∷ []) (padding 13) with_texts
      ≡ call_done (0 ∷ 0 ∷ 0 ∷ 0 ∷ 0 ∷ 8 ∷ 0 ∷ 0 ∷ 97 ∷ 98 ∷ 0 ∷ 99 ∷ 0 ∷ []) with_texts
  pub pointers_beyond : bare_call call.ArgsGet (6 ∷ 8 ∷ []) (padding 13) with_texts
      ≡ refused_by Fault
  pub texts_beyond : bare_call call.ArgsGet (5 ∷ 9 ∷ []) (padding 13) with_texts
      ≡ refused_by Fault
  pub argument_sizes : bare_call call.ArgsSizesGet (0 ∷ 4 ∷ []) (old_bytes 8) with_texts
      ≡ call_done (small_u32 2 ++ small_u32 5) with_texts
  -- the second cell is put after the first
  pub one_cell : bare_call call.ArgsSizesGet (4 ∷ 4 ∷ []) (old_bytes 8) with_texts
      ≡ call_done (old_bytes 4 ++ small_u32 5) with_texts
  pub count_beyond : bare_call call.ArgsSizesGet (5 ∷ 0 ∷ []) (old_bytes 8) with_texts
      ≡ refused_by Fault
  pub size_beyond : bare_call call.ArgsSizesGet (0 ∷ 5 ∷ []) (old_bytes 8) with_texts
      ≡ refused_by Fault
  pub environment : bare_call call.EnvironGet (0 ∷ 4 ∷ []) (old_bytes 8) with_texts
      ≡ call_done (small_u32 4 ++ (88 ∷ 61 ∷ 49 ∷ 0 ∷ [])) with_texts
  pub environment_sizes : bare_call call.EnvironSizesGet (4 ∷ 0 ∷ []) (old_bytes 8) with_texts
      ≡ call_done (small_u32 4 ++ small_u32 1) with_texts
  pub no_texts : bare_call call.ArgsGet (8 ∷ 8 ∷ []) (old_bytes 8) bare_host
      ≡ call_done (old_bytes 8) bare_host
  pub no_sizes : bare_call call.EnvironSizesGet (0 ∷ 4 ∷ []) (old_bytes 8) bare_host
      ≡ call_done (padding 8) bare_host

-- ---- clocks

-- the guest has seen the time 50
abbrev pub seen_fifty : WasiState
seen_fifty = record bare_host { last_monotonic = 50 }

pub record ClockExamples : Type 0 where
  pub resolution : bare_call call.ClockResGet (0 ∷ 1 ∷ []) (old_bytes 10) bare_host
      ≡ call_done (255 ∷ (small_u64 1 ++ old_bytes 1)) bare_host
  pub other_resolution : bare_call call.ClockResGet (1 ∷ 2 ∷ []) (old_bytes 10) bare_host
      ≡ call_done (old_bytes 2 ++ small_u64 1) bare_host
  pub resolution_of_none : bare_call call.ClockResGet (2 ∷ 3 ∷ []) (old_bytes 10) bare_host
      ≡ refused_by Inval
  pub resolution_beyond : bare_call call.ClockResGet (1 ∷ 3 ∷ []) (old_bytes 10) bare_host
      ≡ refused_by Fault
  -- the precision, 7, has no effect
  pub asks_real : bare_call call.ClockTimeGet (0 ∷ 7 ∷ 2 ∷ []) (old_bytes 10) bare_host
      ≡ Err (Asks question.Realtime)
  pub asks_monotonic : bare_call call.ClockTimeGet (1 ∷ 7 ∷ 2 ∷ []) (old_bytes 10) bare_host
      ≡ Err (Asks question.Monotonic)
  pub time_of_none : bare_call call.ClockTimeGet (2 ∷ 7 ∷ 3 ∷ []) (old_bytes 10) bare_host
      ≡ refused_by Inval
  pub time_beyond : bare_call call.ClockTimeGet (1 ∷ 7 ∷ 3 ∷ []) (old_bytes 10) bare_host
      ≡ refused_by Fault
  -- real time may fall
  pub real : answered_call (answer.Realtime 40) call.ClockTimeGet (0 ∷ 7 ∷ 1 ∷ []) (old_bytes 10)
      seen_fifty ≡ call_done (255 ∷ (small_u64 40 ++ old_bytes 1)) seen_fifty
  pub falls : answered_call (answer.Monotonic 40) call.ClockTimeGet (1 ∷ 7 ∷ 1 ∷ [])
      (old_bytes 10) seen_fifty ≡ call_done (255 ∷ (small_u64 50 ++ old_bytes 1)) seen_fifty
  pub rises : answered_call (answer.Monotonic 60) call.ClockTimeGet (1 ∷ 7 ∷ 1 ∷ [])
      (old_bytes 10) seen_fifty
      ≡ call_done (255 ∷ (small_u64 60 ++ old_bytes 1)) (record bare_host { last_monotonic = 60 })
  pub first_seen : answered_call (answer.Monotonic 50) call.ClockTimeGet (1 ∷ 7 ∷ 0 ∷ [])
      (old_bytes 8) bare_host ≡ call_done (small_u64 50) seen_fifty
  pub other_clock : answered_call (answer.Monotonic 40) call.ClockTimeGet (0 ∷ 7 ∷ 0 ∷ [])
      (old_bytes 8) bare_host ≡ Err (Asks question.Realtime)
  -- the last number of 64 bits, and the first that is none
  pub latest : answered_call (answer.Realtime (2 ^ 64 - 1)) call.ClockTimeGet (0 ∷ 7 ∷ 0 ∷ [])
      (old_bytes 8) bare_host ≡ call_done (old_bytes 8) bare_host
  pub too_late : answered_call (answer.Realtime (2 ^ 64)) call.ClockTimeGet (0 ∷ 7 ∷ 0 ∷ [])
      (old_bytes 8) bare_host ≡ Err (Asks question.Realtime)
  pub latest_seen : answered_call (answer.Monotonic (2 ^ 64 - 1)) call.ClockTimeGet
      (1 ∷ 7 ∷ 0 ∷ []) (old_bytes 8) bare_host
      ≡ call_done (old_bytes 8) (record bare_host { last_monotonic = 2 ^ 64 - 1 })
  pub too_late_seen : answered_call (answer.Monotonic (2 ^ 64)) call.ClockTimeGet
      (1 ∷ 7 ∷ 0 ∷ []) (old_bytes 8) bare_host ≡ Err (Asks question.Monotonic)

-- ---- random bytes

pub record RandomExamples : Type 0 where
  pub none_wanted : bare_call call.RandomGet (8 ∷ 0 ∷ []) (old_bytes 8) bare_host
      ≡ call_done (old_bytes 8) bare_host
  pub asks : bare_call call.RandomGet (5 ∷ 3 ∷ []) (old_bytes 8) bare_host
      ≡ Err (Asks (question.Random 3))
  pub beyond_memory : bare_call call.RandomGet (6 ∷ 3 ∷ []) (old_bytes 8) bare_host
      ≡ refused_by Fault
  pub most : bare_call call.RandomGet (0 ∷ 4096 ∷ []) (old_bytes 8) bare_host ≡ refused_by Fault
  pub too_many_bytes : bare_call call.RandomGet (0 ∷ 4097 ∷ []) (old_bytes 8) bare_host
      ≡ refused_by Inval
  pub most_in_two : bare_call call.RandomGet (0 ∷ 65536 ∷ []) (old_bytes 8)
      (record bare_host { version = Two }) ≡ refused_by Fault
  pub too_many_in_two : bare_call call.RandomGet (0 ∷ 65537 ∷ []) (old_bytes 8)
      (record bare_host { version = Two }) ≡ refused_by Inval
  pub are_put : answered_call (answer.Random (1 ∷ 2 ∷ 3 ∷ [])) call.RandomGet (4 ∷ 3 ∷ [])
      (old_bytes 8) bare_host ≡ call_done (old_bytes 4 ++ (1 ∷ 2 ∷ 3 ∷ 255 ∷ [])) bare_host
  -- an answer that is too short, or too long, is as none
  pub too_short : answered_call (answer.Random (1 ∷ 2 ∷ [])) call.RandomGet (4 ∷ 3 ∷ [])
      (old_bytes 8) bare_host ≡ Err (Asks (question.Random 3))
  pub too_long : answered_call (answer.Random (1 ∷ 2 ∷ 3 ∷ 4 ∷ [])) call.RandomGet (4 ∷ 3 ∷ [])
      (old_bytes 8) bare_host ≡ Err (Asks (question.Random 3))
  pub no_byte : answered_call (answer.Random (1 ∷ 256 ∷ 3 ∷ [])) call.RandomGet (4 ∷ 3 ∷ [])
      (old_bytes 8) bare_host ≡ Err (Asks (question.Random 3))

-- ---- the process

pub record ProcessExamples : Type 0 where
  pub ends : bare_call call.ProcExit (7 ∷ []) [] bare_host ≡ Err (Ends 7)
  pub largest_code : bare_call call.ProcExit ((2 ^ 32 - 1) ∷ []) [] bare_host
      ≡ Err (Ends 4294967295)
  pub yields : bare_call call.SchedYield [] (old_bytes 3) seen_fifty
      ≡ call_done (old_bytes 3) seen_fifty
