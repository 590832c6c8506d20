-- A worked example of the answers behind a line and behind a sync of the guest, under any
-- configuration: the exact step, and exactly so many answers.
use Rattle.std.specs.Prelude.{◌≡◌, ℕ, ◌≤◌, List, [], ◌∷◌, Some, None, slice_get, codes}
use Rattle.wasm_syntax.specs.declared.types.ValueType.TheVariants.{I32}
use Rattle.wasm_syntax.specs.declared.types.FunctionType.{FunctionType}
use Rattle.wasm_syntax.specs.declared.instruction.Instruction.{Instruction}
use Rattle.wasm_syntax.specs.declared.instruction.Instruction.TheVariants as instr
use Rattle.wasm_syntax.specs.declared.module.Module.{Module}
use Rattle.wasm_syntax.specs.laws.Examples.{i32_const, no_type, transfer_type, one_page}
use Rattle.wasm_syntax.specs.laws.Examples.{wasi_function, exports_from}
use Rattle.wasm_rules.specs.Configuration.{Thread, Asks}
use Rattle.wasm_rules.specs.Steps.{counted_step, answered}
use Rattle.wasm_rules.specs.laws.Examples.{v}
use Rattle.wasi_abi.specs.declared.answer.Answer.TheVariants as answer
use Rattle.wasi_abi.specs.declared.call.Call.TheVariants as call
use Rattle.wasi_abi.specs.rules.Configs.{Settings}
use Rattle.wasi_calls_rules.specs.WasiStates.{Line}
use Rattle.wasi_calls_rules.specs.declared.output_stream.OutputStream.TheVariants.{Stdout}
use Rattle.process_rules.specs.Processes.{ProcessState}
use Rattle.process_rules.specs.Runs.{Kept, Given, Reaches, On, next_of}
use Rattle.process_rules.specs.Behind.{IsNarrowTo, AnswersBehindLine, IsLine, AnswersBehindSync}

-- ---- a module that syncs

-- the type of `fd_sync`
abbrev pub sync_type : FunctionType
sync_type = record { parameters = I32 ∷ []; results = I32 ∷ [] }

-- It reads four bytes, syncs descriptor 4 and descriptor 3, and writes the four bytes.
abbrev pub syncing_body : List Instruction
syncing_body =
    i32_const 0 ∷ i32_const 0 ∷ i32_const 1 ∷ i32_const 8 ∷ instr.Call 0 ∷ instr.Drop
    ∷ i32_const 4 ∷ instr.Call 1 ∷ instr.Drop
    ∷ i32_const 3 ∷ instr.Call 1 ∷ instr.Drop
    ∷ i32_const 1 ∷ i32_const 0 ∷ i32_const 1 ∷ i32_const 12 ∷ instr.Call 2 ∷ instr.Drop
    ∷ instr.End ∷ []

-- Its one buffer has four bytes, from 64 on.
abbrev pub syncing : Module
syncing = record {
  types = no_type ∷ transfer_type ∷ sync_type ∷ [];
  imports = wasi_function (codes "fd_read") 1 ∷ wasi_function (codes "fd_sync") 2
      ∷ wasi_function (codes "fd_write") 1 ∷ [];
  functions = record {
    function_type = 0;
    code = record { locals = []; body = syncing_body };
  } ∷ [];
  tables = [];
  memories = one_page ∷ [];
  globals = [];
  exports = exports_from 3;
  start = None;
  elements = [];
  data_segments = record {
    memory = 0;
    offset = i32_const 0 ∷ instr.End ∷ [];
    bytes = 64 ∷ 0 ∷ 0 ∷ 0 ∷ 4 ∷ 0 ∷ 0 ∷ 0 ∷ [];
  } ∷ [];
}

-- ---- what it comes to

-- a request with the text `abc`, and whatever was kept after it
abbrev pub abc_and_more : List Kept → List Kept
abc_and_more more = Given (answer.Request (codes "abc")) ∷ more

abbrev pub abc_line : Line
abc_line = record { stream = Stdout; text = codes "abc" }

-- After n steps, the request among them, it calls `fd_sync` on this descriptor. That gives this
-- number, and changes neither memory nor the host.
pub record SyncGives (config : Settings) (n descriptor number : ℕ) : Type 0 where
  pub process : ProcessState
  pub reached : Reaches syncing config (abc_and_more []) n process
  pub is_call : slice_get reached.guest.calls 1 ≡ Some call.FdSync
  pub waits : Thread
  pub asks : counted_step reached.guest.program process.configuration
      ≡ Asks 1 (v descriptor ∷ []) waits
  pub gives : next_of reached.guest process None
      ≡ On (answered process.configuration process.configuration.store.memory (v number
      ∷ []) waits) process.host

-- Step 8 is a call on a descriptor that isn't open, which fails with 8: it is no sync. Step 11 is
-- one on the root directory, which gives 0. It is the only sync, and takes exactly one answer.
pub record OneSync (config : Settings) (more : List Kept) : Type 0 where
  pub fails : SyncGives config 7 4 8
  pub succeeds : SyncGives config 10 3 0
  pub synced : AnswersBehindSync syncing config (abc_and_more more) 11 1
  pub no_other : (k a : ℕ) → AnswersBehindSync syncing config (abc_and_more more) k a
      → (k ≡ 11) × (a ≡ 1)

-- The first line is line 1, and takes exactly one answer. There is no line 0, and no second line.
pub record OneLine (config : Settings) (more : List Kept) : Type 0 where
  pub emitted : AnswersBehindLine syncing config (abc_and_more more) 1 1
  pub no_fewer : (a : ℕ) → AnswersBehindLine syncing config (abc_and_more more) 1 a → a ≡ 1
  pub no_second : (i a : ℕ) → AnswersBehindLine syncing config (abc_and_more more) i a → i ≤ 1
  pub is_line : IsLine syncing config (abc_and_more more) 1 abc_line
  pub no_other : (i : ℕ) (line : Line) → IsLine syncing config (abc_and_more more) i line
      → (i ≡ 1) × (line ≡ abc_line)

-- the sync and the line of `syncing`, where nothing kept widens it up to its end, at step 18
abbrev pub SyncingOwes : Settings → Type 0
SyncingOwes config =
    (more : List Kept) → IsNarrowTo more 19 → OneSync config more × OneLine config more
