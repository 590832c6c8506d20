-- The worked examples hold.
use Rattle.std.proofs.Common.{◌≡◌, inl, subst, codes, ℕ, ◌+◌, List, [], ◌∷◌, replicate, Some, None}
use Rattle.std.proofs.Common.{refl, sym, ap, ◌∙◌, arith}
use Rattle.wasm_syntax.specs.declared.value.Value.{Value}
use Rattle.wasm_syntax.specs.declared.value.Trap.TheVariants as trap
use Rattle.wasm_syntax.specs.declared.instruction.Instruction.{Instruction}
use Rattle.wasm_syntax.specs.declared.instruction.Instruction.TheVariants as instr
use Rattle.wasm_syntax.specs.rules.Sequence.{Sequence, Stop, Plain, Spells}
use Rattle.wasm_syntax.specs.laws.Examples.{hello, idle, idle_with_code, no_type}
use Rattle.wasm_rules.specs.Configuration.{Own, Configuration, Thread, LabelOf, FrameOf, Main}
use Rattle.wasm_rules.specs.laws.Examples.{program_of_hello as hello_program, hello_sequence}
use Rattle.wasm_rules.specs.laws.Examples.{in_hello, rest_behind_call, v}
use Rattle.wasm_rules.specs.Instantiation.{filled_memory, empty_memory}
use Rattle.wasm_rules.specs.Steps.{ReducesTo, here, on}
use Rattle.wasm_rules.specs.Validity.{IsValid, memories_of}
use Rattle.wasi_abi.specs.declared.call.Call.TheVariants as call
use Rattle.wasi_abi.specs.rules.Configs.{Settings}
use Rattle.wasi_calls_rules.specs.WasiStates.{Line, WasiState}
use Rattle.wasi_calls_rules.specs.declared.output_stream.OutputStream.TheVariants.{Stdout}
use Rattle.wasi_calls_rules.specs.Checks.{Bytes}
use Rattle.process_rules.specs.Processes.{ProcessState, Guest, Exited, Trapped, IsStart, host_of}
use Rattle.process_rules.specs.Processes.{closed}
use Rattle.process_rules.specs.Runs.{On, next_of, LeadsTo, Moves, Runs, Reaches, none, step}
use Rattle.process_rules.specs.laws.Examples.{ComesTo, at_rest, HelloEnds, hello_memory, hello_end}
use Rattle.process_rules.specs.laws.Examples.{page_of_zeros, idle_end, IdleEnds, trapping}
use Rattle.process_rules.specs.laws.Examples.{trapping_end, TrappingEnds}
use Rattle.process_rules.proofs.Ended.{comes}
use Rattle.process_rules.proofs.ExamplesValid.{hello_spells, hello_is_valid, alone_is_valid}

-- ---- hello

abbrev pub hi_line : Line
hi_line = record { stream = Stdout; text = codes "hi" }

-- the memory of `hello` at its start: its one segment, and zeros
unfoldable pub first_memory : Bytes
first_memory = 8 ∷ 0 ∷ 0 ∷ 0 ∷ 3 ∷ 0 ∷ 0 ∷ 0 ∷ 104 ∷ 105 ∷ 10 ∷ replicate 65525 0

unfoldable pub last_memory : Bytes
last_memory = hello_memory

pub filled : filled_memory [] hello.data_segments (empty_memory (memories_of hello))
    ≡ Some first_memory
unfolding first_memory
filled = refl

abbrev pub guest_of : Settings → Guest
guest_of config = record {
  program = record hello_program { most_pages = config.pages };
  calls = call.FdWrite ∷ call.ProcExit ∷ [];
}

-- inside of `_start` after n steps, with this host and so many answers and requests
abbrev pub within : WasiState → ℕ → ℕ → ℕ → Bytes → List Value → Sequence → ProcessState
within h answers requests n memory values rest = record {
  configuration = in_hello (record { memory = memory; globals = []; table = [] }) values rest;
  host = h;
  steps = n;
  answers = answers;
  requests = requests;
  ended = None;
}

abbrev pub first : Settings → ProcessState
first config = within (host_of config) 0 0 0 first_memory [] hello_sequence

abbrev pub last : Settings → Bytes → ProcessState
last config memory = record (hello_end config) { configuration = at_rest memory }

pub begins : (config : Settings) → IsStart hello config (guest_of config) (first config)
begins config = record {
  entry = 2;
  first = (first config).configuration;
  exported = inl (refl, refl);
  calls = (refl, refl, (refl, refl, tt));
  begins = record {
    is_program = record {
      types = refl;
      functions = (refl, (refl, (refl, refl, hello_spells, tt)));
      least_pages = refl;
      most_pages = refl;
    };
    store = record { memory = first_memory; globals = []; table = [] };
    is_store = record { globals = tt; table = refl; memory = filled };
    reduces = on refl (here refl);
  };
  is = refl;
}

-- an instruction after which `_start` goes on, without an answer
pub goes_on : (config : Settings) {h h' : WasiState} {answers requests n : ℕ} {m m' : Bytes}
    {values values' : List Value} {i j : Instruction} {rest rest' : Sequence}
    → next_of (guest_of config) (within h answers requests n m values (Plain i rest)) None
    ≡ On (in_hello (record { memory = m'; globals = []; table = [] }) values' (Plain j rest')) h'
    → Moves (guest_of config) (within h answers requests n m values (Plain i rest)) None
    (within h' answers requests (n + 1) m' values' (Plain j rest'))
goes_on config {h = h} {h' = h'} {answers = answers} {requests = requests} {n = n} {m = m}
    {m' = m'} {values = values} {values' = values'} {i = i} {j = j} {rest = rest} {rest' = rest'}
    e =
    let before : ProcessState = within h answers requests n m values (Plain i rest) in
    let behind : ℕ → ℕ → ProcessState =
    λ a r. within h' a r (n + 1) m' values' (Plain j rest') in
    let same : behind answers requests ≡ behind (answers + 0) (requests + 0) =
    ap (λ a. behind a requests) (no_more answers) ∙ ap (behind (answers + 0)) (no_more requests) in
    record {
      running = refl;
      wanted = tt;
      leads = subst (λ z. LeadsTo (guest_of config) z None before (behind answers requests))
          (sym e) (_, here refl, same);
    }
  where
    no_more : (a : ℕ) → a ≡ a + 0
    no_more a = omega arith

-- the call that writes the line
pub writes : (config : Settings)
    → next_of (guest_of config) (within (host_of config) 0 0 4 first_memory (v 16 ∷ v 1 ∷ v 0 ∷ v 1
    ∷ []) (Plain (instr.Call 0) rest_behind_call)) None
    ≡ On (in_hello (record { memory = last_memory; globals = []; table = [] }) (v 0 ∷ [])
    rest_behind_call) (record (host_of config) { lines = hi_line ∷ [] })
unfolding first_memory last_memory
writes config = refl

pub eight : (config : Settings)
    → Runs (guest_of config) (first config) [] 8 (last config last_memory)
eight config =
    step (goes_on config refl) (step (goes_on config refl)
    (step (goes_on config refl) (step (goes_on config refl)
    (step (goes_on config (writes config)) (step (goes_on config refl) (step (goes_on config refl)
    (step (record { running = refl; wanted = tt; leads = refl }) none)))))))

pub all_memory : last_memory ≡ hello_memory
unfolding last_memory
all_memory = refl

pub hello_reaches : (config : Settings) → Reaches hello config [] 8 (last config last_memory)
hello_reaches config = record {
  guest = guest_of config;
  start = first config;
  begins = begins config;
  runs = eight config;
}

pub hello_ends : (config : Settings) → HelloEnds config
hello_ends config = record {
  comes = subst (λ memory. ComesTo hello config [] (last config memory)) all_memory
      (comes hello config [] (Exited 7) (last config last_memory) hello_is_valid refl
      (hello_reaches config));
  written = refl;
}

-- ---- the two smallest

page : Bytes
page = page_of_zeros

zeros : page ≡ page_of_zeros
unfolding page
zeros = refl

nothing_filled : filled_memory [] [] (empty_memory (memories_of idle)) ≡ Some page
unfolding page
nothing_filled = refl

-- nothing in the frames given
abbrev blank : Thread → Configuration
blank thread = record {
  store = record { memory = page; globals = []; table = [] };
  thread = thread;
  later = [];
}

abbrev at_first : Settings → Thread → ProcessState
at_first config thread = record {
  configuration = blank thread;
  host = host_of config;
  steps = 0;
  answers = 0;
  requests = 0;
  ended = None;
}

-- a module that is `_start` alone
abbrev alone : Settings → Sequence → Guest
alone config body =
    record {
      program = record {
        types = no_type ∷ [];
        functions = Own no_type [] body ∷ [];
        least_pages = 1;
        most_pages = config.pages;
      };
      calls = [];
    }

alone_begins : (config : Settings) (opcodes : List Instruction) (body : Sequence) (thread : Thread)
    → Spells opcodes body
    → ReducesTo (alone config body).program (record {
      store = (blank []).store;
      thread = [];
      later = 0 ∷ [];
    }) (blank thread)
    → IsStart (idle_with_code [] opcodes) config (alone config body)
    (closed (at_first config thread))
alone_begins config opcodes body thread spells reduces = record {
  entry = 0;
  first = blank thread;
  exported = inl (refl, refl);
  calls = tt;
  begins = record {
    is_program = record {
      types = refl;
      functions = (refl, refl, spells, tt);
      least_pages = refl;
      most_pages = refl;
    };
    store = (blank []).store;
    is_store = record { globals = tt; table = refl; memory = nothing_filled };
    reduces = reduces;
  };
  is = refl;
}

idle_spells : Spells (instr.End ∷ []) Stop
idle_spells = record { is = refl; nested = tt }

abbrev over_at_once : Settings → ProcessState
over_at_once config = closed (at_first config [])

idle_reaches : (config : Settings) → Reaches idle config [] 0 (over_at_once config)
idle_reaches config = record {
  guest = alone config Stop;
  start = over_at_once config;
  begins = alone_begins config (instr.End ∷ []) Stop [] idle_spells
      (on refl (on refl (on refl (here refl))));
  runs = none;
}

pub idle_ends : (config : Settings) → IdleEnds config
idle_ends config =
    let valid : IsValid idle = alone_is_valid (instr.End ∷ []) Stop idle_spells refl in
    subst (λ memory.
    ComesTo idle config [] (record (idle_end config) { configuration = at_rest memory })) zeros
    (comes idle config [] (Exited 0) (over_at_once config) valid refl (idle_reaches config))

abbrev trapping_body : Sequence
trapping_body = Plain instr.Unreachable Stop

trapping_spells : Spells (instr.Unreachable ∷ instr.End ∷ []) trapping_body
trapping_spells = record { is = refl; nested = (tt, tt) }

abbrev before_trap : Thread
before_trap = FrameOf 0 [] (LabelOf 0 Stop [] Stop Main ∷ []) [] trapping_body ∷ []

abbrev trapped : Settings → ProcessState
trapped config = record (at_first config []) { steps = 1; ended = Some (Trapped trap.Unreachable) }

trapping_reaches : (config : Settings) → Reaches trapping config [] 1 (trapped config)
trapping_reaches config = record {
  guest = alone config trapping_body;
  start = at_first config before_trap;
  begins = alone_begins config (instr.Unreachable ∷ instr.End
      ∷ []) trapping_body before_trap trapping_spells (on refl (here refl));
  runs = step (record { running = refl; wanted = tt; leads = refl }) none;
}

pub trapping_ends : (config : Settings) → TrappingEnds config
trapping_ends config =
    let valid : IsValid trapping =
    alone_is_valid (instr.Unreachable ∷ instr.End ∷ []) trapping_body trapping_spells (
      [],
      [],
      [],
      refl,
      tt,
      refl,
    ) in
    subst (λ memory.
    ComesTo trapping config []
    (record (trapping_end config) { configuration = at_rest memory })) zeros
    (comes trapping config [] (Trapped trap.Unreachable) (trapped config) valid refl
    (trapping_reaches config))
