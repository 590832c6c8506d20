-- The process that `hello` begins as is well typed, and so it is in version 2.
use Rattle.std.proofs.Common.{◌≡◌, inl, ◌+◌, ℕ, ◌^◌, ◌≤◌, List, [], ◌∷◌, length}
use Rattle.std.proofs.Common.{replicate, None, refl, subst, lit<, lit≤, arith}
use Rattle.std.specs.List.{AllByRecursion}
use Rattle.std.proofs.lemmas.List.{length-replicate}
use Rattle.wasm_syntax.specs.laws.Examples.{hello, no_type}
use Rattle.guest_memory.specs.rules.Bytes.{IsByte}
use Rattle.guest_memory.proofs.Lists.{all_both, all_replicate}
use Rattle.wasm_rules.specs.Typing.{Context, HasType, body_context}
use Rattle.wasm_rules.specs.Validity.{module_context}
use Rattle.wasm_rules.specs.Configuration.{Own, Program, Configuration}
use Rattle.wasm_rules.specs.Steps.{here, on}
use Rattle.wasm_rules.specs.Typed.{IsTyped}
use Rattle.wasm_rules.specs.laws.Examples.{program_of_hello, hello_sequence, in_hello}
use Rattle.wasm_rules.proofs.Soundness.Beginning.{programs_typed}
use Rattle.wasi_abi.specs.declared.call.Call.TheVariants as call
use Rattle.wasi_abi.specs.declared.version.Version.{Version}
use Rattle.wasi_abi.specs.declared.version.Version.TheVariants.{One, Two}
use Rattle.wasi_abi.specs.rules.Configs.{Settings}
use Rattle.wasi_abi.specs.rules.Versions.{text_limit, widenings}
use Rattle.process_rules.specs.Processes.{ProcessState, Guest, IsStart, host_of}
use Rattle.process_rules.proofs.ExamplesValid.{hello_is_valid, functions, hello_spells}
use Rattle.process_rules.proofs.ExamplesHold.{first_memory, filled}
use Rattle.machine_slots.specs.rules.Places.{Shows}
use Rattle.state_image.specs.rules.ProcessImage.{Saved, SavedShowsProcess}
use Rattle.state_image.specs.rules.WellTyped.{IsWellTyped}
use Rattle.state_image.specs.laws.Examples.{fresh_process}
use Rattle.state_image.specs.laws.WellTypedExamples.{hello_first_memory, HelloBeginsWellTyped}
use Rattle.state_image.specs.laws.WellTypedExamples.{widened_process, HelloIsWellTypedInTwo}
use Rattle.wasi_calls_rules.proofs.FirstWasiStates.{first_is_host, of_any_version}
use Rattle.wasi_calls_rules.proofs.KeepsWasiStates.{unread_kept}

-- ---- memory

pub is_first : first_memory ≡ hello_first_memory
unfolding first_memory
is_first = refl

one_page_long : length first_memory ≡ 65536
unfolding first_memory
one_page_long = omega (arith, length-replicate {A = ℕ} 65525 0)

memory_bytes : AllByRecursion IsByte first_memory
unfolding first_memory
memory_bytes =
    all_both IsByte (8 ∷ 0 ∷ 0 ∷ 0 ∷ 3 ∷ 0 ∷ 0 ∷ 0 ∷ 104 ∷ 105 ∷ 10 ∷ []) (replicate 65525 0)
    (omega arith) (all_replicate IsByte 65525 0 (lit< tt))

-- ---- how it begins

abbrev pub program_under : Settings → Program
program_under config = record program_of_hello { most_pages = config.pages }

abbrev pub first : Configuration
first = in_hello (record { memory = first_memory; globals = []; table = [] }) [] hello_sequence

abbrev pub guest_of : Settings → Guest
guest_of config = record
    { program = program_under config; calls = call.FdWrite ∷ call.ProcExit ∷ [] }

abbrev pub first_of : Settings → ProcessState
first_of config = record {
  configuration = first;
  host = host_of config;
  steps = 0;
  answers = 0;
  requests = 0;
  ended = None;
}

pub begins : (config : Settings) → IsStart hello config (guest_of config) (first_of config)
begins config = record {
  entry = 2;
  first = first;
  exported = inl (refl, refl);
  calls = (refl, refl, (refl, refl, tt));
  begins = record {
    is_program = record {
      types = refl;
      functions = (refl, (refl, (refl, refl, hello_spells, tt)));
      least_pages = refl;
      most_pages = refl;
    };
    store = record { memory = first_memory; globals = []; table = [] };
    is_store = record { globals = tt; table = refl; memory = filled };
    reduces = on refl (here refl);
  };
  is = refl;
}

-- ---- what it shows

abbrev pub context : Context
context = module_context hello functions

body_typed : (config : Settings) → config.pages ≤ 2 ^ 16
    → HasType (body_context context no_type []) ([] ∷ []) hello_sequence [] []
body_typed config few =
    (programs_typed config.pages hello functions (program_under config) few hello_is_valid
    (refl, (refl, (refl, tt))) (begins config).begins.is_program).bodies
    2 (Own no_type [] hello_sequence) refl

typed : (config : Settings) → 1 ≤ config.pages → config.pages ≤ 2 ^ 16
    → IsTyped context (program_under config) first
typed config some few = record {
  store = record {
    memory = record {
      pages = 1;
      whole = one_page_long;
      least = omega arith;
      within = some;
      bytes = memory_bytes;
    };
    globals = tt;
    table = tt;
  };
  thread = (
    no_type,
    [],
    hello_sequence,
    refl,
    record {
      branches = [] ∷ [];
      types = [];
      out = [];
      locals = tt;
      values = tt;
      typed_rest = body_typed config few;
      typed_labels = ([], [], refl, tt, refl, refl, refl);
    },
    tt,
  );
  later = tt;
}

shows : (config : Settings) → 1 ≤ config.pages → config.pages ≤ 2 ^ 16
    → Shows context (program_under config) [] (fresh_process first_memory).machine first
shows config some few = record {
  typed = typed config some few;
  reduced = refl;
  memory = refl;
  globals = refl;
  same_table = refl;
  later = refl;
  frames = (
    record {
      signature = no_type;
      declared = [];
      body = hello_sequence;
      is = refl;
      same = refl;
    },
    record {
      shape = _;
      reached = refl;
      remains = refl;
      more = λ e. absurd cc;
      labels_are = (refl, refl, tt, refl, refl, tt);
      operands = tt;
      locals = tt;
      slots = refl;
    },
    tt,
  );
  few_frames = lit≤ tt;
  few_values = omega arith;
}

-- the process in this version, with these unread bytes, after so many answers
abbrev process_as : Settings → Version → List ℕ → ℕ → ProcessState
process_as config version unread answers = record (first_of config)
    { host = record (host_of config) { version = version; unread = unread }; answers = answers }

abbrev saved_as : Version → List ℕ → ℕ → Saved
saved_as version unread answers =
    record (fresh_process first_memory) { version = version; unread = unread; answers = answers }

shown_as : (config : Settings) (version : Version) (unread : List ℕ) (answers : ℕ)
    → 1 ≤ config.pages → config.pages ≤ 2 ^ 16
    → SavedShowsProcess context (program_under config) [] (saved_as version unread answers)
    (process_as config version unread answers)
shown_as config version unread answers some few = search (shows config some few)

pub first_shown : (config : Settings) → 1 ≤ config.pages → config.pages ≤ 2 ^ 16
    → SavedShowsProcess context (program_under config) [] (fresh_process first_memory)
    (first_of config)
first_shown config some few = shown_as config One [] 0 some few

-- ---- it is well typed

well_typed : (config : Settings) (version : Version) (unread : List ℕ) (answers : ℕ)
    → 1 ≤ config.pages → config.pages ≤ 2 ^ 16 → AllByRecursion IsByte unread
    → length unread ≤ text_limit version + 1 → answers ≤ widenings version
    → IsWellTyped hello config (saved_as version unread answers)
unfolding begins
well_typed config version unread answers some few are short counted = record {
  valid = hello_is_valid;
  guest = guest_of config;
  start = first_of config;
  begins = begins config;
  functions = functions;
  function_types = (refl, (refl, (refl, tt)));
  process = process_as config version unread answers;
  shown = shown_as config version unread answers some few;
  host = unread_kept (record (host_of config) { version = version }) unread
      (of_any_version (host_of config) version (first_is_host _ _ _ _)) are;
  configured = record { room = refl; arguments = refl; environment = refl };
  outermost = refl;
  alive = λ e. absurd cc;
  steps = omega arith;
  lines = omega arith;
  answers = omega (arith, counted);
  requests = omega arith;
  bounds = record {
    code = omega arith;
    globals = omega arith;
    places = (record { function = lit< tt; position = lit< tt }, tt);
    slots = omega arith;
    memory = omega (arith, one_page_long);
  };
  unread = short;
  next = omega arith;
}

pub hello_begins_well_typed : HelloBeginsWellTyped
hello_begins_well_typed config some few =
    subst (λ (m : List ℕ). IsWellTyped hello config (fresh_process m)) is_first
    (well_typed config One [] 0 some few tt (omega arith) (omega arith))

pub hello_in_two : HelloIsWellTypedInTwo
hello_in_two config unread some few are short =
    subst (λ (m : List ℕ). IsWellTyped hello config (widened_process m unread)) is_first
    (well_typed config Two unread 1 some few are short (omega arith))
