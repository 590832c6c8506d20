-- What `hello` shows where it begins and where it has ended.
use Rattle.std.proofs.Common.{◌≡◌, ℕ, zero, suc, ◌^◌, ◌≤◌, List, [], ◌∷◌, length}
use Rattle.std.proofs.Common.{replicate, refl, sym, subst, lit≤, arith}
use Rattle.std.proofs.lemmas.List.{length-replicate}
use Rattle.wasm_syntax.specs.laws.Examples.{hello}
use Rattle.wasm_rules.specs.Typed.{IsTyped}
use Rattle.wasi_abi.specs.declared.version.Version.TheVariants.{One}
use Rattle.wasi_abi.specs.rules.Answers.{AreBytes}
use Rattle.wasi_abi.specs.rules.Configs.{Settings}
use Rattle.process_rules.specs.Processes.{ProcessState, Guest}
use Rattle.process_rules.specs.Runs.{Reaches, none}
use Rattle.process_rules.specs.laws.Examples.{at_rest, hello_end}
use Rattle.process_rules.proofs.ExamplesValid.{hello_is_valid, functions}
use Rattle.process_rules.proofs.ExamplesHold.{hello_ends, all_memory, last_memory}
use Rattle.process_rules.proofs.OneStart.{start_once}
use Rattle.state_image.specs.rules.ProcessImage.{Saved, SavedShowsProcess}
use Rattle.state_image.specs.laws.Examples.{fresh_process}
use Rattle.state_image.proofs.HelloWellTyped.{is_first, program_under, guest_of}
use Rattle.state_image.proofs.HelloWellTyped.{first_of, begins, context, first_shown}
use Rattle.worker_store.specs.restart_theorem.Promises.{IsAt}
use Rattle.worker_store.specs.restart_theorem.laws.WholeLives.{hello_first, hello_last}

-- ---- memory

last_long : length last_memory ≡ 65536
unfolding last_memory
last_long = omega (arith, length-replicate {A = ℕ} 65516 0)

one_byte : (n : ℕ) (xs : List ℕ) → n ≤ 255 → AreBytes xs → AreBytes (n ∷ xs)
one_byte n xs le bytes = (omega (arith, le), bytes)

zeros : (n : ℕ) → AreBytes (replicate n 0)
zeros zero = tt
zeros (suc n) = one_byte 0 (replicate n 0) (lit≤ tt) (zeros n)

-- a number of one byte in four, and more
in_four : (n : ℕ) (xs : List ℕ) → n ≤ 255 → AreBytes xs → AreBytes (n ∷ 0 ∷ 0 ∷ 0 ∷ xs)
in_four n xs le bytes =
    one_byte n (0 ∷ 0 ∷ 0 ∷ xs) le (one_byte 0 (0 ∷ 0 ∷ xs) (lit≤ tt)
    (one_byte 0 (0 ∷ xs) (lit≤ tt) (one_byte 0 xs (lit≤ tt) bytes)))

-- the segment of `hello`, and more
behind_segment : (xs : List ℕ) → AreBytes xs
    → AreBytes (8 ∷ 0 ∷ 0 ∷ 0 ∷ 3 ∷ 0 ∷ 0 ∷ 0 ∷ 104 ∷ 105 ∷ 10 ∷ xs)
behind_segment xs bytes =
    in_four 8 (3 ∷ 0 ∷ 0 ∷ 0 ∷ 104 ∷ 105 ∷ 10 ∷ xs) (lit≤ tt)
    (in_four 3 (104 ∷ 105 ∷ 10 ∷ xs) (lit≤ tt)
    (one_byte 104 (105 ∷ 10 ∷ xs) (lit≤ tt) (one_byte 105 (10 ∷ xs) (lit≤ tt)
    (one_byte 10 xs (lit≤ tt) bytes))))

abbrev many_zeros : List ℕ
many_zeros = replicate 65516 0

last_bytes : AreBytes last_memory
unfolding last_memory
last_bytes =
    behind_segment (0 ∷ 0 ∷ 0 ∷ 0 ∷ 0 ∷ 3 ∷ 0 ∷ 0 ∷ 0 ∷ many_zeros)
    (one_byte 0 (0 ∷ 0 ∷ 0 ∷ 0 ∷ 3 ∷ 0 ∷ 0 ∷ 0 ∷ many_zeros) (lit≤ tt)
    (in_four 0 (3 ∷ 0 ∷ 0 ∷ 0 ∷ many_zeros) (lit≤ tt)
    (in_four 3 many_zeros (lit≤ tt) (zeros 65516))))

module _ (config : Settings) (some : 1 ≤ config.pages) (few : config.pages ≤ 2 ^ 16) where
  last_typed : IsTyped context (program_under config) (at_rest last_memory)
  last_typed = record {
    store = record {
      memory = record {
        pages = 1;
        whole = last_long;
        least = omega arith;
        within = some;
        bytes = last_bytes;
      };
      globals = tt;
      table = tt;
    };
    thread = tt;
    later = tt;
  }

  -- ---- what it shows

  abbrev saved_last : List ℕ → Saved
  saved_last memory = record hello_last {
    version = One;
    machine = record { frames = []; globals = []; memory = memory; later = [] };
  }

  abbrev end_with : List ℕ → ProcessState
  end_with memory = record (hello_end config) { configuration = at_rest memory }

  last_shown : SavedShowsProcess context (program_under config) [] (saved_last last_memory)
      (end_with last_memory)
  last_shown = record {
    version = refl;
    machine = record {
      typed = last_typed;
      reduced = refl;
      memory = refl;
      globals = refl;
      same_table = refl;
      later = refl;
      frames = tt;
      few_frames = omega arith;
      few_values = omega arith;
    };
    files = refl;
    descriptors = refl;
    unread = refl;
    input_ended = refl;
    last_monotonic = refl;
    first = refl;
    second = refl;
    steps = refl;
    answers = refl;
    requests = refl;
    lines = refl;
    ended = refl;
  }

  pub at_first_step : IsAt hello config [] 0 hello_first
  at_first_step = subst (λ z. IsAt hello config [] 0 (fresh_process z)) is_first (record {
    process = first_of config;
    reached = record {
      guest = guest_of config;
      start = first_of config;
      begins = begins config;
      runs = none;
    };
    functions = functions;
    function_types = (refl, (refl, (refl, tt)));
    table = [];
    shown = first_shown config some few;
  })

  shown_under : (guest : Guest) → guest ≡ guest_of config
      → SavedShowsProcess context guest.program [] hello_last (hello_end config)
  shown_under guest same =
      subst (λ (z : Guest). SavedShowsProcess context z.program [] hello_last (hello_end config))
      (sym same)
      (subst (λ z. SavedShowsProcess context (program_under config) [] (saved_last z) (end_with z))
      all_memory last_shown)

  pub at_last_step : IsAt hello config [] 8 hello_last
  at_last_step =
      let reached : Reaches hello config [] 8 (hello_end config) =
      (hello_ends config).comes.reached in
      let guests : (reached.guest ≡ guest_of config) × (reached.start ≡ first_of config) =
      start_once hello config reached.guest (guest_of config) reached.start (first_of config)
      hello_is_valid reached.begins (begins config) in
      record {
        process = hello_end config;
        reached = reached;
        functions = functions;
        function_types = (refl, (refl, (refl, tt)));
        table = [];
        shown = shown_under reached.guest guests.0;
      }
