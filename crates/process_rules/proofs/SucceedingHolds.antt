-- The worked example of a process that goes on from another one holds.
use Rattle.std.proofs.Common.{◌≡◌, inl, inr, ℕ, zero, suc, ◌+◌, ◌≤◌, List, [], ◌∷◌, ◌++◌}
use Rattle.std.proofs.Common.{length, take as firsts, drop, Some, None, refl, sym, ap, ◌∙◌}
use Rattle.std.proofs.Common.{subst, arith, lit≤, codes}
use Rattle.std.specs.Prelude.{slice_get}
use Rattle.std.proofs.lemmas.Str.{IsUtf8-from_ascii}
use Rattle.std.proofs.lemmas.Str.Ascii.{IsAscii-nil, IsAscii-cons}
use Rattle.std.specs.Str.{IsAscii}
use Rattle.wasm_syntax.specs.declared.instruction.Instruction.TheVariants as instr
use Rattle.wasm_syntax.specs.rules.Sequence.{Stop, Plain}
use Rattle.wasm_syntax.specs.laws.Examples.{hello}
use Rattle.wasm_rules.specs.laws.Examples.{rest_behind_call, in_hello, hello_sequence, v}
use Rattle.wasi_abi.specs.declared.version.Version.{Version}
use Rattle.wasi_abi.specs.declared.version.Version.TheVariants.{One, Two}
use Rattle.wasi_abi.specs.rules.Configs.{Settings}
use Rattle.file_tree.specs.rules.Files.{Path, IsFiles, IsNodeName, used}
use Rattle.wasi_calls_rules.specs.WasiStates.{Line, WasiState}
use Rattle.wasi_calls_rules.specs.Checks.{Bytes}
use Rattle.process_rules.specs.Processes.{ProcessState, Exited, host_of}
use Rattle.process_rules.specs.Origins.{IsOrigin, IsSucceeding, succeeding}
use Rattle.process_rules.specs.Runs.{On, next_of, Moves, Runs, widen, succeed, first_kept, Reaches}
use Rattle.process_rules.specs.Behind.{IsNarrowTo, AnswersBehindLine}
use Rattle.process_rules.specs.laws.Examples.{ComesTo, at_rest}
use Rattle.process_rules.specs.laws.SucceedingExamples.{milk_line, three_lines, files_left, left}
use Rattle.process_rules.specs.laws.SucceedingExamples.{hi_line, succeeded_end, succeeds}
use Rattle.process_rules.specs.laws.SucceedingExamples.{HelloSucceeds, HelloHasNoRoom, HelloGoesOn}
use Rattle.process_rules.proofs.Along.{Along, last as at_last, goes, is_run, known_from_start}
use Rattle.process_rules.proofs.Ended.{comes}
use Rattle.process_rules.proofs.ExamplesHold.{first_memory, last_memory, all_memory, guest_of}
use Rattle.process_rules.proofs.ExamplesHold.{within, first, begins, goes_on}
use Rattle.process_rules.proofs.ExamplesValid.{hello_is_valid}
use Rattle.process_rules.proofs.OneProcess.{GoesOnFrom, succeeds_first}
use Rattle.process_rules.proofs.OneStart.{start_once}
use Rattle.process_rules.proofs.Succeeding.{successors_have_come_from}
use Rattle.process_rules.proofs.WideningHolds.{silent_there}

-- ---- the origin

notes_are_ascii : IsAscii (codes "notes")
notes_are_ascii =
    IsAscii-cons 110 (codes "otes") (lit≤ tt) (IsAscii-cons 111 (codes "tes") (lit≤ tt)
    (IsAscii-cons 116 (codes "es") (lit≤ tt) (IsAscii-cons 101 (codes "s") (lit≤ tt)
    (IsAscii-cons 115 [] (lit≤ tt) IsAscii-nil))))

notes_are_named : IsNodeName (codes "notes")
notes_are_named = record {
  not_empty = λ e. cc;
  short = lit≤ tt;
  bytes = omega arith;
  utf8 = IsUtf8-from_ascii (codes "notes") notes_are_ascii;
  not_self = λ e. cc;
  not_parent = λ e. cc;
}

other_path : (p : Path) → [] ≡ p → codes "notes" ∷ [] ≡ p → ⊥
other_path p root notes = let same : codes "notes" ∷ [] ≡ [] = notes ∙ sym root in cc

are_files : IsFiles files_left
are_files = record {
  rising = (lit≤ tt, (lit≤ tt, lit≤ tt));
  root = refl;
  root_is_directory = refl;
  placed = (inl refl, (inr (1, [], codes "notes", refl, notes_are_named, refl, refl), tt));
  distinct = ((other_path, tt), (tt, tt));
  contents = omega arith;
  few = lit≤ tt;
}

used_left : used files_left ≡ 4
used_left = refl

is_origin : (config : Settings) → 1 ≤ config.files → IsOrigin (host_of config).room left
is_origin config room = record {
  files = are_files;
  of_bytes = (
    record { path = tt; content = tt },
    (record { path = omega arith; content = omega arith }, tt),
  );
  named = refl;
  within = omega (arith, used_left, room);
  some_steps = lit≤ tt;
  next = lit≤ tt;
  answers = lit≤ tt;
  requests = lit≤ tt;
  time = lit≤ tt;
}

may_succeed : (config : Settings) → 1 ≤ config.files → IsSucceeding left (first config)
may_succeed config room = record {
  origin = is_origin config room;
  no_steps = refl;
  no_answers = refl;
  no_lines = refl;
  narrow = refl;
  opened = refl;
}

-- ---- the steps after it

-- the host of this version after that, with so many lines of its own
abbrev left_host : Settings → Version → List Line → WasiState
left_host config version lines = record (host_of config) {
  files = files_left;
  lines = three_lines ++ lines;
  last_monotonic = 5;
  version = version;
}

abbrev end : Settings → Version → ℕ → Bytes → ProcessState
end config version answers memory = record (succeeded_end config) {
  configuration = at_rest memory;
  host = left_host config version (hi_line ∷ []);
  answers = answers;
}

-- the call that writes the line
writes : (config : Settings) (version : Version) (a : ℕ)
    → next_of (guest_of config) (within (left_host config version []) a 1 11 first_memory (v 16
    ∷ v 1 ∷ v 0 ∷ v 1 ∷ []) (Plain (instr.Call 0) rest_behind_call)) None
    ≡ On (in_hello (record { memory = last_memory; globals = []; table = [] }) (v 0 ∷ [])
    rest_behind_call) (left_host config version (hi_line ∷ []))
unfolding first_memory last_memory
writes config version a = refl

module _ (config : Settings) (version : Version) (a : ℕ) where
  abbrev succeeding_first : ProcessState
  succeeding_first = within (left_host config version []) a 1 7 first_memory [] hello_sequence

  exits : Moves (guest_of config) (within (left_host config version (hi_line ∷ [])) a 1 14
      last_memory (v 7 ∷ []) (Plain (instr.Call 1) Stop)) None (end config version a last_memory)
  exits = record {
    running = refl;
    wanted = tt;
    leads = ap (λ z. end config version z last_memory) (no_answer a);
  }
    where
      no_answer : (a : ℕ) → a ≡ a + 0
      no_answer a = omega arith

  -- four lines at most
  abbrev HasFour : ℕ → ℕ → ProcessState → Type 0
  HasFour n taken p = length p.host.lines ≤ 4

  eight : Along (guest_of config) HasFour 0 0 succeeding_first [] 8 (end config version a
      last_memory)
  eight =
      goes (lit≤ tt) (goes_on config refl) (goes (lit≤ tt) (goes_on config refl)
      (goes (lit≤ tt) (goes_on config refl) (goes (lit≤ tt) (goes_on config refl)
      (goes (lit≤ tt) (goes_on config (writes config version a))
      (goes (lit≤ tt) (goes_on config refl) (goes (lit≤ tt) (goes_on config refl)
      (goes (lit≤ tt) exits (at_last (lit≤ tt)))))))))

  eight_run : Runs (guest_of config) succeeding_first [] 8 (end config version a last_memory)
  eight_run =
      is_run (guest_of config) HasFour 0 0 8 succeeding_first (end config version a last_memory)
      [] eight

reaches : (config : Settings) → 1 ≤ config.files
    → Reaches hello config succeeds 15 (end config One 2 last_memory)
reaches config room = record {
  guest = guest_of config;
  start = first config;
  begins = begins config;
  runs = succeed (may_succeed config room) refl (eight_run config One 2);
}

wide_reaches : (config : Settings) → 1 ≤ config.files
    → Reaches hello config (first_kept Two left) 15 (end config Two 3 last_memory)
wide_reaches config room = record {
  guest = guest_of config;
  start = first config;
  begins = begins config;
  runs = succeed (may_succeed config room) refl
      (widen (record { narrow = refl; at = refl }) (eight_run config Two 3));
}

-- ---- the lines

-- whatever is reached has gone on from there
has_gone_on : (config : Settings) (n : ℕ) (p : ProcessState) → Reaches hello config succeeds n p
    → GoesOnFrom (guest_of config) left (first config) [] n p
has_gone_on config n p r =
    let same = start_once hello config r.guest (guest_of config) r.start (first config)
    hello_is_valid r.begins (begins config) in
    let by_guest : Runs (guest_of config) r.start succeeds n p =
    subst (λ g. Runs g r.start succeeds n p) same.0 r.runs in
    succeeds_first (guest_of config) (first config) p succeeds [] n left
    (subst (λ z. Runs (guest_of config) z succeeds n p) same.1 by_guest) refl

few_lines : (config : Settings) (n : ℕ) (p : ProcessState) → Reaches hello config succeeds n p
    → length p.host.lines ≤ 4
few_lines config n p r =
    let from = has_gone_on config n p r in
    known_from_start (guest_of config) (HasFour config One 2) 8 (succeeding left (first config))
    (end config One 2 last_memory) [] [] [] 0 from.steps p (Exited 7) refl tt (eight config One 2)
    from.runs refl

no_other : (config : Settings) (i a : ℕ) → 1 ≤ i → AnswersBehindLine hello config succeeds i a
    → (i ≤ 4) × (a ≡ 1)
no_other config i zero some b =
    let none : length b.process.host.lines ≡ 0 =
    ap length (silent_there config b.steps b.process b.reached (before b.steps b.up_to)) in
    let emitted = b.emitted in
    absurd (omega (arith, none, emitted, some))
  where
    before : (n : ℕ) → n ≤ 0 → n ≤ 4
    before n at = omega (arith, at)
no_other config i (suc zero) some b =
    let few = few_lines config b.steps b.process b.reached in
    let emitted = b.emitted in
    (omega (arith, few, emitted), refl)
no_other config i (suc (suc a)) some b = let within = b.within in absurd (omega (arith, within))

-- the line at the first place
at_first : (config : Settings) (n place : ℕ) (p : ProcessState) (line : Line)
    → Reaches hello config succeeds n p → 1 ≡ place + 1
    → slice_get p.host.lines place ≡ Some line → line ≡ milk_line
at_first config n place p line r counted is =
    let on = successors_have_come_from hello config [] left n p r in
    let here : place ≡ 0 = omega (arith, counted) in
    let there : slice_get p.host.lines 0 ≡ Some line =
    subst (λ z. slice_get p.host.lines z ≡ Some line) here is in
    let whole : slice_get (three_lines ++ on.lines) 0 ≡ Some line =
    subst (λ z. slice_get z 0 ≡ Some line) on.are there in
    let same : milk_line ≡ line = cc in
    sym same

one_text : (config : Settings) (a n place : ℕ) (p : ProcessState) (line : Line)
    → Reaches hello config (firsts a succeeds) n p → IsNarrowTo (drop a succeeds) n
    → 1 ≡ place + 1 → slice_get p.host.lines place ≡ Some line → line ≡ milk_line
one_text config zero n place p line r up counted is =
    let none : p.host.lines ≡ [] = silent_there config n p r (omega (arith, up)) in
    absurd (nothing_there place (subst (λ z. slice_get z place ≡ Some line) none is))
  where
    nothing_there : (place : ℕ) → slice_get [] place ≡ Some line → ⊥
    nothing_there zero e = cc
    nothing_there (suc place) e = cc
one_text config (suc zero) n place p line r up counted is =
    at_first config n place p line r counted is
one_text config (suc (suc a)) n place p line r up counted is =
    at_first config n place p line r counted is

-- ---- all of it

hello_succeeds : (config : Settings) → 1 ≤ config.files → HelloSucceeds config
hello_succeeds config room = record {
  comes = subst (λ memory. ComesTo hello config succeeds (end config One 2 memory)) all_memory
      (comes hello config succeeds (Exited 7) (end config One 2 last_memory) hello_is_valid refl
      (reaches config room));
  behind = λ i few. record {
    within = lit≤ tt;
    steps = 15;
    process = end config One 2 last_memory;
    reached = reaches config room;
    up_to = tt;
    emitted = few;
  };
  no_other = no_other config;
  fourth = record {
    answers = 1;
    steps = 15;
    process = end config One 2 last_memory;
    reached = reaches config room;
    up_to = tt;
    place = 3;
    counted = refl;
    is = refl;
  };
  first = λ line is.
      one_text config is.answers is.steps is.place is.process line is.reached is.up_to
      is.counted is.is;
  wide = subst (λ memory. ComesTo hello config (first_kept Two left) (end config Two 3 memory))
      all_memory (comes hello config (first_kept Two left) (Exited 7)
      (end config Two 3 last_memory) hello_is_valid refl (wide_reaches config room));
}

hello_has_no_room : (config : Settings) → HelloHasNoRoom config
hello_has_no_room config n p full r =
    let within : used files_left ≤ (host_of config).room =
    (has_gone_on config n p r).succeeds.origin.within in
    omega (arith, within, full, used_left)

pub hello_goes_on : (config : Settings) → HelloGoesOn config
hello_goes_on config = (hello_succeeds config, hello_has_no_room config)
