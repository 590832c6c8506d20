-- The worked example `syncing` holds: where it syncs, and where it writes its line.
use Rattle.std.proofs.Common.{◌≡◌, ◌⊎◌, inl, inr, ℕ, zero, suc, ◌+◌, ◌≤◌}
use Rattle.std.proofs.Common.{List, [], ◌∷◌, ◌++◌, length, replicate, codes, take as firsts}
use Rattle.std.proofs.Common.{Some, None, refl, sym, ap, ◌∙◌, subst, lit≤, arith, length-take}
use Rattle.std.specs.Prelude.{slice_get}
use Rattle.wasm_syntax.specs.declared.value.Value.{Value}
use Rattle.wasm_syntax.specs.declared.instruction.Instruction.{Instruction}
use Rattle.wasm_syntax.specs.declared.instruction.Instruction.TheVariants as instr
use Rattle.wasm_syntax.specs.rules.Sequence.{Sequence, Stop, Plain}
use Rattle.wasm_syntax.specs.laws.Examples.{no_type, transfer_type}
use Rattle.wasm_rules.specs.Configuration.{Imported, Own, LabelOf, FrameOf, Thread}
use Rattle.wasm_rules.specs.Configuration.{Configuration, Goes, Asks, Main}
use Rattle.wasm_rules.specs.laws.Examples.{v}
use Rattle.wasm_rules.specs.Instantiation.{filled_memory, empty_memory}
use Rattle.wasm_rules.specs.Steps.{counted_step, here, on}
use Rattle.wasm_rules.specs.Validity.{memories_of}
use Rattle.wasi_abi.specs.declared.answer.Question.TheVariants as question
use Rattle.wasi_abi.specs.declared.answer.Answer.{Answer}
use Rattle.wasi_abi.specs.declared.answer.Answer.TheVariants as answer
use Rattle.wasi_abi.specs.declared.call.Call.{Call}
use Rattle.wasi_abi.specs.declared.call.Call.TheVariants as call
use Rattle.wasi_abi.specs.rules.Configs.{Settings}
use Rattle.wasi_calls_rules.specs.WasiStates as host
use Rattle.wasi_calls_rules.specs.WasiStates.{Line}
use Rattle.wasi_calls_rules.specs.Checks.{Bytes}
use Rattle.wasi_calls_rules.specs.CallRules.{IsSync}
use Rattle.process_rules.specs.Processes.{ProcessState, Guest, Exited, IsStart, host_of}
use Rattle.process_rules.specs.Runs.{Kept, Given, Wider, Succeeds, On, Wants, next_of}
use Rattle.process_rules.specs.Runs.{after_counted_step, Runs, Reaches}
use Rattle.process_rules.specs.Behind.{AnswersBehindLine, IsLine, Syncs, AnswersBehindSync}
use Rattle.process_rules.specs.Behind.{IsNarrowTo}
use Rattle.process_rules.specs.laws.Examples.{at_rest}
use Rattle.process_rules.specs.laws.BehindExamples.{syncing, sync_type, abc_and_more, abc_line}
use Rattle.process_rules.specs.laws.BehindExamples.{OneSync, OneLine, SyncingOwes}
use Rattle.process_rules.proofs.OneStart.{start_once}
use Rattle.process_rules.proofs.Quiet.{goes_syncs_not}
use Rattle.process_rules.proofs.Along.{Along, last, goes, takes, is_run, known_from_start}
use Rattle.process_rules.proofs.EchoHolds.{abc_fits, leads_on}
use Rattle.process_rules.proofs.SyncingValid.{behind_write, behind_sync, behind_failure}
use Rattle.process_rules.proofs.SyncingValid.{behind_read, reading, syncing_spells}
use Rattle.process_rules.proofs.SyncingValid.{syncing_is_valid}

abbrev guest_of : Settings → Guest
guest_of config = record {
  program = record {
    types = no_type ∷ transfer_type ∷ sync_type ∷ [];
    functions = Imported transfer_type ∷ Imported sync_type ∷ Imported transfer_type
        ∷ Own no_type [] reading ∷ [];
    least_pages = 1;
    most_pages = config.pages;
  };
  calls = call.FdRead ∷ call.FdSync ∷ call.FdWrite ∷ [];
}

-- ---- memory

-- the buffer, and these four bytes from 8 and from 12 on
abbrev with_counts : ℕ → ℕ → Bytes → Bytes
with_counts read written text =
    (64 ∷ 0 ∷ 0 ∷ 0 ∷ 4 ∷ 0 ∷ 0 ∷ 0 ∷ []) ++ (read ∷ 0 ∷ 0 ∷ 0 ∷ []) ++ (written ∷ 0 ∷ 0 ∷ 0 ∷ [])
    ++ replicate 48 0 ++ text ++ replicate 65468 0

first_memory : Bytes
first_memory = with_counts 0 0 (replicate 4 0)

memory_read : Bytes
memory_read = with_counts 4 0 (codes "abc" ++ 10 ∷ [])

memory_written : Bytes
memory_written = with_counts 4 4 (codes "abc" ++ 10 ∷ [])

filled : filled_memory [] syncing.data_segments (empty_memory (memories_of syncing))
    ≡ Some first_memory
unfolding first_memory
filled = refl

-- ---- places

abbrev inside : Bytes → List Value → Sequence → Configuration
inside memory values rest = record {
  store = record { memory = memory; globals = []; table = [] };
  thread = FrameOf 3 [] (LabelOf 0 Stop [] Stop Main ∷ []) values rest ∷ [];
  later = [];
}

-- in the body after n steps, that many answers, all of them requests
abbrev after : Settings → ℕ → ℕ → List Line → Configuration → ProcessState
after config n answers lines c = record {
  configuration = c;
  host = record (host_of config) { lines = lines };
  steps = n;
  answers = answers;
  requests = answers;
  ended = None;
}

abbrev started : Settings → ProcessState
started config = after config 0 0 [] (inside first_memory [] reading)

abbrev at_read : Settings → ProcessState
at_read config =
    after config 4 0 [] (inside first_memory (v 8 ∷ v 1 ∷ v 0 ∷ v 0
    ∷ []) (Plain (instr.Call 0) behind_read))

abbrev at_failure : Settings → ProcessState
at_failure config =
    after config 7 1 [] (inside memory_read (v 4 ∷ []) (Plain (instr.Call 1) behind_failure))

abbrev at_sync : Settings → ProcessState
at_sync config =
    after config 10 1 [] (inside memory_read (v 3 ∷ []) (Plain (instr.Call 1) behind_sync))

abbrev at_write : Settings → ProcessState
at_write config =
    after config 16 1 [] (inside memory_read (v 12 ∷ v 1 ∷ v 0 ∷ v 1
    ∷ []) (Plain (instr.Call 2) behind_write))

abbrev at_end : Settings → ProcessState
at_end config =
    record (after config 18 1 (abc_line ∷ []) (at_rest memory_written)) { ended = Some (Exited 0) }

begins : (config : Settings) → IsStart syncing config (guest_of config) (started config)
begins config = record {
  entry = 3;
  first = (started config).configuration;
  exported = inl (refl, refl);
  calls = (refl, refl, (refl, refl, (refl, refl, tt)));
  begins = record {
    is_program = record {
      types = refl;
      functions = (refl, (refl, (refl, (refl, refl, syncing_spells, tt))));
      least_pages = refl;
      most_pages = refl;
    };
    store = record { memory = first_memory; globals = []; table = [] };
    is_store = record { globals = tt; table = refl; memory = filled };
    reduces = on refl (here refl);
  };
  is = refl;
}

-- ---- calls

wants : (config : Settings) → next_of (guest_of config) (at_read config) None
    ≡ Wants question.Request
unfolding first_memory
wants config = refl

abbrev abc : Answer
abc = answer.Request (codes "abc")

reads : (config : Settings)
    → next_of (guest_of config) (at_read config) (Some abc)
    ≡ On (inside memory_read (v 0 ∷ []) behind_read) (host_of config)
unfolding first_memory memory_read
reads config = refl

fails : (config : Settings)
    → next_of (guest_of config) (at_failure config) None
    ≡ On (inside memory_read (v 8 ∷ []) behind_failure) (host_of config)
fails config = refl

succeeds : (config : Settings)
    → next_of (guest_of config) (at_sync config) None
    ≡ On (inside memory_read (v 0 ∷ []) behind_sync) (host_of config)
succeeds config = refl

writes : (config : Settings)
    → next_of (guest_of config) (at_write config) None
    ≡ On (inside memory_written (v 0 ∷ []) behind_write)
    (record (host_of config) { lines = abc_line ∷ [] })
unfolding memory_read memory_written
writes config = refl

-- ---- what is a sync

-- it is of the call that is asked for, with these arguments
record IsOfCall (guest : Guest) (p : ProcessState) (c : Call) (arguments : List Value)
    (s : Syncs guest p) : Type 0 where
  call : s.call ≡ c
  arguments_are : s.arguments ≡ arguments

of_call : (guest : Guest) (p : ProcessState) (f : ℕ) (arguments : List Value) (waits : Thread)
    (c : Call) → counted_step guest.program p.configuration ≡ Asks f arguments waits
    → slice_get guest.calls f ≡ Some c → (s : Syncs guest p) → IsOfCall guest p c arguments s
of_call guest p f arguments waits c asks is_call s =
    let asked = s.asks in
    let was_call = s.is_call in
    let same : s.function ≡ f = cc in
    let found : slice_get guest.calls f ≡ Some s.call =
    ap (slice_get guest.calls) (sym same) ∙ was_call in
    record { call = cc; arguments_are = cc }

syncs : (config : Settings) → Syncs (guest_of config) (at_sync config)
syncs config = record {
  function = 1;
  arguments = v 3 ∷ [];
  waits = (inside memory_read [] behind_sync).thread;
  call = call.FdSync;
  done = record { memory = memory_read; host = host_of config };
  running = refl;
  asks = refl;
  is_call = refl;
  is_sync = tt;
  answers_zero = refl;
}

reads_no_sync : (config : Settings) → Syncs (guest_of config) (at_read config) → ⊥
reads_no_sync config s =
    subst IsSync (of_call (guest_of config) (at_read config) 0 _ _ call.FdRead refl refl s).call
    s.is_sync

writes_no_sync : (config : Settings) → Syncs (guest_of config) (at_write config) → ⊥
writes_no_sync config s =
    subst IsSync (of_call (guest_of config) (at_write config) 2 _ _ call.FdWrite refl refl s).call
    s.is_sync

-- a call that fails is none
fails_no_sync : (config : Settings) → Syncs (guest_of config) (at_failure config) → ⊥
fails_no_sync config s =
    let of = of_call (guest_of config) (at_failure config) 1 _ _ call.FdSync refl refl s in
    let same = of.call in
    let on_four = of.arguments_are in
    let answers = (rw (same, on_four) at s.answers_zero) in
    cc

-- ---- the run

abbrev HasLines : ℕ → List Line → Type 0
HasLines a lines = (lines ≡ []) ⊎ ((lines ≡ abc_line ∷ []) × (a ≡ 1))

-- what is known of the process that n steps on a answers lead to
record IsKnown (config : Settings) (n a : ℕ) (p : ProcessState) : Type 0 where
  sync : Syncs (guest_of config) p → (n ≡ 10) × (a ≡ 1)
  lines : HasLines a p.host.lines

abbrev GoesOn : Settings → ℕ → ℕ → ProcessState → List Kept → ℕ → ProcessState → Type 0
GoesOn config = Along (guest_of config) (IsKnown config)

-- an instruction that asks the host for nothing, before another one
plain : (config : Settings) (n a : ℕ) {k : ℕ} {lines : List Line} {memory : Bytes}
    {values values' : List Value} {i j : Instruction} {rest rest' : Sequence} {kept : List Kept}
    {r : ProcessState} → HasLines a lines
    → counted_step (guest_of config).program (inside memory values (Plain i rest))
    ≡ Goes (inside memory values' (Plain j rest'))
    → GoesOn config (n + 1) a (after config (n + 1) (a + 0) lines (inside memory values'
    (Plain j rest'))) kept k r
    → GoesOn config n a (after config n a lines (inside memory values (Plain i rest))) kept (suc k)
    r
plain config n a {lines = lines} {memory = memory} {values = values}
    {values' = values'} {i = i} {j = j} {rest = rest} {rest' = rest'} has e along =
    let before : Configuration = inside memory values (Plain i rest) in
    let behind : Configuration = inside memory values' (Plain j rest') in
    let h : host.WasiState = record (host_of config) { lines = lines } in
    goes (record {
      sync = λ s. absurd (goes_syncs_not (guest_of config) before behind h n a a e s);
      lines = has;
    }) (leads_on (guest_of config) (after config n a lines before) None behind h refl tt
    (ap (λ o. after_counted_step (guest_of config) o None before h) e) refl) along

-- so many steps more
abbrev seven_more : ℕ → ℕ
seven_more k = suc (suc (suc (suc (suc (suc (suc k))))))

to_failure : (config : Settings) {k : ℕ} {kept : List Kept} {r : ProcessState}
    → GoesOn config 7 1 (at_failure config) kept k r
    → GoesOn config 0 0 (started config) (Given abc ∷ kept) (seven_more k) r
to_failure config along =
    plain config 0 0 (inl refl) refl (plain config 1 0 (inl refl) refl
    (plain config 2 0 (inl refl) refl (plain config 3 0 (inl refl) refl
    (takes (record { sync = λ s. absurd (reads_no_sync config s); lines = inl refl })
    (leads_on (guest_of config) _ (Some abc) _ _ refl (question.Request, wants config, abc_fits)
    (reads config) refl)
    (plain config 5 1 (inl refl) refl (plain config 6 1 (inl refl) refl along))))))

failure_known : (config : Settings) → IsKnown config 7 1 (at_failure config)
failure_known config = record { sync = λ s. absurd (fails_no_sync config s); lines = inl refl }

to_sync : (config : Settings) {k : ℕ} {kept : List Kept} {r : ProcessState}
    → GoesOn config 10 1 (at_sync config) kept k r
    → GoesOn config 0 0 (started config) (Given abc ∷ kept) (seven_more (suc (suc (suc k)))) r
to_sync config along =
    to_failure config
    (goes (failure_known config) (leads_on (guest_of config) _ None _ _ refl tt (fails config) refl)
    (plain config 8 1 (inl refl) refl (plain config 9 1 (inl refl) refl along)))

sync_known : (config : Settings) → IsKnown config 10 1 (at_sync config)
sync_known config = record { sync = λ s. (refl, refl); lines = inl refl }

from_sync : (config : Settings) → GoesOn config 10 1 (at_sync config) [] 8 (at_end config)
from_sync config =
    goes (sync_known config) (leads_on (guest_of config) _ None _ _ refl tt (succeeds config) refl)
    (plain config 11 1 (inl refl) refl
    (plain config 12 1 (inl refl) refl (plain config 13 1 (inl refl) refl
    (plain config 14 1 (inl refl) refl (plain config 15 1 (inl refl) refl
    (goes (record { sync = λ s. absurd (writes_no_sync config s); lines = inl refl })
    (leads_on (guest_of config) _ None _ _ refl tt (writes config) refl)
    (goes (drop_known config) (record {
      running = refl;
      wanted = tt;
      leads = (_, on refl (on refl (here refl)), refl);
    })
    (last (end_known config)))))))))
  where
    drop_known : (config : Settings) → IsKnown config 17 1
        (after config 17 1 (abc_line ∷ []) (inside memory_written (v 0 ∷ []) behind_write))
    drop_known config = record {
      sync = λ s. absurd (let asks = s.asks in cc);
      lines = inr (refl, refl);
    }

    end_known : (config : Settings) → IsKnown config 18 1 (at_end config)
    end_known config = record {
      sync = λ s. absurd (let running = s.running in cc);
      lines = inr (refl, refl);
    }

whole : (config : Settings) → GoesOn config 0 0 (started config) (Given abc ∷ []) 18 (at_end config)
whole config = to_sync config (from_sync config)

-- ---- what is reached

abbrev reaches : (config : Settings) (k : ℕ) (p : ProcessState)
    → GoesOn config 0 0 (started config) (Given abc ∷ []) k p
    → Reaches syncing config (abc_and_more []) k p
reaches config k p along = record {
  guest = guest_of config;
  start = started config;
  begins = begins config;
  runs = is_run (guest_of config) (IsKnown config) 0 0 k (started config) p (Given abc ∷ []) along;
}

-- a process that some of the answers lead to is known
record IsFound (config : Settings) (guest : Guest) (n a : ℕ) (p : ProcessState) : Type 0 where
  same : guest ≡ guest_of config
  known : IsKnown config n a p

found : (config : Settings) (more : List Kept) (n b : ℕ) (p : ProcessState)
    (up : IsNarrowTo more 19) (reached : Reaches syncing config (firsts b (abc_and_more more)) n p)
    → IsFound config reached.guest n (length (firsts b (abc_and_more more))) p
found config more n b p up reached =
    let prefix : List Kept = firsts b (abc_and_more more) in
    let same = start_once syncing config reached.guest (guest_of config) reached.start
    (started config) syncing_is_valid reached.begins (begins config) in
    let by_guest : Runs (guest_of config) reached.start prefix n p =
    subst (λ g. Runs g reached.start prefix n p) same.0 reached.runs in
    record {
      same = same.0;
      known = known_from_start (guest_of config) (IsKnown config) 18 (started config)
          (at_end config) (Given abc ∷ []) more prefix b n p (Exited 0) refl up (whole config)
          (subst (λ z. Runs (guest_of config) z prefix n p) same.1 by_guest) refl;
    }

-- what widens nothing up to the end widens nothing before
later : (more : List Kept) (k : ℕ) → IsNarrowTo more 19 → k ≤ 19 → IsNarrowTo more k
later [] k up few = tt
later (Given x ∷ more) k up few = tt
later (Wider s ∷ more) k up few = omega (arith, up, few)
later (Succeeds o ∷ more) k up few = absurd (omega (arith, up))

-- so many answers as are there
all_there : (more : List Kept) (a : ℕ) → a ≤ length (abc_and_more more)
    → length (firsts a (abc_and_more more)) ≡ a
all_there more a within = omega (arith, length-take a (abc_and_more more))

-- ---- the sync

sync_there : (config : Settings) (more : List Kept) (up : IsNarrowTo more 19)
    → AnswersBehindSync syncing config (abc_and_more more) 11 1
sync_there config more up = record {
  within = omega arith;
  before = 10;
  process = at_sync config;
  reached = reaches config 10 (at_sync config) (to_sync config (last (sync_known config)));
  next = refl;
  up_to = later more 11 up (omega arith);
  syncs = syncs config;
}

no_other_sync : (config : Settings) (more : List Kept) (up : IsNarrowTo more 19) (k a : ℕ)
    → AnswersBehindSync syncing config (abc_and_more more) k a → (k ≡ 11) × (a ≡ 1)
no_other_sync config more up k a behind =
    let one = found config more behind.before a behind.process up behind.reached in
    let at = one.known.sync (subst (λ g. Syncs g behind.process) one.same behind.syncs) in
    let before = at.0 in
    let next = behind.next in
    (omega arith, sym (all_there more a behind.within) ∙ at.1)

one_sync : (config : Settings) (more : List Kept) (up : IsNarrowTo more 19) → OneSync config more
one_sync config more up = record {
  fails = record {
    process = at_failure config;
    reached = reaches config 7 (at_failure config) (to_failure config
        (last (failure_known config)));
    is_call = refl;
    waits = (inside memory_read [] behind_failure).thread;
    asks = refl;
    gives = fails config;
  };
  succeeds = record {
    process = at_sync config;
    reached = reaches config 10 (at_sync config) (to_sync config (last (sync_known config)));
    is_call = refl;
    waits = (inside memory_read [] behind_sync).thread;
    asks = refl;
    gives = succeeds config;
  };
  synced = sync_there config more up;
  no_other = no_other_sync config more up;
}

-- ---- the line

abbrev OfLine : List Line → ℕ → Type 0
OfLine lines a = (length lines ≤ 1) × ((1 ≤ length lines) → a ≡ 1)

few_lines : (a : ℕ) (lines : List Line) → HasLines a lines → OfLine lines a
few_lines a lines (inl e) = let n : length lines ≡ 0 = ap length e in
    (omega arith, λ h. absurd (omega arith))
few_lines a lines (inr h) = let n : length lines ≡ 1 = ap length h.0 in (omega arith, λ _. h.1)

abbrev no_lines : List Line
no_lines = []

line_found : (a place : ℕ) (lines : List Line) (line : Line) → HasLines a lines
    → slice_get lines place ≡ Some line → (place ≡ 0) × (line ≡ abc_line)
line_found a place lines line (inl e) is =
    let nothing : slice_get no_lines place ≡ Some line = ap (λ z. slice_get z place) (sym e) ∙ is in
    absurd (nothing_there place line nothing)
  where
    nothing_there : (place : ℕ) (line : Line) → slice_get no_lines place ≡ Some line → ⊥
    nothing_there zero line e = cc
    nothing_there (suc place) line e = cc
line_found a place lines line (inr h) is = one_there place line
    (ap (λ z. slice_get z place) (sym h.0) ∙ is)
  where
    one_there : (place : ℕ) (line : Line) → slice_get (abc_line ∷ []) place ≡ Some line
        → (place ≡ 0) × (line ≡ abc_line)
    one_there zero line e = (refl, let same : abc_line ≡ line = cc in sym same)
    one_there (suc zero) line e = absurd (cc)
    one_there (suc (suc place)) line e = absurd (cc)

behind_line : (config : Settings) (more : List Kept) (up : IsNarrowTo more 19)
    → AnswersBehindLine syncing config (abc_and_more more) 1 1
behind_line config more up = record {
  within = omega arith;
  steps = 18;
  process = at_end config;
  reached = reaches config 18 (at_end config) (whole config);
  up_to = later more 18 up (omega arith);
  emitted = lit≤ tt;
}

of_line : (config : Settings) (more : List Kept) (up : IsNarrowTo more 19) (i a : ℕ)
    (behind : AnswersBehindLine syncing config (abc_and_more more) i a)
    → OfLine behind.process.host.lines a
of_line config more up i a behind =
    let one = found config more behind.steps a behind.process up behind.reached in
    subst (OfLine behind.process.host.lines) (all_there more a behind.within)
    (few_lines (length (firsts a (abc_and_more more))) behind.process.host.lines one.known.lines)

no_fewer : (config : Settings) (more : List Kept) (up : IsNarrowTo more 19) (a : ℕ)
    → AnswersBehindLine syncing config (abc_and_more more) 1 a → a ≡ 1
no_fewer config more up a behind =
    let emitted = behind.emitted in (of_line config more up 1 a behind).1 (omega arith)

no_second : (config : Settings) (more : List Kept) (up : IsNarrowTo more 19) (i a : ℕ)
    → AnswersBehindLine syncing config (abc_and_more more) i a → i ≤ 1
no_second config more up i a behind =
    let few = (of_line config more up i a behind).0 in
    let emitted = behind.emitted in
    omega arith

first_line : (config : Settings) (more : List Kept) (up : IsNarrowTo more 19)
    → IsLine syncing config (abc_and_more more) 1 abc_line
first_line config more up = record {
  answers = 1;
  steps = 18;
  process = at_end config;
  reached = reaches config 18 (at_end config) (whole config);
  up_to = later more 18 up (omega arith);
  place = 0;
  counted = refl;
  is = refl;
}

no_other_line : (config : Settings) (more : List Kept) (up : IsNarrowTo more 19) (i : ℕ)
    (line : Line)
    → IsLine syncing config (abc_and_more more) i line → (i ≡ 1) × (line ≡ abc_line)
no_other_line config more up i line is =
    let one = found config more is.steps is.answers is.process up is.reached in
    let at = line_found (length (firsts is.answers (abc_and_more more))) is.place
    is.process.host.lines line one.known.lines is.is in
    let place = at.0 in
    let counted = is.counted in
    (omega arith, at.1)

one_line : (config : Settings) (more : List Kept) (up : IsNarrowTo more 19) → OneLine config more
one_line config more up = record {
  emitted = behind_line config more up;
  no_fewer = no_fewer config more up;
  no_second = no_second config more up;
  is_line = first_line config more up;
  no_other = no_other_line config more up;
}

pub syncing_owes : (config : Settings) → SyncingOwes config
syncing_owes config more up = (one_sync config more up, one_line config more up)
