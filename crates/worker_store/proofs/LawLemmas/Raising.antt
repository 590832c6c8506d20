-- What events make of a promise that a worker's disk holds.
use Rattle.std.proofs.Common.{◌≡◌, ℕ, zero, suc, ◌+◌, ◌-◌, ◌<◌, ◌≤◌, List, [], ◌∷◌, ◌++◌}
use Rattle.std.proofs.Common.{length, take, drop, Some, None, Ok, refl, sym, ap, ◌∙◌, subst}
use Rattle.std.proofs.Common.{⊎_elim, arith, length-append, length-take, append_assoc}
use Rattle.std.specs.Prelude.{map, max, slice_get, Option}
use Rattle.std.proofs.Math.Nat.{le_of_eq, le_trans}
use Rattle.std.proofs.lemmas.Bool.{cases_lt}
use Rattle.std.proofs.lemmas.List.{append-nil, take_all, take-append-le, map-append}
use Rattle.std.proofs.lemmas.List.{length-take-le, take-append-drop}
use Rattle.wasm_syntax.specs.declared.value.Value.{Value}
use Rattle.wasm_syntax.specs.declared.module.Module.{Module}
use Rattle.wasm_rules.specs.Configuration.{Configuration, Thread, Outcome}
use Rattle.wasm_rules.specs.Validity.{IsValid}
use Rattle.wasi_abi.specs.declared.answer.Question.{Question}
use Rattle.wasi_abi.specs.declared.call.Call.{Call}
use Rattle.wasi_abi.specs.rules.Configs.{Settings}
use Rattle.wasi_calls_rules.specs.Checks.{Ruling}
use Rattle.process_rules.specs.Processes.{ProcessState, Guest}
use Rattle.process_rules.specs.Runs.{Kept, Given, Wider, Succeeds, Next, Wants, On, after_call_rule}
use Rattle.process_rules.specs.Runs.{after_call, after_counted_step, next_of, Runs, Reaches}
use Rattle.process_rules.specs.Runs.{none as no_step, step, take as takes, widen, succeed}
use Rattle.process_rules.specs.Behind.{IsNarrowTo, AnswersBehindLine, AnswersBehindSync, Syncs}
use Rattle.process_rules.specs.Owing.{RunsQuietly, none, more}
use Rattle.process_rules.proofs.Growing.{move_counts, runs_count, start_counts}
use Rattle.process_rules.proofs.OneStart.{start_once}
use Rattle.process_rules.proofs.Quiet.{runs_join, quiet_runs_are_runs}
use Rattle.sector_disk.specs.rules.Medium.{Medium}
use Rattle.disk_layout.specs.rules.Journal.{Record}
use Rattle.journal.specs.rules.State.{JournalState}
use Rattle.state_image.specs.rules.ProcessImage.{Saved}
use Rattle.record_replay.specs.rules.Records.{given_in}
use Rattle.record_replay.proofs.Recordings.{recorded_runs, recorded_join}
use Rattle.worker_store.specs.restart_theorem.Lives.{Act, Reply, Ended, kept_of_said}
use Rattle.worker_store.specs.restart_theorem.Promises.{Promise, after, saved_by, synced_by}
use Rattle.worker_store.proofs.RestartLemmas.Fronts.{LeadsOn, fronts_lead_on, reached_counts}
use Rattle.worker_store.proofs.RestartLemmas.Fronts.{none_widens, up_to_behind, said_widens_none}
use Rattle.worker_store.specs.rules.Carried.{answers_at, count_at, IsCarried, SyncsAreHeld}
use Rattle.worker_store.specs.rules.Savepoints.{Savepoint}
use Rattle.worker_store.specs.laws.Raised.{AllSyncsAreHeld, QuietSyncsAreHeld, AnsweredSyncsAreHeld}
use Rattle.worker_store.specs.laws.Raised.{AskedCarries, EndedCarries, AppendCarries}
use Rattle.worker_store.specs.laws.Raised.{AnswerIsOnRecord, CarriedIsReached, MovedSyncsAreHeld}
use Rattle.worker_store.proofs.LawLemmas.Acts.{same_rest}
use Rattle.worker_store.proofs.LawLemmas.Carrying.{answers_count, within_of, up_to_first}

-- ---- what is kept next

nothing_up_to : (kept : List Kept) (n : ℕ) → length kept ≡ 0 → IsNarrowTo kept n
nothing_up_to [] n e = tt
nothing_up_to (x ∷ kept) n e = absurd (omega (arith, e))

pub up_to_before : (kept : List Kept) (n k : ℕ) → k ≤ n → IsNarrowTo kept n → IsNarrowTo kept k
up_to_before [] n k le up = tt
up_to_before (Given x ∷ kept) n k le up = tt
up_to_before (Wider s ∷ kept) n k le up = omega (arith, le, up)
up_to_before (Succeeds o ∷ kept) n k le up = omega (arith, le, up)

up_to_part : (kept more_kept : List Kept) (n : ℕ) → IsNarrowTo (kept ++ more_kept) n
    → IsNarrowTo kept n
up_to_part [] more_kept n up = tt
up_to_part (Given x ∷ kept) more_kept n up = tt
up_to_part (Wider s ∷ kept) more_kept n up = up
up_to_part (Succeeds o ∷ kept) more_kept n up = up

pub up_to_rest : (kept more_kept : List Kept) (n : ℕ) → IsNarrowTo more_kept n
    → IsNarrowTo (drop (length kept) (kept ++ more_kept)) n
up_to_rest [] more_kept n up = up
up_to_rest (x ∷ kept) more_kept n up = up_to_rest kept more_kept n up

-- after all that is kept nothing widens
pub up_to_end : (kept : List Kept) (n : ℕ) → IsNarrowTo (drop (length kept) kept) n
up_to_end [] n = tt
up_to_end (x ∷ kept) n = up_to_end kept n

pub up_to_all : (kept front : List Kept) (n : ℕ) → front ≡ kept
    → IsNarrowTo (drop (length front) kept) n
up_to_all kept front n same =
    subst (λ (l : List Kept). IsNarrowTo (drop (length l) kept) n) (sym same) (up_to_end kept n)

up_to_less : (a : ℕ) (kept more_kept : List Kept) (n : ℕ)
    → IsNarrowTo (drop a (kept ++ more_kept)) n → IsNarrowTo (drop a kept) n
up_to_less a [] more_kept n up = none_widens a n
up_to_less zero (Given x ∷ kept) more_kept n up = tt
up_to_less zero (Wider s ∷ kept) more_kept n up = up
up_to_less zero (Succeeds o ∷ kept) more_kept n up = up
up_to_less (suc a) (x ∷ kept) more_kept n up = up_to_less a kept more_kept n up

-- what leads on from a front widens what is kept next
up_to_there : (kept more_kept : List Kept) (a b n : ℕ) → take b kept ++ more_kept ≡ take a kept
    → IsNarrowTo (drop b kept) n → IsNarrowTo more_kept n
up_to_there kept more_kept a b n e up =
    let whole : take b kept ++ (more_kept ++ drop a kept) ≡ take b kept ++ drop b kept =
    sym (append_assoc (take b kept) more_kept (drop a kept))
    ∙ ap (λ (l : List Kept). l ++ drop a kept) e ∙ take-append-drop a kept
    ∙ sym (take-append-drop b kept) in
    up_to_part more_kept (drop a kept) n
    (subst (λ (l : List Kept). IsNarrowTo l n)
    (sym (same_rest (take b kept) (more_kept ++ drop a kept) (drop b kept) whole)) up)

-- ---- runs

-- no steps, where nothing widens, lead nowhere and take nothing
record StaysThere (p q : ProcessState) (kept : List Kept) : Type 0 where
  pub process : p ≡ q
  pub nothing : kept ≡ []

no_run : (guest : Guest) (p q : ProcessState) (kept : List Kept) (n : ℕ) → n ≡ 0
    → IsNarrowTo kept (suc p.steps) → Runs guest p kept n q → StaysThere p q kept
no_run guest p q kept n e up (no_step {p = p'}) = record { process = refl; nothing = refl }
no_run guest p q kept n e up (step {p = p'} {q = next} {kept = kept'} {n = k} moves rest) =
    absurd (omega (arith, e))
no_run guest p q kept n e up
    (takes {p = p'} {q = next} {a = a} {kept = kept'} {n = k} moves rest) =
    absurd (omega (arith, e))
no_run guest p q kept n e up (widen {p = p'} at rest) =
    let here = at.at in absurd (omega (arith, up, here))
no_run guest p q kept n e up (succeed at sum rest) = absurd (omega (arith, up))

-- Of two processes that fronts of the same answers lead to in as many steps there is one, with
-- one guest, where the shorter front is widened later.
record IsOne (g h : Guest) (p q : ProcessState) : Type 0 where
  pub guest : g ≡ h
  pub process : p ≡ q

one_at_step : (m : Module) (config : Settings) (kept : List Kept) (a b n : ℕ)
    (p q : ProcessState) → IsValid m → length (take b kept) ≤ length (take a kept)
    → (left : Reaches m config (take a kept) n p)
    → (right : Reaches m config (take b kept) n q) → IsNarrowTo (drop a kept) n
    → IsNarrowTo (drop b kept) (suc n) → IsOne left.guest right.guest p q
one_at_step m config kept a b n p q valid longer left right up up' =
    let same = start_once m config left.guest right.guest left.start right.start valid left.begins
    right.begins in
    let first : p.steps ≡ n = reached_counts m config (take a kept) n p left in
    let second : q.steps ≡ n = reached_counts m config (take b kept) n q right in
    record {
      guest = same.0;
      process = ⊎_elim
          (λ (on : LeadsOn left.guest p q (take a kept) (take b kept)).
          let counted : q.steps ≡ p.steps + on.steps =
          runs_count left.guest p q on.kept on.steps on.runs in
          let none_left : on.steps ≡ 0 = omega (arith, first, second, counted) in
          let long : length (take b kept) ≡ length (take a kept) + length on.kept =
          ap (λ l. length l) (sym on.front) ∙ length-append (take a kept) on.kept in
          let few : length on.kept ≡ 0 = omega (arith, long, longer) in
          (no_run left.guest p q on.kept on.steps none_left
          (nothing_up_to on.kept (suc p.steps) few) on.runs).process)
          (λ (on : LeadsOn left.guest q p (take b kept) (take a kept)).
          let counted : p.steps ≡ q.steps + on.steps =
          runs_count left.guest q p on.kept on.steps on.runs in
          let none_left : on.steps ≡ 0 = omega (arith, first, second, counted) in
          let up_there : IsNarrowTo on.kept (suc q.steps) =
          subst (λ z. IsNarrowTo on.kept (suc z)) (sym second)
          (up_to_there kept on.kept a b (suc n) on.front up') in
          sym (no_run left.guest q p on.kept on.steps none_left up_there on.runs).process)
          (fronts_lead_on m config kept a b n n p q valid left right up
          (up_to_before (drop b kept) (suc n) n (omega arith) up'));
    }

-- Fronts that take more are led to from those that take less.
leads_to_more : (m : Module) (config : Settings) (kept : List Kept) (a b n k : ℕ)
    (p q : ProcessState) → IsValid m → length (take a kept) < length (take b kept)
    → (left : Reaches m config (take a kept) n p) → Reaches m config (take b kept) k q
    → IsNarrowTo (drop a kept) n → IsNarrowTo (drop b kept) k
    → LeadsOn left.guest p q (take a kept) (take b kept)
leads_to_more m config kept a b n k p q valid less left right up up' =
    ⊎_elim
    (λ (on : LeadsOn left.guest p q (take a kept) (take b kept)). on)
    (λ (on : LeadsOn left.guest q p (take b kept) (take a kept)).
    let long : length (take a kept) ≡ length (take b kept) + length on.kept =
    ap (λ l. length l) (sym on.front) ∙ length-append (take b kept) on.kept in
    absurd (omega (arith, long, less)))
    (fronts_lead_on m config kept a b n k p q valid left right up up')

-- So they come no earlier,
pub no_earlier : (m : Module) (config : Settings) (kept : List Kept) (a b n k : ℕ)
    (p q : ProcessState) → IsValid m → length (take a kept) < length (take b kept)
    → Reaches m config (take a kept) n p → Reaches m config (take b kept) k q
    → IsNarrowTo (drop a kept) n → IsNarrowTo (drop b kept) k → n ≤ k
no_earlier m config kept a b n k p q valid less left right up up' =
    let first : p.steps ≡ n = reached_counts m config (take a kept) n p left in
    let second : q.steps ≡ k = reached_counts m config (take b kept) k q right in
    let on = leads_to_more m config kept a b n k p q valid less left right up up' in
    let counted : q.steps ≡ p.steps + on.steps =
    runs_count left.guest p q on.kept on.steps on.runs in
    omega (arith, first, second, counted)

-- and later, where nothing widens there.
later_step : (m : Module) (config : Settings) (kept : List Kept) (a b n k : ℕ)
    (p q : ProcessState) → IsValid m → length (take a kept) < length (take b kept)
    → Reaches m config (take a kept) n p → Reaches m config (take b kept) k q
    → IsNarrowTo (drop a kept) (suc n) → IsNarrowTo (drop b kept) k → n < k
later_step m config kept a b n k p q valid less left right up up' =
    let first : p.steps ≡ n = reached_counts m config (take a kept) n p left in
    let second : q.steps ≡ k = reached_counts m config (take b kept) k q right in
    let on = leads_to_more m config kept a b n k p q valid less left right
    (up_to_before (drop a kept) (suc n) n (omega arith) up) up' in
    let counted : q.steps ≡ p.steps + on.steps =
    runs_count left.guest p q on.kept on.steps on.runs in
    let long : length (take b kept) ≡ length (take a kept) + length on.kept =
    ap (λ l. length l) (sym on.front) ∙ length-append (take a kept) on.kept in
    let up_there : IsNarrowTo on.kept (suc p.steps) =
    subst (λ z. IsNarrowTo on.kept (suc z)) (sym first)
    (up_to_there kept on.kept b a (suc n) on.front up) in
    ⊎_elim
    (λ (later : 0 < on.steps). omega (arith, first, second, counted, later))
    (λ (none_left : on.steps ≤ 0).
    let nothing : length on.kept ≡ 0 =
    ap (λ l. length l) (no_run left.guest p q on.kept on.steps (omega (arith, none_left)) up_there
    on.runs).nothing in
    absurd (omega (arith, nothing, long, less)))
    (cases_lt 0 on.steps)

-- ---- syncs

syncs_move : (g h : Guest) (p q : ProcessState) → IsOne g h p q → Syncs h q → Syncs g p
syncs_move g h p q one syncs =
    subst (λ z. Syncs g z) (sym one.process) (subst (λ z. Syncs z q) (sym one.guest) syncs)

abbrev GoesOnThere : Next → Type 0
GoesOnThere (On c h) = Unit {0}
GoesOnThere _ = ⊥

-- a process that asks for an answer makes no sync
wants_no_sync : (guest : Guest) (p : ProcessState) (question : Question)
    → next_of guest p None ≡ Wants question → Syncs guest p → ⊥
wants_no_sync guest p question wants syncs =
    let c : Configuration = p.configuration in
    let f : ℕ = syncs.function in
    let operands : List Value = syncs.arguments in
    let waits : Thread = syncs.waits in
    let done : GoesOnThere (after_call_rule syncs.call (Ok syncs.done) c p.host waits) = tt in
    let of_call_rule : GoesOnThere (after_call (Some syncs.call) operands None c p.host waits) =
    subst (λ (r : Ruling). GoesOnThere (after_call_rule syncs.call r c p.host waits))
    (sym syncs.answers_zero) done in
    let of_call : GoesOnThere (after_call (slice_get guest.calls f) operands None c p.host waits) =
    subst (λ (o : Option Call). GoesOnThere (after_call o operands None c p.host waits))
    (sym syncs.is_call) of_call_rule in
    let goes : GoesOnThere (next_of guest p None) =
    subst (λ (o : Outcome). GoesOnThere (after_counted_step guest o None c p.host)) (sym syncs.asks)
    of_call in
    subst GoesOnThere wants goes

-- a place of a run of quiet steps
record IsOnTheWay (guest : Guest) (p : ProcessState) (before : ℕ) : Type 0 where
  pub process : ProcessState
  pub runs : Runs guest p [] before process
  pub no_sync : Syncs guest process → ⊥

on_the_way : (guest : Guest) (p q : ProcessState) (n before : ℕ) → RunsQuietly guest p n q
    → before < n → IsOnTheWay guest p before
on_the_way guest p q n before (none {p = p'}) less = absurd (omega (arith, less))
on_the_way guest p q n zero (more {n = k} {p = p'} {q = next} moves rest) less = record {
  process = p';
  runs = no_step;
  no_sync = moves.no_sync;
}
on_the_way guest p q n (suc before) (more {n = k} {p = p'} {q = next} moves rest) less =
    let on = on_the_way guest next q k before rest (omega (arith, less)) in
    record {
      process = on.process;
      runs = step moves.moves on.runs;
      no_sync = on.no_sync;
    }

pub all_syncs_are_held : AllSyncsAreHeld
all_syncs_are_held m config promise point records steps on_record k a below behind =
    let long : length promise.kept ≡ count_at point records =
    ap (λ l. length l) on_record ∙ answers_count point records in
    le_trans behind.within (le_of_eq long)

pub quiet_syncs_are_held : QuietSyncsAreHeld
quiet_syncs_are_held m config kept held n p q valid reached quiet syncs k a below behind =
    let run = quiet_runs_are_runs reached.guest p q n quiet in
    let counted : q.steps ≡ p.steps + n = runs_count reached.guest p q [] n run.0 in
    let next : k ≡ behind.before + 1 = behind.next in
    ⊎_elim
    (λ (later : p.steps < k).
    let at : ℕ = behind.before - p.steps in
    let here : behind.before ≡ p.steps + at = omega (arith, later, next) in
    let less : at < n = omega (arith, below, counted, next, later) in
    let on = on_the_way reached.guest p q n at quiet less in
    let there : Runs reached.guest reached.start (kept ++ []) (p.steps + at) on.process =
    runs_join reached.guest reached.start p on.process kept [] p.steps at reached.runs on.runs in
    let whole : kept ++ [] ≡ take (length kept) kept =
    append-nil kept ∙ sym (take_all (length kept) kept (omega arith)) in
    let left : Reaches m config (take (length kept) kept) behind.before on.process = record {
      guest = reached.guest;
      start = reached.start;
      begins = reached.begins;
      runs = subst (λ (l : List Kept). Runs reached.guest reached.start l behind.before on.process)
          whole (subst (λ z. Runs reached.guest reached.start (kept ++ []) z on.process) (sym here)
          there);
    } in
    let one : IsOne reached.guest behind.reached.guest on.process behind.process =
    one_at_step m config kept (length kept) a behind.before on.process behind.process valid
    (omega (arith, length-take a kept, length-take (length kept) kept)) left behind.reached
    (up_to_end kept behind.before)
    (up_to_before (drop a kept) k (suc behind.before) (omega (arith, next)) behind.up_to) in
    absurd (on.no_sync (syncs_move reached.guest behind.reached.guest on.process behind.process one
    behind.syncs)))
    (λ (earlier : k ≤ p.steps). syncs k a earlier behind)
    (cases_lt p.steps k)

pub moved_syncs_are_held : MovedSyncsAreHeld
moved_syncs_are_held m config kept held guest p q given moves syncs k a below behind =
    let counted : q.steps ≡ p.steps + 1 = move_counts guest p q given moves in
    syncs k a (omega (arith, below, counted)) behind

-- a sync after answers of which the last isn't needed
pub behind_front : (m : Module) (config : Settings) (kept more_kept : List Kept) (k a : ℕ)
    → a ≤ length kept → AnswersBehindSync m config (kept ++ more_kept) k a
    → AnswersBehindSync m config kept k a
behind_front m config kept more_kept k a within behind = record {
  within = within;
  before = behind.before;
  process = behind.process;
  reached = record {
    guest = behind.reached.guest;
    start = behind.reached.start;
    begins = behind.reached.begins;
    runs = subst (λ l. Runs behind.reached.guest behind.reached.start l behind.before
        behind.process) (take-append-le a kept more_kept within) behind.reached.runs;
  };
  up_to = up_to_less a kept more_kept k behind.up_to;
  next = behind.next;
  syncs = behind.syncs;
}

pub answered_syncs_are_held : AnsweredSyncsAreHeld
answered_syncs_are_held m config kept held p question a valid reached wants syncs k b below behind =
    ⊎_elim
    (λ (all : length kept < b). absurd (too_late all))
    (λ (within : b ≤ length kept).
    let front : AnswersBehindSync m config kept k b =
    behind_front m config kept (Given a ∷ []) k b within behind in
    ⊎_elim
    (λ (now : p.steps < k). absurd (not_now within now))
    (λ (earlier : k ≤ p.steps). syncs k b earlier front)
    (cases_lt p.steps k))
    (cases_lt (length kept) b)
  where
    more_kept : List Kept
    more_kept = kept ++ Given a ∷ []

    long : length (kept ++ Given a ∷ []) ≡ length kept + 1
    long = length-append kept (Given a ∷ [])

    here : Reaches m config (take (length kept) (kept ++ Given a ∷ [])) p.steps p
    here = record {
      guest = reached.guest;
      start = reached.start;
      begins = reached.begins;
      runs = subst (λ (l : List Kept). Runs reached.guest reached.start l p.steps p)
          (sym (take-append-le (length kept) kept (Given a ∷ []) (omega arith)
          ∙ take_all (length kept) kept (omega arith))) reached.runs;
    }

    too_late : length kept < b → ⊥
    too_late all =
        let some : b ≤ length (kept ++ Given a ∷ []) = behind.within in
        let first : length (take (length kept) (kept ++ Given a ∷ [])) ≡ length kept =
        length-take-le (length kept) (kept ++ Given a ∷ []) (omega (arith, long)) in
        let second : length (take b (kept ++ Given a ∷ [])) ≡ b =
        length-take-le b (kept ++ Given a ∷ []) some in
        let next : k ≡ behind.before + 1 = behind.next in
        let later : p.steps < behind.before =
        later_step m config (kept ++ Given a ∷ []) (length kept) b p.steps behind.before p
        behind.process valid (omega (arith, first, second, all)) here behind.reached
        (up_to_rest kept (Given a ∷ []) (suc p.steps) tt)
        (up_to_before (drop b (kept ++ Given a ∷ [])) k behind.before (omega (arith, next))
        behind.up_to) in
        omega (arith, later, next, below)

    not_now : b ≤ length kept → p.steps < k → ⊥
    not_now within now =
        let next : k ≡ behind.before + 1 = behind.next in
        let same : behind.before ≡ p.steps = omega (arith, next, now, below) in
        let there : Reaches m config (take (length kept) (kept ++ Given a ∷ [])) behind.before p =
        record {
          guest = reached.guest;
          start = reached.start;
          begins = reached.begins;
          runs = subst (λ z. Runs reached.guest reached.start
              (take (length kept) (kept ++ Given a ∷ [])) z p) (sym same) here.runs;
        } in
        let one : IsOne reached.guest behind.reached.guest p behind.process =
        one_at_step m config (kept ++ Given a ∷ []) (length kept) b behind.before p behind.process
        valid (omega (
          arith,
          within,
          long,
          length-take b (kept ++ Given a ∷ []),
          length-take (length kept) (kept ++ Given a ∷ []),
        )) there behind.reached (up_to_rest kept (Given a ∷ []) behind.before tt)
        (up_to_before (drop b (kept ++ Given a ∷ [])) k (suc behind.before) (omega (arith, next))
        behind.up_to) in
        wants_no_sync reached.guest p question wants (syncs_move reached.guest
        behind.reached.guest p behind.process one behind.syncs)

-- ---- events

-- a line stays after as many answers where more are kept that widen nothing before
pub line_of_more : (m : Module) (config : Settings) (kept more_kept : List Kept) (i a : ℕ)
    → (behind : AnswersBehindLine m config kept i a) → IsNarrowTo more_kept behind.steps
    → AnswersBehindLine m config (kept ++ more_kept) i a
line_of_more m config kept more_kept i a behind up = record {
  within = let long = length-append kept more_kept in
      let within = behind.within in
      omega (arith, within, long);
  steps = behind.steps;
  process = behind.process;
  reached = subst (λ l. Reaches m config l behind.steps behind.process)
      (sym (take-append-le a kept more_kept behind.within)) behind.reached;
  up_to = up_to_behind a behind.steps kept more_kept behind.within behind.up_to up;
  emitted = behind.emitted;
}

-- fronts that are as long as some list stay where more are kept
pub front_of_more : (n : ℕ) (kept more_kept answers : List Kept) → take n kept ≡ answers
    → n ≤ length kept → take n (kept ++ more_kept) ≡ answers
front_of_more n kept more_kept answers e within = take-append-le n kept more_kept within ∙ e

module _ {D : Type 0} (medium : D → Medium) where
  pub asked_carries : AskedCarries medium
  asked_carries m config promise point journal records pending last now steps question
      said fits disk is later syncs =
      let held = is.held in
      let holds = held.holds in
      let more_kept : List Kept = kept_of_said said fits in
      let bound : count_at point records ≤ length promise.kept = holds.within in
      let all : count_at point (records ++ pending) ≤ length promise.kept =
      within_of (count_at point (records ++ pending)) promise.kept
      (answers_at point (records ++ pending)) is.answers
      (answers_count point (records ++ pending)) in
      let longer : length (promise.kept ++ more_kept) ≡ length promise.kept + length more_kept =
      length-append promise.kept more_kept in
      record {
        journaled = is.journaled;
        held = record {
          created = held.created;
          front = front_of_more (count_at point records) promise.kept more_kept
              (answers_at point records) held.front bound;
          recorded = held.recorded;
          holds = record {
            within = omega (arith, bound, longer);
            up_to = up_to_behind (count_at point records) last.steps promise.kept more_kept bound
                holds.up_to (said_widens_none said fits last.steps);
            answers = holds.answers;
            steps_held = holds.steps_held;
            lines = λ i below.
                let line = holds.lines i below in (
                  line.0,
                  line.1,
                  line_of_more m config promise.kept more_kept i line.0 line.2
                      (said_widens_none said fits line.2.steps),
                );
            syncs = λ k a below behind.
                syncs k a (omega (arith, below, later)) behind;
          };
          heard = held.heard;
          passed = held.passed;
        };
        answers = front_of_more (count_at point (records ++ pending)) promise.kept more_kept
            (answers_at point (records ++ pending)) is.answers all;
        up_to = up_to_behind (count_at point (records ++ pending)) now.steps promise.kept more_kept
            all is.up_to (said_widens_none said fits now.steps);
      }

  -- where none is kept besides
  ended_as_kept : (m : Module) (config : Settings) (promise : Promise) (point : Savepoint m config)
      (journal : JournalState) (records pending : List Record) (last now : ProcessState)
      (act : Act) (reply : Reply) (n : ℕ) (shown : Saved) (disk : D)
      → IsCarried promise point journal records pending last now (medium disk)
      → ((count : ℕ) → saved_by act reply count ≡ 0)
      → SyncsAreHeld m config promise.kept (count_at point records) (synced_by reply shown.steps)
      → IsCarried (record (after promise (Ended act reply n shown)) { kept = promise.kept }) point
      journal records pending last now (medium disk)
  ended_as_kept m config promise point journal records pending last now act reply n shown disk is
      saves_none syncs =
      let held = is.held in
      let holds = held.holds in
      let answers : promise.answers ≤ count_at point records = holds.answers in
      let counted : promise.steps ≤ last.steps = holds.steps_held in
      let passed : promise.passed ≤ point.saved.lines = held.passed in
      record {
        journaled = is.journaled;
        held = record {
          created = held.created;
          front = held.front;
          recorded = held.recorded;
          holds = record {
            within = holds.within;
            up_to = holds.up_to;
            answers = none_saved (saved_by act reply n) promise.answers (count_at point records)
                (saves_none n) answers;
            steps_held = none_saved (saved_by act reply shown.steps) promise.steps last.steps
                (saves_none shown.steps) counted;
            lines = holds.lines;
            syncs = λ k a below behind. ⊎_elim
                (λ (late : promise.synced < k).
                syncs k a (up_to_first below late) behind)
                (λ (early : k ≤ promise.synced). holds.syncs k a early behind)
                (cases_lt promise.synced k);
          };
          heard = held.heard;
          passed = none_saved (saved_by act reply shown.lines) promise.passed point.saved.lines
              (saves_none shown.lines) passed;
        };
        answers = is.answers;
        up_to = is.up_to;
      }
    where
      none_saved : (saved before bound : ℕ) → saved ≡ 0 → before ≤ bound
          → max saved before ≤ bound
      none_saved saved before bound e below = omega (arith, e, below)

  pub ended_carries : EndedCarries medium
  ended_carries m config promise point journal records pending last now act reply n shown disk is
      same saves_none syncs =
      subst
      (λ (l : List Kept). IsCarried (record (after promise (Ended act reply n shown)) { kept = l })
      point journal records pending last now (medium disk)) (sym same)
      (ended_as_kept m config promise point journal records pending last now act reply n shown disk
      is saves_none syncs)

  -- ---- records

  pub append_carries : AppendCarries medium
  append_carries m config promise point before later records pending r last now next disk is
      on_record goes =
      let all : List Record = records ++ (pending ++ r ∷ []) in
      let long : length promise.kept ≡ count_at point all =
      ap (λ l. length l) on_record ∙ answers_count point all in
      record {
        journaled = goes;
        held = is.held;
        answers = take_all (count_at point all) promise.kept (le_of_eq long) ∙ on_record;
        up_to = subst (λ n. IsNarrowTo (drop n promise.kept) next.steps) long
            (up_to_end promise.kept next.steps);
      }

  pub carried_is_reached : CarriedIsReached medium
  carried_is_reached m config promise point journal records pending last now p n disk is on_record
      runs =
      let guest : Guest = point.reached.guest in
      let start : ProcessState = point.reached.start in
      let journaled = is.journaled in
      let held = is.held in
      let recorded = recorded_join guest point.process last now records pending held.recorded
      journaled.recorded in
      let on = recorded_runs guest point.process now (records ++ pending) recorded in
      let first : Runs guest start (answers_at point (records ++ pending))
      (point.steps + on.steps) now =
      runs_join guest start point.process now point.front (map given_in (records ++ pending))
      point.steps on.steps point.reached.runs on.runs in
      let whole : Runs guest start (answers_at point (records ++ pending) ++ [])
      (point.steps + on.steps + n) p =
      runs_join guest start now p (answers_at point (records ++ pending)) []
      (point.steps + on.steps) n first runs in
      let kept : answers_at point (records ++ pending) ++ [] ≡ promise.kept =
      append-nil (answers_at point (records ++ pending)) ∙ sym on_record in
      let counted : p.steps ≡ start.steps + (point.steps + on.steps + n) =
      runs_count guest start p _ _ whole in
      let none_before = start_counts m config guest start point.reached.begins in
      let steps : point.steps + on.steps + n ≡ p.steps = omega (arith, counted, none_before) in (
        record {
          guest = guest;
          start = start;
          begins = point.reached.begins;
          runs = subst (λ l. Runs guest start l p.steps p) kept
              (subst (λ z. Runs guest start (answers_at point (records ++ pending) ++ []) z p)
              steps whole);
        },
        refl,
      )

pub answer_is_on_record : AnswerIsOnRecord
answer_is_on_record m config promise point records pending steps n question a on_record =
    let r : Record = record { step = n; answer = a } in
    ap (λ l. l ++ Given a ∷ []) on_record
    ∙ append_assoc point.front (map given_in (records ++ pending)) (Given a ∷ [])
    ∙ ap (λ l. point.front ++ l) (sym (map-append given_in (records ++ pending) (r ∷ [])))
    ∙ ap (λ (l : List Record). point.front ++ map given_in l)
    (append_assoc records pending (r ∷ []))
