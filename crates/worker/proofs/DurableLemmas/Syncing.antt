-- A sync of the guest emits no line, unless the process ends with it. A step that is no sync adds
-- none.
use Rattle.std.proofs.Common.{◌≡◌, ℕ, List, [], ◌∷◌, Option, Some, None, Ok, refl, sym, ap, ◌∙◌}
use Rattle.std.proofs.Common.{subst, suc, ◌+◌, ◌<◌, ◌≤◌, take, drop, length, ⊎_elim, arith}
use Rattle.std.proofs.lemmas.Bool.{cases_lt}
use Rattle.std.proofs.lemmas.List.{take-append-drop}
use Rattle.std.proofs.Math.Seq.{take-length}
use Rattle.std.specs.Prelude.{reverse, map, slice_get}
use Rattle.wasm_syntax.specs.declared.value.Value.{Value}
use Rattle.wasm_rules.specs.Configuration.{Configuration, Thread, Outcome}
use Rattle.wasm_rules.specs.Types.{number_in}
use Rattle.wasm_rules.specs.Validity.{IsValid}
use Rattle.wasm_syntax.specs.declared.module.Module.{Module}
use Rattle.wasi_abi.specs.rules.Configs.{Settings}
use Rattle.wasm_rules.specs.Steps.{answered}
use Rattle.wasi_abi.specs.declared.call.Call.{Call}
use Rattle.wasi_abi.specs.declared.call.Call.TheVariants as call
use Rattle.wasi_abi.specs.rules.Numbers.{fd_datasync_right, fd_sync_right}
use Rattle.wasi_calls_rules.specs.WasiStates.{WasiState}
use Rattle.wasi_calls_rules.specs.Checks.{Bytes, Done, Ruling, open_descriptor, with_right}
use Rattle.wasi_calls_rules.specs.Small.{fd_syncs}
use Rattle.wasi_calls_rules.specs.CallRules.{call_rule, IsSync}
use Rattle.wasi_calls_rules.proofs.Steps.{HoldsAfter, done_with, next}
use Rattle.process_rules.specs.Processes.{ProcessState, Guest, closed, closed_at}
use Rattle.process_rules.specs.Runs.{Next, On, LeadsTo, Moves, next_of, after_call, after_call_rule}
use Rattle.process_rules.specs.Runs.{after_counted_step, given_by, stepped, Kept, Runs, Reaches}
use Rattle.process_rules.specs.Runs.{none, step, take as take_one, widen, succeed}
use Rattle.process_rules.specs.Behind.{Syncs, IsNarrowTo, AnswersBehindSync}
use Rattle.process_rules.proofs.Growing.{move_counts, runs_count}
use Rattle.process_rules.proofs.OneStart.{start_once}
use Rattle.worker_store.specs.rules.Carried.{SyncsAreHeld}
use Rattle.worker_store.proofs.RestartLemmas.Fronts.{LeadsOn, fronts_lead_on, reached_counts}
use Rattle.worker_store.proofs.LawLemmas.Acts.{same_rest}
use Rattle.worker_store.proofs.LawLemmas.Raising.{up_to_before, up_to_end}
use Rattle.worker.proofs.AbreastLemmas.{none_more}

-- ---- the call

abbrev LeavesHost : WasiState → Done → Type 0
LeavesHost h done = done.host ≡ h

syncs_leave : (right fd : ℕ) (m : Bytes) (h : WasiState)
    → HoldsAfter (LeavesHost h) (fd_syncs right fd m h)
syncs_leave right fd m h =
    next (open_descriptor h fd) _ (λ d. next (with_right right d) _ (λ _.
    done_with (LeavesHost h) (record { memory = m; host = h }) refl))

-- with any number of arguments
sync_leaves : (c : Call) (arguments : List ℕ) (m : Bytes) (h : WasiState) (done : Done) → IsSync c
    → call_rule c arguments None m h ≡ Ok done → done.host ≡ h
sync_leaves call.FdDatasync (fd ∷ []) m h done is e =
    let leaves = syncs_leave fd_datasync_right fd m h in leaves.holds done e
sync_leaves call.FdSync (fd ∷ []) m h done is e =
    let leaves = syncs_leave fd_sync_right fd m h in leaves.holds done e
sync_leaves call.FdDatasync [] m h done is e = absurd (cc)
sync_leaves call.FdDatasync (fd ∷ (x ∷ others)) m h done is e = absurd (cc)
sync_leaves call.FdSync [] m h done is e = absurd (cc)
sync_leaves call.FdSync (fd ∷ (x ∷ others)) m h done is e = absurd (cc)
sync_leaves _ arguments m h done is e = absurd is

-- ---- the step

-- what hasn't ended has the host that it had
open_host : (thread : Thread) (later : List ℕ) (p : ProcessState)
    → (closed_at thread later p).ended ≡ None → (closed_at thread later p).host ≡ p.host
open_host [] [] p unended = absurd (cc)
open_host [] (f ∷ later) p unended = refl
open_host (frame ∷ frames) [] p unended = refl
open_host (frame ∷ frames) (f ∷ later) p unended = refl

record GoesOnWith (next : Next) (h : WasiState) : Type 0 where
  pub configuration : Configuration
  pub is : next ≡ On configuration h

-- a sync goes on with the host as it was
goes_with : (guest : Guest) (p : ProcessState) → Syncs guest p
    → GoesOnWith (next_of guest p None) p.host
goes_with guest p syncs =
    let c : Configuration = p.configuration in
    let f : ℕ = syncs.function in
    let operands : List Value = syncs.arguments in
    let waits : Thread = syncs.waits in
    let host : syncs.done.host ≡ p.host =
    sync_leaves syncs.call (reverse (map number_in operands)) c.store.memory p.host syncs.done
    syncs.is_sync syncs.answers_zero in
    let there_on : Configuration =
    answered c syncs.done.memory (given_by syncs.call 0) waits in
    let there : GoesOnWith (after_call_rule syncs.call (Ok syncs.done) c p.host waits) p.host =
    record { configuration = there_on; is = ap (λ (z : WasiState). On there_on z) host } in
    let by_rule : GoesOnWith (after_call (Some syncs.call) operands None c p.host waits) p.host =
    subst (λ (r : Ruling). GoesOnWith (after_call_rule syncs.call r c p.host waits) p.host)
    (sym syncs.answers_zero) there in
    let by_call : GoesOnWith (after_call (slice_get guest.calls f) operands None c p.host waits)
    p.host =
    subst (λ (o : Option Call). GoesOnWith (after_call o operands None c p.host waits) p.host)
    (sym syncs.is_call) by_rule in
    subst (λ (o : Outcome). GoesOnWith (after_counted_step guest o None c p.host) p.host)
    (sym syncs.asks) by_call

pub sync_emits_none : (guest : Guest) (p q : ProcessState) → Moves guest p None q → Syncs guest p
    → q.ended ≡ None → q.host.lines ≡ p.host.lines
sync_emits_none guest p q moves syncs unended =
    let on = goes_with guest p syncs in
    let leads : LeadsTo guest (On on.configuration p.host) None p q =
    subst (λ (n : Next). LeadsTo guest n None p q) on.is moves.leads in
    let there : ProcessState = stepped None leads.0 p.host p in
    let still : (closed there).ended ≡ None =
    ap (λ (z : ProcessState). z.ended) (sym leads.2) ∙ unended in
    ap (λ (z : ProcessState). z.host.lines) leads.2
    ∙ ap (λ (h : WasiState). h.lines)
    (open_host there.configuration.thread there.configuration.later there still)

-- ---- a step that is no sync

-- no steps, where nothing widens, lead nowhere
stays_there : (guest : Guest) (p q : ProcessState) (kept : List Kept) (n : ℕ) → n ≡ 0
    → IsNarrowTo kept (suc p.steps) → Runs guest p kept n q → p ≡ q
stays_there guest p q kept n e up none = refl
stays_there guest p q kept n e up (step moves rest) = absurd (omega (arith, e))
stays_there guest p q kept n e up (take_one moves rest) = absurd (omega (arith, e))
stays_there guest p q kept n e up (widen at rest) =
    let here = at.at in absurd (omega (arith, up, here))
stays_there guest p q kept n e up (succeed is counted rest) = absurd (omega (arith, up))

module _ (m : Module) (config : Settings) (kept : List Kept) (p : ProcessState) (k a : ℕ)
    (valid : IsValid m) (reached : Reaches m config kept p.steps p)
    (behind : AnswersBehindSync m config kept k a) (here : behind.before ≡ p.steps) where
  whole : take (length kept) kept ≡ kept
  whole = take-length kept

  counted_there : behind.process.steps ≡ p.steps
  counted_there =
      reached_counts m config (take a kept) behind.before behind.process behind.reached ∙ here

  all_kept : Reaches m config (take (length kept) kept) p.steps p
  all_kept = record {
    guest = reached.guest;
    start = reached.start;
    begins = reached.begins;
    runs = subst (λ (l : List Kept). Runs reached.guest reached.start l p.steps p) (sym whole)
        reached.runs;
  }

  up_behind : IsNarrowTo (drop a kept) (suc p.steps)
  up_behind =
      let next : k ≡ behind.before + 1 = behind.next in
      up_to_before (drop a kept) k (suc p.steps) (omega (arith, next, here)) behind.up_to

  same_there : behind.process ≡ p
  unfolding all_kept
  same_there = ⊎_elim
      (λ (on : LeadsOn reached.guest p behind.process (take (length kept) kept) (take a kept)).
      let counted : behind.process.steps ≡ p.steps + on.steps =
      runs_count reached.guest p behind.process on.kept on.steps on.runs in
      let at = counted_there in
      let nothing : on.kept ≡ [] =
      none_more (take (length kept) kept) on.kept kept a on.front whole in
      sym (stays_there reached.guest p behind.process on.kept on.steps (omega (arith, counted, at))
      (subst (λ (l : List Kept). IsNarrowTo l (suc p.steps)) (sym nothing) tt) on.runs))
      (λ (on : LeadsOn reached.guest behind.process p (take a kept) (take (length kept) kept)).
      let counted : p.steps ≡ behind.process.steps + on.steps =
      runs_count reached.guest behind.process p on.kept on.steps on.runs in
      let at = counted_there in
      let rest : on.kept ≡ drop a kept =
      same_rest (take a kept) on.kept (drop a kept)
      (on.front ∙ whole ∙ sym (take-append-drop a kept)) in
      stays_there reached.guest behind.process p on.kept on.steps (omega (arith, counted, at))
      (subst (λ n. IsNarrowTo on.kept (suc n)) (sym at)
      (subst (λ (l : List Kept). IsNarrowTo l (suc p.steps)) (sym rest) up_behind)) on.runs)
      (fronts_lead_on m config kept (length kept) a p.steps behind.before p behind.process valid
      all_kept behind.reached (up_to_end kept p.steps)
      (up_to_before (drop a kept) (suc p.steps) behind.before (omega (arith, here)) up_behind))

  syncs_here : Syncs reached.guest p
  syncs_here =
      let right = behind.reached in
      let same = start_once m config reached.guest right.guest reached.start right.start valid
      reached.begins right.begins in
      subst (λ z. Syncs reached.guest z) same_there
      (subst (λ (g : Guest). Syncs g behind.process) (sym same.0) behind.syncs)

pub unsynced_steps_are_held : (m : Module) (config : Settings) (kept : List Kept) (held : ℕ)
    (p q : ProcessState) → IsValid m → (reached : Reaches m config kept p.steps p)
    → Moves reached.guest p None q → (Syncs reached.guest p → ⊥)
    → SyncsAreHeld m config kept held p.steps → SyncsAreHeld m config kept held q.steps
unsynced_steps_are_held m config kept held p q valid reached moves no_sync syncs k a below behind =
    let counted : q.steps ≡ p.steps + 1 = move_counts reached.guest p q None moves in
    let next : k ≡ behind.before + 1 = behind.next in
    ⊎_elim
    (λ (later : p.steps < k).
    absurd (no_sync (syncs_here m config kept p k a valid reached behind
    (omega (arith, below, counted, next, later)))))
    (λ (earlier : k ≤ p.steps). syncs k a earlier behind)
    (cases_lt p.steps k)
