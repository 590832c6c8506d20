-- Where records have led: right after the step that took the last of their answers.
use Rattle.std.proofs.Common.{◌≡◌, ◌⊎◌, inl, inr, ⊎_elim, ℕ, ◌+◌, List, [], ◌∷◌, ◌++◌, Some, None}
use Rattle.std.proofs.Common.{take, drop, length, refl, sym, ap, ◌∙◌, subst, arith, append_assoc}
use Rattle.std.specs.Prelude.{suc, map}
use Rattle.std.proofs.lemmas.List.{append-nil, drop_all}
use Rattle.wasm_syntax.specs.declared.module.Module.{Module}
use Rattle.wasi_abi.specs.declared.answer.Answer.{Answer}
use Rattle.wasi_abi.specs.rules.Configs.{Settings}
use Rattle.wasi_calls_rules.specs.WasiStates.{Line}
use Rattle.process_rules.specs.Processes.{ProcessState, Guest, IsStart}
use Rattle.process_rules.specs.Runs.{Kept, Given, Moves, Runs, Reaches, none as no_step}
use Rattle.process_rules.specs.Runs.{take as takes}
use Rattle.process_rules.proofs.Growing.{move_counts}
use Rattle.process_rules.proofs.Quiet.{runs_join}
use Rattle.disk_layout.specs.rules.Journal.{Record}
use Rattle.record_replay.specs.rules.Records.{Recorded, none, more, given_in}
use Rattle.record_replay.specs.rules.Calls.{Exchange, Tells, all_taken}
use Rattle.worker_store.specs.restart_theorem.Lives.{Event}
use Rattle.worker_store.specs.restart_theorem.Courses.{Stage, stage_after}
use Rattle.worker_store.specs.restart_theorem.Exchanges.{AreEvents, none as no_exchange, told}
use Rattle.worker_store.specs.restart_theorem.Exchanges.{asked}
use Rattle.worker_store.specs.restart_theorem.Promises.{Promise, TakesLast}
use Rattle.worker_store.proofs.RestartLemmas.Fronts.{reached_counts}
use Rattle.worker_store.specs.rules.Savepoints.{Savepoint}
use Rattle.worker_store.specs.rules.Carried.{answers_at, count_at, IsHeldAt}
use Rattle.worker_store.specs.laws.Pieces.{AreDone}

-- ---- records

-- no record has led anywhere
record HaveLedNowhere (records : List Record) (p last : ProcessState) : Type 0 where
  pub none_left : records ≡ []
  pub same : last ≡ p

module _ (m : Module) (config : Settings) (guest : Guest) (start : ProcessState)
    (begins : IsStart m config guest start) where
  -- what a step leads to that takes an answer
  taken_by : (front : List Kept) (n : ℕ) (q r : ProcessState) (a : Answer)
      → Runs guest start front n q → Moves guest q (Some a) r
      → TakesLast m config (front ++ Given a ∷ []) r.steps
  taken_by front n q r a runs moves =
      let wanted = moves.wanted in
      let reached : Reaches m config front n q =
      record { guest = guest; start = start; begins = begins; runs = runs } in
      let counted : q.steps ≡ n = reached_counts m config front n q reached in
      let one : r.steps ≡ q.steps + 1 = move_counts guest q r (Some a) moves in
      record {
        others = front;
        last = a;
        are = refl;
        before = n;
        next = omega (arith, counted, one);
        process = q;
        reached = reached;
        question = wanted.0;
        wants = wanted.1;
      }

  last_taken : (front : List Kept) (n : ℕ) (p last : ProcessState) (records : List Record)
      → Runs guest start front n p → Recorded guest p records last
      → HaveLedNowhere records p last
      ⊎ TakesLast m config (front ++ map given_in records) last.steps
  last_taken front n p last records runs none =
      inl (record { none_left = refl; same = refl })
  last_taken front n p last records runs
      (more {q = q} {r = r} {a = a} {n = k} {records = others} quiet moves rest) =
      let here : Runs guest start front (n + k) q =
      subst (λ l. Runs guest start l (n + k) q) (append-nil front)
      (runs_join guest start p q front [] n k runs quiet) in
      let on : Runs guest start (front ++ Given a ∷ []) (n + k + 1) r =
      runs_join guest start q r front (Given a ∷ []) (n + k) 1 here (takes moves no_step) in
      inr (⊎_elim
      (λ (nowhere : HaveLedNowhere others r last).
      subst (λ (l : List Record).
      TakesLast m config (front ++ (Given a ∷ map given_in l)) last.steps)
      (sym nowhere.none_left)
      (subst (λ (z : ProcessState). TakesLast m config (front ++ Given a ∷ []) z.steps)
      (sym nowhere.same) (taken_by front (n + k) q r a here moves)))
      (λ (last_is : TakesLast m config ((front ++ Given a ∷ []) ++ map given_in others) last.steps).
      subst (λ (l : List Kept). TakesLast m config l last.steps)
      (append_assoc front (Given a ∷ []) (map given_in others)) last_is)
      (last_taken (front ++ Given a ∷ []) (n + k + 1) r last others on rest))

-- ---- lines

none_happen : (exchanges : List Exchange) (events : List Event) → AreEvents exchanges events
    → exchanges ≡ [] → events ≡ []
none_happen exchanges events no_exchange e = refl
none_happen exchanges events (told are) e = absurd (cc)
none_happen exchanges events (asked are) e = absurd (cc)

-- where nothing was exchanged, a life is where it was
stays_where_it_is : (m : Module) (config : Settings) (promise promise' : Promise)
    (stage stage' : Stage) (exchanges : List Exchange)
    → AreDone m config promise stage exchanges promise' stage' → exchanges ≡ [] → stage' ≡ stage
stays_where_it_is m config promise promise' stage stage' exchanges done none_left =
    done.stage_is ∙ ap (stage_after stage) (none_happen exchanges done.events done.are none_left)

module _ (m : Module) (config : Settings) (promise promise' : Promise) (stage stage' : Stage)
    (point : Savepoint m config) (records : List Record) (last : ProcessState)
    (held : IsHeldAt promise' point records last) where
  -- the lines after those of a savepoint to which no record has led are none
  none_retold : last ≡ point.process
      → map Tells (all_taken (suc point.saved.lines) (drop point.saved.lines last.host.lines))
      ≡ []
  none_retold same =
      let lines : point.saved.lines ≡ length point.process.host.lines = point.shown.lines in
      let none_left : drop point.saved.lines last.host.lines ≡ [] =
      ap (λ (z : ProcessState). drop point.saved.lines z.host.lines) same
      ∙ drop_all point.saved.lines point.process.host.lines (omega (arith, lines)) in
      ap (λ (l : List Line). map Tells (all_taken (suc point.saved.lines) l)) none_left

  -- So a recovery that has told a line stands right after the step that took its last answer.
  pub goes_no_further : stage.line ≡ None
      → AreDone m config promise stage
      (map Tells (all_taken (suc point.saved.lines) (drop point.saved.lines last.host.lines)))
      promise' stage'
      → (stage'.line ≡ None)
      ⊎ TakesLast m config (take (count_at point records) promise'.kept) last.steps
  goes_no_further none_told done =
      ⊎_elim
      (λ (nowhere : HaveLedNowhere records point.process last).
      inl (ap (λ (s : Stage). s.line)
      (stays_where_it_is m config promise promise' stage stage' _ done
      (none_retold nowhere.same)) ∙ none_told))
      (λ (last_is : TakesLast m config (answers_at point records) last.steps).
      inr (subst (λ (l : List Kept). TakesLast m config l last.steps) (sym held.front) last_is))
      (last_taken m config point.reached.guest point.reached.start point.reached.begins point.front
      point.steps point.process last records point.reached.runs held.recorded)
