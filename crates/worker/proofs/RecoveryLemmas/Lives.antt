-- A recovered process, as one that a life comes to: its lines are told again, and it may be saved.
use Rattle.std.proofs.Common.{◌≡◌, ℕ, suc, ◌+◌, ◌*◌, ◌≤◌, ◌^◌, List, [], ◌∷◌, ◌++◌, length}
use Rattle.std.proofs.Common.{take, drop, refl, sym, ap, ◌∙◌, subst, arith}
use Rattle.std.specs.Prelude.{map}
use Rattle.std.proofs.lemmas.List.{append-nil, length-append, take-take}
use Rattle.wasm_syntax.specs.declared.module.Module.{Module}
use Rattle.wasi_abi.specs.rules.Configs.{Settings}
use Rattle.wasi_calls_rules.specs.laws.Laws.{IsOfBytes}
use Rattle.process_rules.specs.Processes.{ProcessState, Guest, host_of}
use Rattle.process_rules.specs.Behind.{IsNarrowTo}
use Rattle.process_rules.specs.Runs.{Kept, Runs, Reaches, none as no_step}
use Rattle.process_rules.proofs.Growing.{runs_count, start_counts}
use Rattle.process_rules.proofs.Quiet.{runs_join}
use Rattle.process.specs.rules.Values.{ProcessValue, ShowsProcess, IsProcess, waiting_in}
use Rattle.state_image.specs.rules.ProcessImage.{process_image}
use Rattle.state_image.specs.rules.Saving.{saved_of}
use Rattle.state_image.specs.rules.WellTyped.{IsWellTyped}
use Rattle.state_image.proofs.ReachedWellTyped.{saved_is_well_typed}
use Rattle.sector_disk.specs.declared.sector.TheConstants.{SECTOR_SIZE}
use Rattle.disk_layout.specs.declared.geometry.Geometry.{Geometry}
use Rattle.disk_layout.specs.rules.Journal.{Record}
use Rattle.record_replay.specs.rules.Calls.{Taking}
use Rattle.record_replay.specs.rules.Records.{Recorded, given_in}
use Rattle.record_replay.specs.rules.Replays.{ReplaysUpTo, steps_before, TellsFrom}
use Rattle.record_replay.proofs.OneRecording.{one_recorded}
use Rattle.record_replay.proofs.Recordings.{recorded_runs}
use Rattle.worker_store.specs.restart_theorem.Lives.{Inputs}
use Rattle.worker_store.specs.restart_theorem.Courses.{at_first}
use Rattle.worker_store.specs.restart_theorem.Promises.{Promise}
use Rattle.worker_store.specs.rules.Savepoints.{Savepoint, places}
use Rattle.worker_store.specs.rules.Carried.{answers_at, count_at, IsHeldAt}
use Rattle.worker_store.specs.laws.Reopening.{IsReviving}
use Rattle.worker_store.proofs.LawLemmas.Carrying.{up_to_map}
use Rattle.worker_store.proofs.LawLemmas.Fronts.{front_kept}
use Rattle.worker_store.specs.laws.Laws.{ProcessImagesFitAreas}
use Rattle.worker.specs.declared.found.Found.{Found}
use Rattle.worker.specs.Findings.{IsFoundAt}
use Rattle.worker.specs.Revivals.{IsReplayed}
use Rattle.worker.proofs.RecoveryLemmas.Undiverged.{lines_grow}
use Rattle.worker.proofs.RecoveryLemmas.There.{released_is}

-- ---- where records lead

-- all of them, and no step behind
abbrev pub whole_way : (guest : Guest) (p last : ProcessState) (records : List Record)
    → Recorded guest p records last → ReplaysUpTo guest p records
whole_way guest p last records recorded = record {
  front = records;
  rest = [];
  are = sym (append-nil records);
  reached = last;
  recorded = recorded;
  steps = 0;
  process = last;
  runs = no_step;
  within = omega arith;
}

-- what a savepoint, a prefix of its records and some steps lead to
pub record IsOnWay {m : Module} {config : Settings} (point : Savepoint m config)
    (front : List Record) (p : ProcessState) : Type 0 where
  pub runs : Runs point.reached.guest point.reached.start (answers_at point front) p.steps p

pub on_way : (m : Module) (config : Settings) (point : Savepoint m config) (records : List Record)
    (come : ReplaysUpTo point.reached.guest point.process records)
    → IsOnWay point come.front come.process
on_way m config point records come =
    let guest : Guest = point.reached.guest in
    let start : ProcessState = point.reached.start in
    let on = recorded_runs guest point.process come.reached come.front come.recorded in
    let answers : List Kept = answers_at point come.front in
    let first : Runs guest start answers (point.steps + on.steps) come.reached =
    runs_join guest start point.process come.reached point.front (map given_in come.front)
    point.steps on.steps point.reached.runs on.runs in
    let then : Runs guest start (answers ++ []) (point.steps + on.steps + come.steps)
    come.process =
    runs_join guest start come.reached come.process answers [] (point.steps + on.steps) come.steps
    first come.runs in
    let all : Runs guest start answers (point.steps + on.steps + come.steps) come.process =
    subst (λ (l : List Kept). Runs guest start l (point.steps + on.steps + come.steps)
    come.process) (append-nil answers) then in
    let counted : come.process.steps ≡ start.steps + (point.steps + on.steps + come.steps) =
    runs_count guest start come.process answers (point.steps + on.steps + come.steps) all in
    let from_none : start.steps ≡ 0 = start_counts m config guest start point.reached.begins in
    record {
      runs = subst (λ n. Runs guest start answers n come.process)
          (same (point.steps + on.steps + come.steps) come.process.steps start.steps counted
          from_none) all;
    }
  where
    same : (n k s : ℕ) → k ≡ s + n → s ≡ 0 → n ≡ k
    same n k s e first = omega (arith, e, first)

-- the answers of a front are the first of those kept
front_of_kept : (kept : List Kept) {m : Module} {config : Settings} (point : Savepoint m config)
    (records front rest : List Record) → records ≡ front ++ rest
    → take (count_at point records) kept ≡ answers_at point records
    → take (count_at point front) kept ≡ answers_at point front
front_of_kept kept point records front rest are all =
    let long : length records ≡ length front + length rest =
    ap (λ l. length l) are ∙ length-append front rest in
    sym (take-take (count_at point front) (count_at point records) kept (omega (arith, long)))
    ∙ ap (λ l. take (count_at point front) l) all
    ∙ ap (λ l. take (count_at point front) (answers_at point l)) are
    ∙ ap (λ n. take n (answers_at point (front ++ rest))) (omega arith)
    ∙ front_kept point.front front rest 0
    ∙ ap (λ l. answers_at point l) (append-nil front)

-- ---- as a life

module _ (m : Module) (config : Settings) (promise : Promise) (point : Savepoint m config)
    (records : List Record) (last : ProcessState) (held : IsHeldAt promise point records last)
  where
    -- up to a process on the way nothing widens
    come_up_to : (come : ReplaysUpTo point.reached.guest point.process records)
        (rest : List Record) → come.rest ≡ rest
        → IsNarrowTo (drop (count_at point come.front) promise.kept) come.process.steps
    come_up_to come [] none_left =
        let guest : Guest = point.reached.guest in
        let whole : records ≡ come.front =
        come.are ∙ ap (λ (l : List Record). come.front ++ l) none_left ∙ append-nil come.front in
        let same : come.reached ≡ last =
        one_recorded guest point.process come.reached last records
        (subst (λ (l : List Record). Recorded guest point.process l come.reached) (sym whole)
        come.recorded) held.recorded in
        let still : come.steps ≤ 0 =
        subst (λ (l : List Record). come.steps ≤ steps_before come.reached l) none_left
        come.within in
        let counted : come.process.steps ≡ come.reached.steps + come.steps =
        runs_count guest come.reached come.process [] come.steps come.runs in
        let alike : come.reached.steps ≡ last.steps = ap (λ (z : ProcessState). z.steps) same in
        let steps : last.steps ≡ come.process.steps = omega (arith, alike, still, counted) in
        subst (λ n. IsNarrowTo (drop (count_at point come.front) promise.kept) n) steps
        (subst (λ (l : List Record). IsNarrowTo (drop (count_at point l) promise.kept) last.steps)
        whole held.holds.up_to)
    come_up_to come (r ∷ rest) some_left =
        let long : length records ≡ length come.front + suc (length rest) =
        ap (λ l. length l) come.are ∙ length-append come.front come.rest
        ∙ ap (λ (l : List Record). length come.front + length l) some_left in
        up_to_map promise.kept point.front records (count_at point come.front)
        (count_at point records) (length come.front) come.process.steps refl refl held.front
        (omega (arith, long))

    -- it comes to a process on the way
    pub come_lives : (inputs : Inputs)
        (come : ReplaysUpTo point.reached.guest point.process records)
        → IsReviving m config point.reached.guest promise (at_first inputs)
        (count_at point come.front) point.saved.lines come.process
    come_lives inputs come =
        let way = on_way m config point records come in
        let all = held.holds in
        let bound : count_at point records ≤ length promise.kept = all.within in
        let long : length records ≡ length come.front + length come.rest =
        ap (λ l. length l) come.are ∙ length-append come.front come.rest in
        let saved : point.saved.lines ≡ length point.process.host.lines = point.shown.lines in
        let grow = lines_grow point.reached.guest point.process last records held.recorded come in
        record {
          within = omega (arith, bound, long);
          start = point.reached.start;
          begins = point.reached.begins;
          runs = subst (λ (l : List Kept). Runs point.reached.guest point.reached.start l
              come.process.steps come.process)
              (sym (front_of_kept promise.kept point records come.front come.rest come.are
              held.front)) way.runs;
          up_to = come_up_to come come.rest refl;
          shut = refl;
          last = tt;
          emitted = omega (arith, saved, grow);
          heard = held.heard;
          passed = held.passed;
        }

-- what the records lead to is reached on their answers
abbrev pub last_reached : (m : Module) (config : Settings) (point : Savepoint m config)
    (records : List Record) (last : ProcessState)
    → Recorded point.reached.guest point.process records last
    → Reaches m config (answers_at point records) last.steps last
last_reached m config point records last recorded =
    let way = on_way m config point records
    (whole_way point.reached.guest point.process last records recorded) in
    record {
      guest = point.reached.guest;
      start = point.reached.start;
      begins = point.reached.begins;
      runs = way.runs;
    }

-- ---- the process at hand

-- It is the one that the records of a savepoint lead to. Its lines after those of the savepoint
-- were told.
pub record IsBack {O : Type 0} (takes : Taking O) {m : Module} {config : Settings}
    (point : Savepoint m config) (last : ProcessState) (v : ProcessValue) (count : ℕ)
    (outlet outlet' : O) : Type 0 where
  pub shows : ShowsProcess v point.reached.guest last
  pub module_is : v.machine.guest ≡ m
  pub some : IsProcess v
  pub none_waits : waiting_in v ≡ []
  pub told : TellsFrom takes point.saved.lines last outlet outlet'
  pub counted : last.steps ≡ point.process.steps + count

pub tells_as : {O : Type 0} (takes : Taking O) (a b : ℕ) (p : ProcessState) (outlet outlet' : O)
    → a ≡ b → TellsFrom takes a p outlet outlet' → TellsFrom takes b p outlet outlet'
tells_as takes a b p outlet outlet' same told =
    subst (λ n. TellsFrom takes n p outlet outlet') same told

module _ {O : Type 0} (takes : Taking O) (m : Module) (config : Settings) (wasm : List ℕ)
    (point : Savepoint m config) (records : List Record) (found : Found)
    (found_at : IsFoundAt wasm point records found) where
  pub released_lines : found.process.host.released ≡ point.saved.lines
  released_lines =
      released_is found.process point.saved found_at.none_waits
      (ap (λ s. s.lines) found_at.saved)

  module _ (last : ProcessState) (recorded : Recorded point.reached.guest point.process records
      last) (v : ProcessValue) (count : ℕ) (outlet outlet' : O)
      (replayed : IsReplayed takes found v count outlet outlet') where
    pub is_back : IsBack takes point last v count outlet outlet'
    is_back =
        let guest : Guest = point.reached.guest in
        let all = replayed.replays in
        let r = all.shown guest point.process found_at.shows in
        let same : r.process ≡ last =
        one_recorded guest point.process r.process last records
        (subst (λ l. Recorded guest point.process l r.process) found_at.records_are r.recorded)
        recorded in
        let shows : ShowsProcess v point.reached.guest last =
        subst (λ (z : ProcessState). ShowsProcess v guest z) same r.shows in
        let first = found_at.shows in
        let more : v.steps ≡ found.process.steps + count = replayed.counted in
        let here : v.steps ≡ last.steps = shows.steps in
        let there : found.process.steps ≡ point.process.steps = first.steps in
        record {
          shows = shows;
          module_is = replayed.module_same ∙ found_at.module_is;
          some = replayed.some;
          none_waits = all.none_waits;
          told = tells_as takes found.process.host.released point.saved.lines last outlet outlet'
              released_lines
              (subst (λ (z : ProcessState). TellsFrom takes found.process.host.released z outlet
              outlet') same r.told);
          counted = omega (arith, more, here, there);
        }

-- its image fits into its area
pub fits_area : (m : Module) (config : Settings) (point : Savepoint m config)
    (records : List Record) (last : ProcessState) (v : ProcessValue) (geometry : Geometry)
    → Recorded point.reached.guest point.process records last
    → ShowsProcess v point.reached.guest last → IsProcess v → v.machine.guest ≡ m
    → IsOfBytes (host_of config) → geometry ≡ places point → ProcessImagesFitAreas
    → length (process_image (saved_of v)) ≤ SECTOR_SIZE * geometry.area_sectors
fits_area m config point records last v geometry recorded shows is same texts placed fit =
    let pages = point.settings.in_range.pages in
    let typed : IsWellTyped m config (saved_of v) =
    saved_is_well_typed point.wasm m config (answers_at point records) last.steps v last
    point.accepted (few_pages config.pages pages.1) texts
    (last_reached m config point records last recorded) same is shows in
    subst (λ (g : Geometry). length (process_image (saved_of v)) ≤ SECTOR_SIZE * g.area_sectors)
    (sym placed) (fit m config (saved_of v) (length point.wasm) typed)
  where
    few_pages : (pages : ℕ) → pages ≤ 256 → pages ≤ 2 ^ 16
    few_pages pages few = omega (arith, few)
