-- A worker beyond whose process no line was ever told.
use Rattle.std.proofs.Common.{◌≡◌, ℕ, ◌+◌, ◌≤◌, List, [], ◌∷◌, ◌++◌, length, take, drop, refl, sym}
use Rattle.std.proofs.Common.{ap, ◌∙◌, subst, arith, ⊎_elim, Bool, true, Some, None, length-append}
use Rattle.std.specs.Prelude.{max, map}
use Rattle.std.proofs.lemmas.List.{drop_all, length-take}
use Rattle.std.proofs.Math.Nat.{le_trans}
use Rattle.std.proofs.Math.Seq.{take-length}
use Rattle.wasm_syntax.specs.declared.module.Module.{Module}
use Rattle.wasm_rules.specs.Validity.{IsValid}
use Rattle.wasi_abi.specs.declared.answer.Question.{Question}
use Rattle.wasi_abi.specs.rules.Configs.{Settings}
use Rattle.process_rules.specs.Processes.{Ending, ProcessState, Guest}
use Rattle.process_rules.specs.Behind.{IsNarrowTo, AnswersBehindLine}
use Rattle.process_rules.specs.Runs.{Kept, Next, Wants, next_of, LeadsTo, Moves, Runs, Reaches}
use Rattle.process_rules.specs.Runs.{none, step, take as takes, widen, succeed}
use Rattle.process_rules.proofs.Growing.{runs_emit}
use Rattle.sector_disk.specs.rules.Medium.{Medium}
use Rattle.record_replay.specs.rules.Calls.{Begun, Exchange, Tells}
use Rattle.worker_store.specs.restart_theorem.Lives.{Event}
use Rattle.worker_store.specs.restart_theorem.Courses.{Stage, stage_after}
use Rattle.worker_store.specs.restart_theorem.Promises.{Promise}
use Rattle.worker_store.specs.restart_theorem.Exchanges.{AreEvents, none as no_exchange, told}
use Rattle.worker_store.specs.restart_theorem.Exchanges.{asked}
use Rattle.worker_store.proofs.RestartLemmas.Fronts.{LeadsOn, fronts_lead_on}
use Rattle.worker_store.specs.declared.store.WorkerStore.{WorkerStore}
use Rattle.worker_store.proofs.LawLemmas.Carrying.{more_lines}
use Rattle.worker_store.proofs.LawLemmas.Telling.{max_within}
use Rattle.worker.specs.rules.OpenWorkers.{IsAbreast, IsOnDisk, identity}
use Rattle.worker.proofs.DurableLemmas.OnDisk.{IsReachedBy, reached_now, valid_module}

-- ---- a process that takes no step by itself

abbrev pub IsStill : Guest → ProcessState → Type 0
IsStill guest p = (q : ProcessState) → Moves guest p None q → ⊥

-- one that asks
pub asking_is_still : (guest : Guest) (p : ProcessState) (question : Question)
    → next_of guest p None ≡ Wants question → IsStill guest p
asking_is_still guest p question wants q moves =
    leads_nowhere (next_of guest p None) wants moves.leads
  where
    leads_nowhere : (next : Next) → next ≡ Wants question → LeadsTo guest next None p q → ⊥
    leads_nowhere next is leads = rw is at leads

-- one that has ended
pub ended_is_still : (guest : Guest) (p : ProcessState) (why : Ending) → p.ended ≡ Some why
    → IsStill guest p
ended_is_still guest p why ended q moves = let running = moves.running in absurd (cc)

-- so without answers it stays where it is
stays_still : (guest : Guest) (p q : ProcessState) (kept : List Kept) (n : ℕ)
    → Runs guest p kept n q → kept ≡ [] → IsStill guest p → q ≡ p
stays_still guest p q kept n none e still = refl
stays_still guest p q kept n (step {q = next} moves rest) e still = absurd (still next moves)
stays_still guest p q kept n (takes moves rest) e still = absurd (cc)
stays_still guest p q kept n (widen at rest) e still = absurd (cc)
stays_still guest p q kept n (succeed is counted rest) e still = absurd (cc)

-- ---- no line is beyond it

-- a run takes no line back
pub lines_of_runs : (guest : Guest) (p q : ProcessState) (kept : List Kept) (n : ℕ)
    → Runs guest p kept n q → length p.host.lines ≤ length q.host.lines
lines_of_runs guest p q kept n runs =
    more_lines p.host q.host (runs_emit guest p q kept n runs)

pub none_more : (xs ys zs : List Kept) (a : ℕ) → xs ++ ys ≡ take a zs → xs ≡ zs → ys ≡ []
none_more xs ys zs a e same = by ys (length-append xs ys) (ap length e) (ap length same)
  where
    by : (ys : List Kept) → length (xs ++ ys) ≡ length xs + length ys
        → length (xs ++ ys) ≡ length (take a zs) → length xs ≡ length zs → ys ≡ []
    by [] sum is same = refl
    by (y ∷ ys) sum is same = absurd (omega (arith, sum, is, same, length-take a zs))

-- All kept answers lead to a process that is still. A line that a prefix of them leads to is one of
-- its lines.
line_there : (m : Module) (config : Settings) (kept : List Kept) (p : ProcessState) (i a : ℕ)
    → IsValid m → (reached : Reaches m config kept p.steps p) → IsStill reached.guest p
    → AnswersBehindLine m config kept i a → i ≤ length p.host.lines
line_there m config kept p i a valid reached still behind =
    let whole : take (length kept) kept ≡ kept = take-length kept in
    let all : Reaches m config (take (length kept) kept) p.steps p = record {
      guest = reached.guest;
      start = reached.start;
      begins = reached.begins;
      runs = subst (λ l. Runs reached.guest reached.start l p.steps p) (sym whole) reached.runs;
    } in
    let widens_none : IsNarrowTo (drop (length kept) kept) p.steps =
    subst (λ l. IsNarrowTo l p.steps) (sym (drop_all (length kept) kept (omega arith))) tt in
    ⊎_elim (λ (on : LeadsOn reached.guest p behind.process (take (length kept) kept)
    (take a kept)).
    let same : behind.process ≡ p =
    stays_still reached.guest p behind.process on.kept on.steps on.runs
    (none_more (take (length kept) kept) on.kept kept a on.front whole) still in
    subst (λ (z : ProcessState). i ≤ length z.host.lines) same behind.emitted)
    (λ (on : LeadsOn reached.guest behind.process p (take a kept) (take (length kept) kept)).
    let emitted = behind.emitted in
    let grow = lines_of_runs reached.guest behind.process p on.kept on.steps on.runs in
    omega (arith, grow, emitted))
    (fronts_lead_on m config kept (length kept) a p.steps behind.steps p behind.process valid all
    behind.reached widens_none behind.up_to)

module _ {D : Type 0} (medium : D → Medium) (m : Module) (config : Settings) (guest : Guest)
    (promise : Promise) (p : ProcessState) (step latest : ℕ) (store : WorkerStore) (disk : D)
    (is : IsOnDisk (identity m config guest) promise p step latest store (medium disk)) where
  -- of a worker on its disk whose process is still
  pub none_beyond : IsStill guest p → promise.begun ≤ length p.host.lines
  none_beyond still =
      let by : IsReachedBy m config guest promise p =
      reached_now medium m config guest promise p step latest store disk is in
      let held = is.carried.held in
      let holds = held.holds in
      let behind = holds.lines promise.begun (omega arith) in
      line_there m config promise.kept p promise.begun behind.0
      (valid_module medium m config guest promise p step latest store disk is) by.reached
      (subst (λ (g : Guest). IsStill g p) (sym by.guest_is) still) behind.2

-- ---- it stays so

-- lines that a process emits, or that are told of it, are its own
pub abreast_on : (promise promise' : Promise) (stage stage' : Stage) (p q : ProcessState)
    (says : Bool) → promise'.begun ≤ max (length q.host.lines) promise.begun
    → length p.host.lines ≤ length q.host.lines → stage'.is_abreast ≡ stage.is_abreast
    → IsAbreast promise stage p says → IsAbreast promise' stage' q says
abreast_on promise promise' stage stage' p q says begun grow same is = record {
  none_beyond = λ here. within promise'.begun promise.begun (length p.host.lines)
      (length q.host.lines) begun (is.none_beyond here) grow;
  says_so = λ abreast. is.says_so (sym same ∙ abreast);
}
  where
    within : (a b p q : ℕ) → a ≤ max q b → b ≤ p → p ≤ q → a ≤ q
    within a b p q begun few grow =
        le_trans begun (max_within q b q (omega arith) (omega (arith, few, grow)))

-- from here on it says so
pub abreast_now : (promise : Promise) (stage : Stage) (p : ProcessState)
    → promise.begun ≤ length p.host.lines → IsAbreast promise stage p true
abreast_now promise stage p few =
    record { none_beyond = λ here. few; says_so = λ abreast. refl }

abbrev other_exchanges : List Exchange → List Exchange
other_exchanges [] = []
other_exchanges (x ∷ others) = others

-- lines that are told change nothing of that
pub told_changes_none : (lines : List Begun) (exchanges : List Exchange) (events : List Event)
    (stage : Stage) → AreEvents exchanges events → exchanges ≡ map Tells lines
    → (stage_after stage events).is_abreast ≡ stage.is_abreast
told_changes_none lines exchanges events stage no_exchange e = refl
told_changes_none [] exchanges events stage (told are) e = absurd (cc)
told_changes_none (l ∷ lines) exchanges events stage
    (told {begun = begun} {exchanges = others} {events = later} are) e =
    told_changes_none lines others later _ are (ap other_exchanges e)
told_changes_none [] exchanges events stage (asked are) e = absurd (cc)
told_changes_none (l ∷ lines) exchanges events stage (asked are) e = absurd (cc)
