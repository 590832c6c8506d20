-- What events promise, read off their list.
use Rattle.std.proofs.Common.{◌≡◌, ℕ, ◌+◌, ◌≤◌, Bool, List, [], ◌∷◌, ◌++◌, refl, ap, subst, arith}
use Rattle.wasm_syntax.specs.declared.module.Module.{Module}
use Rattle.wasm_rules.specs.Validity.{IsValid}
use Rattle.wasi_abi.specs.rules.Configs.{Settings}
use Rattle.process_rules.specs.Behind.{IsLine}
use Rattle.worker_store.specs.restart_theorem.Lives.{Inputs, Life, Release, Event, Told, Asked}
use Rattle.worker_store.specs.restart_theorem.Lives.{Opened, Ended}
use Rattle.worker_store.specs.restart_theorem.Lives.{events_of, kept_after, told_in, kept_of_said}
use Rattle.worker_store.specs.restart_theorem.Courses.{Stage, at_beginning, next_stage}
use Rattle.worker_store.specs.restart_theorem.Promises.{Promise, nothing_yet, after, promised}
use Rattle.worker_store.specs.restart_theorem.Promises.{created_by}
use Rattle.worker_store.specs.restart_theorem.Promises.{promised_by, IsKept, AreKept, GoOn}
use Rattle.worker_store.specs.restart_theorem.laws.Laws.{HasOneText, HaveOneText, PromisesAreOfKept}
use Rattle.worker_store.specs.restart_theorem.laws.Laws.{NoNumberHasTwoTexts, CallsJoin}
use Rattle.worker_store.proofs.RestartLemmas.Fronts.{one_line, line_of_front, line_of_more}
use Rattle.worker_store.proofs.RestartLemmas.Fronts.{said_widens_none}
use Rattle.worker_store.proofs.RestartLemmas.Widenings.{line_at_end}

pub kept_of_promised : (so_far : Promise) (events : List Event)
    → (promised so_far events).kept ≡ kept_after so_far.kept events
kept_of_promised so_far [] = refl
kept_of_promised so_far (Told r t ∷ events) = kept_of_promised (after so_far (Told r t)) events
kept_of_promised so_far (Asked n k said fits ∷ events) =
    kept_of_promised (after so_far (Asked n k said fits)) events
kept_of_promised so_far (Opened held shown ∷ events) =
    kept_of_promised (after so_far (Opened held shown)) events
kept_of_promised so_far (Ended act reply held shown ∷ events) =
    kept_of_promised (after so_far (Ended act reply held shown)) events

pub promises_of_kept : PromisesAreOfKept
promises_of_kept lives = kept_of_promised nothing_yet (events_of lives)

pub calls_join : CallsJoin
calls_join m config so_far stage [] then kept further = (further, refl, refl)
calls_join m config so_far stage (e ∷ first) then kept further =
    let rest = calls_join m config (after so_far e) (next_stage stage e) first then kept.1 further
    in
    ((kept.0, rest.0), rest.1, rest.2)

-- ---- the events of all lives, in one list

-- An event keeps what was promised before it, wherever a life is, however much has happened,
-- and whether or not a creation was begun.
pub record IsKeptSomewhere (m : Module) (config : Settings) (so_far : Promise) (e : Event)
    : Type 0 where
  pub events : ℕ
  pub was_created : Bool
  pub stage : Stage
  pub kept : IsKept m config (record so_far { was_created = was_created; events = events }) stage e

abbrev pub AreKeptSomewhere : Module → Settings → Promise → List Event → Type 0
AreKeptSomewhere m config so_far [] = Unit {0}
AreKeptSomewhere m config so_far (e ∷ events) =
    IsKeptSomewhere m config so_far e × AreKeptSomewhere m config (after so_far e) events

-- what is promised but for the count of what has happened, and whether a creation was begun
pub but_for_count : (so_far : Promise) (b : Bool) (n : ℕ) (events : List Event)
    → promised (record so_far { was_created = b; events = n }) events
    ≡ record (promised so_far events) {
      was_created = (promised (record so_far { was_created = b; events = n }) events).was_created;
      events = (promised (record so_far { was_created = b; events = n }) events).events;
    }
but_for_count so_far b n [] = refl
but_for_count so_far b n (Told r t ∷ events) =
    but_for_count (after so_far (Told r t)) b (n + 1) events
but_for_count so_far b n (Asked steps k said fits ∷ events) =
    but_for_count (after so_far (Asked steps k said fits)) b (n + 1) events
but_for_count so_far b n (Opened held shown ∷ events) =
    but_for_count (after so_far (Opened held shown)) b (n + 1) events
but_for_count so_far b n (Ended act reply held shown ∷ events) =
    but_for_count (after so_far (Ended act reply held shown)) b (n + 1) events

module _ (m : Module) (config : Settings) where
  kept_somewhere : (so_far : Promise) (b : Bool) (n : ℕ) (stage : Stage) (events rest : List Event)
      → AreKept m config (record so_far { was_created = b; events = n }) stage events
      → AreKeptSomewhere m config (promised so_far events) rest
      → AreKeptSomewhere m config so_far (events ++ rest)
  kept_somewhere so_far b n stage [] rest kept later = later
  kept_somewhere so_far b n stage (Told r t ∷ events) rest kept later = (
    record { events = n; was_created = b; stage = stage; kept = kept.0 },
    kept_somewhere (after so_far (Told r t)) b (n + 1) (next_stage stage (Told r t)) events rest
        kept.1 later,
  )
  kept_somewhere so_far b n stage (Asked steps k said fits ∷ events) rest kept later = (
    record { events = n; was_created = b; stage = stage; kept = kept.0 },
    kept_somewhere (after so_far (Asked steps k said fits)) b (n + 1)
        (next_stage stage (Asked steps k said fits)) events rest kept.1 later,
  )
  kept_somewhere so_far b n stage (Opened held shown ∷ events) rest kept later = (
    record { events = n; was_created = b; stage = stage; kept = kept.0 },
    kept_somewhere (after so_far (Opened held shown)) b (n + 1)
        (next_stage stage (Opened held shown)) events rest kept.1 later,
  )
  kept_somewhere so_far b n stage (Ended act reply held shown ∷ events) rest kept later = (
    record { events = n; was_created = b; stage = stage; kept = kept.0 },
    kept_somewhere (after so_far (Ended act reply held shown)) b (n + 1)
        (next_stage stage (Ended act reply held shown)) events rest kept.1 later,
  )

  lives_kept : (so_far : Promise) (b : Bool) (n : ℕ) (inputs : List Inputs) (lives : List Life)
      → GoOn m config (record so_far { was_created = b; events = n }) inputs lives
      → AreKeptSomewhere m config so_far (events_of lives)
  lives_kept so_far b n [] [] goes = tt
  lives_kept so_far b n [] (life ∷ lives) goes = absurd goes
  lives_kept so_far b n (i ∷ inputs) [] goes = absurd goes
  lives_kept so_far b n (i ∷ inputs) (life ∷ lives) goes =
      let now : Bool = created_by life.begins b in
      let then : Promise = promised (record so_far { was_created = now; events = n }) life.events in
      let same : promised_by (record so_far { was_created = b; events = n }) life
      ≡ record (promised so_far life.events) {
        was_created = then.was_created;
        events = then.events + 1;
      } =
      ap (λ (z : Promise). record z { events = z.events + 1 })
      (but_for_count so_far now n life.events) in
      kept_somewhere so_far now n (at_beginning life.begins i) life.events (events_of lives)
      goes.0.kept
      (lives_kept (promised so_far life.events) then.was_created (then.events + 1) inputs lives
      (subst (λ z. GoOn m config z inputs lives) same goes.1))

  pub lives_kept_from : (so_far : Promise) (inputs : List Inputs) (lives : List Life)
      → GoOn m config so_far inputs lives → AreKeptSomewhere m config so_far (events_of lives)
  lives_kept_from so_far inputs lives goes =
      lives_kept so_far so_far.was_created so_far.events inputs lives goes

  -- ---- one text for each number

  -- what was told before agrees with all that is told after
  agrees : (so_far : Promise) (events : List Event) (r : Release) → IsValid m
      → AreKeptSomewhere m config so_far events → r.number ≤ so_far.begun
      → IsLine m config so_far.kept r.number r.line → HasOneText (told_in events) r
  agrees so_far [] r valid kept was is = tt
  agrees so_far (Told s t ∷ events) r valid kept was is = (
    λ same. one_line m config so_far.kept r.number s.line r.line valid
        (subst (λ i. IsLine m config so_far.kept i s.line) same kept.0.kept.is_line) is,
    agrees (after so_far (Told s t)) events r valid kept.1 (omega (arith, was)) is,
  )
  agrees so_far (Asked n k said fits ∷ events) r valid kept was is =
      agrees (after so_far (Asked n k said fits)) events r valid kept.1 was
      (line_of_more m config so_far.kept (kept_of_said said fits) r.number r.line is
      (said_widens_none said fits is.steps))
  agrees so_far (Opened held shown ∷ events) r valid kept was is =
      let enough = kept.0.kept.holds.lines r.number was in
      agrees (after so_far (Opened held shown)) events r valid kept.1 was
      (line_of_front m config so_far.kept r.number held enough.0 r.line valid is enough.1 enough.2)
  agrees so_far (Ended act reply held shown ∷ events) r valid kept was is =
      agrees (after so_far (Ended act reply held shown)) events r valid kept.1 was
      (line_at_end m config
      (record so_far { was_created = kept.0.was_created; events = kept.0.events }) kept.0.stage act
      reply held shown r.number r.line valid kept.0.kept was is)

  pub one_text : (so_far : Promise) (events : List Event) → IsValid m
      → AreKeptSomewhere m config so_far events → HaveOneText (told_in events)
  one_text so_far [] valid kept = tt
  one_text so_far (Told r t ∷ events) valid kept = (
    agrees (after so_far (Told r t)) events r valid kept.1 (omega arith) kept.0.kept.is_line,
    one_text (after so_far (Told r t)) events valid kept.1,
  )
  one_text so_far (Asked n k said fits ∷ events) valid kept =
      one_text (after so_far (Asked n k said fits)) events valid kept.1
  one_text so_far (Opened held shown ∷ events) valid kept =
      one_text (after so_far (Opened held shown)) events valid kept.1
  one_text so_far (Ended act reply held shown ∷ events) valid kept =
      one_text (after so_far (Ended act reply held shown)) events valid kept.1

pub no_two_texts : NoNumberHasTwoTexts
no_two_texts m config inputs lives valid goes =
    one_text m config nothing_yet (events_of lives) valid
    (lives_kept_from m config nothing_yet inputs lives goes)
