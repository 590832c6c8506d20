-- Room is made, and the source is asked.
use Rattle.std.proofs.Common.{◌≡◌, ◌⊎◌, ℕ, ◌+◌, ◌≤◌, List, [], refl, sym, ap, ◌∙◌, subst, inl}
use Rattle.std.proofs.Common.{⊎_elim, arith, Bool, true, false, Some, None, Ok, Err}
use Rattle.std.specs.Prelude.{OnOk, Result}
use Rattle.wasi_abi.specs.declared.answer.Question.{Question}
use Rattle.wasi_abi.specs.declared.answer.Answer.{Answer}
use Rattle.sector_disk.specs.rules.Medium.{Medium}
use Rattle.record_replay.specs.declared.fault.SourceFault.{SourceFault}
use Rattle.record_replay.specs.rules.Calls.{Giving, Begun, Exchange}
use Rattle.worker_store.specs.restart_theorem.Lives.{Reply, Fails, Waits, SourceSaid, OfSource}
use Rattle.worker_store.specs.restart_theorem.Courses.{Stage}
use Rattle.worker_store.specs.restart_theorem.Promises.{Promise}
use Rattle.worker_store.specs.restart_theorem.Holds.{StaysWithin}
use Rattle.process_rules.specs.Processes.{ProcessState}
use Rattle.worker_store.specs.laws.Turns.{GoesOnFrom, LeavesBegun}
use Rattle.worker_store.proofs.LawLemmas.TurnLemmas.{turns_join, parts_leave_begun}
use Rattle.record_replay.specs.declared.slices.fault.SliceFault.{SliceFault}
use Rattle.record_replay.specs.declared.slices.fault.SliceFault.TheVariants as slice
use Rattle.worker.specs.declared.fault.WorkFault.{WorkFault}
use Rattle.worker.specs.declared.fault.WorkFault.TheVariants.{Work}
use Rattle.worker.specs.declared.running_worker.RunningWorker.{RunningWorker}
use Rattle.record_replay.specs.Turns.{AsksOnce, AnswersBy}
use Rattle.worker.specs.DurableTurns.{Course, TurnGoes, TurnEnds, TurnFails, slice_end, MakesRoom}
use Rattle.worker.specs.DurableTurns.{MakesNoRoom, asks_once, TakesOnRecord, IsAskingOn, TakesNone}
use Rattle.worker.specs.DurableTurns.{LacksRecord, IsNotTaken, IsMisfit, HearsBy, Hears, AsksTurn}
use Rattle.worker.specs.DurableTurns.{running_on, asking_scene}
use Rattle.worker.proofs.AbreastLemmas.{abreast_now, asking_is_still, none_beyond}
use Rattle.worker.proofs.DurableLemmas.Advancing.{says_abreast}
use Rattle.worker.proofs.DurableLemmas.Bounds.{bounds_join, question_counts}
use Rattle.worker.proofs.DurableLemmas.Hearing.{waits_once, source_fails, misfits}
use Rattle.worker.proofs.DurableLemmas.Hearing.{lacks_record, not_taken, taken}

-- ---- behind a part without exchanges

module _ {D : Type 0} (medium : D → Medium) (c : Course) (promise : Promise) (stage : Stage)
    (exchanges : List Exchange) (w : RunningWorker) (disk mid disk' : D)
    (goes : GoesOnFrom c.code c.config promise promise (medium disk) (medium mid))
    (bounded : StaysWithin (promise.events + 1) (medium disk) (medium mid)) where
  pub goes_behind : (lines_held : List Begun)
      (turn : TurnGoes c promise stage exchanges lines_held w (medium mid) (medium disk'))
      → promise.events + 1 ≤ turn.promise'.events
      → TurnGoes c promise stage exchanges lines_held w (medium disk) (medium disk')
  goes_behind lines_held turn counts = record {
    promise' = turn.promise';
    stage' = turn.stage';
    process = turn.process;
    done = turn.done;
    onward = turns_join medium c.code c.config promise promise turn.promise' disk mid disk' goes
        turn.onward;
    bounded = bounds_join (promise.events + 1) turn.promise'.events (medium disk) (medium mid)
        (medium disk') counts bounded turn.bounded;
    running = turn.running;
  }

  ends_behind : (reply : Reply)
      → TurnEnds c promise stage reply exchanges w (medium mid) (medium disk')
      → TurnEnds c promise stage reply exchanges w (medium disk) (medium disk')
  ends_behind reply turn = record {
    between = turn.between;
    inside = turn.inside;
    held = turn.held;
    done = turn.done;
    ending = turn.ending;
    onward = turns_join medium c.code c.config promise promise
        (slice_end turn.between reply turn.held w) disk mid disk' goes turn.onward;
    bounded = bounds_join (promise.events + 1) (turn.between.events + 1) (medium disk)
        (medium mid) (medium disk') (one_on begun.events) bounded turn.bounded;
    keeps = turn.keeps;
    goes_on = turn.goes_on;
  }
    where
      begun : LeavesBegun promise turn.between stage turn.inside
      begun = parts_leave_begun c.code c.config promise turn.between stage turn.inside exchanges
          turn.done

      one_on : promise.events ≤ turn.between.events → promise.events + 1 ≤ turn.between.events + 1
      one_on le = omega (arith, le)

  pub fails_behind : (why : WorkFault)
      → TurnFails c promise stage why exchanges w (medium mid) (medium disk')
      → TurnFails c promise stage why exchanges w (medium disk) (medium disk')
  fails_behind why turn = (turn.0, turn.1, ends_behind (Fails turn.0) turn.2)

-- ---- no line is beyond a process that asks

module _ {D : Type 0} (medium : D → Medium) where
  -- so the worker may say it
  said_asking : (c : Course) (promise : Promise) (stage : Stage) (p : ProcessState)
      (question : Question) (latest : ℕ) (lines_held : List Begun) (w : RunningWorker) (disk : D)
      → IsAskingOn c promise stage p question latest (running_on lines_held w (medium disk))
      → IsAskingOn c promise stage p question latest
      (running_on lines_held (says_abreast w) (medium disk))
  said_asking c promise stage p question latest lines_held w disk asking =
      let there = asking.running in
      record {
        running = record {
          opened = there.opened;
          texts = there.texts;
          shows = there.shows;
          module_is = there.module_is;
          told = there.told;
          counted = there.counted;
          queued = there.queued;
          way = there.way;
          began = there.began;
          on_disk = there.on_disk;
          synced = there.synced;
          abreast = abreast_now promise stage p
              (none_beyond medium c.code c.config c.guest promise p p.steps latest w.store disk
              there.on_disk (asking_is_still c.guest p question asking.wants));
        };
        few = asking.few;
        none_waits = asking.none_waits;
        unended = asking.unended;
        wants = asking.wants;
        room = asking.room;
      }

  pub room_said : (old mid : RunningWorker) (disk disk' : D)
      → MakesRoom old mid (medium disk) (medium disk')
      → MakesRoom old (says_abreast mid) (medium disk) (medium disk')
  room_said old mid disk disk' makes c promise stage p question lines_held asking free =
      let made = makes c promise stage p question lines_held asking free in (
        said_asking c promise stage p question (promise.events + 1) lines_held mid disk' made.0,
        made.1,
        made.2,
        made.3,
      )

-- ---- the source is asked

module _ {D S : Type 0} (medium : D → Medium) (gives : Giving S) (old mid new : RunningWorker)
    (question : Question) (step : ℕ) (disk disk' : D) (source source' : S)
    (makes : MakesRoom old mid (medium disk) (medium disk')) (same : mid.process ≡ old.process)
    (says : mid.is_abreast ≡ true) (step_is : step ≡ old.process.steps + 1) where
  fails_so : (e : SourceFault) → gives source question (Err e) source' → new ≡ mid
      → AsksTurn medium gives question (asking_scene old disk source) (Err (Work slice.Source))
      (asking_scene new disk' source')
  fails_so e asked still = (
    asks_once question (Err e),
    (refl, asked),
    λ c promise stage p asking foretold.
        let made = makes c promise stage p question [] asking (inl refl) in
        fails_behind medium c promise stage (asks_once question (Err e)) new disk disk' disk' made.2
        made.3 (Work slice.Source) (
          OfSource,
          inl refl,
          subst (λ w. TurnEnds c promise stage (Fails OfSource) (asks_once question (Err e)) w
              (medium disk') (medium disk')) (sym still)
              (source_fails medium c promise stage p question [] mid disk' made.0 says e foretold),
        ),
  )

  waits_so : gives source question (Ok None) source' → new ≡ mid
      → AsksTurn medium gives question (asking_scene old disk source) (Ok false)
      (asking_scene new disk' source')
  waits_so asked still = (
    asks_once question (Ok None),
    (refl, asked),
    λ c promise stage p asking foretold.
        let made = makes c promise stage p question [] asking (inl refl) in
        ends_behind medium c promise stage (asks_once question (Ok None)) new disk
        disk' disk' made.2 made.3 Waits
        (subst (λ w. TurnEnds c promise stage Waits (asks_once question (Ok None)) w (medium disk')
        (medium disk')) (sym still)
        (waits_once medium c promise stage p question [] mid disk' made.0 says refl foretold)),
    refl,
  )

  takes_so : (a : Answer) → gives source question (Ok (Some a)) source'
      → TakesOnRecord mid question (record { step = step; answer = a }) new
      → AsksTurn medium gives question (asking_scene old disk source) (Ok true)
      (asking_scene new disk' source')
  takes_so a asked takes = (
    asks_once question (Ok (Some a)),
    (refl, asked),
    λ c promise stage p asking foretold.
        let made = makes c promise stage p question [] asking (inl refl) in
        let running = asking.running in
        let shows = running.shows in
        let steps : old.process.steps ≡ p.steps = shows.steps in
        let turn = taken medium c promise stage p question [] mid disk' made.0 says a foretold step
        new
        (step_is ∙ ap (λ n. n + 1) steps) takes in
        goes_behind medium c promise stage (asks_once question (Ok (Some a))) new disk disk' disk'
        made.2 made.3 [] turn
        (question_counts c.code c.config promise turn.promise' stage turn.stage'
        (record { question = question; said = Ok (Some a) }) turn.done),
    refl,
  )

  takes_none : (a : Answer) (why : WorkFault) → gives source question (Ok (Some a)) source'
      → TakesNone mid question (record { step = step; answer = a }) why new
      → AsksTurn medium gives question (asking_scene old disk source) (Err why)
      (asking_scene new disk' source')
  takes_none a why asked none = (
    asks_once question (Ok (Some a)),
    (refl, asked),
    λ c promise stage p asking foretold.
        let made = makes c promise stage p question [] asking (inl refl) in
        fails_behind medium c promise stage (asks_once question (Ok (Some a))) new disk disk' disk'
        made.2 made.3 why (⊎_elim
        (λ (h : IsMisfit mid question (record { step = step; answer = a }) why new).
        misfits medium c promise stage p question [] mid disk' made.0 says a foretold step why new
        h)
        (λ (rest : LacksRecord mid question (record { step = step; answer = a }) why new
        ⊎ IsNotTaken mid question (record { step = step; answer = a }) why new).
        ⊎_elim
        (λ (h : LacksRecord mid question (record { step = step; answer = a }) why new).
        lacks_record medium c promise stage p question [] mid disk' made.0 says a foretold step
        why new made.1 h)
        (λ (h : IsNotTaken mid question (record { step = step; answer = a }) why new).
        not_taken medium c promise stage p question [] mid disk' made.0 says a foretold step why new
        h)
        rest) none),
  )

  hears_so : (said : SourceSaid) (result : Result Bool WorkFault)
      → gives source question said source' → HearsBy mid question step said result new
      → AsksTurn medium gives question (asking_scene old disk source) result
      (asking_scene new disk' source')
  hears_so (Err e) result asked h =
      subst (λ r. AsksTurn medium gives question (asking_scene old disk source) r
      (asking_scene new disk' source'))
      (sym h.0) (fails_so e asked h.1)
  hears_so (Ok None) result asked h =
      subst (λ r. AsksTurn medium gives question (asking_scene old disk source) r
      (asking_scene new disk' source'))
      (sym h.0) (waits_so asked h.1)
  hears_so (Ok (Some a)) (Ok is_there) asked h =
      subst (λ b. AsksTurn medium gives question (asking_scene old disk source) (Ok b)
      (asking_scene new disk' source')) (sym h.0) (takes_so a asked h.1)
  hears_so (Ok (Some a)) (Err why) asked h = takes_none a why asked h

  pub asks_turn : (result : Result Bool WorkFault)
      → Hears gives mid question step result new source source'
      → AsksTurn medium gives question (asking_scene old disk source) result
      (asking_scene new disk' source')
  asks_turn result h = hears_so h.said result h.asked h.hears

-- The worker still says so where the source has answered, or has none.
heard_abreast : (old : RunningWorker) (question : Question) (step : ℕ) (said : SourceSaid)
    (is_there : Bool) (new : RunningWorker) → HearsBy old question step said (Ok is_there) new
    → new.is_abreast ≡ old.is_abreast
heard_abreast old question step (Err e) is_there new h =
    ap (λ (w : RunningWorker). w.is_abreast) h.1
heard_abreast old question step (Ok None) is_there new h =
    ap (λ (w : RunningWorker). w.is_abreast) h.1
heard_abreast old question step (Ok (Some a)) is_there new h =
    let takes = h.1 in takes.abreast_same

pub hears_abreast : {S : Type 0} (gives : Giving S) (old new : RunningWorker)
    (question : Question) (step : ℕ) (result : Result Bool WorkFault) (source source' : S)
    → Hears gives old question step result new source source'
    → OnOk result (new.is_abreast ≡ old.is_abreast)
hears_abreast gives old new question step (Ok is_there) source source' h =
    heard_abreast old question step h.said is_there new h.hears
hears_abreast gives old new question step (Err why) source source' h = tt

-- no room was made
pub asks_nothing : {D S : Type 0} (medium : D → Medium) (gives : Giving S) (old new : RunningWorker)
    (question : Question) (why : WorkFault) (disk disk' : D) (source : S)
    → MakesNoRoom old why new (medium disk) (medium disk')
    → AsksTurn medium gives question (asking_scene old disk source) (Err why)
    (asking_scene new disk' source)
asks_nothing medium gives old new question why disk disk' source none = (
  [],
  refl,
  λ c promise stage p asking foretold.
      none c promise stage p question [] asking (inl refl),
)

-- ---- as it is without a disk

false_there : (b : Bool) → ◌≡◌ {A = Result Bool WorkFault} (Ok b) (Ok false)
    → ◌≡◌ {A = Result Bool SliceFault} (Ok b) (Ok false)
false_there b e = let is : b ≡ false = cc in ap (λ z. Ok z) is

once_by : {S : Type 0} (gives : Giving S) (old new : RunningWorker) (question : Question) (step : ℕ)
    (is_there : Bool) (said : SourceSaid) → HearsBy old question step said (Ok is_there) new
    → AnswersBy old.process said (Ok is_there) new.process
once_by gives old new question step is_there (Err e) h = absurd (let same = h.0 in cc)
once_by gives old new question step is_there (Ok None) h =
    (false_there is_there h.0, ap (λ (w : RunningWorker). w.process) h.1)
once_by gives old new question step is_there (Ok (Some a)) h =
    let takes = h.1 in (Ok tt, takes.given, ap (λ b. Ok b) h.0)

pub asks_once_of : {S : Type 0} (gives : Giving S) (old mid new : RunningWorker)
    (question : Question) (step : ℕ) (is_there : Bool) (source source' : S)
    → mid.process ≡ old.process → Hears gives mid question step (Ok is_there) new source source'
    → AsksOnce gives question old.process (Ok is_there) new.process source source'
asks_once_of gives old mid new question step is_there source source' same h =
    subst (λ v. AsksOnce gives question v (Ok is_there) new.process source source') same (record {
      said = h.said;
      asked = h.asked;
      answers = once_by gives mid new question step is_there h.said h.hears;
    })
