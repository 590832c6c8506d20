-- What calls of a worker that is open, one after another, make of a life.
use Rattle.std.proofs.Common.{◌≡◌, ℕ, ◌+◌, List, [], ◌∷◌, ◌++◌, refl, sym, ap, ◌∙◌}
use Rattle.std.proofs.Common.{subst, arith, length, length-append}
use Rattle.std.specs.Prelude.{Result, Ok, Err, None, true}
use Rattle.wasm_syntax.specs.declared.module.Module.{Module}
use Rattle.wasi_abi.specs.rules.Configs.{Settings}
use Rattle.process_rules.specs.Processes.{ProcessState, Guest}
use Rattle.state_image.specs.rules.ProcessImage.{Saved}
use Rattle.sector_disk.specs.rules.Medium.{Medium}
use Rattle.record_replay.specs.rules.Calls.{Giving, Taking, Exchange, Exchanges}
use Rattle.record_replay.proofs.Following.{exchanges_join}
use Rattle.worker_store.specs.restart_theorem.Lives.{Act, Cause, OfDisk, Reply, Fails, Event, Ended}
use Rattle.worker_store.specs.restart_theorem.Lives.{told_in, kept_by_end}
use Rattle.worker_store.specs.restart_theorem.Courses.{Stage, Open, stage_after, without_first}
use Rattle.worker_store.specs.restart_theorem.Promises.{Promise, after, promised, IsKept, AreKept}
use Rattle.worker_store.specs.restart_theorem.Holds.{KeepsPromise, KeepsBounds}
use Rattle.worker_store.proofs.RestartLemmas.Promised.{calls_join}
use Rattle.worker_store.specs.laws.Laws.{ProcessImagesFitAreas}
use Rattle.worker_store.specs.rules.BetweenCalls.{IsForetold}
use Rattle.worker_store.proofs.LawLemmas.Pieces.{parts_are_foretold}
use Rattle.worker.specs.declared.fault.WorkFault.{WorkFault}
use Rattle.worker.specs.declared.recover_fault.RecoverFault.{RecoverFault}
use Rattle.worker.specs.declared.recover_fault.RecoverFault.TheVariants.{Worker}
use Rattle.worker.specs.rules.CallCounts.{CallsForEvents}
use Rattle.worker.specs.rules.DurableValues.{DurableValue}
use Rattle.worker.specs.rules.OpenWorkers.{IsOpenOn}
use Rattle.worker.specs.rules.DurableCalls.{CallCarries, invocation}
use Rattle.worker.specs.rules.OneLife.{CallsInOrder, no_more, called, call_failed, IsCauseOf}
use Rattle.worker.specs.rules.OneLife.{opened_in}
use Rattle.worker.specs.rules.Scenes.{Scene, Surroundings}
use Rattle.worker.specs.laws.OneLife.{IsLater, released_in}
use Rattle.worker.proofs.CallCountLemmas.{calls_none, calls_then}
use Rattle.worker.proofs.LifeLemmas.Joined.{told_join, released_join, opened_behind}
use Rattle.worker.proofs.LifeLemmas.Called.{later_still, HasDiskCause, cause_since}
use Rattle.worker.proofs.LifeLemmas.Called.{CallFails, CallGoes, answers_go, call_fails, call_goes}
use Rattle.worker.proofs.LifeLemmas.Called.{cause_of_call, failure_of}
use Rattle.worker.proofs.LifeLemmas.Saving.{call_widens_none}

module _ (m : Module) (config : Settings) where
  -- no call has failed
  pub record IsGoing (promise : Promise) (stage : Stage) (acts : List Act) (last : Medium) : Type 0
    where
      pub phase : stage.phase ≡ Open
      pub acts_are : stage.acts ≡ acts
      pub keeps : KeepsPromise m config promise last
      pub bounded : KeepsBounds promise.events last

  -- one has, which ends so
  pub record HasBroken (promise : Promise) (stage : Stage) (why : RecoverFault) (old last : Medium)
      : Type 0 where
    pub act : Act
    pub cause : Cause
    pub held : ℕ
    pub shown : Saved
    pub ended : IsKept m config promise stage (Ended act (Fails cause) held shown)
    pub is : IsCauseOf why cause
    pub has_opened : promise.has_opened ≡ true
    pub keeps : KeepsPromise m config (after promise (Ended act (Fails cause) held shown)) last
    pub bounded : KeepsBounds (promise.events + 1) last
    pub disk : HasDiskCause config why old last
    pub widens : (cause ≡ OfDisk → ⊥) → kept_by_end act shown promise.kept ≡ promise.kept

  abbrev pub ComeTo : Promise → Stage → Result (List Act) RecoverFault → Medium → Medium → Type 0
  ComeTo promise stage (Ok acts) old last = IsGoing promise stage acts last
  ComeTo promise stage (Err why) old last = HasBroken promise stage why old last

  -- the events of calls, but for the end of one that failed
  pub record CallsMake (promise : Promise) (stage : Stage) (exchanges : List Exchange)
      (undone : Result (List Act) RecoverFault) (old last : Medium) : Type 0 where
    pub events : List Event
    pub kept : AreKept m config promise stage events
    pub told : told_in events ≡ released_in exchanges
    pub shut : opened_in events ≡ None
    pub come : ComeTo (promised promise events) (stage_after stage events) undone old last
    pub later : IsLater old last
    pub counted : CallsForEvents (length events + 1) old last

  pub come_since : (promise : Promise) (stage : Stage) (undone : Result (List Act) RecoverFault)
      (old mid last : Medium) → IsLater old mid → ComeTo promise stage undone mid last
      → ComeTo promise stage undone old last
  come_since promise stage (Ok acts) old mid last later come = come
  come_since promise stage (Err why) old mid last later come =
      record {
        act = come.act;
        cause = come.cause;
        held = come.held;
        shown = come.shown;
        ended = come.ended;
        is = come.is;
        has_opened = come.has_opened;
        keeps = come.keeps;
        bounded = come.bounded;
        disk = cause_since config why old mid last later come.disk;
        widens = come.widens;
      }

  -- a call without an error, and those after it
  calls_on : (guest : Guest) (promise : Promise) (stage : Stage) (act : Act) (reply : Reply)
      (w : DurableValue) (first rest : List Exchange) (undone : Result (List Act) RecoverFault)
      (old mid last : Medium)
      → (call : CallGoes m config guest promise stage act reply w first old mid)
      → CallsMake (promised promise call.events) (stage_after stage call.events) rest
      undone mid last → CallsMake promise stage (first ++ rest) undone old last
  calls_on guest promise stage act reply w first rest undone old mid last call more =
      let joined = calls_join m config promise stage call.events more.events call.kept more.kept in
      record {
        events = call.events ++ more.events;
        kept = joined.0;
        told = told_join call.events more.events
            ∙ ap (λ l. l ++ told_in more.events) call.told
            ∙ ap (λ l. released_in first ++ l) more.told ∙ sym (released_join first rest);
        shut = opened_behind call.events more.events call.shut ∙ more.shut;
        come = come_since _ _ undone old mid last call.later
            (subst (λ (p : Promise). ComeTo p (stage_after stage (call.events
            ++ more.events)) undone mid last) (sym joined.1)
            (subst (λ (s : Stage). ComeTo (promised (promised promise call.events) more.events) s
            undone mid last) (sym joined.2) more.come));
        later = later_still old mid last call.later more.later;
        counted = (let still = call.later in
            calls_then (length call.events) (length more.events + 1)
            (length (call.events ++ more.events) + 1) old mid last still.sectors call.counted
            more.counted (omega (arith, length-append call.events more.events)));
      }

  -- the call that failed
  calls_end : (promise : Promise) (stage : Stage) (why : WorkFault) (exchanges : List Exchange)
      (old last : Medium) → CallFails m config promise stage why exchanges old last
      → CallsMake promise stage exchanges (Err (Worker why)) old last
  calls_end promise stage why exchanges old last call = record {
    events = call.events;
    kept = call.kept;
    told = call.told;
    shut = call.shut;
    come = record {
      act = call.act;
      cause = call.cause;
      held = call.held;
      shown = call.shown;
      ended = call.ended;
      is = call.is;
      has_opened = call.has_opened;
      keeps = call.keeps;
      bounded = call.bounded;
      disk = call.disk;
      widens = call.widens;
    };
    later = call.later;
    counted = call.counted;
  }

-- what calls exchange with source and outlet, and what they make of any life that they are in
abbrev pub CallsComeOut : {S O : Type 0} → Giving S → Taking O → List Act → DurableValue
    → Result (List Act) RecoverFault → Medium → Medium → S → S → O → O → Type 0
CallsComeOut gives takes acts w undone disk last source source' outlet outlet' =
    (exchanges : List Exchange) × Exchanges gives takes source outlet exchanges source' outlet'
    × ((m : Module) (config : Settings) (guest : Guest) (promise : Promise) (stage : Stage)
    (p : ProcessState) → IsOpenOn m config guest promise stage p w disk → stage.acts ≡ acts
    → IsForetold stage exchanges → KeepsPromise m config promise disk
    → KeepsBounds promise.events disk → CallsMake m config promise stage exchanges undone disk last)

none_called : (m : Module) (config : Settings) (guest : Guest) (promise : Promise) (stage : Stage)
    (p : ProcessState) (acts : List Act) (w : DurableValue) (disk : Medium)
    → IsOpenOn m config guest promise stage p w disk → stage.acts ≡ acts
    → KeepsPromise m config promise disk → KeepsBounds promise.events disk
    → CallsMake m config promise stage [] (Ok acts) disk disk
none_called m config guest promise stage p acts w disk open_on acts_are keeps bounded =
    let between = open_on.between in
    record {
      events = [];
      kept = tt;
      told = refl;
      shut = refl;
      come = record {
        phase = between.is_open;
        acts_are = acts_are;
        keeps = keeps;
        bounded = bounded;
      };
      later = record { sectors = refl; fault_plan = refl; room = refl; faults = omega arith };
      counted = calls_none 1 disk;
    }

-- what is next of a call that was done
call_then : (m : Module) (config : Settings) (guest : Guest) (promise : Promise) (stage : Stage)
    (act : Act) (reply : Reply) (acts : List Act) (w : DurableValue) (first rest : List Exchange)
    (undone : Result (List Act) RecoverFault) (old mid last : Medium) → stage.acts ≡ act ∷ acts
    → IsForetold stage (first ++ rest)
    → CallGoes m config guest promise stage act reply w first old mid
    → ((promise' : Promise) (stage' : Stage) (q : ProcessState)
    → IsOpenOn m config guest promise' stage' q w mid → stage'.acts ≡ acts
    → IsForetold stage' rest → KeepsPromise m config promise' mid
    → KeepsBounds promise'.events mid
    → CallsMake m config promise' stage' rest undone mid last)
    → CallsMake m config promise stage (first ++ rest) undone old last
call_then m config guest promise stage act reply acts w first rest undone old mid last acts_are
    foretold call more =
    calls_on m config guest promise stage act reply w first rest undone old mid last call
    (more (promised promise call.events) (stage_after stage call.events) call.process call.opened
    (call.acts ∙ ap without_first acts_are) (call.foretold rest foretold) call.keeps call.bounded)

module _ {D S O : Type 0} (medium : D → Medium) (gives : Giving S) (takes : Taking O)
    (fit : ProcessImagesFitAreas) where
  pub calls_make : (acts : List Act) (before : Scene D S O)
      (undone : Result (List Act) RecoverFault) (last : Surroundings D S O)
      → CallsInOrder medium gives takes acts before undone last
      → CallsComeOut gives takes acts before.worker undone (medium before.disk) (medium last.disk)
      before.source last.source before.outlet last.outlet
  calls_make acts before undone last no_more = (
    [],
    record { asked = refl; released = refl },
    λ m config guest promise stage p open_on acts_are foretold keeps bounded.
        none_called m config guest promise stage p acts before.worker (medium before.disk) open_on
        acts_are keeps bounded,
  )
  calls_make acts before undone last (called {act = act} {acts = others} {after = mid} said call
      more) =
      let rest = calls_make others mid undone last more in (
        call.0 ++ rest.0,
        exchanges_join gives takes before.source last.source mid.source before.outlet last.outlet
            mid.outlet call.0 rest.0 call.1 rest.1,
        λ m config guest promise stage p open_on acts_are foretold keeps bounded.
            let first = parts_are_foretold m config promise promise stage stage call.0 rest.0
            foretold in
            let did = call.2 m config guest promise stage p others open_on acts_are first.1 in
            call_then m config guest promise stage act did.0 others mid.worker call.0 rest.0
            undone (medium before.disk) (medium mid.disk) (medium last.disk) acts_are foretold
            (call_goes m config guest promise stage act did.0 mid.worker call.0
            (medium before.disk) (medium mid.disk) (answers_go act said did.0 did.1) did.3)
            (rest.2 m config guest),
      )
  calls_make acts before undone last
      (call_failed {act = act} {acts = others} {after = after} {why = why} call fails) = (
        call.0,
        call.1,
        λ m config guest promise stage p open_on acts_are foretold keeps bounded.
            let did = call.2 m config guest promise stage p others open_on acts_are foretold in
            let failure = failure_of act why did.0 did.1 in
            calls_end m config promise stage why call.0 (medium before.disk) (medium after.disk)
            (call_fails m config guest promise stage act failure.0 why after.worker call.0
            (medium before.disk) (medium after.disk) failure.1
            (call_widens_none medium m config guest promise stage p before.worker after.worker why
            failure.0 before.disk after.disk open_on failure.1 fit act fails call.0 call.3)
            (cause_of_call medium m config guest promise stage p act before.worker after.worker
            before.disk after.disk why open_on fails.cause) open_on.opened
            (subst (λ (r : Reply). CallCarries (invocation m config guest act) promise stage r
            after.worker (medium before.disk) (medium after.disk) call.0) failure.2 did.3)),
      )
