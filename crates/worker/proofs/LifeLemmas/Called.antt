-- What one call of a worker that is open makes of a life.
use Rattle.std.proofs.Common.{◌≡◌, ℕ, ◌+◌, ◌<◌, List, [], ◌∷◌, ◌++◌, refl, sym, ap, ◌∙◌}
use Rattle.std.proofs.Common.{subst, inl, inr, arith, length, length-append}
use Rattle.std.specs.Prelude.{◌⊎◌, Ok, Err, None, true}
use Rattle.std.proofs.lemmas.List.{append-nil}
use Rattle.wasm_syntax.specs.declared.module.Module.{Module}
use Rattle.wasi_abi.specs.rules.Configs.{Settings}
use Rattle.process_rules.specs.Processes.{ProcessState, Guest}
use Rattle.state_image.specs.rules.ProcessImage.{Saved}
use Rattle.state_image.specs.rules.Saving.{saved_of}
use Rattle.sector_disk.specs.rules.DiskImage.{DiskImage}
use Rattle.sector_disk.specs.rules.Medium.{Medium, Passes}
use Rattle.record_replay.specs.rules.Calls.{Exchange}
use Rattle.worker_store.specs.restart_theorem.Lives.{Act, Slice, Batch, Checkpoint, Cause}
use Rattle.worker_store.specs.restart_theorem.Lives.{OfDisk, Reply}
use Rattle.worker_store.specs.restart_theorem.Lives.{Fails, Event, Ended, told_in, kept_by_end}
use Rattle.worker_store.specs.restart_theorem.Lives.Act.{Upgrade as upgrading}
use Rattle.worker_store.specs.restart_theorem.Courses.{Stage, Open, phase_ended, stage_after}
use Rattle.worker_store.specs.restart_theorem.Courses.{without_first}
use Rattle.worker_store.specs.restart_theorem.Promises.{Promise, after, promised, IsKept, AreKept}
use Rattle.worker_store.specs.restart_theorem.Holds.{IsBounded, KeepsPromise, KeepsBounds}
use Rattle.worker_store.specs.restart_theorem.Holds.{StaysWithin}
use Rattle.worker_store.specs.restart_theorem.Exchanges.{AreEvents}
use Rattle.worker_store.specs.rules.BetweenCalls.{IsForetold}
use Rattle.worker_store.proofs.LawLemmas.Pieces.{parts_are_foretold}
use Rattle.worker_store.proofs.LawLemmas.Passing.{crashed_in_the_end}
use Rattle.record_replay.specs.declared.slices.now.Now.{Now}
use Rattle.record_replay.specs.declared.slices.now.Now.TheVariants as now
use Rattle.worker.specs.declared.fault.WorkFault.{WorkFault}
use Rattle.worker.specs.declared.fault.WorkFault.TheVariants.{Disk}
use Rattle.worker.specs.declared.recover_fault.RecoverFault.{RecoverFault}
use Rattle.worker.specs.declared.recover_fault.RecoverFault.TheVariants.{Worker}
use Rattle.worker.specs.rules.CallCounts.{CallsForEvents}
use Rattle.worker.specs.rules.DurableValues.{DurableValue}
use Rattle.worker.specs.rules.OpenWorkers.{IsOpenOn}
use Rattle.worker.specs.rules.DurableCalls.{Answered, CallCarries, ComesOf, IsFailureOf}
use Rattle.worker.specs.rules.DurableCalls.{IsReplyOf, IsReplyTo, TakesTooFew, invocation}
use Rattle.worker.specs.rules.OneLife.{HasActCause, opened_in}
use Rattle.worker.specs.laws.OneLife.{IsLater, released_in}
use Rattle.worker.proofs.CallCountLemmas.{calls_longer}
use Rattle.worker.proofs.CauseLemmas.{open_disk_cause}
use Rattle.worker.proofs.LifeLemmas.Joined.{events_as_many, stage_join, promised_join, kept_split}
use Rattle.worker.proofs.LifeLemmas.Joined.{told_join, opened_behind, told_are, none_opens}
use Rattle.worker.proofs.LifeLemmas.Joined.{acts_stay, opened_stays}

-- ---- a disk

pub later_still : (old mid new : Medium) → IsLater old mid → IsLater mid new → IsLater old new
later_still old mid new first then = record {
  sectors = then.sectors ∙ first.sectors;
  fault_plan = then.fault_plan ∙ first.fault_plan;
  room = then.room ∙ first.room;
  faults = omega (arith, first.faults, then.faults);
}

-- calls that have passed
pub passed_later : (old new : Medium) (P : DiskImage → Type 0) → Passes old new P → IsLater old new
passed_later old new P passes = record {
  sectors = passes.sectors;
  fault_plan = passes.fault_plan;
  room = passes.room;
  faults = passes.faults;
}

pub bounds_in_the_end : (latest : ℕ) (old new : Medium) → StaysWithin latest old new
    → KeepsBounds latest new
bounds_in_the_end latest old new stays image leaves =
    let passes = stays.passes in
    subst (λ (n : ℕ). IsBounded latest n image) (sym passes.sectors)
    (crashed_in_the_end old new _ stays image leaves)

-- where an error is the disk's, it has failed since then, or takes too few writes
abbrev pub HasDiskCause : Settings → RecoverFault → Medium → Medium → Type 0
HasDiskCause config (Worker (Disk fault)) old new =
    TakesTooFew config old ⊎ (old.faults < new.faults)
HasDiskCause config other old new = Unit {0}

pub cause_since : (config : Settings) (why : RecoverFault) (old mid new : Medium) → IsLater old mid
    → HasDiskCause config why mid new → HasDiskCause config why old new
cause_since config (Worker (Disk fault)) old mid new later (inl (inl few)) =
    let room = later.room in inl (inl (omega (arith, room, few)))
cause_since config (Worker (Disk fault)) old mid new later (inl (inr few)) =
    let room = later.room in inl (inr (omega (arith, room, few)))
cause_since config (Worker (Disk fault)) old mid new later (inr failed) =
    let faults = later.faults in inr (omega (arith, faults, failed))
cause_since config other old mid new later cause = tt

-- a call of a worker that is open says it of its error
pub cause_of_call : {D : Type 0} (medium : D → Medium) (m : Module) (config : Settings)
    (guest : Guest) (promise : Promise) (stage : Stage) (p : ProcessState) (act : Act)
    (w w' : DurableValue) (old new : D) (why : WorkFault)
    → IsOpenOn m config guest promise stage p w (medium old)
    → HasActCause act w why w' (medium old) (medium new)
    → HasDiskCause config (Worker why) (medium old) (medium new)
cause_of_call medium m config guest promise stage p act w w' old new (Disk fault) opened cause =
    open_disk_cause medium m config guest promise stage p w old new opened act w' fault cause
cause_of_call medium m config guest promise stage p act w w' old new other opened cause = tt

-- ---- a call without an error

slices_go : (said : Now) (reply : Reply) → IsReplyOf (Ok said) reply → phase_ended reply ≡ Open
slices_go now.Spent reply is = ap phase_ended is
slices_go now.Waiting reply is = ap phase_ended is
slices_go (now.Ended how) reply is = ap phase_ended is

pub answers_go : (act : Act) (said : Answered act) (reply : Reply) → IsReplyTo act (Ok said) reply
    → phase_ended reply ≡ Open
answers_go (Slice fuel) said reply is = slices_go said reply is
answers_go (Batch fuel most) said reply is = slices_go said reply is
answers_go Checkpoint said reply is = ap phase_ended is
answers_go upgrading said reply is = ap phase_ended is

-- what each call answers with an error
pub failure_of : (act : Act) (why : WorkFault) (reply : Reply) → IsReplyTo act (Err why) reply
    → IsFailureOf why reply
failure_of (Slice fuel) why reply is = is
failure_of (Batch fuel most) why reply is = is
failure_of Checkpoint why reply is = is
failure_of upgrading why reply is = is

module _ (m : Module) (config : Settings) (guest : Guest) (promise : Promise) (stage : Stage)
    (act : Act) (reply : Reply) (w : DurableValue) (exchanges : List Exchange) where
  -- what it leaves of a life
  pub record CallGoes (old new : Medium) : Type 0 where
    pub events : List Event
    pub kept : AreKept m config promise stage events
    pub told : told_in events ≡ released_in exchanges
    pub shut : opened_in events ≡ None
    pub process : ProcessState
    pub opened : IsOpenOn m config guest (promised promise events) (stage_after stage events)
        process w new
    pub acts : (stage_after stage events).acts ≡ without_first stage.acts
    pub keeps : KeepsPromise m config (promised promise events) new
    pub bounded : KeepsBounds (promised promise events).events new
    pub later : IsLater old new
    pub counted : CallsForEvents (length events) old new
    pub foretold : (rest : List Exchange) → IsForetold stage (exchanges ++ rest)
        → IsForetold (stage_after stage events) rest

  pub call_goes : (old new : Medium) → phase_ended reply ≡ Open
      → CallCarries (invocation m config guest act) promise stage reply w old new exchanges
      → CallGoes old new
  call_goes old new goes carries =
      let end : Event = Ended act reply carries.held (saved_of w.process) in
      let all : List Event = carries.events ++ end ∷ [] in
      let carried = carries.carried in
      let passes = carried.at_any_moment.passes in
      let again = carries.goes_on goes in
      let joined = stage_join stage carries.events (end ∷ []) in
      record {
        events = all;
        kept = carries.kept;
        told = told_join carries.events (end ∷ []) ∙ append-nil (told_in carries.events)
            ∙ told_are exchanges carries.events carries.are;
        shut = opened_behind carries.events (end ∷ [])
            (none_opens exchanges carries.events carries.are);
        process = again.0;
        opened = again.1;
        acts = ap (λ (s : Stage). s.acts) joined
            ∙ ap without_first (acts_stay stage exchanges carries.events carries.are);
        keeps = carried.in_the_end;
        bounded = bounds_in_the_end (promised promise all).events old new carries.bounded;
        later = passed_later old new _ passes;
        counted = calls_longer (length exchanges + 1) (length all) old new
            (omega (
              arith,
              length-append carries.events (end ∷ []),
              events_as_many exchanges carries.events carries.are,
            )) carries.counted;
        foretold = λ rest foretold.
            let first = parts_are_foretold m config promise (promised promise carries.events) stage
            (stage_after stage carries.events) exchanges rest foretold in
            subst (λ (s : Stage). IsForetold s rest) (sym joined) (first.0 (record {
              events = carries.events;
              are = carries.are;
              kept = (kept_split m config promise stage carries.events (end ∷ []) carries.kept).0;
              promised_is = refl;
              stage_is = refl;
            }));
      }

-- ---- a call with an error

-- what it leaves of a life, but for its end
pub record CallFails (m : Module) (config : Settings) (promise : Promise) (stage : Stage)
    (why : WorkFault) (exchanges : List Exchange) (old new : Medium) : Type 0 where
  pub events : List Event
  pub kept : AreKept m config promise stage events
  pub told : told_in events ≡ released_in exchanges
  pub shut : opened_in events ≡ None
  pub act : Act
  pub cause : Cause
  pub held : ℕ
  pub shown : Saved
  pub ended : IsKept m config (promised promise events) (stage_after stage events)
      (Ended act (Fails cause) held shown)
  pub is : ComesOf why cause
  pub has_opened : (promised promise events).has_opened ≡ true
  pub keeps : KeepsPromise m config
      (after (promised promise events) (Ended act (Fails cause) held shown)) new
  pub bounded : KeepsBounds ((promised promise events).events + 1) new
  pub disk : HasDiskCause config (Worker why) old new
  pub widens : (cause ≡ OfDisk → ⊥)
      → kept_by_end act shown (promised promise events).kept ≡ (promised promise events).kept
  pub later : IsLater old new
  pub counted : CallsForEvents (length events + 1) old new

pub call_fails : (m : Module) (config : Settings) (guest : Guest) (promise : Promise)
    (stage : Stage) (act : Act) (cause : Cause) (why : WorkFault) (w : DurableValue)
    (exchanges : List Exchange) (old new : Medium) → ComesOf why cause
    → ((events : List Event) → AreEvents exchanges events → (cause ≡ OfDisk → ⊥)
    → kept_by_end act (saved_of w.process) (promised promise events).kept
    ≡ (promised promise events).kept)
    → HasDiskCause config (Worker why) old new → promise.has_opened ≡ true
    → CallCarries (invocation m config guest act) promise stage (Fails cause) w old new exchanges
    → CallFails m config promise stage why exchanges old new
call_fails m config guest promise stage act cause why w exchanges old new is widens disk opened
    carries =
    let end : Event = Ended act (Fails cause) carries.held (saved_of w.process) in
    let split = kept_split m config promise stage carries.events (end ∷ []) carries.kept in
    let joined = promised_join promise carries.events (end ∷ []) in
    let carried = carries.carried in
    record {
      events = carries.events;
      kept = split.0;
      told = told_are exchanges carries.events carries.are;
      shut = none_opens exchanges carries.events carries.are;
      act = act;
      cause = cause;
      held = carries.held;
      shown = saved_of w.process;
      ended = split.1.0;
      is = is;
      has_opened = opened_stays promise exchanges carries.events carries.are ∙ opened;
      keeps = subst (λ (p : Promise). KeepsPromise m config p new) joined carried.in_the_end;
      bounded = subst (λ (p : Promise). KeepsBounds p.events new) joined
          (bounds_in_the_end _ old new carries.bounded);
      disk = disk;
      widens = widens carries.events carries.are;
      later = passed_later old new _ carried.at_any_moment.passes;
      counted = calls_longer (length exchanges + 1) (length carries.events + 1) old new
          (omega (arith, events_as_many exchanges carries.events carries.are)) carries.counted;
    }
