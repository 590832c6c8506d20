-- From the calls of a worker on its disk to what a run of it says.
use Rattle.std.proofs.Common.{◌≡◌, ◌≢◌, inl, inr, ℕ, Bool, List, Option, None, Ok, Err, refl, sym}
use Rattle.std.proofs.Common.{◌∙◌, subst}
use Rattle.std.specs.Prelude.{Result, IfOk, IfSome}
use Rattle.std.proofs.lemmas.Result.{IfErr-weaker}
use Rattle.sector_disk.specs.declared.fault.DiskFault.{DiskFault}
use Rattle.sector_disk.specs.rules.Medium.{Medium}
use Rattle.record_replay.specs.rules.Calls.{Taking, AnswersInOrder}
use Rattle.record_replay.specs.declared.slices.now.Now.{Now}
use Rattle.record_replay.specs.declared.slices.now.Now.TheVariants as now
use Rattle.worker.specs.declared.fault.WorkFault.{WorkFault}
use Rattle.worker.specs.declared.fault.WorkFault.TheVariants as work
use Rattle.worker.specs.declared.recover_fault.RecoverFault.{RecoverFault}
use Rattle.worker.specs.declared.recover_fault.RecoverFault.TheVariants as recover
use Rattle.worker.specs.rules.DurableValues.{DurableValue}
use Rattle.worker.specs.rules.Outlets.{HeedsOutlet, IsOutletFault, SaysOutletFault}
use Rattle.worker.specs.rules.Effects.{RecoversWorker}
use Rattle.worker.specs.rules.Recoveries.{IsNoWorker}
use Rattle.worker.specs.rules.ShownDisks.{Recovers}
use Rattle.worker.proofs.OutletLemmas.{heeds_on, each_taken}
use Rattle.worker.specs.rules.OneLife.{CallsInOrder, recovered, opened, unopened}
use Rattle.command_words.specs.declared.lines.fault.LineFault.{LineFault}
use Rattle.command_words.specs.declared.lines.outside.Outside.{Outside}
use Rattle.command_words.specs.Lines.Answers.{SourceState, source_state}
use Rattle.command_words.specs.rules.Printers.{PrinterState, IsSaid, TellsPerson}
use Rattle.command_words.specs.declared.status.Status.{Status}
use Rattle.disk_commands.specs.declared.on_disk.fault.OnDiskFault.{OnDiskFault}
use Rattle.worker.specs.rules.Scenes.{scene, surroundings}
use Rattle.disk_layout.specs.rules.Stored.{OnlyReads}
use Rattle.disk_commands.specs.Livings.{undone_after, LivesAtPace, HasGoneOn, LooksBehind, SaysGone}
use Rattle.disk_commands.specs.rules.BrokenLives.{BreaksOffFrom, steps_among}
use Rattle.disk_commands.specs.rules.DiskStatuses.{IsReportedOnDisk, opening_fault, status_on_disk}
use Rattle.disk_commands.specs.rules.LastWords.{SaysOver, ended_by}
use Rattle.worker.specs.rules.Outcomes.{outcome_after}
use Rattle.disk_commands.specs.rules.ServedOnDisk.{DiskJob, act_given, source_behind, handing}
use Rattle.disk_commands.specs.rules.ServedOnDisk.{IsOnlySynced, IsUnopenedRun, LivesOnDisk}
use Rattle.disk_commands.specs.rules.ServedOnDisk.{RunStart, RunEnd, ServesOnDisk, ending_on}
use Rattle.disk_commands.specs.rules.ServedOnDisk.{recovered_line}
use Rattle.disk_commands.specs.rules.TrapFrames.{IsModuleOn}
use Rattle.disk_commands.specs.rules.ServedOnDisk.{unopened as is_unopened, over, broken}
use Rattle.disk_commands.proofs.LivingLemmas.{carried_over}
use Rattle.disk_commands.proofs.ShownLemmas.{gives_so, asked_so, calls_so, outcome_so, broken_so}

-- ---- an open worker

-- where a source is that goes on after the requests that a worker has taken
module _ {R : Type 0} (unread : R → Option (List ℕ)) (failed : R → Bool) where
  pub is_behind : {outside outside' : Outside} {limit limit' stream stream' taken taken' place : ℕ}
      {reader reader' : R} {found : Option LineFault} → outside ≡ outside' → limit ≡ limit'
      → stream ≡ stream' → taken ≡ taken' → place ≡ 0 → reader ≡ reader' → found ≡ None
      → source_state outside limit stream taken place (unread reader) (failed reader) found
      ≡ source_state outside' limit' stream' taken' 0 (unread reader') (failed reader') None
  is_behind same long first behind start is unspoilt =
      rw (same, long, first, behind, start, is, unspoilt) refl

module _ {D S O : Type 0} (medium : D → Medium) (state_of : S
    → SourceState) (takes : Taking O) where
  -- where it has failed, seen by where its source is
  breaks_so : (given : DiskJob) (w : DurableValue) (disk : D) (all : ℕ) (s t : S) (o p : O)
      (why : WorkFault) → state_of s ≡ source_behind given w
      → BreaksOffFrom (gives_so state_of handing takes) takes (act_given given) all
      (scene w disk s o) why t p → BreaksOffFrom handing takes (act_given given) all
      (scene w disk (source_behind given w) o) why (state_of t) p
  breaks_so given w disk all s t o p why is breaks =
      subst (λ (z : SourceState). BreaksOffFrom handing takes (act_given given) all
      (scene w disk z o) why (state_of t) p) is
      (broken_so state_of handing takes w.process (act_given given) all why s t o p breaks)

  -- what was done of a worker, seen by where its source is
  lives_so : (given : DiskJob) (w : DurableValue) (disk last : D) (s t : S) (o p : O)
      (result : Result Now WorkFault) → state_of s ≡ source_behind given w
      → LivesAtPace medium (gives_so state_of handing takes) takes (act_given given) given.every
      (scene w disk s o) result (surroundings last t p)
      → LivesAtPace medium handing takes (act_given given) given.every
      (scene w disk (source_behind given w) o) result (surroundings last (state_of t) p)
  lives_so given w disk last s t o p result is lives =
      let calls = calls_so state_of handing takes medium lives.acts (scene w disk s o)
      (undone_after result) (surroundings last t p) lives.done in
      record {
        acts = lives.acts;
        paced = lives.paced;
        heard = record {
          asks = lives.heard.asks;
          led = subst (λ (z : SourceState). AnswersInOrder handing z lives.heard.asks
              (state_of t)) is (asked_so state_of handing takes lives.heard.asks s t
              lives.heard.led);
          heard = lives.heard.heard;
        };
        heeded = lives.heeded;
        done = subst (λ (z : SourceState). CallsInOrder medium handing takes lives.acts
            (scene w disk z o) (undone_after result) (surroundings last (state_of t) p)) is calls;
        says = subst (λ z. IfOk result (λ told. z ≡ told))
            (sym (carried_over (λ (z : SourceState). CallsInOrder medium handing takes lives.acts
            (scene w disk z o) (undone_after result) (surroundings last (state_of t) p))
            (λ z done. outcome_after now.Spent done) (state_of s) (source_behind given w) is calls
            ∙ outcome_so state_of handing takes medium now.Spent lives.acts (scene w disk s o)
            (undone_after result) (surroundings last t p) lives.done)) lives.says;
        broken = IfErr-weaker result
            (λ why. BreaksOffFrom (gives_so state_of handing takes) takes (act_given given)
            (steps_among lives.acts) (scene w disk s o) why t p)
            (λ why. BreaksOffFrom handing takes (act_given given) (steps_among lives.acts)
            (scene w disk (source_behind given w) o) why (state_of t) p)
            (λ why. breaks_so given w disk (steps_among lives.acts) s t o p why is) lives.broken;
      }

  module _ (given : DiskJob) (w : DurableValue) (disk last : D) (s t : S) (o p : O)
      (is : state_of s ≡ source_behind given w) where
    pub has_gone : (why : Now) → why ≢ now.Spent
        → LivesAtPace medium (gives_so state_of handing takes) takes (act_given given) given.every
        (scene w disk s o) (Ok why) (surroundings last t p)
        → HasGoneOn medium takes (scene w disk given o) last p (state_of t).failed
        (state_of t).taken (Ok why)
    has_gone why gone lives =
        (state_of t, gone, refl, refl, lives_so given w disk last s t o p (Ok why) is lives)

    pub has_failed : (why : WorkFault) (told : OnDiskFault)
        → IsReportedOnDisk why (state_of t).fault told
        → LivesAtPace medium (gives_so state_of handing takes) takes (act_given given) given.every
        (scene w disk s o) (Err why) (surroundings last t p)
        → HasGoneOn medium takes (scene w disk given o) last p (state_of t).failed
        (state_of t).taken (Err told)
    has_failed why told tells lives = (
      state_of t,
      why,
      tells,
      refl,
      lives_so given w disk last s t o p (Err why) is lives,
    )

-- ---- a recovery

module _ {D O : Type 0} (medium : D → Medium) (takes : Taking O) where
  -- where there is no worker, nothing is written or told
  only_synced : (why : RecoverFault) (found last : D) (o p : O)
      → Recovers medium takes (Err why) found last o p → IsNoWorker why
      → IsOnlySynced medium found last o p
  only_synced why found last o p (inl failed_sync) none =
      absurd (not_a_disk why (error_is failed_sync.is) none)
    where
      not_a_disk : (why : RecoverFault) {fault : DiskFault}
          → why ≡ recover.Worker (work.Disk fault) → IsNoWorker why → ⊥
      not_a_disk why is none = subst IsNoWorker is none

      error_is : {fault : DiskFault}
          → ◌≡◌ {A = Result DurableValue RecoverFault} (Err why)
          (Err (recover.Worker (work.Disk fault)))
          → why ≡ recover.Worker (work.Disk fault)
      error_is is = cc
  only_synced why found last o p (inr just_synced) none =
      let alone = just_synced.3 none in
      record { synced_disk = just_synced.0; synced = just_synced.1; read = alone.0; same = alone.1 }

  -- a worker that isn't opened
  pub opens_none : (why : RecoverFault) (found last : D) (o p : O)
      → RecoversWorker medium takes (Err why) found last o p
      → HeedsOutlet takes (IsOutletFault why) o p
      → IsUnopenedRun medium takes why found last o p
  opens_none why found last o p recovers heeds = record {
    recovers = recovers;
    none = only_synced why found last o p recovers.recovers;
    life = λ some image leaves bytes config acts source.
        unopened (recovered image leaves some recovers.recovers recovers.carries);
    heeded = heeds;
  }

  -- one that is, and lives
  lives_on : (before : RunStart D O) (after : RunEnd D O) (w : DurableValue)
      (result : Result Now WorkFault) (opening : D) (p : O) (source' : SourceState)
      → RecoversWorker medium takes (Ok w) before.disk opening before.outlet p
      → HeedsOutlet takes ⊥ before.outlet p
      → LivesAtPace medium handing takes (act_given before.given) before.given.every
      (scene w opening (source_behind before.given w) p) result
      (surroundings after.disk source' after.outlet)
      → LivesOnDisk medium takes (undone_after result) before after source'
  lives_on before after w result opening p source' recovers heeds lives = record {
    worker = w;
    opening = opening;
    retold = p;
    recovers = recovers;
    acts = lives.acts;
    paced = lives.paced;
    heard = lives.heard;
    heeded = heeds_on takes (SaysOutletFault (undone_after result)) before.outlet p after.outlet
        (each_taken takes ⊥ before.outlet p (λ told. told) heeds) lives.heeded;
    life = λ image leaves bytes config.
        opened (recovered image leaves (λ none. none) recovers.recovers recovers.carries)
        lives.done;
  }

  -- ---- what the status says

  module _ (before : RunStart D O) (after : RunEnd D O) (status : Status) where
    abbrev Serves : Type 0
    Serves = ServesOnDisk medium takes before after status

    pub serves_none : (why : RecoverFault) (told : OnDiskFault)
        → after.failed ≡ before.given.failed
        → RecoversWorker medium takes (Err why) before.disk after.disk before.outlet after.outlet
        → HeedsOutlet takes (IsOutletFault why) before.outlet after.outlet
        → told ≡ opening_fault why → IsSaid (status_on_disk told) before.err status after.err
        → Serves
    serves_none why told steady recovers heeds tells says =
        is_unopened why
        (opens_none why before.disk after.disk before.outlet after.outlet recovers heeds)
        steady
        (subst (λ t. IsSaid (status_on_disk t) before.err status after.err) tells says)

    module _ (w : DurableValue) (opening : D) (p : O) (between : PrinterState)
        (recovers : RecoversWorker medium takes (Ok w) before.disk opening before.outlet p)
        (heeds : HeedsOutlet takes ⊥ before.outlet p)
        (tells : TellsPerson (recovered_line w) before.err between) (taken : ℕ) (last : D)
        (bytes : Option (List ℕ)) (of_disk : IfSome bytes (IsModuleOn (medium after.disk))) where
      abbrev Goes : D → Result Now OnDiskFault → Type 0
      Goes disk result = HasGoneOn medium takes (scene w opening before.given p) disk
          after.outlet after.failed taken result

      serves_over : (why : Now) → Goes last (Ok why) → OnlyReads (medium last) (medium after.disk)
          → SaysOver bytes before.err.on_terminal (ended_by why) taken between status after.err
          → Serves
      unfolding lives_on
      serves_over why gone reads says =
          over why gone.0 between last gone.1 reads
          (lives_on before (ending_on after last) w (Ok why) opening p gone.0 recovers heeds gone.4)
          (λ image leaves bytes config. gone.4.says) gone.2 tells bytes of_disk
          (subst (λ n. SaysOver bytes before.err.on_terminal (ended_by why) n between status
          after.err) (sym gone.3) says)

      serves_broken : (told : OnDiskFault) → Goes after.disk (Err told)
          → IsSaid (status_on_disk told) between status after.err → Serves
      unfolding lives_on
      serves_broken told gone says =
          broken gone.1 told gone.0 between
          (lives_on before after w (Err gone.1) opening p gone.0 recovers heeds gone.4)
          gone.4.broken gone.3 gone.2 tells says

      pub serves_gone : (result : Result Now OnDiskFault) → Goes last result
          → LooksBehind medium result last after.disk
          → SaysGone bytes before.err.on_terminal taken result between status
          after.err → Serves
      serves_gone (Ok why) gone reads says = serves_over why gone reads says
      serves_gone (Err told) gone same says =
          serves_broken told (subst (λ d. Goes d (Err told)) (sym same) gone) says

-- the last words, seen by who reads along and by what was taken
pub says_over : (bytes : Option (List ℕ)) (heard heard' : Bool) (taken taken' : ℕ) (why : Now)
    (old : PrinterState) (status : Status) (new : PrinterState) → heard ≡ heard' → taken ≡ taken'
    → SaysOver bytes heard (ended_by why) taken old status new
    → SaysOver bytes heard' (ended_by why) taken' old status new
says_over bytes heard heard' taken taken' why old status new same as_many says =
    subst (λ n. SaysOver bytes heard' (ended_by why) n old status new) as_many
    (subst (λ h. SaysOver bytes h (ended_by why) taken old status new) same says)
