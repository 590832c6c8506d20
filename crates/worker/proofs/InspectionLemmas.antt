-- What a look into a disk tells, by what was found there.
use Rattle.std.proofs.Common.{◌≡◌, inl, inr, ℕ, ◌*◌, ◌<◌, ◌≤◌, refl, sym, ap, subst, arith, ◌∙◌}
use Rattle.std.specs.Prelude.{List, length, Option, Result, Ok, Err, IfErr}
use Rattle.wasi_abi.specs.declared.answer.Question.{Question}
use Rattle.sector_disk.specs.declared.fault.DiskFault.{DiskFault}
use Rattle.sector_disk.specs.rules.DiskImage.{DiskImage}
use Rattle.sector_disk.specs.rules.Medium.{CallsUpTo, Medium, SyncsMedium}
use Rattle.sector_disk.proofs.CountLemmas.{counts_then, unsynced_within}
use Rattle.sector_disk.proofs.Moments.{leaves_weaker, synced_stays, stays_leaves_only}
use Rattle.sector_disk.proofs.Moments.{stays_crashed, stays_on}
use Rattle.disk_layout.specs.declared.fault.LayoutFault.{LayoutFault}
use Rattle.disk_layout.specs.declared.geometry.Geometry.{Geometry}
use Rattle.disk_layout.specs.declared.reading.contents.Contents.{Contents}
use Rattle.disk_layout.specs.rules.Held.{GivesContents}
use Rattle.disk_layout.specs.rules.Stored.{OnlyReads}
use Rattle.disk_layout.proofs.ReadingLemmas.HeldLemmas.{one_answer}
use Rattle.worker.specs.declared.fault.WorkFault.TheVariants.{Disk, Store, Upgrade, Work}
use Rattle.worker.specs.declared.found.Found.{Found}
use Rattle.worker.specs.declared.inspection.Inspection.{Inspection}
use Rattle.worker.specs.declared.recover_fault.RecoverFault.{RecoverFault}
use Rattle.worker.specs.declared.recover_fault.RecoverFault.TheVariants as recover
use Rattle.worker.specs.rules.Inspections.{Inspects, InspectsDisk, IsInspected, IsOnlyRead}
use Rattle.worker.specs.rules.Inspections.{sectors_left}
use Rattle.worker.specs.rules.ShownDisks.{ShowsFault}
use Rattle.worker.specs.rules.Questions.{TellsQuestion}
use Rattle.worker.specs.Findings.{HasSearchCause}
use Rattle.worker.specs.FoundDisks.{IsFoundIn}
use Rattle.worker.specs.Inspecting.{CountsLeft, TellsFound, inspection_of}
use Rattle.worker.proofs.AnswerLemmas.{held_in}
use Rattle.worker.proofs.RecoveryLemmas.Results.{sync_faulted}
use Rattle.worker.proofs.RecoveryLemmas.There.{leaves_join}

-- ---- what was found

module _ (sectors : ℕ) (disk : DiskImage) (contents : Contents) (found : Found)
    (gives : GivesContents sectors disk (Ok contents)) (at : IsFoundIn sectors disk found) where
  -- there is one configuration and one module
  same_contents : contents ≡ at.holds.contents
  same_contents =
      let same = one_answer sectors disk (Ok contents) (Ok at.holds.contents) tt tt gives
      at.holds.whole in
      same_ok contents at.holds.contents same
    where
      same_ok : (a b : Contents) → (let x : Result Contents LayoutFault = Ok a in x) ≡ Ok b → a ≡ b
      same_ok a b e = cc

  is_inspected : (question : Option Question) (left : ℕ) → TellsQuestion found.process question
      → left ≡ sectors_left found.geometry disk found.generation
      → IsInspected (held_in sectors disk found at) (inspection_of contents found question left)
  is_inspected question left tells counts =
      let restored = at.process.restored in
      record {
        contents = same_contents;
        generation = refl;
        process_image_bytes = ap (λ (b : List ℕ). length b) at.image;
        module_is = restored.guest;
        saved = refl;
        none_waits = restored.none_waits;
        question = tells;
        records = refl;
        journal_left = counts
            ∙ ap (λ (g : Geometry). sectors_left g disk found.generation) at.process.placed;
      }

  pub found_is_told : (left : Result ℕ RecoverFault) (result : Result Inspection RecoverFault)
      → CountsLeft found.geometry found.generation disk left
      → TellsFound contents found left result → InspectsDisk sectors disk result
  found_is_told (Ok left) result counts (question, tells, is) =
      subst (λ (r : Result Inspection RecoverFault). InspectsDisk sectors disk r) (sym is)
      (held_in sectors disk found at, is_inspected question left tells counts)
  found_is_told (Err why) result (fault, failed) (question, tells, is) =
      subst (λ (r : Result Inspection RecoverFault). InspectsDisk sectors disk r) (sym is)
      (subst (λ (e : RecoverFault). ShowsFault sectors disk e) (sym failed) tt)

-- an error of what was found is one of the count
pub counting_cause : (P : RecoverFault → Type 0) (contents : Contents) (found : Found)
    (left : Result ℕ RecoverFault) (result : Result Inspection RecoverFault)
    → IfErr left P → TellsFound contents found left result → IfErr result P
counting_cause P contents found (Ok left) result cause (question, tells, is) =
    subst (λ (r : Result Inspection RecoverFault). IfErr r P) (sym is) tt
counting_cause P contents found (Err why) result cause (question, tells, is) =
    subst (λ (r : Result Inspection RecoverFault). IfErr r P) (sym is) cause

-- a cause since a later moment is one since an earlier one
cause_since : (old mid new : Medium) (why : RecoverFault) → old.faults ≤ mid.faults
    → HasSearchCause mid new why → HasSearchCause old new why
cause_since old mid new (recover.Worker (Disk fault)) later cause =
    omega (arith, later, cause)
cause_since old mid new (recover.Worker (Work fault)) later cause = cause
cause_since old mid new (recover.Worker (Store fault)) later cause = cause
cause_since old mid new (recover.Worker (Upgrade fault)) later cause = cause
cause_since old mid new (recover.Layout fault) later cause = cause
cause_since old mid new (recover.Module fault) later cause = cause
cause_since old mid new (recover.Snapshot fault) later cause = cause
cause_since old mid new (recover.ProcessImage fault) later cause = cause
cause_since old mid new (recover.Journal fault) later cause = cause
cause_since old mid new (recover.Replay fault) later cause = cause

pub counted_since : (old mid new : Medium) (left : Result ℕ RecoverFault)
    → old.faults ≤ mid.faults → IfErr left (HasSearchCause mid new)
    → IfErr left (HasSearchCause old new)
counted_since old mid new (Ok left) later cause = tt
counted_since old mid new (Err why) later cause = cause_since old mid new why later cause

-- ---- a sync, and then reads

pub failed_sync_inspects : {T : Type 0} (old new : Medium) (fault : DiskFault) (why : RecoverFault)
    → SyncsMedium {T = T} (Err fault) old new → why ≡ recover.Worker (Disk fault)
    → Inspects (Err why) old new
failed_sync_inspects old new fault why syncs is =
    let calls = syncs.calls in
    inl (record {
      fault = fault;
      is = ap (λ e. Err e) is;
      stays = syncs.stays;
      calls = calls.begun;
      faulted = sync_faulted old new fault syncs;
      none_told = refl;
    })

module _ {T : Type 0} (old sync new : Medium) (done : T)
    (syncs : SyncsMedium {T = T} (Ok done) old sync) (reads : OnlyReads sync new)
    (few : CallsUpTo (3 * sync.sectors) sync new) where
  earlier : old.faults ≤ sync.faults
  earlier = let passes = syncs.passes in passes.faults

  since : (a b c : ℕ) → a ≤ b → b < c → a < c
  since a b c x y = omega (arith, x, y)

  blames : (result : Result Inspection RecoverFault) → IfErr result (HasSearchCause sync new)
      → (fault : DiskFault) → result ≡ Err (recover.Worker (Disk fault)) → old.faults < new.faults
  blames (Ok told) cause fault is = absurd cc
  blames (Err why) cause fault is =
      let same : why ≡ recover.Worker (Disk fault) = cc in
      since old.faults sync.faults new.faults earlier
      (subst (λ (e : RecoverFault). HasSearchCause sync new e) same cause)

  only_read : IsOnlyRead old new
  only_read =
      let passes = syncs.passes in
      let calls = syncs.calls in
      record {
        all_synced = synced_stays sync new reads.stays syncs.all_synced;
        stays = stays_on old sync new passes.later syncs.stays reads.stays;
        leaves = leaves_join old sync new old.crash_images
            (stays_leaves_only old sync syncs.stays syncs.passes)
            (leaves_weaker sync new sync.crash_images old.crash_images reads.leaves
            (λ image crashed. stays_crashed old sync syncs.stays image crashed));
        counts = counts_then old.unsynced sync.unsynced old.unsynced old sync new (omega arith)
            (unsynced_within old.unsynced old sync (omega arith) passes.later syncs.counts)
            passes.later syncs.counts reads.counts;
        calls = reads.calls ∙ calls.all;
        counted = omega (arith, syncs.counted, few, passes.sectors);
      }

  pub synced_inspects : (result : Result Inspection RecoverFault)
      → IfErr result (HasSearchCause sync new)
      → ((image : DiskImage) → new.shows image → InspectsDisk sync.sectors image result)
      → Inspects result old new
  synced_inspects result cause tells =
      let passes = syncs.passes in
      inr (
        only_read,
        blames result cause,
        λ image shows. subst (λ n. InspectsDisk n image result) passes.sectors
            (tells image shows),
      )
