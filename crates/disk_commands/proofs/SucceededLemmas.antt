-- What the status of a creation says, whose worker goes on from another one.
use Rattle.std.proofs.Common.{◌≡◌, ◌⊎◌, ℕ, List, Ok, Err, ap, refl, inl, inr, ⊎_elim, ◌∙◌}
use Rattle.wasi_abi.specs.rules.Configs.{Settings}
use Rattle.sector_disk.specs.rules.Medium.{Medium}
use Rattle.record_replay.specs.declared.slices.fault.Refusal.TheVariants as refusal
use Rattle.record_replay.specs.declared.slices.fault.SliceFault.TheVariants as slice
use Rattle.worker.specs.declared.fault.WorkFault.{WorkFault}
use Rattle.worker.specs.declared.fault.WorkFault.TheVariants as work
use Rattle.worker.specs.declared.handover.Handover.{Handover}
use Rattle.worker.specs.declared.upgrade_fault.UpgradeFault.TheVariants as upgrade
use Rattle.worker.specs.rules.Successions.{IsCreatedFrom, IsNotCreatedFrom, IsRefusedBefore}
use Rattle.worker.specs.rules.Successions.{SuccessionCalls, SuccessionKeeps}
use Rattle.worker.proofs.RefusedCreations.{store_lacks_sectors}
use Rattle.command_words.specs.rules.Preparations.{disk_sectors}
use Rattle.command_words.specs.rules.Printers.{PrinterState, HeedsBoth, IsSaid, printers}
use Rattle.command_words.specs.rules.Reports.{SaysOnOutput}
use Rattle.command_words.specs.declared.status.Status.{Status}
use Rattle.command_words.specs.declared.status.Status.TheVariants as exit
use Rattle.disk_commands.specs.rules.Creations.{HasDiskFailed}
use Rattle.disk_commands.specs.rules.DiskStatuses.{status_of_call}
use Rattle.disk_commands.specs.rules.SuccessorDisks.{IsSuccessorRefused, SucceedsOn, handover_text}
use Rattle.disk_commands.specs.rules.SuccessorDisks.{successor}

module _ {D : Type 0} (medium : D → Medium) (bytes : List ℕ) (config : Settings)
    (left : Handover) (old new : D) where
  -- a worker that was created, and what is said of it
  pub successor_said : (out out' err err' : PrinterState) (status : Status)
      → SuccessionKeeps {E = WorkFault} bytes config left.legacy (Ok tt) (medium old) (medium new)
      → SuccessionCalls {T = Unit {0}} {E = WorkFault} bytes config (Ok tt) (medium old)
      (medium new) → IsCreatedFrom bytes config (medium new)
      → SaysOnOutput (handover_text (disk_sectors config bytes) left) exit.Done (printers out err)
      (printers out' err') status
      → SucceedsOn medium (successor bytes config left) old new (printers out err)
      (printers out' err') status
  successor_said out out' err err' status keeps calls created (inl says) =
      let is = says.0 in
      let printed = says.1 in
      record {
        answer = Ok tt;
        keeps = keeps;
        calls = calls;
        made = λ at. record { answered = refl; created = created; told = printed.0 };
        refused = λ at. absurd cc;
        failed = λ at. absurd cc;
        starved = λ at. absurd cc;
        unwritten = λ at. absurd cc;
        heeded = inl (
          (λ seven. absurd cc),
          printed.1,
          ap (λ (p : PrinterState). p.failed) says.2,
        );
        known = inl is;
      }
  successor_said out out' err err' status keeps calls created (inr says) =
      let seven : status ≡ exit.Unwritten = ⊎_elim (λ told. told.0) (λ told. told.0) says.1 in
      record {
        answer = Ok tt;
        keeps = keeps;
        calls = calls;
        made = λ at. absurd cc;
        refused = λ at. absurd cc;
        failed = λ at. absurd cc;
        starved = λ at. absurd cc;
        unwritten = λ at. says.1;
        heeded = inr (seven, inl says.0);
        known = inr (inr (inr (inr seven)));
      }

  -- why there is none
  abbrev Refused : WorkFault → Type 0
  Refused why = (status_of_call why ≡ exit.Refused)
      × IsSuccessorRefused bytes config left.legacy (medium old) × (new ≡ old)

  abbrev Failed : WorkFault → Type 0
  Failed why = (status_of_call why ≡ exit.IoError)
      × HasDiskFailed bytes config (medium old) (medium new)

  abbrev Starved : WorkFault → Type 0
  Starved why = (status_of_call why ≡ exit.OutOfMemory) × (new ≡ old)

  cause_of : (why : WorkFault)
      → IsNotCreatedFrom bytes config left.legacy (medium old) (medium new) why
      → (IsRefusedBefore why → new ≡ old) → Refused why ⊎ Failed why ⊎ Starved why
  cause_of (work.Work slice.Source) is same = absurd is
  cause_of (work.Work slice.Outlet) is same = absurd is
  cause_of (work.Work slice.Memory) is same = inr (inr (refl, same tt))
  cause_of (work.Work slice.Failed) is same = absurd is
  cause_of (work.Work (slice.Refused (refusal.Module why))) is same =
      inl (refl, inl (inl is.2), same tt)
  cause_of (work.Work (slice.Refused refusal.StepsSpent)) is same = absurd is
  cause_of (work.Disk fault) is same = inr (inl (refl, is))
  cause_of (work.Store fault) is same =
      let few = store_lacks_sectors bytes config left.legacy (medium old) (medium new) fault is in
      inl (refl, inl (inr few), same tt)
  cause_of (work.Upgrade upgrade.JournalTooSmall) is same = inl (refl, inr is, same tt)
  cause_of (work.Upgrade upgrade.NotCaughtUp) is same = absurd is

  -- and what is said of that
  module _ (why : WorkFault) (out err err' : PrinterState) (status : Status)
      (keeps : SuccessionKeeps bytes config left.legacy (Err why) (medium old) (medium new))
      (calls : SuccessionCalls {T = Unit {0}} bytes config (Err why) (medium old) (medium new))
      (heeded : HeedsBoth (printers out err) (printers out err') status) where
    said_so : Refused why ⊎ Failed why ⊎ Starved why → status ≡ status_of_call why
        → SucceedsOn medium (successor bytes config left) old new (printers out err)
        (printers out err') status
    said_so (inl refused) at =
        let is = at ∙ refused.0 in
        record {
          answer = Err why;
          keeps = keeps;
          calls = calls;
          made = λ other. absurd cc;
          refused = λ this. (refused.1, refused.2, refl);
          failed = λ other. absurd cc;
          starved = λ other. absurd cc;
          unwritten = λ other. absurd cc;
          heeded = heeded;
          known = inr (inl is);
        }
    said_so (inr (inl failed)) at =
        let is = at ∙ failed.0 in
        record {
          answer = Err why;
          keeps = keeps;
          calls = calls;
          made = λ other. absurd cc;
          refused = λ other. absurd cc;
          failed = λ this. (failed.1, refl);
          starved = λ other. absurd cc;
          unwritten = λ other. absurd cc;
          heeded = heeded;
          known = inr (inr (inl is));
        }
    said_so (inr (inr starved)) at =
        let is = at ∙ starved.0 in
        record {
          answer = Err why;
          keeps = keeps;
          calls = calls;
          made = λ other. absurd cc;
          refused = λ other. absurd cc;
          failed = λ other. absurd cc;
          starved = λ this. (starved.1, refl);
          unwritten = λ other. absurd cc;
          heeded = heeded;
          known = inr (inr (inr (inl is)));
        }

    pub refusal_said : IsNotCreatedFrom bytes config left.legacy (medium old) (medium new) why
        → (IsRefusedBefore why → new ≡ old) → IsSaid (status_of_call why) err status err'
        → SucceedsOn medium (successor bytes config left) old new (printers out err)
        (printers out err') status
    refusal_said is same (inl told) = said_so (cause_of why is same) told.0
    refusal_said is same (inr told) =
        let seven = told.0 in
        record {
          answer = Err why;
          keeps = keeps;
          calls = calls;
          made = λ other. absurd cc;
          refused = λ other. absurd cc;
          failed = λ other. absurd cc;
          starved = λ other. absurd cc;
          unwritten = λ this. inr told;
          heeded = heeded;
          known = inr (inr (inr (inr seven)));
        }
