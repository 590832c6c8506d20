-- What is found on any disk.
use Rattle.std.proofs.Common.{◌≡◌, ◌≢◌, ◌∙◌, inl, inr, ℕ, List, refl, sym, subst}
use Rattle.std.specs.Prelude.{Ok, Err, Vec}
use Rattle.std.specs.declared.alloc.Global.{Global}
use Rattle.wasm_syntax.specs.declared.module.Module.{Module}
use Rattle.wasm_rules.specs.Acceptance.{IsAccepted}
use Rattle.machine.specs.rules.Offers.{offer}
use Rattle.machine.specs.rules.Values.{MachineValue}
use Rattle.machine.specs.declared.from_bytes.fault.ModuleFault.{ModuleFault}
use Rattle.machine.specs.rules.Acceptance.{Accepts, ModuleFaultDenies, HasNoAcceptedModule}
use Rattle.machine.specs.rules.Acceptance.{IsReported}
use Rattle.process.specs.rules.Values.{ProcessValue}
use Rattle.state_image.specs.declared.restoring.fault.RestoreFault.{RestoreFault}
use Rattle.state_image.specs.declared.restoring.fault.RestoreFault.TheVariants as restore
use Rattle.state_image.specs.rules.ProcessImage.{Saved, IsMarkedOtherwise, process_image}
use Rattle.state_image.proofs.Marks.{marked_as}
use Rattle.state_image.specs.rules.Restored.{IsRestored}
use Rattle.state_image.specs.rules.Saving.{saved_of}
use Rattle.state_image.specs.rules.WellTyped.{IsWellTyped}
use Rattle.sector_disk.specs.rules.DiskImage.{DiskImage}
use Rattle.disk_layout.specs.declared.damage.Damage.{Damage}
use Rattle.disk_layout.specs.declared.damage.Damage.TheVariants as damage
use Rattle.disk_layout.specs.declared.fault.LayoutFault.TheVariants as layout
use Rattle.disk_layout.specs.declared.reading.contents.Contents.{Contents}
use Rattle.wasi_abi.specs.declared.version.Version.{Version}
use Rattle.disk_layout.specs.rules.Held.{GivesContents, HasDamage}
use Rattle.disk_layout.specs.rules.Journal.{Record}
use Rattle.journal.specs.rules.Steps.{JournalHolds}
use Rattle.journal.specs.declared.fault.JournalFault.TheVariants as journal
use Rattle.snapshot.specs.declared.fault.SnapshotFault.TheVariants as snapshot
use Rattle.worker_store.specs.declared.newest.NewestProcessImage.{NewestProcessImage}
use Rattle.worker_store.specs.declared.read_fault.ReadFault.{ReadFault}
use Rattle.worker_store.specs.declared.read_fault.ReadFault.TheVariants as read
use Rattle.worker_store.specs.rules.AnyDisk.{TellsContents, TellsNewest, TellsRecords}
use Rattle.worker_store.specs.rules.AnyDisk.{NamesProcessImage}
use Rattle.worker.specs.declared.recover_fault.RecoverFault.TheVariants as recover
use Rattle.worker.specs.rules.RecoverFaults.{fault_of_read}
use Rattle.worker.specs.rules.ShownDisks.{HoldsModule, HoldsNamedProcessImage, HoldsProcess}
use Rattle.worker.specs.rules.ShownDisks.{ShowsDamage, ShowsFault}
use Rattle.worker.specs.FoundDisks.{IsRestoredIn, IsFoundIn}
use Rattle.worker.proofs.RestoringLemmas.{unrestored}

-- ---- configuration and module

-- what disagrees there is the first thing that does
damaged_contents : (sectors : ℕ) (disk : DiskImage) (why : Damage) → HasDamage sectors disk why
    → ShowsDamage sectors disk why
damaged_contents sectors disk damage.ShortJournal has = absurd has
damaged_contents sectors disk (damage.OtherMark area) has = absurd has
damaged_contents sectors disk damage.LaterGeneration has = absurd has
damaged_contents sectors disk other has = has

-- they weren't read
module _ (sectors : ℕ) (disk : DiskImage) where
  pub contents_unread : (fault : ReadFault) → TellsContents sectors disk (Err fault)
      → ShowsFault sectors disk (fault_of_read fault)
  contents_unread (read.Layout layout.NotAWorker) tells = tells
  contents_unread (read.Layout layout.Version) tells = inl tells
  contents_unread (read.Layout layout.TooSmall) tells = tells
  contents_unread (read.Layout (layout.Damaged why)) tells =
      damaged_contents sectors disk why tells
  contents_unread (read.Layout layout.Memory) tells = tells
  contents_unread (read.Layout (layout.Disk fault)) tells = absurd tells
  contents_unread (read.Disk fault) tells = tt
  contents_unread (read.Snapshot fault) tells = absurd tells
  contents_unread (read.Journal fault) tells = absurd tells

-- they were
module _ (sectors : ℕ) (disk : DiskImage) (contents : Contents)
    (whole : GivesContents sectors disk (Ok contents)) (pages : ℕ) (wasm : List ℕ)
    (same_pages : pages ≡ contents.config.pages) (same_wasm : wasm ≡ contents.wasm) where
  -- the module isn't accepted
  pub module_refused : (fault : ModuleFault) → IsReported pages wasm fault
      → ModuleFaultDenies fault (HasNoAcceptedModule pages wasm)
      → ShowsFault sectors disk (recover.Module fault)
  module_refused fault told denies = record {
    contents = contents;
    whole = whole;
    told = subst (λ n. IsReported n contents.wasm fault) same_pages
        (subst (λ (w : List ℕ). IsReported pages w fault) same_wasm told);
    none = subst (λ n. ModuleFaultDenies fault (HasNoAcceptedModule n contents.wasm)) same_pages
        (subst (λ (w : List ℕ). ModuleFaultDenies fault (HasNoAcceptedModule pages w)) same_wasm
        denies);
  }

  -- it is
  module _ (machine : MachineValue) (accepts : Accepts pages wasm machine) where
    abbrev holds : HoldsModule sectors disk
    holds = record {
      contents = contents;
      whole = whole;
      module_is = accepts.spelled;
      accepted = subst (λ n. IsAccepted offer n contents.wasm accepts.spelled) same_pages
          (subst (λ (w : List ℕ). IsAccepted offer pages w accepts.spelled) same_wasm
          accepts.accepted);
    }

    linked : machine.guest ≡ accepts.spelled
    linked = let begun = accepts.begun in begun.guest

    -- the newest image wasn't read
    pub newest_unread : (fault : ReadFault) → TellsNewest contents.geometry disk (Err fault)
        → ShowsFault sectors disk (fault_of_read fault)
    newest_unread (read.Layout layout.Version) tells = inr (holds, tells)
    newest_unread (read.Layout (layout.Damaged damage.ShortJournal)) tells =
        record { holds = holds; short = tells }
    newest_unread (read.Layout (layout.Damaged (damage.OtherMark area))) tells =
        record { holds = holds; other = tells }
    newest_unread (read.Snapshot snapshot.Damaged) tells = record { holds = holds; none = tells }
    newest_unread (read.Snapshot snapshot.Memory) tells = (holds, tells)
    newest_unread (read.Disk fault) tells = tt
    newest_unread other tells = absurd tells

    -- it was
    module _ (newest : NewestProcessImage) (tells : TellsNewest contents.geometry disk (Ok newest))
        (bytes : List ℕ) (same : bytes ≡ newest.process_image) where
      abbrev named : HoldsNamedProcessImage sectors disk
      named = record {
        holds = holds;
        generation = newest.generation;
        version = newest.version;
        bytes = newest.process_image;
        newest = tells.0;
        marked = tells.1;
      }

      no_process : (fault : RestoreFault)
          → (unrestored fault ≡ Err restore.NotAnImage → (s : Saved)
          → IsWellTyped accepts.spelled contents.config s → newest.process_image ≢ process_image s)
          → ShowsFault sectors disk (recover.ProcessImage fault)
      unfolding named
      no_process restore.NotAnImage other = record { named = named; other = other refl }
      no_process restore.Memory other = named

      -- its process wasn't made again
      pub process_unmade : (fault : RestoreFault)
          → (unrestored fault ≡ Err restore.NotAnImage → (s : Saved)
          → IsWellTyped machine.guest contents.config s → bytes ≢ process_image s)
          → ShowsFault sectors disk (recover.ProcessImage fault)
      process_unmade fault refused =
          no_process fault (λ no s typed. subst (λ (b : List ℕ). b ≢ process_image s) same
          (refused no s
          (subst (λ (z : Module). IsWellTyped z contents.config s) (sym linked) typed)))

      -- it was
      module _ (v : ProcessValue) (restored : IsRestored machine.guest contents.config bytes v)
          (known : Version) (same_version : known ≡ (saved_of v).version) where
        -- the process that was made of it is of its version
        its_version : (saved_of v).version ≡ newest.version
        its_version =
            marked_as newest.version (saved_of v)
            (λ other. tells.1 (subst (λ (b : List ℕ). IsMarkedOtherwise newest.version b)
            (sym (sym same ∙ restored.is)) other))

        restored_in : IsRestoredIn holds contents.geometry newest.generation v
        restored_in = record {
          placed = refl;
          bytes = newest.process_image;
          newest = subst (λ w. NamesProcessImage contents.geometry disk newest.generation w
              newest.process_image) (sym its_version) tells.0;
          restored = subst (λ (z : Module). IsRestored z contents.config newest.process_image v)
              linked
              (subst (λ (b : List ℕ). IsRestored machine.guest contents.config b v) same restored);
        }

        abbrev process_in : HoldsProcess sectors disk
        process_in =
            let again = restored_in.restored in
            record {
              holds = holds;
              generation = newest.generation;
              saved = saved_of v;
              well_typed = again.well_typed;
              newest = subst (λ (b : List ℕ). NamesProcessImage contents.geometry disk
                  newest.generation (saved_of v).version b) again.is restored_in.newest;
            }

        no_records : (fault : ReadFault)
            → TellsRecords contents.geometry (saved_of v).version newest.generation disk (Err fault)
            → ShowsFault sectors disk (fault_of_read fault)
        no_records (read.Layout (layout.Damaged damage.LaterGeneration)) tells =
            record { older = process_in; later = tells }
        no_records (read.Journal journal.Memory) tells = (process_in, tells)
        no_records (read.Disk fault) tells = tt
        no_records other tells = absurd tells

        pub records_unread : (fault : ReadFault)
            → TellsRecords contents.geometry known newest.generation disk (Err fault)
            → ShowsFault sectors disk (fault_of_read fault)
        records_unread fault tells =
            no_records fault (subst (λ w. TellsRecords contents.geometry w newest.generation disk
            (Err fault)) same_version tells)

        pub all_found : (records : Vec Record Global)
            → TellsRecords contents.geometry known newest.generation disk (Ok records)
            → IsFoundIn sectors disk (record {
              geometry = contents.geometry;
              generation = newest.generation;
              process_image = newest.process_image;
              process = v;
              records = records;
            })
        all_found records tells = record {
          holds = holds;
          process = restored_in;
          image = sym same ∙ restored.is;
          none_later = tells.1;
          in_journal = subst (λ w. JournalHolds contents.geometry w newest.generation
              records.items disk) same_version tells.0;
        }
