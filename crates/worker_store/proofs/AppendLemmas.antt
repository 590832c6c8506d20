-- Why a record isn't appended, and what a store answers whose journal has failed.
use Rattle.std.proofs.Common.{◌≡◌, ◌<◌, ◌≤◌, length, true, false, refl, sym, ap, ◌∙◌, subst, ⊎_elim}
use Rattle.std.specs.Prelude.{◌↔◌, Result, Err}
use Rattle.std.proofs.lemmas.Bool.{cases_lt, false_from_ne_true}
use Rattle.sector_disk.specs.declared.fault.DiskFault.{DiskFault}
use Rattle.wasi_abi.specs.rules.Versions.{text_limit}
use Rattle.disk_layout.specs.rules.Journal.{Record, record_bytes, payload_of}
use Rattle.journal.specs.declared.fault.JournalFault.{JournalFault}
use Rattle.journal.specs.declared.fault.JournalFault.TheVariants as journal
use Rattle.journal.specs.rules.State.{room_of}
use Rattle.worker_store.specs.declared.fault.StoreFault.{StoreFault}
use Rattle.worker_store.specs.declared.fault.StoreFault.TheVariants.{Failed}
use Rattle.worker_store.specs.declared.store.WorkerStore.{WorkerStore}
use Rattle.worker_store.specs.rules.Calls.{AppendFails}
use Rattle.worker_store.specs.rules.Faults.{fault_of_journal}

-- an answer of a journal
abbrev pub refusal : JournalFault → Result (Unit {0}) JournalFault
refusal fault = Err fault

module _ (store : WorkerStore) (r : Record) where
  -- the record fits, if memory is all that it fails for
  fits_but : ((refusal journal.Memory ≡ refusal journal.Failed)
      ↔ (store.journal.has_failed ≡ true))
      → ((refusal journal.Memory ≡ refusal journal.TooLong)
      ↔ ((store.journal.has_failed ≡ false)
      × (text_limit store.journal.version < length (payload_of r.answer))))
      → ((refusal journal.Memory ≡ refusal journal.Full)
      ↔ ((store.journal.has_failed ≡ false)
      × (length (payload_of r.answer) ≤ text_limit store.journal.version)
      × (room_of store.geometry store.journal < length (record_bytes store.journal.version r))))
      → (length (payload_of r.answer) ≤ text_limit store.journal.version)
      × (length (record_bytes store.journal.version r) ≤ room_of store.geometry store.journal)
  fits_but failed too_long full =
      let works : store.journal.has_failed ≡ false =
      false_from_ne_true store.journal.has_failed
      (λ is. let e = failed.1 is in cc) in
      let short : length (payload_of r.answer) ≤ text_limit store.journal.version =
      ⊎_elim (λ long. absurd (let e = too_long.1 (works, long) in cc)) (λ le. le)
      (cases_lt (text_limit store.journal.version) (length (payload_of r.answer))) in
      let room : length (record_bytes store.journal.version r)
      ≤ room_of store.geometry store.journal =
      ⊎_elim (λ more. absurd (let e = full.1 (works, short, more) in cc)) (λ le. le)
      (cases_lt (room_of store.geometry store.journal)
      (length (record_bytes store.journal.version r))) in
      (short, room)

  pub append_fails : (fault : JournalFault) (e : StoreFault) → e ≡ fault_of_journal fault
      → ((refusal fault ≡ refusal journal.Failed) ↔ (store.journal.has_failed ≡ true))
      → ((refusal fault ≡ refusal journal.TooLong) ↔ ((store.journal.has_failed ≡ false)
      × (text_limit store.journal.version < length (payload_of r.answer))))
      → ((refusal fault ≡ refusal journal.Full) ↔ ((store.journal.has_failed ≡ false)
      × (length (payload_of r.answer) ≤ text_limit store.journal.version)
      × (room_of store.geometry store.journal < length (record_bytes store.journal.version r))))
      → ((disk : DiskFault) → refusal fault ≡ refusal (journal.Disk disk) → ⊥)
      → AppendFails store r e
  append_fails journal.Full e same failed too_long full no_disk =
      let why = full.0 refl in
      subst (λ (f : StoreFault). AppendFails store r f) (sym same) (why.1, why.2)
  append_fails journal.TooLong e same failed too_long full no_disk =
      let why = too_long.0 refl in
      subst (λ (f : StoreFault). AppendFails store r f) (sym same) why.1
  append_fails journal.Memory e same failed too_long full no_disk =
      subst (λ (f : StoreFault). AppendFails store r f) (sym same)
      (fits_but failed too_long full)
  append_fails journal.Failed e same failed too_long full no_disk =
      subst (λ (f : StoreFault). AppendFails store r f) (sym same) (failed.0 refl)
  append_fails (journal.Disk disk) e same failed too_long full no_disk =
      absurd (no_disk disk refl)

-- where its journal answers that it has failed, so does the store
pub store_refuses : (fault : JournalFault) (e : StoreFault) → e ≡ fault_of_journal fault
    → refusal fault ≡ refusal journal.Failed
    → ◌≡◌ {A = Result (Unit {0}) StoreFault} (Err e) (Err Failed)
store_refuses fault e is refused =
    let same : fault ≡ journal.Failed = cc in
    let failed : e ≡ Failed = is ∙ ap fault_of_journal same in
    cc
