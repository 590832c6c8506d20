-- What a search of a disk does, and what its errors say.
use Rattle.std.proofs.Common.{ℕ, ◌+◌, ◌≤◌, arith}
use Rattle.std.specs.Prelude.{Result, Ok, Err, IfOk, IfErr}
use Rattle.process.specs.rules.Values.{IsProcess}
use Rattle.sector_disk.specs.rules.DiskImage.{DiskImage}
use Rattle.sector_disk.specs.rules.Medium.{Medium, CallsUpTo}
use Rattle.disk_layout.specs.declared.fault.LayoutFault.TheVariants as layout
use Rattle.disk_layout.specs.declared.reading.contents.Contents.{Contents}
use Rattle.disk_layout.specs.rules.Places.{total_sectors}
use Rattle.disk_layout.specs.rules.Stored.{OnlyReads}
use Rattle.disk_layout.proofs.ReadLemmas.{no_reads, reads_then}
use Rattle.worker_store.specs.declared.read_fault.ReadFault.{ReadFault}
use Rattle.worker_store.specs.declared.read_fault.ReadFault.TheVariants as read
use Rattle.worker_store.specs.rules.ReadFaults.{HasReadCause}
use Rattle.worker_store.specs.rules.Readings.{GivesOr, DeniesWorker, DeniesWorkerOr, TellsMarks}
use Rattle.worker.specs.declared.found.Found.{Found}
use Rattle.worker.specs.declared.recover_fault.RecoverFault.{RecoverFault}
use Rattle.worker.specs.declared.fault.WorkFault.TheVariants as work
use Rattle.worker.specs.declared.recover_fault.RecoverFault.TheVariants as recover
use Rattle.snapshot.specs.declared.fault.SnapshotFault.TheVariants as snapshot
use Rattle.journal.specs.declared.fault.JournalFault.TheVariants as journal
use Rattle.worker.specs.rules.CallCounts.{most_behind}
use Rattle.worker.specs.rules.RecoverFaults.{fault_of_read}
use Rattle.worker.specs.rules.Recoveries.{SaysNothing, SaysNoWorker, SaysNoWorkerOr, MarksDecide}
use Rattle.worker.specs.Findings.{HasSearchCause, Searches}

-- errors of what is read, and of a recovery
abbrev pub unread : (T : Type 0) → ReadFault → Result T ReadFault
unread T fault = Err fault

abbrev pub unfound : (T : Type 0) → RecoverFault → Result T RecoverFault
unfound T fault = Err fault

-- ---- what an error says

module _ (T U : Type 0) where
  pub says_denied : (fault : ReadFault) → SaysNoWorker (unfound U (fault_of_read fault))
      → DeniesWorker (unread T fault)
  says_denied (read.Layout layout.NotAWorker) says = tt
  says_denied other says = absurd says

  pub denied_says : (fault : ReadFault) → DeniesWorkerOr (unread T fault)
      → SaysNoWorkerOr (unfound U (fault_of_read fault))
  denied_says (read.Layout layout.NotAWorker) says = tt
  denied_says (read.Layout layout.Memory) says = tt
  denied_says (read.Disk fault) says = tt
  denied_says other says = absurd says

-- ---- what was read

-- what isn't read, where a savepoint is, says nothing of it
pub unread_says : (T : Type 0) (P : T → Type 0) (fault : ReadFault) → GivesOr P (unread T fault)
    → SaysNothing (fault_of_read fault)
unread_says T P (read.Disk fault) gives = tt
unread_says T P (read.Layout layout.Memory) gives = tt
unread_says T P (read.Snapshot snapshot.Memory) gives = tt
unread_says T P (read.Journal journal.Memory) gives = tt
unread_says T P other gives = absurd gives

-- ---- when an error comes

read_cause : (old new : Medium) (fault : ReadFault) → HasReadCause old new fault
    → HasSearchCause old new (fault_of_read fault)
read_cause old new (read.Disk fault) cause = cause
read_cause old new (read.Layout fault) cause = cause
read_cause old new (read.Snapshot fault) cause = cause
read_cause old new (read.Journal fault) cause = cause

-- other things were read before
cause_later : (old mid new : Medium) → old.faults ≤ mid.faults → (why : RecoverFault)
    → HasSearchCause mid new why → HasSearchCause old new why
cause_later old mid new earlier (recover.Worker (work.Disk fault)) cause =
    omega (arith, earlier, cause)
cause_later old mid new earlier other cause = cause

later_so : (old mid new : Medium) → OnlyReads old mid → (result : Result Found RecoverFault)
    → IfErr result (HasSearchCause mid new) → IfErr result (HasSearchCause old new)
later_so old mid new reads (Ok found) cause = tt
later_so old mid new reads (Err why) cause =
    let passes = reads.leaves.passes in
    let earlier : old.faults ≤ mid.faults = passes.faults in
    cause_later old mid new earlier why cause

-- ---- what a search does, whatever it finds

-- it has read so much, and goes on
pub searches_on : (first second most : ℕ) (old mid new : Medium)
    (result : Result Found RecoverFault) → first + second ≤ most → OnlyReads old mid
    → CallsUpTo first old mid → Searches second result mid new → Searches most result old new
searches_on first second most old mid new result few reads asked searches = record {
  reads = reads_then old mid new reads searches.reads;
  room = searches.room;
  shows = searches.shows;
  next = searches.next;
  cause = later_so old mid new reads result searches.cause;
  asks = let more = searches.asks in omega (arith, few, asked, more);
}

-- all was read
pub searched : (most : ℕ) (old new : Medium) (found : Found)
    → total_sectors found.geometry ≤ old.sectors → OnlyReads old new → CallsUpTo most old new
    → IsProcess found.process → found.process.host.host.files.next ≤ found.process.steps + 2
    → Searches most (Ok found) old new
searched most old new found room reads asked shows next =
    let leaves = reads.leaves in
    let same = leaves.passes.sectors in
    record {
      reads = reads;
      room = omega (arith, room, same);
      shows = shows;
      next = next;
      cause = tt;
      asks = asked;
    }

-- a reading fails
pub searches_in_vain : (first most : ℕ) (old new : Medium) (fault : ReadFault) → first ≤ most
    → OnlyReads old new → CallsUpTo first old new → HasReadCause old new fault
    → Searches most (Err (fault_of_read fault)) old new
searches_in_vain first most old new fault few reads asked cause = record {
  reads = reads;
  room = tt;
  shows = tt;
  next = tt;
  cause = read_cause old new fault cause;
  asks = omega (arith, few, asked);
}

-- it fails without a call of the disk
pub searches_no_more : (most : ℕ) (m : Medium) (e : RecoverFault) → HasSearchCause m m e
    → Searches most (Err e) m m
searches_no_more most m e cause = record {
  reads = no_reads m;
  room = tt;
  shows = tt;
  next = tt;
  cause = cause;
  asks = omega arith;
}

-- Configuration and module were read before.
pub few_on : (first : ℕ) (old mid new : Medium) (result : Result Found RecoverFault)
    → CallsUpTo first old mid
    → IfOk result (λ found. CallsUpTo (most_behind found.geometry) mid new)
    → IfOk result (λ found. CallsUpTo (first + most_behind found.geometry) old new)
few_on first old mid new (Ok found) asked few = omega (arith, asked, few)
few_on first old mid new (Err why) asked few = tt

-- ---- marks

-- contents were read, and no step after them said that there is no worker
pub marks_there : (disk : DiskImage) (contents : Contents) (r : Result Found RecoverFault)
    → TellsMarks disk (Ok contents) → (SaysNoWorker r → ⊥) → MarksDecide disk r
marks_there disk contents r tells own =
    record { only = λ says. absurd (own says); always = λ blank. absurd (tells.always blank) }

-- they weren't
pub marks_unread : (disk : DiskImage) (fault : ReadFault) → TellsMarks disk (Err fault)
    → MarksDecide disk (unfound Found (fault_of_read fault))
marks_unread disk fault tells = record {
  only = λ says. tells.only (says_denied Contents Found fault says);
  always = λ blank. denied_says Contents Found fault (tells.always blank);
}
