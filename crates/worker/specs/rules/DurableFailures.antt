-- Why a slice of a worker on its disk fails, and what it has done until then (this project's own).
-- It is said in the words of a worker that has no disk.
use Rattle.std.specs.Prelude.{◌≡◌, ◌⊎◌, ℕ, ◌<◌, ◌≤◌, Bool, true, List, Option, Some, None}
use Rattle.wasi_abi.specs.declared.answer.Question.{Question}
use Rattle.wasi_calls_rules.specs.WasiStates.{Line}
use Rattle.process_rules.specs.Processes.{ProcessState, Guest}
use Rattle.process_rules.specs.Runs.{Wants, next_of}
use Rattle.process.specs.rules.Values.{ProcessValue, ShowsProcess}
use Rattle.process.specs.rules.Stops.{CallsHost}
use Rattle.wasi_abi.specs.declared.answer.Answer.{Answer}
use Rattle.sector_disk.specs.rules.Medium.{Medium, spare}
use Rattle.disk_layout.specs.declared.geometry.Geometry.{Geometry}
use Rattle.record_replay.specs.rules.Calls.{Giving, Taking, Ports, Exchange}
use Rattle.worker_store.specs.declared.fault.StoreFault.TheVariants as store
use Rattle.record_replay.specs.Turns.{working, failing}
use Rattle.record_replay.specs.declared.slices.fault.SliceFault.TheVariants as slice
use Rattle.record_replay.specs.rules.Faults.{LeadsUpTo, EmitsLast, Fails, IsCause}
use Rattle.worker.specs.declared.fault.WorkFault.{WorkFault}
use Rattle.worker.specs.declared.fault.WorkFault.TheVariants.{Work, Disk, Store, Upgrade}
use Rattle.worker.specs.rules.DurableValues.{DurableValue}

-- It stops where the disk is wanted. The lines of the last step aren't told yet, or all lines were.
abbrev pub StopsAtDisk : Guest → ProcessState → List Exchange → ℕ → ProcessState → Type 0
StopsAtDisk guest p exchanges steps q =
    ((lines : List Line) × EmitsLast guest p exchanges steps q lines)
    ⊎ LeadsUpTo guest p exchanges steps q None

-- It stops where the store is wanted: there, or where one more answer has been handed over.
abbrev pub StopsAtStore : Guest → ProcessState → List Exchange → ℕ → ProcessState → Type 0
StopsAtStore guest p exchanges steps q = StopsAtDisk guest p exchanges steps q
    ⊎ ((answer : Answer) × LeadsUpTo guest p exchanges steps q (Some answer))

-- It stops where an answer is to be asked for.
abbrev pub StopsAtQuestion : Guest → ProcessState → ℕ → List Exchange → ℕ → ProcessState → Type 0
StopsAtQuestion guest p fuel exchanges steps q = (steps < fuel) × (q.ended ≡ None)
    × (question : Question) × (next_of guest q None ≡ Wants question)
    × LeadsUpTo guest p exchanges steps q None

-- Memory is wanted for the next step, for which some fuel is left, or to keep its answer.
abbrev pub StopsForMemory : Guest → ProcessState → ℕ → List Exchange → ℕ → ProcessState → Type 0
StopsForMemory guest p fuel exchanges steps q = (steps < fuel) × (q.ended ≡ None)
    × (CallsHost guest q ⊎ ((question : Question) × (next_of guest q None ≡ Wants question)))
    × (given : Option Answer) × LeadsUpTo guest p exchanges steps q given

-- What failed: memory; the disk; the number of the next generation; the store, which may have
-- failed before. Else it is the source, the outlet or a number, as of a worker without a disk.
abbrev pub IsDiskCause : Guest → ProcessState → ℕ → List Exchange → ℕ → ProcessState
    → WorkFault → Type 0
IsDiskCause guest p fuel exchanges steps q (Work slice.Memory) =
    StopsForMemory guest p fuel exchanges steps q
IsDiskCause guest p fuel exchanges steps q (Work slice.Failed) =
    (steps ≤ fuel) × StopsAtStore guest p exchanges steps q
IsDiskCause guest p fuel exchanges steps q (Work other) =
    IsCause guest p fuel exchanges steps q other
IsDiskCause guest p fuel exchanges steps q (Disk fault) =
    (steps ≤ fuel) × StopsAtDisk guest p exchanges steps q
IsDiskCause guest p fuel exchanges steps q (Store store.TooBig) =
    StopsAtQuestion guest p fuel exchanges steps q
IsDiskCause guest p fuel exchanges steps q (Store fault) =
    (steps ≤ fuel) × StopsAtStore guest p exchanges steps q
IsDiskCause guest p fuel exchanges steps q (Upgrade fault) = ⊥

-- Whichever process was shown has gone on to one that is then shown, up to what failed.
abbrev pub SlicesOnDiskInVain : {S O : Type 0} → Giving S → Taking O → ProcessValue → ℕ
    → WorkFault → ProcessValue → Ports S O → Ports S O → Type 0
SlicesOnDiskInVain gives takes old fuel why new before after =
    (guest : Guest) (p : ProcessState) → ShowsProcess old guest p
    → (fails : Fails gives takes (working old) (failing new) guest p before after)
    × IsDiskCause guest p fuel fails.exchanges fails.steps fails.process why

-- ---- on whatever disk

-- Before its next good sync the disk surely takes fewer writes than the journal has sectors, or
-- than an area has; or it surely takes none.
abbrev pub LacksRoom : Geometry → Medium → Type 0
LacksRoom places disk = (spare disk < places.journal_sectors)
    ⊎ (spare disk < places.area_sectors) ⊎ (disk.room ≡ 0)

-- When an error comes of a store with these places, which has failed or hasn't, whatever is on the
-- disk. A fault of the disk comes only where the disk has failed since, or lacks room. That a call
-- has failed is said only where one had failed before. No other fault of the store comes but those
-- of its journal and its next image.
abbrev pub HasStoreCause : Geometry → Bool → Medium → Medium → WorkFault → Type 0
HasStoreCause places has_failed old new (Disk fault) =
    LacksRoom places old ⊎ (old.faults < new.faults)
HasStoreCause places has_failed old new (Work slice.Failed) = has_failed ≡ true
HasStoreCause places has_failed old new (Work other) = Unit {0}
HasStoreCause places has_failed old new (Store store.Full) = Unit {0}
HasStoreCause places has_failed old new (Store store.TooLong) = Unit {0}
HasStoreCause places has_failed old new (Store store.TooBig) = Unit {0}
HasStoreCause places has_failed old new (Store other) = ⊥
HasStoreCause places has_failed old new (Upgrade fault) = ⊥

-- so an error of a slice comes
abbrev pub HasSliceCause : DurableValue → Medium → Medium → WorkFault → Type 0
HasSliceCause w old new why = HasStoreCause w.store.geometry w.has_failed old new why
