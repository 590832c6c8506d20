-- Laws of the disk that a life finds, and the restart theorem from what the calls of lives do.
use Rattle.std.specs.Prelude.{◌≡◌, ◌⊎◌, ℕ, List}
use Rattle.wasm_syntax.specs.declared.module.Module.{Module}
use Rattle.wasi_abi.specs.rules.Configs.{Settings}
use Rattle.sector_disk.specs.rules.DiskImage.{DiskImage}
use Rattle.sector_disk.specs.rules.Medium.{Medium}
use Rattle.worker_store.specs.restart_theorem.Lives.{Inputs, Life, End, Finished, Stopped, Failed}
use Rattle.worker_store.specs.restart_theorem.Promises.{Promise, nothing_yet, GoOn, GoesOn}
use Rattle.worker_store.specs.restart_theorem.Holds.{KeepsPromise, KeepsBounds}
use Rattle.worker_store.specs.restart_theorem.Between.{NextFinds, FindsNoWorker, AreLivedOn}

-- what a cut of the found disk may leave, one of the disk before may have left
abbrev pub FoundWasCrashImage : {D : Type 0} → (D → Medium) → Type 0
FoundWasCrashImage {D} medium = (ends : End) (last found : D) (image : DiskImage)
    → NextFinds medium ends last found → (medium found).crash_images image
    → (medium last).crash_images image

-- the disk has as many sectors as before
abbrev pub FoundIsAsLong : {D : Type 0} → (D → Medium) → Type 0
FoundIsAsLong {D} medium = (ends : End) (last found : D)
    → NextFinds medium ends last found → (medium found).sectors ≡ (medium last).sectors

-- reads give what the cut left, of which nothing is unsynced
abbrev pub IsSyncedAfterCut : Medium → Medium → Type 0
IsSyncedAfterCut last found =
    ((image : DiskImage) → found.shows image → last.crash_images image) × (found.unsynced ≡ 0)

-- nothing was made durable, and reads give what they gave
abbrev pub IsAsItWas : Medium → Medium → Type 0
IsAsItWas last found =
    (found.unsynced ≡ last.unsynced) × ((image : DiskImage) → last.shows image → found.shows image)

-- after a cut the disk is synced, and after a kill or an error it is as it was
abbrev pub IsSyncedOrSame : End → Medium → Medium → Type 0
IsSyncedOrSame Finished last found = IsSyncedAfterCut last found ⊎ IsAsItWas last found
IsSyncedOrSame Stopped last found = IsSyncedAfterCut last found ⊎ IsAsItWas last found
IsSyncedOrSame (Failed cause) last found = IsAsItWas last found

-- so it is with what the next life finds
abbrev pub FoundSyncedOrSame : {D : Type 0} → (D → Medium) → Type 0
FoundSyncedOrSame {D} medium = (ends : End) (last found : D)
    → NextFinds medium ends last found → IsSyncedOrSame ends (medium last) (medium found)

-- where there was no worker, whatever a cut leaves, the next life finds none
abbrev pub NoWorkerComes : {D : Type 0} → (D → Medium) → Type 0
NoWorkerComes {D} medium = (ends : End) (last found : D) → FindsNoWorker (medium last)
    → NextFinds medium ends last found → FindsNoWorker (medium found)

-- what a disk keeps of a promise it keeps for the next life, after a cut, a kill or an error
abbrev pub NextLifeFindsIt : {D : Type 0} → (D → Medium) → Type 0
NextLifeFindsIt {D} medium =
    (m : Module) (config : Settings) (promise : Promise) (ends : End) (last found : D)
    → KeepsPromise m config promise (medium last) → NextFinds medium ends last found
    → KeepsPromise m config promise (medium found)

-- so it does with bounds
abbrev pub NextLifeIsWithin : {D : Type 0} → (D → Medium) → Type 0
NextLifeIsWithin {D} medium = (latest : ℕ) (ends : End) (last found : D)
    → KeepsBounds latest (medium last) → NextFinds medium ends last found
    → KeepsBounds latest (medium found)

-- The restart theorem from the contracts of calls. Lives that do what the calls are proved to do,
-- one after another on a disk that held no worker, go on.
abbrev pub LivesGoOn : {D : Type 0} → (D → Medium) → Type 0
LivesGoOn {D} medium =
    (m : Module) (config : Settings) (inputs : List Inputs) (lives : List Life) (disk : D)
    → FindsNoWorker (medium disk) → AreLivedOn medium m config nothing_yet inputs lives disk
    → GoesOn m config inputs lives

-- the same from whatever was promised so far, on a disk that keeps it
abbrev pub PromisedLivesGoOn : {D : Type 0} → (D → Medium) → Type 0
PromisedLivesGoOn {D} medium =
    (m : Module) (config : Settings) (so_far : Promise) (inputs : List Inputs) (lives : List Life)
    (disk : D) → KeepsPromise m config so_far (medium disk)
    → KeepsBounds so_far.events (medium disk)
    → AreLivedOn medium m config so_far inputs lives disk
    → GoOn m config so_far inputs lives
