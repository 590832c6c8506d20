-- The disk that a life finds (this project's own).
use Rattle.std.specs.Prelude.{◌≡◌, ◌⊎◌, List, [], ◌∷◌}
use Rattle.wasm_syntax.specs.declared.module.Module.{Module}
use Rattle.wasi_abi.specs.rules.Configs.{Settings}
use Rattle.sector_disk.specs.rules.DiskImage.{DiskImage}
use Rattle.sector_disk.specs.rules.Medium.{Medium}
use Rattle.worker_store.specs.restart_theorem.Stands.{IsBlank}
use Rattle.worker_store.specs.restart_theorem.Lives.{Inputs, Life, End, Finished, Stopped, Failed}
use Rattle.worker_store.specs.restart_theorem.Promises.{Promise, promised_by, IsLived}
use Rattle.worker_store.specs.restart_theorem.Holds.{KeepsPromise, KeepsBounds}

-- a disk that holds this image, with no write since
pub record IsFresh (image : DiskImage) (disk : Medium) : Type 0 where
  pub only : (shown crashed : DiskImage) → disk.crash_pairs shown crashed → (shown ≡ image)
      × (crashed ≡ image)
  pub unsynced : disk.unsynced ≡ 0

-- one of the images that a cut may leave is what is found
pub record IsFoundAfterCut (last found : Medium) : Type 0 where
  pub image : DiskImage
  pub was : last.crash_images image
  pub fresh : IsFresh image found
  pub sectors : found.sectors ≡ last.sectors

-- The power was cut, and one of the images that this may leave is found. Or the program was killed
-- while the power stayed on: then it is the same disk, with what was written and not made durable.
abbrev pub IsCutOrKilled : {D : Type 0} → (D → Medium) → D → D → Type 0
IsCutOrKilled medium last found = IsFoundAfterCut (medium last) (medium found) ⊎ (found ≡ last)

-- The disk that a life leaves, and the one that the next life finds. After an error it is the same
-- disk.
abbrev pub NextFinds : {D : Type 0} → (D → Medium) → End → D → D → Type 0
NextFinds medium Finished last found = IsCutOrKilled medium last found
NextFinds medium Stopped last found = IsCutOrKilled medium last found
NextFinds medium (Failed cause) last found = found ≡ last

-- the first life finds a disk that holds no worker, whatever a cut leaves of it
abbrev pub FindsNoWorker : Medium → Type 0
FindsNoWorker disk = (image : DiskImage) → disk.crash_images image → IsBlank image

-- What the calls of one life are proved to do, from its recovery or creation to its end. Where the
-- disk that it found keeps the promise, its events are those of a worker that goes on. In that case
-- the disk that it leaves keeps what is promised then. No disk is of a later generation than as
-- much has happened, and each has all sectors of its worker.
abbrev pub IsLivedOn : Module → Settings → Promise → Inputs → Life → Medium → Medium → Type 0
IsLivedOn m config so_far inputs life found last =
    KeepsPromise m config so_far found → KeepsBounds so_far.events found
    → IsLived m config so_far inputs life × KeepsPromise m config (promised_by so_far life) last
    × KeepsBounds (promised_by so_far life).events last

-- Lives on a disk, one after another, each of which finds what the one before it left. Nothing
-- else links them.
pub data AreLivedOn {D : Type 0} (medium : D → Medium) (m : Module) (config : Settings)
    : Promise → List Inputs → List Life → D → Type 0 where
  none : {so_far : Promise} {disk : D} → AreLivedOn medium m config so_far [] [] disk
  more : {so_far : Promise} {inputs : Inputs} {life : Life} {others : List Inputs}
      {lives : List Life} {found last next : D}
      → IsLivedOn m config so_far inputs life (medium found) (medium last)
      → NextFinds medium life.ends last next
      → AreLivedOn medium m config (promised_by so_far life) others lives next
      → AreLivedOn medium m config so_far (inputs ∷ others) (life ∷ lives) found
