-- Lives on a disk in a file.
use Rattle.std.proofs.Common.{◌≡◌, ℕ, zero, suc, List, [], ◌∷◌, replicate, ap, sym}
use Rattle.std.proofs.Common.{subst, inl, arith}
use Rattle.sector_disk.specs.rules.DiskImage.{DiskImage}
use Rattle.sector_disk.specs.rules.Answered.{AnsweredCalls, Explains, unsynced_of}
use Rattle.sector_disk.specs.rules.File.{file_medium, first_of}
use Rattle.sector_disk.specs.declared.file.FileDisk.{FileDisk}
use Rattle.sector_disk.specs.declared.sector.TheConstants.{SECTOR_SIZE}
use Rattle.disk_layout.specs.rules.Sectors.{IsMarked}
use Rattle.worker_store.specs.restart_theorem.Stands.{IsBlank}
use Rattle.worker_store.specs.restart_theorem.Holds.{DiskImageHolds, IsBounded}
use Rattle.worker_store.specs.restart_theorem.Between.{IsFresh}
use Rattle.worker_store.specs.restart_theorem.laws.Files.{IsJustOpened, OpenedAfterCut}
use Rattle.worker_store.specs.restart_theorem.laws.Files.{LivesOnFilesGoOn}
use Rattle.worker_store.specs.restart_theorem.laws.Files.{PromisedLivesOnFilesGoOn, ZerosAreBlank}
use Rattle.worker_store.proofs.RestartLemmas.NextLives.{lives_go_on, lives_on}

module _ {F : Type 0} where
  opened_only : (image : DiskImage) (disk : FileDisk F) → IsJustOpened image disk
      → (shown crashed : DiskImage) → (file_medium disk).crash_pairs shown crashed
      → (shown ≡ image) × (crashed ≡ image)
  opened_only image disk opened shown crashed pair =
      let at_first : Explains image [] shown crashed =
      subst (λ (i : DiskImage). Explains i [] shown crashed) opened.first
      (subst (λ (a : AnsweredCalls). Explains (first_of disk) a shown crashed)
      opened.untouched pair) in
      at_first

  -- one image alone is on it
  pub opened_is_fresh : (image : DiskImage) (disk : FileDisk F) → IsJustOpened image disk
      → IsFresh image (file_medium disk)
  opened_is_fresh image disk opened = record {
    only = opened_only image disk opened;
    unsynced = ap unsynced_of opened.untouched;
  }

  -- so what it holds the disk keeps
  kept_by : (P : DiskImage → Type 0) (image : DiskImage) (disk : FileDisk F)
      → IsJustOpened image disk → P image → (crashed : DiskImage)
      → (file_medium disk).crash_images crashed → P crashed
  kept_by P image disk opened holds crashed leaves =
      subst P (sym (opened_only image disk opened leaves.0 crashed leaves.1).1) holds

  pub opened_after_cut : OpenedAfterCut F
  opened_after_cut image last found leaves opened sectors = inl (record {
    image = image;
    was = leaves;
    fresh = opened_is_fresh image found opened;
    sectors = sectors;
  })

  pub lives_on_files : LivesOnFilesGoOn F
  lives_on_files image disk opened blank m config inputs lives lived =
      lives_go_on file_medium m config inputs lives disk
      (kept_by IsBlank image disk opened blank) lived

  pub promised_lives_on_files : PromisedLivesOnFilesGoOn F
  promised_lives_on_files image disk opened m config so_far holds bounded inputs lives lived =
      lives_on file_medium m config so_far inputs lives disk
      (kept_by (DiskImageHolds m config so_far so_far) image disk opened holds)
      (kept_by (IsBounded so_far.events (file_medium disk).sectors) image disk opened bounded)
      lived

first_byte : List ℕ → ℕ
first_byte [] = 0
first_byte (byte ∷ bytes) = byte

zeros_unmarked : IsMarked (replicate SECTOR_SIZE 0) → ⊥
unfolding first_byte
zeros_unmarked marks =
    let first : 0 ≡ 68 = ap first_byte marks.first in absurd (omega (arith, first))

none_unmarked : IsMarked [] → ⊥
unfolding first_byte
none_unmarked marks =
    let first : 0 ≡ 68 = ap first_byte marks.first in absurd (omega (arith, first))

pub zeros_are_blank : ZerosAreBlank
zeros_are_blank zero marks = none_unmarked marks
zeros_are_blank (suc n) marks = zeros_unmarked marks
