-- What is judged of an image that was read, by the mark in front of it, and of a journal that was
-- scanned, by its first sector.
use Rattle.std.specs.Prelude.{◌≡◌, ℕ, ◌%◌, IsTrue, List, Vec, Result, Ok, Err}
use Rattle.std.specs.declared.alloc.Global.{Global}
use Rattle.wasi_abi.specs.declared.version.Version.{Version}
use Rattle.disk_layout.specs.declared.damage.Damage.TheVariants.{OtherMark, LaterGeneration}
use Rattle.disk_layout.specs.declared.fault.LayoutFault.TheVariants.{Damaged}
use Rattle.disk_layout.specs.rules.Journal.{Record}
use Rattle.journal.specs.declared.scanned.ScannedJournal.{ScannedJournal}
use Rattle.state_image.specs.rules.ProcessImage.{IsMarkedOtherwise}
use Rattle.worker_store.specs.declared.newest.NewestProcessImage.{NewestProcessImage}
use Rattle.worker_store.specs.declared.read_fault.ReadFault.{ReadFault}
use Rattle.worker_store.specs.declared.read_fault.ReadFault.TheVariants.{Layout}

-- the image of a head of this version, or that it has the mark of another one
abbrev pub JudgesMark : Version → ℕ → List ℕ → Result NewestProcessImage ReadFault → Type 0
JudgesMark version generation process_image (Ok found) =
    (found ≡ record { version = version; generation = generation; process_image = process_image })
    × (IsMarkedOtherwise version process_image → ⊥)
JudgesMark version generation process_image (Err why) =
    (why ≡ Layout (Damaged (OtherMark (generation % 2)))) × IsMarkedOtherwise version process_image

-- the records that were scanned, or that the journal shows a later generation
abbrev pub JudgesScan : ScannedJournal → Result (Vec Record Global) ReadFault → Type 0
JudgesScan scanned (Ok found) =
    (found ≡ scanned.records) × (IsTrue scanned.shows_later → ⊥)
JudgesScan scanned (Err why) = (why ≡ Layout (Damaged LaterGeneration)) × IsTrue scanned.shows_later
