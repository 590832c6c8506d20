-- Laws of configuration and module on a disk (this project's own).
use Rattle.std.specs.Prelude.{◌≡◌, ℕ, ◌^◌, ◌<◌, ◌≤◌, List, length, Result, Ok, Err}
use Rattle.sector_disk.specs.rules.DiskImage.{DiskImage}
use Rattle.wasi_abi.specs.rules.Configs.{Settings, AreSettingsWithinLimits}
use Rattle.disk_layout.specs.declared.fault.LayoutFault.{LayoutFault}
use Rattle.disk_layout.specs.declared.fault.LayoutFault.TheVariants.{Memory, Disk}
use Rattle.disk_layout.specs.rules.Places.{geometry_of, config_bytes, total_sectors}
use Rattle.disk_layout.specs.rules.Sectors.{HasWorker}
use Rattle.disk_layout.specs.declared.reading.contents.Contents.{Contents}
use Rattle.disk_layout.specs.rules.Held.{GivesContents}

abbrev pub OneSpelling : Type 0
OneSpelling = (a b : Settings) → AreSettingsWithinLimits a → AreSettingsWithinLimits b
    → config_bytes a ≡ config_bytes b → a ≡ b

-- it speaks of what the disk holds
abbrev pub IsOfTheDisk : Result Contents LayoutFault → Type 0
IsOfTheDisk (Err Memory) = ⊥
IsOfTheDisk (Err (Disk fault)) = ⊥
IsOfTheDisk other = Unit {0}

abbrev pub OneAnswer : Type 0
OneAnswer = (sectors : ℕ) (image : DiskImage) (one other : Result Contents LayoutFault)
    → IsOfTheDisk one → IsOfTheDisk other → GivesContents sectors image one
    → GivesContents sectors image other → one ≡ other

abbrev pub ReadsWhatIsWritten : Type 0
ReadsWhatIsWritten = (sectors : ℕ) (image : DiskImage) (config : Settings) (wasm : List ℕ)
    → AreSettingsWithinLimits config → length wasm < 2 ^ 32 → HasWorker config wasm image
    → total_sectors (geometry_of config (length wasm)) ≤ sectors
    → GivesContents sectors image (Ok (record {
      geometry = geometry_of config (length wasm);
      config = config;
      wasm = wasm;
    }))
