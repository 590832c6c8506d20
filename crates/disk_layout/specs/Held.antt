-- Whether bytes agree with their digest.
use Rattle.std.specs.Prelude.{◌≡◌, ℕ, ◌<◌, ◌≤◌, Result, Ok, Err}
use Rattle.wasi_abi.specs.rules.Configs.{Settings}
use Rattle.disk_layout.specs.declared.fault.LayoutFault.{LayoutFault}
use Rattle.disk_layout.specs.declared.fault.LayoutFault.TheVariants.{TooSmall, Damaged, Memory}
use Rattle.disk_layout.specs.declared.stored.Stored.{Stored}
use Rattle.disk_layout.specs.rules.Places.{total_sectors}
use Rattle.disk_layout.specs.declared.reading.contents.Contents.{Contents}
use Rattle.disk_layout.specs.declared.damage.Damage.TheVariants as damage
use Rattle.disk_layout.specs.rules.Held.{HasAreasOf, HasJournalOf, SpellsSettings, IsStoredOf}

-- what is made of stored bytes on a disk of so many sectors
abbrev pub Agrees : ℕ → Stored → Result Contents LayoutFault → Type 0
Agrees sectors stored (Ok c) = IsStoredOf stored c.config × (c.geometry ≡ stored.geometry)
    × (c.wasm ≡ stored.wasm) × (total_sectors stored.geometry ≤ sectors)
Agrees sectors stored (Err (Damaged damage.Configuration)) =
    (s : Settings) → SpellsSettings stored s → ⊥
Agrees sectors stored (Err (Damaged damage.AreaSectors)) =
    (s : Settings) × SpellsSettings stored s × (HasAreasOf stored.geometry s → ⊥)
Agrees sectors stored (Err (Damaged damage.JournalSectors)) =
    (s : Settings) × SpellsSettings stored s × HasAreasOf stored.geometry s
    × (HasJournalOf stored.geometry s → ⊥)
Agrees sectors stored (Err TooSmall) = ((s : Settings) × IsStoredOf stored s)
    × (sectors < total_sectors stored.geometry)
Agrees sectors stored (Err Memory) = Unit {0}
Agrees sectors stored (Err other) = ⊥
