-- Where things lie on a disk: super, two heads, configuration and module, two areas, journal (this
-- project's own).
use Rattle.std.specs.Prelude.{ℕ, ◌+◌, ◌-◌, ◌*◌, ◌/◌, ◌%◌, List, ◌++◌, length}
use Rattle.std.specs.List.{flat_map}
use Rattle.wasi_abi.specs.rules.Configs.{Settings}
use Rattle.disk_layout.specs.declared.geometry.Geometry.{Geometry as DeclaredGeometry}
use Rattle.wasi_abi.specs.rules.Layouts.{u16_bytes, u32_bytes}
use Rattle.sector_disk.specs.declared.sector.TheConstants.{SECTOR_SIZE}
use Rattle.disk_layout.specs.declared.geometry.TheConstants.{MODULE_PLACE}

-- where things lie: lengths in bytes, and parts in sectors
abbrev pub Geometry : Type 0
Geometry = DeclaredGeometry

-- ---- the configuration as bytes

-- a length in 16 bits, and the bytes
abbrev pub short_text_bytes : List ℕ → List ℕ
short_text_bytes text = u16_bytes (length text) ++ text

-- how many texts, and then each with its length
abbrev pub texts_bytes : List (List ℕ) → List ℕ
texts_bytes texts = u32_bytes (length texts) ++ flat_map short_text_bytes texts

-- the configuration as bytes: three numbers, the arguments, the environment
abbrev pub config_bytes : Settings → List ℕ
config_bytes c =
    u32_bytes c.pages
    ++ (u32_bytes c.files
    ++ (u32_bytes c.journal ++ (texts_bytes c.arguments ++ texts_bytes c.environment)))

-- ---- the geometry

-- how many sectors so many bytes take
abbrev pub rounded_up : ℕ → ℕ
rounded_up bytes = (bytes + (SECTOR_SIZE - 1)) / SECTOR_SIZE

-- of a configuration and a module of so many bytes
abbrev pub geometry_of : Settings → ℕ → Geometry
geometry_of c wasm = record {
  config = length (config_bytes c);
  wasm = wasm;
  module_sectors = rounded_up (length (config_bytes c) + wasm);
  area_sectors = 2048 + 128 * (c.pages + c.files);
  journal_sectors = c.journal;
}

-- sector 0 is the super, 1 and 2 are the heads of areas 0 and 1
abbrev pub head_place : ℕ → ℕ
head_place g = 1 + g % 2

-- generation g lies in area g mod 2
abbrev pub area_place : Geometry → ℕ → ℕ
area_place geometry g = MODULE_PLACE + geometry.module_sectors + (g % 2) * geometry.area_sectors

-- the first sector of the journal: after configuration, module and both areas
abbrev pub journal_place : Geometry → ℕ
journal_place geometry = MODULE_PLACE + geometry.module_sectors + 2 * geometry.area_sectors

-- all sectors of a worker: those up to the journal, and those of the journal
abbrev pub total_sectors : Geometry → ℕ
total_sectors geometry = journal_place geometry + geometry.journal_sectors
