-- The sectors with fields: the super and the heads, and what a sector shows (this project's own).
-- Numbers are little-endian.
use Rattle.std.specs.Prelude.{◌≡◌, ◌≢◌, ℕ, zero, suc, ◌+◌, ◌%◌, ◌<◌, ◌≤◌, ◌==◌, if◌then◌else◌}
use Rattle.std.specs.Prelude.{List, [], ◌++◌, length, take, Option, Some, None}
use Rattle.sha2.specs.Sha256.{sha256}
use Rattle.guest_memory.specs.rules.Bytes.{number_of, part}
use Rattle.wasi_abi.specs.declared.version.Version.{Version}
use Rattle.wasi_abi.specs.rules.Configs.{Settings}
use Rattle.wasi_abi.specs.rules.Versions.{version_number}
use Rattle.disk_layout.specs.declared.stamp.Stamp.{Stamp as DeclaredStamp}
use Rattle.disk_layout.specs.declared.head.Head.{Head as DeclaredHead}
use Rattle.disk_layout.specs.declared.superblock.Super.{Super as DeclaredSuper}
use Rattle.wasi_abi.specs.rules.Layouts.{u32_bytes, u64_bytes, padding}
use Rattle.sector_disk.specs.rules.DiskImage.{DiskImage, sector_at}
use Rattle.disk_layout.specs.rules.Places.{Geometry, geometry_of, config_bytes, head_place}
use Rattle.disk_layout.specs.rules.Places.{area_place}
use Rattle.disk_layout.specs.declared.geometry.TheConstants.{MODULE_PLACE}
use Rattle.disk_layout.specs.declared.superblock.TheConstants.{SUPER_MARK, SUPER_END_MARK, LAYOUT}
use Rattle.disk_layout.specs.declared.superblock.TheConstants.{LAYOUT_AT, CONFIG_LENGTH_AT}
use Rattle.disk_layout.specs.declared.superblock.TheConstants.{WASM_LENGTH_AT, MODULE_SECTORS_AT}
use Rattle.disk_layout.specs.declared.superblock.TheConstants.{AREA_SECTORS_AT, JOURNAL_SECTORS_AT}
use Rattle.disk_layout.specs.declared.superblock.TheConstants.{CONTENTS_DIGEST_AT, END_MARK_AT}
use Rattle.disk_layout.specs.declared.head.TheConstants.{HEAD_MARK, VERSION_AT, IMAGE_LENGTH_AT}
use Rattle.disk_layout.specs.declared.head.TheConstants.{IMAGE_DIGEST_AT, HEAD_STAMP_PLACE}
use Rattle.disk_layout.specs.declared.stamp.TheConstants.{GENERATION_AT, PLACE_AT}

-- a generation and a place
abbrev pub Stamp : Type 0
Stamp = DeclaredStamp

-- the fields of a head
abbrev pub Head : Type 0
Head = DeclaredHead

-- a geometry and a digest
abbrev pub Super : Type 0
Super = DeclaredSuper

-- ---- bytes over sectors

-- so many sectors from a place on, one after another
abbrev pub bytes_from : DiskImage → ℕ → ℕ → List ℕ
bytes_from image place zero = []
bytes_from image place (suc count) = sector_at image place ++ bytes_from image (place + 1) count

-- the first bytes of so many sectors are these
abbrev pub SectorsHold : DiskImage → ℕ → ℕ → List ℕ → Type 0
SectorsHold image place count bytes = take (length bytes) (bytes_from image place count) ≡ bytes

-- ---- the super

-- 0 mark, 8 layout 1, 12 length of the configuration, 16 of the module, 20 their sectors, 24 those
-- of an area, 28 of the journal, 32 digest of configuration and module, 64 zeros, 504 mark
abbrev pub super_bytes : Geometry → List ℕ → List ℕ
super_bytes g digest =
    SUPER_MARK ++ (u32_bytes LAYOUT
    ++ (u32_bytes g.config
    ++ (u32_bytes g.wasm ++ (u32_bytes g.module_sectors ++ (u32_bytes g.area_sectors
    ++ (u32_bytes g.journal_sectors ++ (digest ++ (padding 440 ++ SUPER_END_MARK))))))))

-- both marks of the super are there
pub record IsMarked (sector : List ℕ) : Type 0 where
  pub first : take 8 sector ≡ SUPER_MARK
  pub last : part sector END_MARK_AT 8 ≡ SUPER_END_MARK

-- sector 0 has both marks of a super
abbrev pub HasMarks : DiskImage → Type 0
HasMarks image = IsMarked (sector_at image 0)

-- the fields that a sector holds at their places
abbrev pub super_layout : List ℕ → ℕ
super_layout sector = number_of (part sector LAYOUT_AT 4)

-- the super that these bytes have at the places of its fields
abbrev pub super_of : List ℕ → Super
super_of sector = record {
  geometry = record {
    config = number_of (part sector CONFIG_LENGTH_AT 4);
    wasm = number_of (part sector WASM_LENGTH_AT 4);
    module_sectors = number_of (part sector MODULE_SECTORS_AT 4);
    area_sectors = number_of (part sector AREA_SECTORS_AT 4);
    journal_sectors = number_of (part sector JOURNAL_SECTORS_AT 4);
  };
  digest = part sector CONTENTS_DIGEST_AT 32;
}

-- the super of this configuration and module, and the two after the heads
pub record HasWorker (config : Settings) (wasm : List ℕ) (image : DiskImage) : Type 0 where
  pub super : sector_at image 0
      ≡ super_bytes (geometry_of config (length wasm)) (sha256 (config_bytes config ++ wasm))
  pub contents : SectorsHold image MODULE_PLACE (geometry_of config (length wasm)).module_sectors
      (config_bytes config ++ wasm)

-- ---- stamps

-- generation and place, in the last 16 bytes of a head or a journal sector
abbrev pub stamp_bytes : Stamp → List ℕ
stamp_bytes s = u64_bytes s.generation ++ u64_bytes s.place

-- the stamp that these bytes have at its place
abbrev pub stamp_of : List ℕ → Stamp
stamp_of sector = record {
  generation = number_of (part sector GENERATION_AT 8);
  place = number_of (part sector PLACE_AT 8);
}

-- the generation of a stamp that names this place, else 0
abbrev pub shown_at : ℕ → Stamp → ℕ
shown_at place s = if s.place == place then s.generation else 0

-- the generation that a sector shows where this is its place, else 0
abbrev pub shown_generation : ℕ → List ℕ → ℕ
shown_generation place sector = shown_at place (stamp_of sector)

-- ---- heads

-- 0 mark, 8 version, 12 zeros, 16 length of the image, 24 its digest, 56 zeros, 496 generation, 504
-- place 1
abbrev pub head_bytes : Head → List ℕ
head_bytes h =
    HEAD_MARK ++ (u32_bytes h.version
    ++ (padding 4 ++ (u64_bytes h.length_in_bytes ++ (h.digest ++ (padding 440
    ++ stamp_bytes (record { generation = h.generation; place = HEAD_STAMP_PLACE }))))))

-- the head that these bytes have at the places of its fields
abbrev pub head_of : List ℕ → Head
head_of sector = record {
  version = number_of (part sector VERSION_AT 4);
  length_in_bytes = number_of (part sector IMAGE_LENGTH_AT 8);
  digest = part sector IMAGE_DIGEST_AT 32;
  generation = number_of (part sector GENERATION_AT 8);
}

-- the version of this number, or nothing where there is none
abbrev pub IsOfNumber : ℕ → Option Version → Type 0
IsOfNumber number (Some version) = number ≡ version_number version
IsOfNumber number None = (version : Version) → number ≢ version_number version

-- A complete head. It begins with the mark, and its stamp names a head's place. Its generation,
-- never 0, is odd or even as its area is.
pub record IsComplete (area : ℕ) (sector : List ℕ) : Type 0 where
  pub mark : take 8 sector ≡ HEAD_MARK
  pub place : (stamp_of sector).place ≡ HEAD_STAMP_PLACE
  pub from_one : 1 ≤ (stamp_of sector).generation
  pub parity : (stamp_of sector).generation % 2 ≡ area

-- The newest complete head of an image, of generation g: it is complete, and the other one is not,
-- or is older.
pub record IsNewest (image : DiskImage) (g : ℕ) (h : Head) : Type 0 where
  pub complete : IsComplete (g % 2) (sector_at image (head_place g))
  pub is : h ≡ head_of (sector_at image (head_place g))
  pub same : h.generation ≡ g
  pub newest : IsComplete ((g + 1) % 2) (sector_at image (head_place (g + 1)))
      → (stamp_of (sector_at image (head_place (g + 1)))).generation < g

-- the area of generation g holds these bytes, and its head says so
pub record HoldsProcessImage (geometry : Geometry) (image : DiskImage) (g version : ℕ)
    (bytes : List ℕ) : Type 0 where
  pub newest : IsNewest image g (record {
    version = version;
    length_in_bytes = length bytes;
    digest = sha256 bytes;
    generation = g;
  })
  pub area : SectorsHold image (area_place geometry g) geometry.area_sectors bytes
