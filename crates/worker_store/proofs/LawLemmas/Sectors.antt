-- What is read of an image, where the sectors that it is read of stay.
use Rattle.std.proofs.Common.{◌≡◌, ℕ, ◌+◌, ◌-◌, ◌<◌, ◌≤◌, List, ◌++◌, length, take, sym, ap, ◌∙◌}
use Rattle.std.proofs.Common.{subst, arith}
use Rattle.wasi_abi.specs.rules.Configs.{Settings}
use Rattle.sector_disk.specs.rules.DiskImage.{DiskImage, sector_at}
use Rattle.disk_layout.specs.rules.Places.{Geometry, geometry_of, config_bytes, head_place}
use Rattle.disk_layout.specs.rules.Places.{area_place, journal_place}
use Rattle.disk_layout.specs.rules.Sectors.{HasWorker, HoldsProcessImage, SectorsHold}
use Rattle.disk_layout.specs.rules.Sectors.{shown_generation}
use Rattle.snapshot.proofs.AreaLemmas.{bytes_same, newest_moves, area_in}
use Rattle.journal.specs.rules.Steps.{ShowsNoneAfter}
use Rattle.worker_store.specs.restart_theorem.Stands.{ShowsNoneLater}

abbrev pub SameSector : DiskImage → DiskImage → ℕ → Type 0
SameSector old new k = sector_at new k ≡ sector_at old k

-- ---- super and contents

pub contents_stay : (old new : DiskImage) (count : ℕ) (bytes : List ℕ)
    → ((k : ℕ) → 3 ≤ k → k < 3 + count → SameSector old new k)
    → SectorsHold old 3 count bytes → SectorsHold new 3 count bytes
contents_stay old new count bytes same holds =
    ap (λ l. take (length bytes) l) (bytes_same old new 3 count same) ∙ holds

pub worker_stays : (config : Settings) (wasm : List ℕ) (old new : DiskImage) → SameSector old new 0
    → ((k : ℕ) → 3 ≤ k → k < 3 + (geometry_of config (length wasm)).module_sectors
    → SameSector old new k)
    → HasWorker config wasm old → HasWorker config wasm new
worker_stays config wasm old new super same has = record {
  super = super ∙ has.super;
  contents = contents_stay old new (geometry_of config (length wasm)).module_sectors
      (config_bytes config ++ wasm) same has.contents;
}

-- ---- heads and areas

pub process_image_stays : (geometry : Geometry) (old new : DiskImage) (g version : ℕ)
    (bytes : List ℕ) → ((n : ℕ) → SameSector old new (head_place n))
    → ((k : ℕ) → area_place geometry g ≤ k → k < area_place geometry g + geometry.area_sectors
    → SameSector old new k)
    → HoldsProcessImage geometry old g version bytes → HoldsProcessImage geometry new
    g version bytes
process_image_stays geometry old new g version bytes heads area holds = record {
  newest = newest_moves old new g _ heads holds.newest;
  area = ap (λ l. take (length bytes) l)
      (bytes_same old new (area_place geometry g) geometry.area_sectors area) ∙ holds.area;
}

in_area : (geometry : Geometry) (g k : ℕ) → area_place geometry g ≤ k
    → k < area_place geometry g + geometry.area_sectors → k < journal_place geometry
in_area geometry g k from below =
    let at : ℕ = area_place geometry g in
    let inside = area_in geometry g (k - at) (omega (arith, from, below)) in
    omega (arith, inside, from)

heads_below : (geometry : Geometry) (n : ℕ) → head_place n < journal_place geometry
heads_below geometry n = omega arith

pub contents_below : (geometry : Geometry) (k : ℕ) → k < 3 + geometry.module_sectors
    → k < journal_place geometry
contents_below geometry k below = omega (arith, below)

pub some_below : (geometry : Geometry) (k : ℕ) → k < 3 → k < journal_place geometry
some_below geometry k below = omega (arith, below)

-- where all below the journal stays
pub process_image_below : (geometry : Geometry) (old new : DiskImage) (g version : ℕ)
    (bytes : List ℕ) → ((k : ℕ) → k < journal_place geometry → SameSector old new k)
    → HoldsProcessImage geometry old g version bytes → HoldsProcessImage geometry new
    g version bytes
process_image_below geometry old new g version bytes same holds =
    process_image_stays geometry old new g version bytes
    (λ n. same (head_place n) (heads_below geometry n))
    (λ k from below. same k (in_area geometry g k from below)) holds

-- ---- generations

pub none_later_of : (geometry : Geometry) (new : DiskImage) (g : ℕ)
    → shown_generation 1 (sector_at new 1) ≤ g → shown_generation 1 (sector_at new 2) ≤ g
    → ShowsNoneAfter geometry g new → ShowsNoneLater geometry new g
none_later_of geometry new g first second journal = record {
  first_head = first;
  second_head = second;
  journal = λ k below.
      let e : 1 + k ≡ k + 1 = omega arith in
      subst (λ n. shown_generation n (sector_at new (journal_place geometry + k)) ≤ g) e
      (journal k below);
}

pub none_after_of : (geometry : Geometry) (disk : DiskImage) (g : ℕ)
    → ShowsNoneLater geometry disk g → ShowsNoneAfter geometry g disk
none_after_of geometry disk g shows k below =
    let e : k + 1 ≡ 1 + k = omega arith in
    subst (λ n. shown_generation n (sector_at disk (journal_place geometry + k)) ≤ g) e
    (shows.journal k below)

pub head_stays : (old new : DiskImage) (g k : ℕ) → SameSector old new k
    → shown_generation 1 (sector_at old k) ≤ g → shown_generation 1 (sector_at new k) ≤ g
head_stays old new g k same below =
    subst (λ s. shown_generation 1 s ≤ g) (sym same) below
