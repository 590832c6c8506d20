-- Laws of heads and of the images that they name.
use Rattle.std.specs.Prelude.{ℕ, ◌%◌, ◌≤◌, List, [], ◌∷◌, replicate}
use Rattle.sha2.specs.Sha256.{sha256}
use Rattle.sector_disk.specs.rules.DiskImage.{DiskImage}
use Rattle.disk_layout.specs.rules.Places.{Geometry}
use Rattle.disk_layout.specs.rules.Sectors.{Head, head_bytes, IsComplete, IsNewest}
use Rattle.disk_layout.specs.rules.Sectors.{HoldsProcessImage}
use Rattle.disk_layout.specs.laws.Laws.{HeadFits}

-- a head that is written is complete in the area of its generation
abbrev pub WrittenIsComplete : Type 0
WrittenIsComplete =
    (h : Head) → HeadFits h → 1 ≤ h.generation → IsComplete (h.generation % 2) (head_bytes h)

-- ---- examples

-- an image of the one byte 7, of this version and generation
abbrev pub seven_head : ℕ → ℕ → Head
seven_head version g = record {
  version = version;
  length_in_bytes = 1;
  digest = sha256 (7 ∷ []);
  generation = g;
}

-- a disk with two heads of such images, and two areas of a sector
abbrev pub two_areas : Geometry
two_areas = record {
  config = 0;
  wasm = 0;
  module_sectors = 0;
  area_sectors = 1;
  journal_sectors = 0;
}

abbrev pub seven_disk : List ℕ → List ℕ → DiskImage
seven_disk first second = [] ∷ first ∷ second ∷ (9 ∷ []) ∷ (7 ∷ 8 ∷ []) ∷ []

-- its heads are of generations 2 and 3
abbrev pub second_and_third : DiskImage
second_and_third = seven_disk (head_bytes (seven_head 1 2)) (head_bytes (seven_head 1 3))

pub record HeadExamples : Type 0 where
  -- a head of zeros is no head, one of another area neither, nor is one of generation 0
  pub zeros : IsComplete 0 (replicate 512 0) → ⊥
  pub other_area : IsComplete 1 (head_bytes (seven_head 1 2)) → ⊥
  pub never_zero : IsComplete 0 (head_bytes (seven_head 1 0)) → ⊥
  pub third_is_newest : IsNewest second_and_third 3 (seven_head 1 3)
  pub second_is_older : IsNewest second_and_third 2 (seven_head 1 2) → ⊥
  pub another_generation : IsNewest second_and_third 5 (seven_head 1 3) → ⊥
  pub another_version : IsNewest second_and_third 3 (seven_head 2 3) → ⊥
  -- where the other head is torn, the older one is the newest
  pub alone : IsNewest (seven_disk (head_bytes (seven_head 1 2)) []) 2 (seven_head 1 2)
  pub holds : HoldsProcessImage two_areas second_and_third 3 1 (7 ∷ [])
  pub holds_no_other_byte : HoldsProcessImage two_areas second_and_third 3 1 (9 ∷ []) → ⊥
  pub holds_no_more_bytes : HoldsProcessImage two_areas second_and_third 3 1 (7 ∷ 8 ∷ []) → ⊥
  pub holds_no_other_version : HoldsProcessImage two_areas second_and_third 3 2 (7 ∷ []) → ⊥
