-- Worked examples of heads, and of what a commit may change. After a commit the next can follow.
use Rattle.std.specs.Prelude.{◌≡◌, ℕ, ◌+◌, true, false, Err, List, [], ◌∷◌, ◌++◌, replicate}
use Rattle.sector_disk.specs.rules.DiskImage.{DiskImage}
use Rattle.sector_disk.specs.declared.disk_call.DiskCall.{DiskCall}
use Rattle.sector_disk.specs.declared.disk_call.DiskCall.TheVariants.{WriteOf, Sync}
use Rattle.disk_layout.specs.declared.geometry.Geometry.{Geometry}
use Rattle.disk_layout.specs.declared.head.Head.{Head}
use Rattle.disk_layout.specs.rules.Sectors.{head_bytes}
use Rattle.snapshot.specs.declared.writing.Writing.TheVariants.{Whole, Changes}
use Rattle.snapshot.specs.rules.Calls.{AreStores, with_head}
use Rattle.snapshot.specs.rules.Heads.{HasNone, heads_to, IsReadyForHead}
use Rattle.snapshot.specs.rules.Newest.{ReadsProcessImage}
use Rattle.snapshot.specs.rules.Snapshots.{is_failed, is_idle, filled_by, CanEnd}
use Rattle.snapshot.specs.Writing.{written_length}
use Rattle.snapshot.specs.declared.fault.SnapshotFault.TheVariants.{TooBig}
use Rattle.snapshot.specs.declared.snapshots.Snapshots.{Snapshots}
use Rattle.snapshot.specs.declared.snapshots.SaveState.{SaveState}
use Rattle.snapshot.specs.declared.snapshots.SaveState.TheVariants as state
use Rattle.snapshot.specs.declared.writer.AreaWriter.{AreaWriter}
use Rattle.snapshot.specs.rules.Steps.{HoldsWithZeros, HasNew, IsOutsideArea, Fills, Commits}
use Rattle.snapshot.specs.rules.Steps.{Replaces}

-- once an image is the newest one, a disk is ready for the next
abbrev pub NextCanFollow : Type 0
NextCanFollow =
    (geometry : Geometry) (g version : ℕ) (bytes : List ℕ) (image : DiskImage)
    → HasNew geometry g version bytes image → IsReadyForHead (g + 1) image

-- ---- heads

-- a head with a digest of zeros
abbrev pub plain_head : ℕ → Head
plain_head g = record {
  version = 1;
  length_in_bytes = 0;
  digest = replicate 32 0;
  generation = g;
}

abbrev pub with_heads : ℕ → ℕ → DiskImage
with_heads g h = [] ∷ head_bytes (plain_head g) ∷ head_bytes (plain_head h) ∷ []

abbrev pub headless : DiskImage
headless = [] ∷ [] ∷ [] ∷ []

pub record ReadyExamples : Type 0 where
  pub second_shown : heads_to (with_heads 2 3) ≡ 3
  pub first_shown : heads_to (with_heads 4 3) ≡ 4
  pub none_shown : heads_to headless ≡ 0
  pub none_there : HasNone headless
  pub none_in_its_area : HasNone (with_heads 3 2)
  pub first_there : HasNone (with_heads 2 2) → ⊥
  pub second_there : HasNone (with_heads 3 3) → ⊥
  pub ready_for_the_next : IsReadyForHead 4 (with_heads 2 3)
  pub ready_for_the_first : IsReadyForHead 1 headless
  pub not_for_the_same : IsReadyForHead 3 (with_heads 2 3) → ⊥
  pub not_for_one_later : IsReadyForHead 5 (with_heads 2 3) → ⊥
  pub not_for_the_second : IsReadyForHead 2 headless → ⊥

-- ---- calls; the newest is the first

-- of two sectors from sector 5 on
abbrev pub ChangesTwo : List DiskCall → Type 0
ChangesTwo calls = AreStores Changes 5 2 calls

pub record CommitCallExamples : Type 0 where
  pub second_head : with_head 3 (WriteOf 5 ∷ []) ≡ Sync ∷ WriteOf 2 ∷ Sync ∷ WriteOf 5 ∷ []
  pub first_head : with_head 4 [] ≡ Sync ∷ WriteOf 1 ∷ Sync ∷ []
  pub whole : AreStores Whole 5 2 (WriteOf 6 ∷ WriteOf 5 ∷ [])
  pub whole_but_one : AreStores Whole 5 2 (WriteOf 6 ∷ []) → ⊥
  pub both_changed : ChangesTwo (WriteOf 6 ∷ WriteOf 5 ∷ [])
  pub last_changed : ChangesTwo (WriteOf 6 ∷ [])
  pub none_changed : ChangesTwo []
  pub falling : ChangesTwo (WriteOf 5 ∷ WriteOf 6 ∷ []) → ⊥
  pub twice : ChangesTwo (WriteOf 5 ∷ WriteOf 5 ∷ []) → ⊥
  pub beyond : ChangesTwo (WriteOf 7 ∷ []) → ⊥
  pub synced : ChangesTwo (Sync ∷ WriteOf 5 ∷ []) → ⊥

-- ---- areas

-- two areas of so many sectors, from sector 3 on, and nothing after them
abbrev pub with_sectors : ℕ → Geometry
with_sectors n = record {
  config = 0;
  wasm = 0;
  module_sectors = 0;
  area_sectors = n;
  journal_sectors = 0;
}

-- two areas of two sectors, from sector 3 and from sector 5 on
abbrev pub areas : Geometry
areas = with_sectors 2

-- a disk without heads, and these four sectors in its areas
abbrev pub area_disk : List ℕ → List ℕ → List ℕ → List ℕ → DiskImage
area_disk a b c d = [] ∷ [] ∷ [] ∷ a ∷ b ∷ c ∷ d ∷ []

abbrev pub seven_sector : List ℕ
seven_sector = 7 ∷ replicate 511 0

-- no step of generation 3 on this disk comes to that one
pub record NoStep (new : DiskImage) : Type 0 where
  pub fills : Fills areas 3 (area_disk [] [] [] []) new → ⊥
  pub commits : (bytes : List ℕ) → Commits areas 3 1 bytes (area_disk [] [] [] []) new → ⊥
  pub replaces : (bytes : List ℕ) → Replaces areas 3 1 bytes (area_disk [] [] [] []) new → ⊥

pub record AreaExamples : Type 0 where
  pub before_it : IsOutsideArea areas 3 4
  pub first_in_it : IsOutsideArea areas 3 5 → ⊥
  pub last_in_it : IsOutsideArea areas 3 6 → ⊥
  pub behind_it : IsOutsideArea areas 3 7
  pub behind_the_other : IsOutsideArea areas 4 5
  pub zeros_behind : HoldsWithZeros areas 3 (7 ∷ []) (area_disk [] [] seven_sector [])
  pub no_zeros : HoldsWithZeros areas 3 (7 ∷ [])
      (area_disk [] [] (7 ∷ 9 ∷ replicate 510 0) []) → ⊥
  pub in_the_other_area : HoldsWithZeros areas 3 (7 ∷ []) (area_disk seven_sector [] [] []) → ⊥
  pub no_other_area : NoStep (area_disk [] (7 ∷ []) [] [])
  pub no_super : NoStep ((7 ∷ []) ∷ [] ∷ [] ∷ [] ∷ [] ∷ [] ∷ [] ∷ [])
  pub no_other_head : NoStep ([] ∷ (7 ∷ []) ∷ [] ∷ [] ∷ [] ∷ [] ∷ [] ∷ [])
  pub no_more_sectors : NoStep (area_disk [] [] [] [] ++ [] ∷ [])
  -- before the commit its own head isn't written
  pub no_head_yet : Fills areas 3 (area_disk [] [] [] [])
      ([] ∷ [] ∷ (7 ∷ []) ∷ [] ∷ [] ∷ [] ∷ [] ∷ []) → ⊥

-- ---- states

abbrev pub in_state : SaveState → Snapshots
in_state s = record { state = s }

-- a writer of three sectors, and a hundred bytes after them
abbrev pub HasThree : AreaWriter → Type 0
HasThree w = (w.sectors ≡ 3) × (w.filled ≡ 100)

pub record StateExamples : Type 0 where
  pub idle : is_idle (in_state state.Idle) ≡ true
  pub idle_has_not_failed : is_failed (in_state state.Idle) ≡ false
  pub failed : is_failed (in_state state.Failed) ≡ true
  pub failed_is_not_idle : is_idle (in_state state.Failed) ≡ false
  pub begun : (w : AreaWriter) → is_idle (in_state (state.Begun w)) ≡ false
  pub begun_has_not_failed : (w : AreaWriter) → is_failed (in_state (state.Begun w)) ≡ false
  pub bytes : (w : AreaWriter) → HasThree w → written_length w ≡ 1636
  pub none_filled : (w : AreaWriter) → HasThree w → filled_by w 411 ≡ 0
  pub one_filled : (w : AreaWriter) → HasThree w → filled_by w 412 ≡ 1
  pub two_filled : (w : AreaWriter) → HasThree w → filled_by w 924 ≡ 2
  -- four sectors have room for it, and three don't
  pub room : (w : AreaWriter) → HasThree w → CanEnd (with_sectors 4) (state.Begun w)
  pub no_room : (w : AreaWriter) → HasThree w → CanEnd (with_sectors 3) (state.Begun w) → ⊥
  pub nothing_to_end : CanEnd (with_sectors 4) state.Idle → ⊥
  -- an image that is read is never too big
  pub read_too_big : (geometry : Geometry) (image : DiskImage) (h : Head)
      → ReadsProcessImage geometry image h (Err TooBig) → ⊥
