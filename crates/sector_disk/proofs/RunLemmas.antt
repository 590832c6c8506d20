-- Sectors that are written one after another: one write on.
use Rattle.std.proofs.Common.{◌≡◌, ◌≢◌, ◌≤◌, ◌<◌, ◌+◌, ℕ, List, length, Err, ap, ◌∙◌, subst, ⊎_elim}
use Rattle.std.proofs.Common.{arith, refl}
use Rattle.std.proofs.lemmas.List.{length-set}
use Rattle.std.proofs.lemmas.Bool.{cases_lt}
use Rattle.sector_disk.specs.rules.DiskImage.{DiskImage, sector_at, with_sector, front_over}
use Rattle.sector_disk.specs.rules.DiskImage.{IsDiskImage, IsTorn, IsWritten}
use Rattle.sector_disk.specs.rules.Medium.{Medium, After, Follows, BothFollow, Passes, LeavesOnly}
use Rattle.sector_disk.specs.rules.Medium.{Tears, TakesWrite, HasCause, FailsInside}
use Rattle.sector_disk.specs.declared.fault.DiskFault.{DiskFault}
use Rattle.sector_disk.specs.rules.Run.{IsTornRun, IsWrittenRun, HoldsRun}
use Rattle.sector_disk.specs.laws.Fronts.{sector-with_sector, sector-with_other}
use Rattle.sector_disk.proofs.Moments.{crashed_follow, both_then, goes_on, leaves_only}

-- before the first write
pub run_none : (at : ℕ) (sectors image : DiskImage) → IsTornRun at sectors 0 image image
run_none at sectors image = record {
  count = refl;
  below = λ k lt. refl;
  above = λ k le. refl;
  each = λ j lt. absurd (omega arith);
}

pub written_none : (at : ℕ) (sectors image : DiskImage) → IsWrittenRun at sectors 0 image image
written_none at sectors image = record {
  count = refl;
  below = λ k lt. refl;
  above = λ k le. refl;
  each = λ j lt. absurd (omega arith);
}

-- of the writes that were not made no byte is left
pub run_longer : (at : ℕ) (sectors : DiskImage) (n m : ℕ) (old new : DiskImage) → n ≤ m
    → IsTornRun at sectors n old new → IsTornRun at sectors m old new
run_longer at sectors n m old new le run = record {
  count = run.count;
  below = run.below;
  above = λ k above. run.above k (omega arith);
  each = λ j lt.
      ⊎_elim
      (λ (made : j < n). run.each j made)
      (λ (other : n ≤ j). (0, omega arith, run.above (at + j) (omega arith)))
      (cases_lt j n);
}

-- the sectors beside the one that is written
others : (at n : ℕ) (mid new : DiskImage) (bytes : List ℕ) → new ≡ with_sector mid (at + n) bytes
    → (k : ℕ) → k ≢ at + n → sector_at new k ≡ sector_at mid k
others at n mid new bytes is k ne = ap (λ (i : DiskImage). sector_at i k) is
    ∙ sector-with_other mid k (at + n) bytes ne

pub run_more : (at : ℕ) (sectors : DiskImage) (n : ℕ) (old mid new : DiskImage) → at
    + n < length mid → IsTornRun at sectors n old mid → IsTorn (at
    + n) (sector_at sectors n) mid new → IsTornRun at sectors (n + 1) old new
run_more at sectors n old mid new lt run torn =
    let other = others at n mid new _ torn.is in
    let here : sector_at new (at + n)
    ≡ front_over torn.front (sector_at sectors n) (sector_at old (at + n)) =
    ap (λ (i : DiskImage). sector_at i (at + n)) torn.is ∙ sector-with_sector mid (at + n) _ lt
    ∙ ap (λ (l : List ℕ). front_over torn.front (sector_at sectors n) l)
    (run.above (at + n) (omega arith)) in
    record {
      count = ap length torn.is ∙ length-set mid (at + n) _ ∙ run.count;
      below = λ k below. other k (omega arith) ∙ run.below k below;
      above = λ k above. other k (omega arith) ∙ run.above k (omega arith);
      each = λ j below.
          ⊎_elim
          (λ (earlier : j < n). let was = run.each j earlier in
          (was.0, was.1, other (at + j) (omega arith) ∙ was.2))
          (λ (last : n ≤ j).
          let e : n ≡ j = omega arith in
          let P : ℕ → Type 0 = λ i. (front : ℕ) × (front ≤ 512)
          × (sector_at new (at + i)
          ≡ front_over front (sector_at sectors i) (sector_at old (at + i))) in
          subst P e (torn.front, torn.within, here))
          (cases_lt j n);
    }

pub written_more : (at : ℕ) (sectors : DiskImage) (n : ℕ) (old mid new : DiskImage) → at
    + n < length mid → IsWrittenRun at sectors n old mid → IsWritten (at
    + n) (sector_at sectors n) mid new → IsWrittenRun at sectors (n + 1) old new
written_more at sectors n old mid new lt run written =
    let other = others at n mid new _ written in
    record {
      count = ap length written ∙ length-set mid (at + n) _ ∙ run.count;
      below = λ k below. other k (omega arith) ∙ run.below k below;
      above = λ k above. other k (omega arith) ∙ run.above k (omega arith);
      each = λ j below.
          ⊎_elim
          (λ (earlier : j < n). other (at + j) (omega arith) ∙ run.each j earlier)
          (λ (last : n ≤ j).
          let e : n ≡ j = omega arith in
          let P : ℕ → Type 0 = λ i. sector_at new (at + i) ≡ sector_at sectors i in
          subst P e (ap (λ (i : DiskImage). sector_at i (at + n)) written
          ∙ sector-with_sector mid (at + n) _ lt))
          (cases_lt j n);
    }

-- the same of a disk
module _ (at : ℕ) (sectors : DiskImage) (n : ℕ) (old mid new : Medium) (lt : at
    + n < mid.sectors) where
  in_disk_image : (image : DiskImage) → IsDiskImage mid.sectors image → at + n < length image
  in_disk_image image is = let c = is.count in omega arith

  pub both_tear : BothFollow (IsTornRun at sectors n) (IsTornRun at sectors n) old mid
      → Tears (at + n) (sector_at sectors n) mid new
      → BothFollow (IsTornRun at sectors (n + 1)) (IsTornRun at sectors (n + 1)) old new
  both_tear so_far tears = both_then old mid new _ _ _ _ _ _
      (λ a b c is run torn. run_more at sectors n a b c (in_disk_image b is) run torn)
      (λ a b c is run torn. run_more at sectors n a b c (in_disk_image b is) run torn)
      so_far tears.both

  pub both_take : BothFollow (IsWrittenRun at sectors n) (IsTornRun at sectors n) old mid
      → TakesWrite (at + n) (sector_at sectors n) mid new
      → BothFollow (IsWrittenRun at sectors (n + 1)) (IsTornRun at sectors (n + 1)) old new
  both_take so_far takes = both_then old mid new _ _ _ _ _ _
      (λ a b c is run written. written_more at sectors n a b c (in_disk_image b is) run written)
      (λ a b c is run torn. run_more at sectors n a b c (in_disk_image b is) run torn)
      so_far takes.both

-- before the first write
pub both_none : (at : ℕ) (sectors : DiskImage) (m : Medium)
    → BothFollow (IsTornRun at sectors 0) (IsTornRun at sectors 0) m m
both_none at sectors m = λ shown image both. (
  shown,
  image,
  both,
  run_none at sectors shown,
  run_none at sectors image,
)

pub both_written_none : (at : ℕ) (sectors : DiskImage) (m : Medium)
    → BothFollow (IsWrittenRun at sectors 0) (IsTornRun at sectors 0) m m
both_written_none at sectors m =
    λ shown image both. (
      shown,
      image,
      both,
      written_none at sectors shown,
      run_none at sectors image,
    )

-- writes that were not made
pub both_longer : (at : ℕ) (sectors : DiskImage) (n m : ℕ) (old new : Medium) → n ≤ m
    → BothFollow (IsTornRun at sectors n) (IsTornRun at sectors n) old new
    → BothFollow (IsTornRun at sectors m) (IsTornRun at sectors m) old new
both_longer at sectors n m old new le so_far = λ shown image both.
    let was = so_far shown image both in (
      was.0,
      was.1,
      was.2,
      run_longer at sectors n m was.0 shown le was.3,
      run_longer at sectors n m was.1 image le was.4,
    )

-- what a cut leaves within the run
pub crashed_longer : (at : ℕ) (sectors : DiskImage) (n m : ℕ) (old new : Medium) → n ≤ m
    → BothFollow (IsTornRun at sectors n) (IsTornRun at sectors n) old new → (image : DiskImage)
    → new.crash_images image → After (IsTornRun at sectors m) old.crash_images image
crashed_longer at sectors n m old new le so_far =
    crashed_follow old new _ _ (both_longer at sectors n m old new le so_far)

-- one write on, and at the end
pub run_passes : (at : ℕ) (sectors : DiskImage) (n m : ℕ) (old mid new : Medium) → n ≤ m
    → Passes old mid (After (IsTornRun at sectors m) old.crash_images)
    → BothFollow (IsTornRun at sectors n) (IsTornRun at sectors n) old new
    → Passes mid new new.crash_images → Passes old new (After (IsTornRun at sectors m)
    old.crash_images)
run_passes at sectors n m old mid new le so_far both passes =
    goes_on old mid new _ _ so_far passes (crashed_longer at sectors n m old new le both)

pub run_leaves_only : (at : ℕ) (sectors : DiskImage) (m : ℕ) (old new : Medium)
    → Passes old new (After (IsTornRun at sectors m) old.crash_images)
    → LeavesOnly old new (After (IsTornRun at sectors m) old.crash_images)
run_leaves_only at sectors m old new passes =
    leaves_only old new _ passes (λ image crashed. (
      image,
      crashed,
      run_longer at sectors 0 m image image (omega arith) (run_none at sectors image),
    ))

-- what reads give
pub written_holds : (at : ℕ) (sectors : DiskImage) (n : ℕ) (old new : Medium)
    → Follows (IsWrittenRun at sectors n) old.shows new.shows → HoldsRun new at sectors n
written_holds at sectors n old new written image shows j lt = let was = written image shows in
    let run = was.2 in run.each j lt

-- a call fails with a fault of the disk itself where its sector is one
pub fails_inside : {T : Type 0} (e : DiskFault) (is_out is_full : Type 0) (old new : Medium)
    → HasCause {T = T} is_out is_full (Err e) old new → (is_out → ⊥) → FailsInside {T = T} (Err e)
fails_inside e is_out is_full old new cause inside =
    record { no_range = λ is. inside (cause.range is); no_memory = cause.no_memory }
