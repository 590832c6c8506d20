-- A slice, or a batch where one sync may serve more than one line.
use Rattle.std.proofs.Common.{◌≡◌, ◌⊎◌, inl, inr, ℕ, ◌<◌, ◌≤◌, Bool, true, false, refl, arith}
use Rattle.std.proofs.lemmas.Bool.Decides.{nat_tests}
use Rattle.std.specs.Prelude.{nat_le, if◌then◌else◌}
use Rattle.worker.specs.rules.LifeWords.{Slice, Batch}
use Rattle.disk_commands.specs.rules.Paces.{act_at}

module _ (fuel most : ℕ) where
  pub act_is_batch : 1 < most → act_at fuel most ≡ Batch fuel most
  act_is_batch several = by (nat_le most 1) refl
    where
      by : (b : Bool) → nat_le most 1 ≡ b
          → (if b then Slice fuel else Batch fuel most) ≡ Batch fuel most
      by true is = absurd (grind (arith, nat_tests, several, is))
      by false is = refl

  pub act_is_slice : most ≤ 1 → act_at fuel most ≡ Slice fuel
  act_is_slice one = by (nat_le most 1) refl
    where
      by : (b : Bool) → nat_le most 1 ≡ b
          → (if b then Slice fuel else Batch fuel most) ≡ Slice fuel
      by true is = refl
      by false is = absurd (grind (arith, nat_tests, one, is))

  pub one_or_several : (act_at fuel most ≡ Slice fuel) ⊎ (2 ≤ most)
  one_or_several = by (nat_le most 1) refl
    where
      by : (b : Bool) → nat_le most 1 ≡ b
          → ((if b then Slice fuel else Batch fuel most) ≡ Slice fuel) ⊎ (2 ≤ most)
      by true is = inl refl
      by false is = inr (grind (arith, nat_tests, is))
