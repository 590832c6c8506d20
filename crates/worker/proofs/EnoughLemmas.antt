-- Why a call fails on a disk that has all sectors.
use Rattle.std.proofs.Common.{◌⊎◌, ℕ, ◌<◌, ◌≤◌, inl, inr, arith}

-- it doesn't fail for their lack
pub with_enough : {P : Type 0} (sectors wanted : ℕ) → wanted ≤ sectors → (sectors < wanted) ⊎ P → P
with_enough sectors wanted enough (inl few) = absurd (omega (arith, few, enough))
with_enough sectors wanted enough (inr cause) = cause
