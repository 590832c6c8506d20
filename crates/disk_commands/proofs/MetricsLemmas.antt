-- Flags of states.
use Rattle.std.proofs.Common.{◌≡◌, ◌≢◌, refl, ℕ, Bool, true, false, arith}
use Rattle.std.specs.Prelude.{nat_eq, if◌then◌else◌}
use Rattle.std.proofs.lemmas.Bool.Decides.{nat_tests}

-- the flag of the worker's own state
pub flag_on : (is place : ℕ) → is ≡ place
    → ◌≡◌ {A = ℕ} 1 (if nat_eq is place then 1 else 0)
flag_on is place same = by (nat_eq is place) refl
  where
    by : (b : Bool) → nat_eq is place ≡ b → ◌≡◌ {A = ℕ} 1 (if b then 1 else 0)
    by true told = refl
    by false told = absurd (grind (arith, nat_tests, same, told))

-- and that of another one
pub flag_off : (is place : ℕ) → is ≢ place
    → ◌≡◌ {A = ℕ} 0 (if nat_eq is place then 1 else 0)
flag_off is place other = by (nat_eq is place) refl
  where
    by : (b : Bool) → nat_eq is place ≡ b → ◌≡◌ {A = ℕ} 0 (if b then 1 else 0)
    by true told = absurd (other (grind (arith, nat_tests, told)))
    by false told = refl
