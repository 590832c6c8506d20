-- The way up, step by step.
use Rattle.std.proofs.Common.{◌≡◌, ℕ, suc, ◌+◌, ◌-◌, ◌<◌, Bool, true, false, cond, eqb, refl, sym}
use Rattle.std.proofs.Common.{ap, ◌∙◌, arith}
use Rattle.file_tree.specs.declared.store.node.Hook.{Hook}
use Rattle.file_tree.specs.declared.store.node.Hook.TheVariants.{Root, Removed, In}
use Rattle.file_tree.specs.declared.children.UpStep.TheVariants.{Top, Up, Nowhere}
use Rattle.file_tree.specs.Steps.{step_of}
use Rattle.file_tree.specs.Links.{comes_by, comes_to}

pub begins : (most : ℕ) (hook : ℕ → Hook) (k d : ℕ)
    → comes_to (most - 0) hook k d ≡ comes_to most hook k d
begins most hook k d = (let e : most - 0 ≡ most = omega arith in
    ap (λ (n : ℕ). comes_to n hook k d) e)

one_step : (most counter : ℕ) (hook : ℕ → Hook) (k at : ℕ) (total : Bool) → counter < most
    → comes_to (most - counter) hook k at ≡ total
    → comes_by (eqb at k) (comes_to (most - (counter + 1)) hook k) (hook at) ≡ total
one_step most counter hook k at total lt h =
    (let e : most - counter ≡ suc (most - (counter + 1)) = omega arith in
    sym (ap (λ (n : ℕ). comes_to n hook k at) e) ∙ h)

pub ends_nowhere : (most counter : ℕ) (hook : ℕ → Hook) (k at : ℕ) (total : Bool) → counter < most
    → comes_to (most - counter) hook k at ≡ total → Nowhere ≡ step_of (hook at) → false ≡ total
ends_nowhere most counter hook k at total lt h e =
    by (hook at) e ∙ one_step most counter hook k at total lt h where
      by : (x : Hook) → Nowhere ≡ step_of x
          → false ≡ comes_by (eqb at k) (comes_to (most - (counter + 1)) hook k) x
      by Root e = absurd cc
      by Removed e = refl
      by (In d name) e = absurd cc

pub ends_on_top : (most counter : ℕ) (hook : ℕ → Hook) (k at : ℕ) (total : Bool) → counter < most
    → comes_to (most - counter) hook k at ≡ total → Top ≡ step_of (hook at) → eqb at k ≡ total
ends_on_top most counter hook k at total lt h e =
    by (hook at) e ∙ one_step most counter hook k at total lt h where
      by : (x : Hook) → Top ≡ step_of x
          → eqb at k ≡ comes_by (eqb at k) (comes_to (most - (counter + 1)) hook k) x
      by Root e = refl
      by Removed e = absurd cc
      by (In d name) e = absurd cc

pub ends_there : (most counter : ℕ) (hook : ℕ → Hook) (k at parent : ℕ) (total : Bool)
    → counter < most → comes_to (most - counter) hook k at ≡ total → Up parent ≡ step_of (hook at)
    → eqb at k ≡ true → true ≡ total
ends_there most counter hook k at parent total lt h e there =
    by (hook at) e ∙ one_step most counter hook k at total lt h where
      by : (x : Hook) → Up parent ≡ step_of x
          → true ≡ comes_by (eqb at k) (comes_to (most - (counter + 1)) hook k) x
      by Root e = absurd cc
      by Removed e = absurd cc
      by (In d name) e =
          sym (ap (λ (b : Bool). cond b true (comes_to (most - (counter + 1)) hook k d)) there)

pub goes_on : (most counter : ℕ) (hook : ℕ → Hook) (k at parent : ℕ) (total : Bool) → counter < most
    → comes_to (most - counter) hook k at ≡ total → Up parent ≡ step_of (hook at) → eqb at k ≡ false
    → comes_to (most - (counter + 1)) hook k parent ≡ total
goes_on most counter hook k at parent total lt h e off =
    by (hook at) e ∙ one_step most counter hook k at total lt h where
      up_is : (d : ℕ) → Up parent ≡ Up d → parent ≡ d
      up_is d e = cc

      by : (x : Hook) → Up parent ≡ step_of x
          → comes_to (most - (counter + 1)) hook k parent
          ≡ comes_by (eqb at k) (comes_to (most - (counter + 1)) hook k) x
      by Root e = absurd cc
      by Removed e = absurd cc
      by (In d name) e = ap (comes_to (most - (counter + 1)) hook k) (up_is d e)
          ∙ sym (ap (λ (b : Bool). cond b true (comes_to (most - (counter + 1)) hook k d)) off)

pub is_over : (most counter : ℕ) (hook : ℕ → Hook) (k at : ℕ) (total : Bool) → most ≡ counter
    → comes_to (most - counter) hook k at ≡ total → false ≡ total
is_over most counter hook k at total done h = (let e : 0 ≡ most - counter = omega (arith, done) in
    ap (λ (n : ℕ). comes_to n hook k at) e ∙ h)
