-- A step of the object in a box, told of the box.
use Rattle.std.proofs.Common.{◌≡◌, refl, subst}

-- Two pairs of the name of a type and a value of it are one. Then a step from the first value is
-- one from the second, and what is made of the name and the value after the step is the same.
pub step_of_same : {X B : Type 0} {F : X → Type 0} (step : (x : X) → F x → F x
    → Type 0) (made : (x : X) → F x → B)
    (here there : X) (old : F here) (same_old : F there) (new : F here)
    → ◌≡◌ {A = (x : X) × F x} (here, old) (there, same_old) → step here old new
    → (same_new : F there) × step there same_old same_new × (made here new ≡ made there same_new)
step_of_same {X} {B} {F} step made here there old same_old new same is_step =
    let P : ((x : X) × F x) → Type 0 = λ p. (z : F p.0) × step p.0 p.1 z
    × (made here new ≡ made p.0 z) in
    subst P same (new, is_step, refl)
