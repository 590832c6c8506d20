-- A fault handed on.
use Rattle.std.proofs.Common.{◌≡◌, ◌⊎◌, inl, inr, sym, subst, Result, Ok, Err}
use Rattle.wasm_validate.specs.declared.parts.fault.ValidFault.{ValidFault}
use Rattle.wasm_validate.specs.declared.parts.fault.ValidFault.TheVariants.{Typing, Index, Memory}
use Rattle.wasm_validate.specs.rules.Answers.{Denies, DeniesOutright, Decides, Judges}
use Rattle.wasm_validate.specs.rules.Answers.{DemandsInTurn}

-- what needs Q doesn't hold where Q doesn't
pub outright_as : {P Q : Type 0} (e : ValidFault) → (P → Q) → DeniesOutright e Q
    → DeniesOutright e P
outright_as Memory f h = h
outright_as _ f h = λ p. h (f p)

pub denies_as : {P Q : Type 0} (e : ValidFault) → (P → Q) → DeniesOutright e Q → Denies e P
denies_as Memory f h = tt
denies_as _ f h = λ p. h (f p)

pub denies_still : {P Q : Type 0} (e : ValidFault) → (P → Q) → Denies e Q → Denies e P
denies_still Memory f h = tt
denies_still _ f h = λ p. h (f p)

-- of two checks in turn
pub turn_as : {P Q R : Type 0} (e : ValidFault) → (R → Q) → ((e ≡ Index) × (P → ⊥) × (Q → ⊥))
    ⊎ ((e ≡ Typing) × P × (Q → ⊥)) → DeniesOutright e R
turn_as {P} {Q} {R} e f (inl h) = let D : ValidFault → Type 0 = λ x. DeniesOutright x R in
    subst D (sym h.0) (λ r. h.2 (f r))
turn_as {P} {Q} {R} e f (inr h) = let D : ValidFault → Type 0 = λ x. DeniesOutright x R in
    subst D (sym h.0) (λ r. h.2 (f r))

-- two checks in turn that decide this too
pub decides_as : (P : Type 0) {Q R : Type 0} (r : Result Unit ValidFault) → (Q → R) → (R → Q)
    → DemandsInTurn r Index P Typing Q → Decides r R
decides_as P (Ok x) f g h = f h
decides_as P (Err e) f g h = turn_as e g h

pub judges_as : {Q R : Type 0} (r : Result Unit ValidFault) → (Q → R) → (R → Q) → Decides r Q
    → Judges r R
judges_as (Ok x) f g h = f h
judges_as (Err e) f g h = denies_as e g h
