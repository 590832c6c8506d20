-- Faults of steps.
use Rattle.std.proofs.Common.{◌≡◌, Option, None, refl, subst}
use Rattle.wasm_validate.specs.declared.parts.fault.ValidFault.{ValidFault}
use Rattle.wasm_validate.specs.declared.parts.fault.ValidFault.TheVariants.{Typing, Index, Limits}
use Rattle.wasm_validate.specs.declared.parts.fault.ValidFault.TheVariants.{Memory}
use Rattle.wasm_validate.specs.rules.Answers.{Denies, DeniesOne}
use Rattle.wasm_validate.specs.Body.Answers.{FailsToCheck}

-- where nothing of the first means nothing of the second, and the same sort, a fault of the first
-- is one of the second
pub fails_to : {X Y : Type 0} (e fault other : ValidFault) (a : Option X) (b : Option Y)
    → (a ≡ None → (b ≡ None) × (fault ≡ other)) → FailsToCheck e fault a → FailsToCheck e other b
fails_to Memory fault other a b h f = tt
fails_to Typing Typing other a b h f =
    subst (λ (z : ValidFault). FailsToCheck Typing z b) (h f).1 (h f).0
fails_to Index Index other a b h f =
    subst (λ (z : ValidFault). FailsToCheck Index z b) (h f).1 (h f).0
fails_to Limits Limits other a b h f =
    subst (λ (z : ValidFault). FailsToCheck Limits z b) (h f).1 (h f).0
fails_to e fault other a b h f = absurd f

-- the same of one sort
pub fails_as : {X Y : Type 0} (e fault : ValidFault) (a : Option X) (b : Option Y)
    → (a ≡ None → b ≡ None) → FailsToCheck e fault a → FailsToCheck e fault b
fails_as e fault a b h f = fails_to e fault fault a b (λ none. (h none, refl)) f

-- a fault denies what would mean that there is something
pub denies : {X P : Type 0} (e fault : ValidFault) (o : Option X) → (o ≡ None → P → ⊥)
    → FailsToCheck e fault o → Denies e P
denies Memory fault o h f = tt
denies Typing Typing o h f = h f
denies Index Index o h f = h f
denies Limits Limits o h f = h f
denies e fault o h f = absurd f

-- a fault of a sort denies what that sort speaks of
pub denies_one : {X T I L : Type 0} (e fault : ValidFault) (o : Option X)
    → (o ≡ None → fault ≡ Typing → T → ⊥) → (fault ≡ Index → I → ⊥) → (fault ≡ Limits → L → ⊥)
    → FailsToCheck e fault o → DeniesOne e T I L
denies_one Memory fault o t i l f = tt
denies_one Typing Typing o t i l f = t f refl
denies_one Index Index o t i l f = i refl
denies_one Limits Limits o t i l f = l refl
denies_one e fault o t i l f = absurd f
