-- A reader reads exactly what the grammar spells: what is said of it, and steps of its proofs.
use Rattle.std.proofs.Common.{◌≡◌, ℕ, ◌⊎◌, inl, inr, Bool, true, false, cond, List, Option, Some}
use Rattle.std.proofs.Common.{None, refl, ap, subst}
use Rattle.wasm_syntax.specs.laws.ReadingItems.{◌>>=◌, check}

-- what is read is spelled, and what is spelled is read
pub record Reads {X : Type 0} (IsItem : List ℕ → X → List ℕ → Type 0) (item_at : List ℕ
    → Option (X × List ℕ)) : Type 0 where
  pub sound : (bytes : List ℕ) (x : X) (rest : List ℕ) → item_at bytes ≡ Some (x, rest)
      → IsItem bytes x rest
  pub complete : (bytes : List ℕ) (x : X) (rest : List ℕ) → IsItem bytes x rest
      → item_at bytes ≡ Some (x, rest)

abbrev pub just : {A : Type 0} → A → Option A
just x = Some x

abbrev pub found : {X : Type 0} → X → List ℕ → Option (X × List ℕ)
found x rest = Some (x, rest)

-- the value of a step that found something
pub bind_some : {A B : Type 0} (r : Option A) (f : A → Option B) (y : B) → (r >>= f) ≡ Some y
    → (x : A) × (r ≡ Some x) × (f x ≡ Some y)
bind_some (Some x) f y e = (x, refl, e)
bind_some None f y e = absurd cc

-- the same, to show what holds of that value
pub with_some : {A B P : Type 0} (r : Option A) (f : A → Option B) (y : B) → (r >>= f) ≡ Some y
    → ((x : A) → r ≡ Some x → f x ≡ Some y → P) → P
with_some (Some x) f y e go = go x refl e
with_some None f y e go = absurd cc

-- one step after two, and two after one
pub bind_bind : {A B C : Type 0} (o : Option A) (f : A → Option B) (g : B → Option C)
    → ((o >>= f) >>= g) ≡ (o >>= λ x. f x >>= g)
bind_bind (Some x) f g = refl
bind_bind None f g = refl

-- a test that passed
pub check_some : {A : Type 0} (b : Bool) (f : Unit {0} → Option A) (y : A)
    → (check b >>= f) ≡ Some y → (b ≡ true) × (f tt ≡ Some y)
check_some true f y e = (refl, e)
check_some false f y e = absurd cc

-- a test that had to fail, and one that had to pass
pub guard_some : {A : Type 0} (b : Bool) (r : Option A) (y : A) → cond b None r ≡ Some y
    → (b ≡ false) × (r ≡ Some y)
guard_some true r y e = absurd cc
guard_some false r y e = (refl, e)

pub pass_some : {A : Type 0} (b : Bool) (r : Option A) (y : A) → cond b r None ≡ Some y
    → (b ≡ true) × (r ≡ Some y)
pass_some true r y e = (refl, e)
pass_some false r y e = absurd cc

pub chosen : {A : Type 0} (b : Bool) (x y z : A) → cond b x y ≡ z → ((b ≡ true) × (x ≡ z))
    ⊎ ((b ≡ false) × (y ≡ z))
chosen true x y z e = inl (refl, e)
chosen false x y z e = inr (refl, e)

-- a choice by a test, to show what holds on either side
pub pick : {A R : Type 0} (b : Bool) (x y z : A) → cond b x y ≡ z → (b ≡ true → x ≡ z → R)
    → (b ≡ false → y ≡ z → R) → R
pick true x y z e yes_case no_case = yes_case refl e
pick false x y z e yes_case no_case = no_case refl e

pub some_is : {A : Type 0} (x y : A) → just x ≡ just y → x ≡ y
some_is x y e = cc

pub parts : {A : Type 0} (x y : A) (r s : List ℕ) → found x r ≡ found y s → (x ≡ y) × (r ≡ s)
parts {A} x y r s e =
    let both = some_is (x, r) (y, s) e in
    (ap (λ (p : A × List ℕ). p.0) both, ap (λ (p : A × List ℕ). p.1) both)

-- what holds of what was found holds of what a reader answered
pub carry : {X : Type 0} (P : X → List ℕ → Type 0) (x y : X) (r s : List ℕ) → found x r ≡ found y s
    → P x r → P y s
carry {X} P x y r s e h = subst (λ (p : X × List ℕ). P p.0 p.1) (some_is (x, r) (y, s) e) h
