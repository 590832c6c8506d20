-- Steps of readers, regrouped.
use Rattle.std.proofs.Common.{◌≡◌, Option, Some, None, refl}
use Rattle.wasm_syntax.specs.laws.ReadingItems.{◌>>=◌}

pub bind_same : {A B : Type 0} (o : Option A) (f g : A → Option B) → ((x : A) → f x ≡ g x)
    → (o >>= f) ≡ (o >>= g)
bind_same (Some x) f g h = h x
bind_same None f g h = refl

-- a step that always fails
pub bind_none : {A B : Type 0} (o : Option A) (f : A → Option B) → ((x : A) → f x ≡ None)
    → (o >>= f) ≡ None
bind_none (Some x) f h = h x
bind_none None f h = refl

-- two steps that don't be on one another
pub bind_swap : {A B C : Type 0} (o : Option A) (p : Option B) (f : A → B → Option C)
    → (o >>= λ x. p >>= λ y. f x y) ≡ (p >>= λ y. o >>= λ x. f x y)
bind_swap (Some x) p f = refl
bind_swap None (Some y) f = refl
bind_swap None None f = refl
