-- Rules of calls whose first steps are a word of their own.
use Rattle.std.proofs.Common.{◌≡◌, refl}
use Rattle.std.specs.Prelude.{Result, Ok, Err}
use Rattle.wasi_calls_rules.specs.Checks.{Halt, ◌>>=◌}

-- a step is one of the first steps where it is a step of the rule
pub through : {A B C : Type 0} (r : Result A Halt) (f : A → Result B Halt) (g : A → Result C Halt)
    (k : B → Result C Halt) → ((x : A) → g x ≡ (f x >>= k)) → (r >>= g) ≡ ((r >>= f) >>= k)
through (Ok x) f g k e = e x
through (Err halt) f g k e = refl
