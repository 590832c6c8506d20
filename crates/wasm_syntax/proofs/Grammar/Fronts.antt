-- The fronts of a module's bytes, by reading each of them.
use Rattle.std.proofs.Common.{◌≡◌, ◌≢◌, ℕ, zero, suc, ◌<◌, inl, inr, Bool, true, ◌&&◌, ◌||◌}
use Rattle.std.proofs.Common.{eqb, take, Option, Some, None, is_none, refl, arith}
use Rattle.std.proofs.lemmas.Bool.{cases_lt, ne_eqb}
use Rattle.wasm_syntax.specs.declared.module.Module.{Module}
use Rattle.wasm_syntax.specs.laws.ReadingModules.{module_at}
use Rattle.wasm_syntax.specs.laws.Examples.{idle_bytes}
use Rattle.wasm_syntax.specs.laws.Laws.{FrontsSpellNothing}
use Rattle.wasm_syntax.proofs.Grammar.Computing.{reading}
use Rattle.wasm_syntax.proofs.Grammar.Worked.{unread}
use Rattle.wasm_syntax.proofs.Grammar.Rising.{both}

-- a test of each number below a bound
abbrev passes_below : ℕ → (ℕ → Bool) → Bool
passes_below zero test = true
passes_below (suc n) test = test n && passes_below n test

passes_at : (bound : ℕ) (test : ℕ → Bool) (k : ℕ) → passes_below bound test ≡ true → k < bound
    → test k ≡ true
passes_at zero test k e h = absurd (omega (arith, h))
passes_at (suc n) test k e h =
    let p = both (test n) (passes_below n test) e in
    elim (cases_lt k n) [
      | inl below ↦ passes_at n test k p.1 below
      | inr above ↦ let same : k ≡ n = omega arith in rw same p.0
    ]

abbrev is_unread : ℕ → Bool
is_unread n = eqb n 8 || (eqb n 14 || is_none (module_at (take n idle_bytes)))

all_unread : passes_below 50 is_unread ≡ true
unfolding reading
all_unread = refl

none_there : (r : Option Module) → is_none r ≡ true → r ≡ None
none_there (Some m) e = absurd cc
none_there None e = refl

unread_but : (n : ℕ) → n ≢ 8 → n ≢ 14 → is_unread n ≡ true
    → is_none (module_at (take n idle_bytes)) ≡ true
unread_but n a b e = rw (ne_eqb n 8 a, ne_eqb n 14 b) at e

pub fronts_spell_nothing : FrontsSpellNothing
fronts_spell_nothing n below a b =
    unread (take n idle_bytes) (none_there (module_at (take n idle_bytes))
    (unread_but n a b (passes_at 50 is_unread n all_unread below)))
