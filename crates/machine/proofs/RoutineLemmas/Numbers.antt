-- Which numbers the host's functions have, and which the module's own.
use Rattle.std.proofs.Common.{◌≡◌, ℕ, zero, suc, ◌+◌, ◌-◌, ◌<◌, List, [], ◌∷◌, length, true}
use Rattle.std.proofs.Common.{if◌then◌else◌, Some, None, refl, ap, ◌∙◌, subst, arith}
use Rattle.std.specs.Prelude.{nat_le, slice_get}
use Rattle.std.proofs.lemmas.Bool.Decides.{nat_tests}
use Rattle.wasm_syntax.specs.declared.module.Module.{Module}
use Rattle.wasm_syntax.specs.declared.module.Function.{Function}
use Rattle.wasm_syntax.specs.rules.Sequence.{Spells}
use Rattle.wasm_rules.specs.Types.{imported_functions}
use Rattle.wasm_rules.specs.Configuration.{Callee, Imported, Own}
use Rattle.wasm_rules.specs.Instantiation.{AreCallees}
use Rattle.machine.specs.Routines.Routines.{imported_count, own_entry}
use Rattle.machine.specs.laws.Routines.{IsNumberedCallee, FunctionsAreNumbered, FunctionsAreCounted}

-- the same over these imported and own functions
abbrev Numbered : Module → List ℕ → List Function → ℕ → Callee → Type 0
Numbered m imported functions f (Imported signature) = (f < length imported) × (x : ℕ)
    × (slice_get imported f ≡ Some x) × (slice_get m.types x ≡ Some signature)
Numbered m imported functions f (Own signature declared body) =
    (place : ℕ) × (own : Function) × (f ≡ length imported + place)
    × (slice_get functions place ≡ Some own)
    × (slice_get m.types own.function_type ≡ Some signature) × (declared ≡ own.code.locals)
    × Spells own.code.body body

-- one more imported function before
behind_import : (m : Module) (x : ℕ) (imported : List ℕ) (functions : List Function) (f : ℕ)
    (callee : Callee) → Numbered m imported functions f callee
    → Numbered m (x ∷ imported) functions (suc f) callee
behind_import m x imported functions f (Imported signature) h =
    (let below = h.0 in omega arith, h.1, h.2, h.3)
behind_import m x imported functions f (Own signature declared body) h =
    (h.0, h.1, (let is = h.2 in omega arith), h.3, h.4, h.5, h.6)

-- one more own function before
behind_own : (m : Module) (g : Function) (functions : List Function) (f : ℕ) (callee : Callee)
    → Numbered m [] functions f callee → Numbered m [] (g ∷ functions) (suc f) callee
behind_own m g functions f (Imported signature) h = absurd (let below = h.0 in omega arith)
behind_own m g functions f (Own signature declared body) h =
    (suc h.0, h.1, (let is = h.2 in omega arith), h.3, h.4, h.5, h.6)

numbered : (m : Module) (imported : List ℕ) (functions : List Function) (callees : List Callee)
    (f : ℕ) (callee : Callee) → AreCallees m imported functions callees
    → slice_get callees f ≡ Some callee → Numbered m imported functions f callee
numbered m (x ∷ imported) functions [] f callee h e = absurd h
numbered m (x ∷ imported) functions (Own signature declared body ∷ callees) f callee h e = absurd h
numbered m (x ∷ imported) functions (Imported signature ∷ callees) zero callee h e =
    let same : Imported signature ≡ callee = cc in
    subst (Numbered m (x ∷ imported) functions zero) same (omega arith, x, refl, h.0)
numbered m (x ∷ imported) functions (Imported signature ∷ callees) (suc f) callee h e =
    behind_import m x imported functions f callee
    (numbered m imported functions callees f callee h.1 e)
numbered m [] [] [] f callee h e = absurd (cc)
numbered m [] [] (Imported signature ∷ callees) f callee h e = absurd h
numbered m [] [] (Own signature declared body ∷ callees) f callee h e = absurd h
numbered m [] (g ∷ functions) [] f callee h e = absurd h
numbered m [] (g ∷ functions) (Imported signature ∷ callees) f callee h e = absurd h
numbered m [] (g ∷ functions) (Own signature declared body ∷ callees) zero callee h e =
    let same : Own signature declared body ≡ callee = cc in
    subst (Numbered m [] (g ∷ functions) zero) same (zero, g, refl, refl, h.0, h.1, h.2)
numbered m [] (g ∷ functions) (Own signature declared body ∷ callees) (suc f) callee h e =
    behind_own m g functions f callee (numbered m [] functions callees f callee h.3 e)

as_numbered : (m : Module) (f : ℕ) (callee : Callee)
    → Numbered m (imported_functions m.imports) m.functions f callee → IsNumberedCallee m f callee
as_numbered m f (Imported signature) h = h
as_numbered m f (Own signature declared body) h = h

pub functions_numbered : FunctionsAreNumbered
functions_numbered pages m program f callee p e =
    as_numbered m f callee (numbered m (imported_functions m.imports) m.functions program.functions
    f callee p.functions e)

counted : (m : Module) (imported : List ℕ) (functions : List Function) (callees : List Callee)
    → AreCallees m imported functions callees → length callees ≡ length imported + length functions
counted m (x ∷ imported) functions [] h = absurd h
counted m (x ∷ imported) functions (Own signature declared body ∷ callees) h = absurd h
counted m (x ∷ imported) functions (Imported signature ∷ callees) h =
    let e = counted m imported functions callees h.1 in omega arith
counted m [] [] [] h = refl
counted m [] [] (Imported signature ∷ callees) h = absurd h
counted m [] [] (Own signature declared body ∷ callees) h = absurd h
counted m [] (g ∷ functions) [] h = absurd h
counted m [] (g ∷ functions) (Imported signature ∷ callees) h = absurd h
counted m [] (g ∷ functions) (Own signature declared body ∷ callees) h =
    let e = counted m [] functions callees h.3 in omega arith

pub functions_counted : FunctionsAreCounted
functions_counted pages m program p =
    counted m (imported_functions m.imports) m.functions program.functions p.functions

-- the entry of an own function by its place
pub entry_at : {X : Type 0} (m : Module) (entries : List X) (f place : ℕ)
    → f ≡ imported_count m + place → own_entry m entries f ≡ slice_get entries place
entry_at {X} m entries f place e =
    let n = imported_count m in
    let within : nat_le n f ≡ true = grind (arith, nat_tests) in
    let back : f - n ≡ place = omega arith in
    ap (λ b. if b then slice_get entries (f - n) else None) within ∙ ap (slice_get entries) back
