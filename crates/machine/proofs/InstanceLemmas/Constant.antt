-- Constants, and the globals' initial values.
use Rattle.std.proofs.Common.{◌≡◌, inl, inr, ℕ, zero, suc, ◌+◌, ◌<◌, List, [], ◌∷◌, ◌++◌, length}
use Rattle.std.proofs.Common.{get_or, drop, Some, refl, ap, arith}
use Rattle.std.specs.Prelude.{slice_get, IsSome}
use Rattle.std.specs.Option.{option_and_then}
use Rattle.std.specs.List.{AllByRecursion}
use Rattle.wasm_syntax.specs.declared.types.ValueType.{ValueType}
use Rattle.wasm_syntax.specs.declared.value.Value.{Value}
use Rattle.wasm_syntax.specs.declared.instruction.Instruction.{Instruction}
use Rattle.wasm_syntax.specs.declared.module.Module.{Module}
use Rattle.wasm_syntax.specs.declared.module.Global.{Global}
use Rattle.wasm_rules.specs.Types.{imported_globals}
use Rattle.wasm_rules.specs.Validity.{IsConstant, IsGlobalValid}
use Rattle.wasm_rules.specs.Instantiation.{constant_of, AreInitial}

-- a global's value is its initial value
pub global_value : (globals : List Global) (values : List Value) (x : ℕ) → AreInitial globals values
    → option_and_then (λ (g : Global). constant_of [] g.initial) (slice_get globals x)
    ≡ slice_get values x
global_value [] [] x h = refl
global_value [] (v ∷ values) x h = absurd h
global_value (g ∷ globals) [] x h = absurd h
global_value (g ∷ globals) (v ∷ values) zero h = h.0
global_value (g ∷ globals) (v ∷ values) (suc x) h = global_value globals values x h.1

-- Each of the globals that have initial values has one.
pub initial_at : (globals : List Global) (values : List Value) (i : ℕ) {g : Global}
    → i < length globals → g ≡ get_or globals i g → AreInitial globals values
    → IsSome (constant_of [] g.initial)
initial_at [] values i lt is h = absurd (omega arith)
initial_at (f ∷ globals) [] i lt is h = absurd h
initial_at (f ∷ globals) (v ∷ values) zero lt is h = let first = h.0 in rw (is, first) refl
initial_at (f ∷ globals) (v ∷ values) (suc i) lt is h =
    initial_at globals values i (omega arith) is h.1

-- the values so far, and those of the rest
abbrev pub Continues : List Global → List Value → ℕ → Type 0
Continues globals values i = (more : List Value) → AreInitial (drop i globals) more
    → AreInitial globals (values ++ more)

-- a valid global begins with a constant where none is imported
constant_there : (expression : List Instruction) (t : ValueType) → IsConstant [] expression t
    → (v : Value) × (constant_of [] expression ≡ Some v)
constant_there expression t (inl h) = (h.0, ap (constant_of []) h.2)
constant_there expression t (inr h) = let none = h.2 in absurd (cc)

pub initial_values : (m : Module) (globals : List Global) → imported_globals m.imports ≡ []
    → AllByRecursion (IsGlobalValid m) globals → (values : List Value) × AreInitial globals values
initial_values m [] n h = ([], tt)
initial_values m (g ∷ globals) n h =
    let first = constant_there g.initial g.global_type.value_type (rw n at h.0) in
    let others = initial_values m globals n h.1 in
    (first.0 ∷ others.0, (first.1, others.1))
