-- A module begins with one store at most.
use Rattle.std.proofs.Common.{◌≡◌, ℕ, List, [], ◌∷◌, Option, Some, refl}
use Rattle.wasm_syntax.specs.declared.value.Value.{Value}
use Rattle.wasm_syntax.specs.declared.module.Module.{Module}
use Rattle.wasm_syntax.specs.declared.module.Global.{Global}
use Rattle.wasm_rules.specs.Configuration.{Store}
use Rattle.wasm_rules.specs.Instantiation.{constant_of, AreInitial, IsInitialStore}

pub some_once : {X : Type 0} (o : Option X) (x y : X) → o ≡ Some x → o ≡ Some y → x ≡ y
some_once o x y e f = cc

pub initial_once : (globals : List Global) (a b : List Value) → AreInitial globals a
    → AreInitial globals b → a ≡ b
initial_once [] [] [] h k = refl
initial_once [] [] (y ∷ b) h k = absurd k
initial_once [] (x ∷ a) b h k = absurd h
initial_once (g ∷ globals) [] b h k = absurd h
initial_once (g ∷ globals) (x ∷ a) [] h k = absurd k
initial_once (g ∷ globals) (x ∷ a) (y ∷ b) h k =
    let same : x ≡ y = some_once (constant_of [] g.initial) x y h.0 k.0 in
    let others = initial_once globals a b h.1 k.1 in
    cc

abbrev pub store_from : List ℕ → List Value → List (Option ℕ) → Store
store_from memory globals table = record { memory = memory; globals = globals; table = table }

store_is : (a b : Store) → a.memory ≡ b.memory → a.globals ≡ b.globals → a.table ≡ b.table → a ≡ b
store_is a b x y z =
    let whole : store_from a.memory a.globals a.table ≡ store_from b.memory b.globals b.table = rw (
      x,
      y,
      z,
    ) refl in whole

pub store_once : (m : Module) (a b : Store) → IsInitialStore m a → IsInitialStore m b → a ≡ b
store_once m a b h k =
    let globals : a.globals ≡ b.globals =
    initial_once m.globals a.globals b.globals h.globals k.globals in
    store_is a b (some_once _ a.memory b.memory h.memory (rw globals k.memory)) globals
    (some_once _ a.table b.table h.table (rw globals k.table))
