-- Which numbers the host's functions have, and which the module's own.
use Rattle.std.specs.Prelude.{◌≡◌, ℕ, ◌+◌, ◌<◌, length, Some, slice_get}
use Rattle.wasm_syntax.specs.declared.module.Module.{Module}
use Rattle.wasm_syntax.specs.declared.module.Function.{Function}
use Rattle.wasm_syntax.specs.rules.Sequence.{Spells}
use Rattle.wasm_rules.specs.Types.{imported_functions}
use Rattle.wasm_rules.specs.Configuration.{Callee, Imported, Own, Program}
use Rattle.wasm_rules.specs.Instantiation.{IsProgram}
use Rattle.machine.specs.Routines.Routines.{imported_count}

-- a function of the host's is an imported one, and one of the module's own comes after those, at
-- its place among the own ones
abbrev pub IsNumberedCallee : Module → ℕ → Callee → Type 0
IsNumberedCallee m f (Imported signature) = (f < imported_count m) × (x : ℕ)
    × (slice_get (imported_functions m.imports) f ≡ Some x) × (slice_get m.types x ≡ Some signature)
IsNumberedCallee m f (Own signature declared body) =
    (place : ℕ) × (own : Function) × (f ≡ imported_count m + place)
    × (slice_get m.functions place ≡ Some own)
    × (slice_get m.types own.function_type ≡ Some signature) × (declared ≡ own.code.locals)
    × Spells own.code.body body

abbrev pub FunctionsAreNumbered : Type 0
FunctionsAreNumbered =
    (pages : ℕ) (m : Module) (program : Program) (f : ℕ) (callee : Callee)
    → IsProgram m pages program → slice_get program.functions f ≡ Some callee
    → IsNumberedCallee m f callee

-- there are as many functions as imported and own ones together
abbrev pub FunctionsAreCounted : Type 0
FunctionsAreCounted = (pages : ℕ) (m : Module) (program : Program) → IsProgram m pages program
    → length program.functions ≡ imported_count m + length m.functions
