-- What two machines of one module have in common that show one configuration.
use Rattle.std.specs.Prelude.{◌≡◌, ℕ, List, Some, slice_get}
use Rattle.wasm_syntax.specs.declared.types.FunctionType.{FunctionType}
use Rattle.wasm_syntax.specs.declared.value.Value.{Value}
use Rattle.wasm_rules.specs.Types.{AreOf, gives_of}
use Rattle.wasm_rules.specs.Configuration.{Imported, Program, Thread, Configuration, Asks}
use Rattle.wasm_rules.specs.Steps.{counted_step}
use Rattle.machine.specs.declared.execution.pause.Paused.{Paused}
use Rattle.machine.specs.rules.Values.{MachineValue, IsSameMachine, ShowsIn}
use Rattle.machine.specs.rules.Runs.{RunsOnFuel, Answers}

-- Two machines of one module that show one configuration have one value: also the positions of
-- their frames are the same.
abbrev pub OneMachineShows : Type 0
OneMachineShows =
    (v w : MachineValue) (program : Program) (d : Configuration)
    → v.guest ≡ w.guest → ShowsIn v program d → ShowsIn w program d → v ≡ w

-- On the same fuel they pause for the same reason, with as much fuel left, and have one value
-- again.
abbrev pub MachinesRunAlike : Type 0
MachinesRunAlike =
    (v w v' w' : MachineValue) (program : Program) (d : Configuration) (fuel : ℕ) (x y : Paused)
    → v.guest ≡ w.guest → IsSameMachine v v' → IsSameMachine w w'
    → ShowsIn v program d → ShowsIn w program d → RunsOnFuel v fuel x v' → RunsOnFuel w fuel y w'
    → (x ≡ y) × (v' ≡ w')

-- So they are after the same answer of the host.
abbrev pub MachinesAnswerAlike : Type 0
MachinesAnswerAlike =
    (v w v' w' : MachineValue) (program : Program) (d : Configuration) (results : List Value)
    (f : ℕ) (arguments : List Value) (waits : Thread) (signature : FunctionType)
    → v.guest ≡ w.guest → IsSameMachine v v' → IsSameMachine w w'
    → ShowsIn v program d → ShowsIn w program d
    → counted_step program d ≡ Asks f arguments waits → slice_get program.functions f
    ≡ Some (Imported signature) → AreOf (gives_of signature) results → Answers results v v'
    → Answers results w w' → v' ≡ w'
