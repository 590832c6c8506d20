-- What running makes of a machine.
use Rattle.std.proofs.Common.{ℕ, List, refl}
use Rattle.std.specs.List.{AllByRecursion}
use Rattle.wasm_syntax.specs.declared.types.FunctionType.{FunctionType}
use Rattle.guest_memory.specs.rules.Bytes.{IsByte}
use Rattle.guest_memory.specs.rules.Memories.{IsWithinLimit}
use Rattle.wasi_abi.specs.declared.call.Call.{Call}
use Rattle.wasm_rules.specs.Configuration.{Program, Configuration}
use Rattle.wasm_rules.specs.Steps.{stopped, IsReduced}
use Rattle.machine_frame.proofs.FramePosition.Walking.{walks_are_steps}
use Rattle.machine.specs.declared.execution.code.Executable.{Executable}
use Rattle.machine.specs.declared.execution.state.State.{State}
use Rattle.machine.specs.declared.execution.pause.Pause.{Pause}
use Rattle.machine.specs.declared.execution.pause.Pause.TheVariants as pause
use Rattle.machine.specs.declared.execution.pause.Paused.{Paused}
use Rattle.machine.specs.Execution.Codes.{StateStandsFor, StandsForSome}
use Rattle.machine.specs.Execution.Pauses.{ComesToState, StepAsksFor as CodeAsksFor, PausesFor}
use Rattle.machine.specs.Execution.Pauses.{Pauses}
use Rattle.machine.specs.rules.Values.{IsProgramIn, HoldsMemory, least_of}
use Rattle.machine.specs.rules.Runs.{Arrives, AsksFor, RunsFor, RunsOnFuel}
use Rattle.machine.specs.Insides.{seen, IsMemoryFor, IsReducedIn, IsMachine}
use Rattle.machine.proofs.Reduced.{ended_reduced, asking_reduced, trapping_reduced}
use Rattle.machine.proofs.Inside.{memory_in, holds_reduced, reduced_with, shown, stood_for}

-- what the code's counted step asks for, the machine's does
pub asks_for : {code : Executable} {s : State} {functions : List FunctionType} {program : Program}
    {e : Configuration} (call : Call) (arguments : List ℕ) → StateStandsFor code s functions program
    e → CodeAsksFor code program e call arguments
    → AsksFor code.«module» program e call arguments
asks_for {code} call arguments stands h = record {
  function = h.function;
  operands = h.operands;
  waits = h.waits;
  asks = h.asks;
  calls = code.calls.items;
  are_calls = stands.is_code.calls;
  is_call = h.is_call;
  is_imported = h.is_imported;
  typed = h.typed;
  are = h.are;
}

module _ (code : Executable) (new : State) (most : ℕ) (functions : List FunctionType)
    (program : Program) (d : Configuration) where
  -- a pause leaves something reduced
  pub pause_reduces : (fuel fuel_left : ℕ) (why : Pause)
      → PausesFor code new functions program d fuel fuel_left why
      → IsReducedIn code new functions program
  pause_reduces fuel fuel_left pause.Spent h = record {
    configuration = h.0.configuration;
    stands = h.0.stands;
    reduced = h.1;
  }
  pause_reduces fuel fuel_left (pause.Host asked) h = record {
    configuration = h.0.configuration;
    stands = h.0.stands;
    reduced = asking_reduced program h.0.configuration h.1.function h.1.operands h.1.waits
        h.1.asks;
  }
  pause_reduces fuel fuel_left pause.Returned h = record {
    configuration = h.0.configuration;
    stands = h.0.stands;
    reduced = ended_reduced program h.1;
  }
  pause_reduces fuel fuel_left (pause.Trapped why) h = record {
    configuration = stopped h.configuration;
    stands = h.stands;
    reduced = refl;
  }

  module _ (is : IsProgramIn code.«module» most functions program)
      (before : IsReduced program d) where
    arrives : {fuel fuel_left : ℕ} (come : ComesToState code new functions program d fuel fuel_left)
        → IsReduced program come.configuration → Arrives (seen code new most) program d
        fuel fuel_left
    arrives come e = record {
      configuration = come.configuration;
      steps = come.steps;
      used = come.used;
      ran = walks_are_steps program come.steps d come.configuration come.walks before e;
      shows = shown come.stands is e;
    }

    pub runs_for : (fuel fuel_left : ℕ) (why : Pause)
        → PausesFor code new functions program d fuel fuel_left why
        → RunsFor (seen code new most) program d fuel fuel_left why
    unfolding arrives
    runs_for fuel fuel_left pause.Spent h = (arrives h.0 h.1, h.2, h.3)
    runs_for fuel fuel_left (pause.Host asked) h =
        let e = h.0.configuration in (
          arrives h.0 (asking_reduced program e h.1.function h.1.operands h.1.waits h.1.asks),
          asks_for asked.call asked.arguments h.0.stands h.1,
          h.2,
        )
    runs_for fuel fuel_left pause.Returned h =
        (arrives h.0 (ended_reduced program h.1), h.1)
    runs_for fuel fuel_left (pause.Trapped why) h = record {
      configuration = h.configuration;
      steps = h.steps;
      used = h.used;
      ran = walks_are_steps program h.steps d h.configuration h.walks before
          (trapping_reduced program h.configuration why h.traps);
      traps = h.traps;
      shows = shown h.stands is refl;
    }

-- ---- the whole

module _ {code : Executable} {old : State} (new : State) {most : ℕ}
    (machine : IsMachine code old most) (holds : HoldsMemory (seen code old most))
    (shape : IsWithinLimit old.memory) (bytes : AllByRecursion IsByte old.memory.bytes) where
  old_memory : IsMemoryFor (least_of code.«module») most old.memory
  old_memory = record {
    limit = holds.limit;
    least = holds.least;
    shape = shape;
    bytes = bytes;
  }

  reduced_old : {functions : List FunctionType} {program : Program}
      → IsProgramIn code.«module» most functions program → IsReducedIn code old functions program
  reduced_old {functions} {program} is = machine.reduced old.memory functions program old_memory is

  pub stands_for_some : StandsForSome code old
  stands_for_some =
      let some = reduced_old machine.is in
      record {
        functions = machine.functions;
        program = machine.program;
        configuration = some.configuration;
        stands = some.stands;
      }

  pub machine_again : (fuel : ℕ) (paused : Paused) → Pauses code old fuel paused new
      → IsMachine code new most
  machine_again fuel paused pauses = record {
    functions = machine.functions;
    program = machine.program;
    is = machine.is;
    own = machine.own;
    fits = machine.fits;
    reduced = λ memory functions program h is.
        let some = reduced_old is in
        let after = pause_reduces code new most functions program some.configuration fuel
        paused.fuel_left paused.why (pauses functions program some.configuration some.stands) in
        reduced_with after.stands after.reduced
        (memory_in code.«module» most functions program is h);
  }

  pub holds_again : (fuel : ℕ) (paused : Paused) → Pauses code old fuel paused new
      → HoldsMemory (seen code new most)
  holds_again fuel paused pauses =
      let some = reduced_old machine.is in
      let after = pause_reduces code new most machine.functions machine.program some.configuration
      fuel paused.fuel_left paused.why
      (pauses machine.functions machine.program some.configuration some.stands) in
      holds_reduced after.stands machine.is

  pub runs : (fuel : ℕ) (paused : Paused) → Pauses code old fuel paused new
      → RunsOnFuel (seen code old most) fuel paused (seen code new most)
  runs fuel paused pauses program d shows =
      let stands = stood_for machine shape bytes shows in
      runs_for code new most shows.functions program d shows.is shows.shows.reduced fuel
      paused.fuel_left paused.why (pauses shows.functions program d stands)
