-- What the host's answer makes of a machine.
use Rattle.std.proofs.Common.{◌≡◌, ℕ, List, subst}
use Rattle.std.specs.List.{AllByRecursion}
use Rattle.wasm_syntax.specs.declared.types.FunctionType.{FunctionType}
use Rattle.wasm_syntax.specs.declared.value.Value.{Value}
use Rattle.guest_memory.specs.rules.Bytes.{IsByte}
use Rattle.guest_memory.specs.rules.Memories.{IsWithinLimit}
use Rattle.wasm_rules.specs.Configuration.{Program, Configuration}
use Rattle.wasm_rules.specs.Steps.{answered}
use Rattle.machine.specs.declared.execution.code.Executable.{Executable}
use Rattle.machine.specs.declared.execution.state.State.{State}
use Rattle.machine.specs.declared.execution.pause.Paused.{Paused}
use Rattle.machine.specs.Execution.Codes.{StateStandsFor, StandsForSome}
use Rattle.machine.specs.Execution.Pauses.{Pauses}
use Rattle.machine.specs.rules.Answers.{IsWaiting, IsAnswered}
use Rattle.machine.specs.rules.Values.{HoldsMemory}
use Rattle.machine.specs.rules.Runs.{WaitsFor, Answers}
use Rattle.machine.specs.Insides.{seen, IsReducedIn, IsMachine, with_memory_of}
use Rattle.machine.proofs.Inside.{memory_in, holds_reduced, reduced_with, shown, stood_for}
use Rattle.machine.proofs.OneProgram.{one_program, one_list}
use Rattle.machine.proofs.AtOnce.{ReducesIn, at_once}

module _ {code : Executable} {old : State} {most : ℕ} {results : List Value}
    (machine : IsMachine code old most) (shape : IsWithinLimit old.memory)
    (bytes : AllByRecursion IsByte old.memory.bytes) (waits : WaitsFor results (seen code old most))
  where
    stands_old : StateStandsFor code old waits.shows.functions waits.program waits.configuration
    stands_old =
        stood_for machine shape bytes waits.shows

    pub is_waiting : IsWaiting results code old
    is_waiting = record {
      functions = waits.shows.functions;
      program = waits.program;
      configuration = waits.configuration;
      stands = stands_old;
      function = waits.function;
      arguments = waits.arguments;
      waits = waits.waits;
      signature = waits.signature;
      asks = waits.asks;
      is_imported = waits.is_imported;
      gives = waits.gives;
    }

    module _ (mid : State) (answers : IsAnswered results code old mid) where
      abbrev there : Configuration
      there = answered waits.configuration old.memory.bytes results waits.waits

      stands_there : StateStandsFor code mid waits.shows.functions waits.program there
      stands_there =
          answers waits.shows.functions waits.program waits.configuration waits.function
          waits.arguments waits.waits waits.signature stands_old waits.asks
          waits.is_imported waits.gives

      pub stands_for_some_there : StandsForSome code mid
      stands_for_some_there = record {
        functions = waits.shows.functions;
        program = waits.program;
        configuration = there;
        stands = stands_there;
      }

      module _ (new : State) (paused : Paused) (pauses : Pauses code mid 0 paused new) where
        reduces_from : {functions : List FunctionType} {program : Program} {d : Configuration}
            → StateStandsFor code mid functions program d → ReducesIn code new functions program d
        reduces_from {functions} {program} {d} stands =
            at_once code new functions program d paused.fuel_left paused.why
            (pauses functions program d stands)

        after : ReducesIn code new waits.shows.functions waits.program there
        after = reduces_from stands_there

        pub machine_finished : IsMachine code new most
        machine_finished = record {
          functions = machine.functions;
          program = machine.program;
          is = machine.is;
          own = machine.own;
          fits = machine.fits;
          reduced = λ memory functions program is_memory is.
              let programs : waits.program ≡ program =
              one_program code.«module» most waits.shows.functions functions waits.program program
              waits.shows.is is in
              let lists : waits.shows.functions ≡ functions =
              one_list code.«module» most waits.shows.functions functions waits.program program
              waits.shows.is is in
              let here = reduced_with after.stands after.reduced (memory_in code.«module» most
              waits.shows.functions waits.program waits.shows.is is_memory) in
              subst (λ z. IsReducedIn code (with_memory_of new memory) functions z) programs
              (subst (λ z. IsReducedIn code (with_memory_of new memory) z waits.program) lists
              here);
        }

        pub holds_finished : HoldsMemory (seen code new most)
        holds_finished = holds_reduced after.stands waits.shows.is

        pub answers_finished : Answers results (seen code old most) (seen code new most)
        answers_finished program d f arguments waiter signature shows asks there gives =
            let stands = stood_for machine shape bytes shows in
            let end = reduces_from (answers shows.functions program d f arguments waiter signature
            stands asks there gives) in
            record {
              configuration = end.configuration;
              reduces = end.reduces;
              shows = shown end.stands shows.is end.reduced;
            }
