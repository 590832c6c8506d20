-- What a machine is without its thread.
use Rattle.std.proofs.Common.{◌≡◌, ℕ, ◌*◌, ◌≤◌, List, [], length, refl, sym, ap, ◌∙◌, subst, arith}
use Rattle.std.specs.Prelude.{reverse}
use Rattle.wasm_syntax.specs.declared.types.FunctionType.{FunctionType}
use Rattle.guest_memory.specs.rules.Bytes.{page_size}
use Rattle.guest_memory.specs.rules.Memories.{LinearMemory}
use Rattle.wasm_rules.specs.Validity.{module_context}
use Rattle.wasm_rules.specs.Configuration.{Program}
use Rattle.wasm_rules.specs.Steps.{stopped}
use Rattle.machine_slots.specs.rules.Places.{ShownFrame, ShowsThread}
use Rattle.machine_frame.specs.rules.Threads.{places_of}
use Rattle.machine.specs.declared.execution.code.Executable.{Executable}
use Rattle.machine.specs.declared.execution.state.State.{State}
use Rattle.machine.specs.Execution.Cycles.{IsCleared}
use Rattle.machine.proofs.CycleLemmas.Advancing.{cleared_stands}
use Rattle.machine.specs.rules.Values.{IsProgramIn, HoldsMemory, least_of}
use Rattle.machine.specs.rules.Runs.{Stops}
use Rattle.machine.specs.Insides.{seen, IsMemoryFor, IsReducedIn, IsMachine, with_memory_of}

module _ (code : Executable) {old new : State} (most : ℕ) (cleared : IsCleared old new) where
  reduced_with : IsMachine code old most
      → (memory : LinearMemory) (functions : List FunctionType) (program : Program)
      → IsMemoryFor (least_of code.«module») most memory
      → IsProgramIn code.«module» most functions program
      → IsReducedIn code (with_memory_of new memory) functions program
  reduced_with machine memory functions program h is =
      let some = machine.reduced memory functions program h is in
      let there : IsCleared (with_memory_of old memory) (with_memory_of new memory) =
      record {
        frames = cleared.frames;
        slots = cleared.slots;
        later = cleared.later;
        globals = cleared.globals;
        memory = refl;
      } in
      let k = some.stands.stands in
      record {
        configuration = stopped some.configuration;
        stands = cleared_stands some.stands.is_code k.typed k.shown k.same_table there;
        reduced = refl;
      }

  pub machine_stopped : IsMachine code old most → IsMachine code new most
  machine_stopped machine = record {
    functions = machine.functions;
    program = machine.program;
    is = machine.is;
    own = machine.own;
    fits = machine.fits;
    reduced = reduced_with machine;
  }

  no_places : places_of new.frames new.slots ≡ []
  no_places = rw cleared.frames refl

  pub still_holds : HoldsMemory (seen code old most) → HoldsMemory (seen code new most)
  still_holds h = record {
    limit = ap (λ (m : LinearMemory). m.limit) cleared.memory ∙ h.limit;
    least = subst (λ (m : LinearMemory). least_of code.«module» * page_size ≤ length m.bytes)
        (sym cleared.memory) h.least;
  }

  pub machine_stops : Stops (seen code old most) (seen code new most)
  machine_stops program d h =
      let s = h.shows in
      record {
        functions = h.functions;
        is = h.is;
        holds = still_holds h.holds;
        shows = record {
          typed = record { store = s.typed.store; thread = tt; later = tt };
          reduced = refl;
          memory = ap (λ (m : LinearMemory). m.bytes) cleared.memory ∙ s.memory;
          globals = ap (λ v. v.items) cleared.globals ∙ s.globals;
          same_table = s.same_table;
          later = ap reverse cleared.later;
          frames = let P : List ShownFrame → Type 0 =
              λ places. ShowsThread (module_context code.«module» h.functions) program places [] in
              subst P (sym no_places) tt;
          few_frames = rw no_places (omega arith);
          few_values = omega arith;
        };
      }
