-- What a machine tells of the configuration that it shows.
use Rattle.std.proofs.Common.{◌≡◌, ◌↔◌, ℕ, Bool, List, [], ◌∷◌, Option, Some, None, IsTrue, refl}
use Rattle.std.proofs.Common.{subst}
use Rattle.std.specs.List.{AllByRecursion}
use Rattle.guest_memory.specs.rules.Bytes.{IsByte}
use Rattle.guest_memory.specs.rules.Memories.{IsWithinLimit}
use Rattle.wasm_syntax.specs.declared.types.FunctionType.{FunctionType}
use Rattle.wasm_rules.specs.Validity.{module_context}
use Rattle.wasm_rules.specs.Typing.{Context}
use Rattle.wasm_rules.specs.Configuration.{Program, Thread, Configuration}
use Rattle.wasm_rules.specs.Steps.{exited_by}
use Rattle.machine_slots.specs.rules.Places.{ShowsThread}
use Rattle.machine_frame.specs.declared.rules.frame.StackFrame.{StackFrame}
use Rattle.machine_frame.specs.rules.Threads.{places_of}
use Rattle.machine_frame.proofs.Threads.Fitting.{nothing_later}
use Rattle.machine.specs.declared.execution.code.Executable.{Executable}
use Rattle.machine.specs.declared.execution.state.State.{State}
use Rattle.machine.specs.declared.execution.pause.HostCall.{HostCall}
use Rattle.machine.specs.Execution.Codes.{StateStandsFor}
use Rattle.machine.specs.Execution.Waiting.{CodeTellsCall, TellsOfState}
use Rattle.machine.specs.rules.Runs.{TellsCall, TellsWaiting, TellsEnd}
use Rattle.machine.specs.Insides.{seen, IsMachine}
use Rattle.machine.proofs.Inside.{stood_for}
use Rattle.machine.proofs.Ran.{asks_for}

-- ---- what waits

module _ {code : Executable} {s : State} {functions : List FunctionType} {program : Program}
    {d : Configuration} (stands : StateStandsFor code s functions program d) where
  told_of : (told : Option HostCall) → CodeTellsCall code program d told
      → TellsCall code.«module» program d told
  told_of None h = h
  told_of (Some x) h = asks_for x.call x.arguments stands h

pub tells : {code : Executable} {s : State} {most : ℕ} → IsMachine code s most
    → IsWithinLimit s.memory → AllByRecursion IsByte s.memory.bytes → (told : Option HostCall)
    → TellsOfState code s told → TellsWaiting (seen code s most) told
tells machine shape bytes told h = λ program d shows.
    let stands = stood_for machine shape bytes shows in
    told_of stands told (h shows.functions program d stands)

-- ---- whether the program has ended

-- no frames show no thread, and the other way round
no_thread : (c : Context) (program : Program) (frames : List StackFrame) (words : List ℕ)
    (thread : Thread) → ShowsThread c program (places_of frames words) thread
    → (frames ≡ []) ↔ (thread ≡ [])
no_thread c program [] words [] h = (λ e. refl, λ e. refl)
no_thread c program [] words (f ∷ thread) h = absurd h
no_thread c program (frame ∷ frames) words [] h = absurd h
no_thread c program (frame ∷ frames) words (f ∷ thread) h = (λ e. absurd (cc), λ e. absurd (cc))

pub tells_end : (code : Executable) (s : State) (most : ℕ) (told : Bool)
    → IsTrue told ↔ (s.frames ≡ []) → TellsEnd (seen code s most) told
tells_end code s most told is = λ program d shows.
    let c : Context = module_context code.«module» shows.functions in
    let same = no_thread c program s.frames s.slots d.thread shows.shows.frames in (
      λ yes.
          let thread : d.thread ≡ [] = same.0 (is.0 yes) in
          record {
            returned = thread;
            nothing_later = nothing_later program d.later d.store shows.shows.typed.later
                (subst (λ t. exited_by program t d.later d.store
                ≡ None) thread shows.shows.reduced);
          },
      λ ended. is.1 (same.1 ended.returned),
    )
