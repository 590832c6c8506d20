-- What an answer makes of a state that waits for it.
use Rattle.std.proofs.Common.{◌≡◌, ℕ, suc, ◌+◌, ◌≤◌, List, ◌∷◌, ◌++◌, length, take, drop, Some, sym}
use Rattle.std.proofs.Common.{ap, ◌∙◌, subst, arith}
use Rattle.std.specs.Prelude.{slice_get, map}
use Rattle.std.proofs.lemmas.List.{length-take, take-append-drop}
use Rattle.wasm_syntax.specs.declared.types.FunctionType.{FunctionType}
use Rattle.wasm_syntax.specs.declared.value.Value.{Value}
use Rattle.wasm_rules.specs.Types.{AreOf, number_in, gives_of}
use Rattle.wasm_rules.specs.Validity.{module_context}
use Rattle.wasm_rules.specs.Configuration.{Imported, Program, Thread, Configuration, Asks}
use Rattle.wasm_rules.specs.Steps.{counted_step, answered}
use Rattle.wasm_rules.specs.Typed.{IsTypedMemory}
use Rattle.machine_frame.specs.declared.rules.frame.StackFrame.{StackFrame}
use Rattle.machine_frame.specs.laws.Threads.{HasTaken}
use Rattle.machine_frame.proofs.Threads.Hosting.{answers_lead}
use Rattle.machine.specs.Routines.Routines.{opcodes_in, tables_in}
use Rattle.machine.specs.declared.execution.code.Executable.{Executable}
use Rattle.machine.specs.declared.execution.state.State.{State}
use Rattle.machine.specs.Execution.Codes.{StateStandsFor, parts_of_state}
use Rattle.machine.specs.Execution.Waiting.{IsAsking, TakesWords}
use Rattle.machine.proofs.CycleLemmas.Advancing.{ready}
use Rattle.machine.specs.rules.Answers.{IsWaiting, IsAnswered}

-- a prefix of a list has as many items as it should
front_count : (taken : ℕ) (words : List ℕ) → taken ≤ length words
    → length (take taken words) ≡ taken
front_count taken words few = simp length-take (omega (arith, few))

-- the state with its words and its frame's position put anew
abbrev pub behind : State → StackFrame → List StackFrame → List ℕ → State
behind s frame frames words =
    record s { frames = record frame { position = suc frame.position } ∷ frames; slots = words }

module _ {code : Executable} {s : State} {functions : List FunctionType} {program : Program}
    {d : Configuration} (f : ℕ) (arguments results : List Value) (waits : Thread)
    (signature : FunctionType) (stands : StateStandsFor code s functions program d)
    (asks : counted_step program d ≡ Asks f arguments waits) (there : slice_get program.functions f
    ≡ Some (Imported signature)) (gives : AreOf (gives_of signature) results) (frame : StackFrame)
    (frames : List StackFrame) (were : s.frames ≡ frame ∷ frames) {taken : ℕ}
    (few : taken ≤ length s.slots) (has : HasTaken (slice_get
    (opcodes_in code.«module» frame.function) frame.position) taken (length arguments)) where
  typed_bytes : IsTypedMemory program s.memory.bytes
  typed_bytes = let k = stands.stands in
      subst (λ z. IsTypedMemory program z) (sym k.shown.bytes_are) k.typed.store.memory

  pub answer_stands : StateStandsFor code (behind s frame frames (map number_in results
      ++ drop taken s.slots)) functions program (answered d s.memory.bytes results waits)
  answer_stands = record {
    is_code = stands.is_code;
    stands =
        answers_lead (module_context code.«module» functions) program (opcodes_in code.«module»)
        (tables_in code.«module» code.routines.items) code.table.items (parts_of_state s) d frame
        frames f arguments results waits signature s.memory (take taken s.slots)
        (drop taken s.slots) (ready stands) stands.stands were asks there gives typed_bytes
        stands.stands.shown.limit_is (sym (take-append-drop taken s.slots)) (subst (λ n. HasTaken
        (slice_get (opcodes_in code.«module» frame.function) frame.position) n (length arguments))
        (sym (front_count taken s.slots few)) has);
  }

-- ---- in the code's words

pub asking_of : {results : List Value} {code : Executable} {s : State} → IsWaiting results code s
    → IsAsking code s
asking_of w = record {
  functions = w.functions;
  program = w.program;
  configuration = w.configuration;
  function = w.function;
  arguments = w.arguments;
  waits = w.waits;
  at = record { stands = w.stands; asks = w.asks };
}

pub enough_there : {code : Executable} {s : State} (taken : ℕ) → TakesWords code s taken
    → IsAsking code s → taken ≤ length s.slots
enough_there taken takes r =
    (takes r.functions r.program r.configuration r.function r.arguments r.waits r.at).0

-- the first frame moves on
moved_on : {frames : List StackFrame} (others after : List StackFrame) (frame : StackFrame)
    {first : StackFrame}
    → frames ≡ frame ∷ others → slice_get frames 0 ≡ Some first
    → ((x : StackFrame) (xs : List StackFrame) → frames ≡ x ∷ xs
    → after ≡ record x { position = first.position + 1 } ∷ xs)
    → after ≡ record frame { position = suc frame.position } ∷ others
moved_on others after frame {first} e top is =
    let here : Some frame ≡ Some first = sym (ap (λ xs. slice_get xs 0) e) ∙ top in
    let same : first ≡ frame = cc in
    let next : first.position + 1 ≡ suc frame.position = rw same (omega arith) in
    is frame others e ∙ ap (λ p. record frame { position = p } ∷ others) next

pub is_answered : (code : Executable) (s : State) (results : List Value) {first : StackFrame}
    (taken : ℕ) (frames : List StackFrame) (slots : List ℕ) → TakesWords code s taken
    → slice_get s.frames 0 ≡ Some first
    → ((gone under : List ℕ) → taken ≡ length gone → s.slots ≡ gone ++ under
    → slots ≡ map number_in results ++ under)
    → ((x : StackFrame) (xs : List StackFrame) → s.frames ≡ x ∷ xs
    → frames ≡ record x { position = first.position + 1 } ∷ xs)
    → IsAnswered results code s (record s { frames = frames; slots = slots })
is_answered code s results taken frames slots takes top replaced is =
    λ functions program d f arguments waits signature stands asks there gives.
    let t = takes functions program d f arguments waits (record { stands = stands; asks = asks }) in
    let at = t.1 in
    let frames_are = moved_on at.1 frames at.0 at.2 top is in
    let slots_are =
    replaced (take taken s.slots) (drop taken s.slots) (sym (front_count taken s.slots t.0))
    (sym (take-append-drop taken s.slots)) in
    let new = answer_stands f arguments results waits signature stands asks there gives at.0 at.1
    at.2 t.0 at.3 in
    subst (λ xs. StateStandsFor code (record s {
      frames = xs;
      slots = slots;
    }) functions program (answered d s.memory.bytes results waits))
    (sym frames_are)
    (subst (λ ws. StateStandsFor code (record s {
      frames = record at.0 { position = suc at.0.position }
          ∷ at.1;
      slots = ws;
    }) functions program (answered d s.memory.bytes results waits))
    (sym slots_are) new)
