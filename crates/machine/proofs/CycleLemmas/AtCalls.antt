-- The call at which a state asks the host for something.
use Rattle.std.proofs.Common.{◌≡◌, ⊎_elim, ℕ, suc, ◌+◌, ◌<◌, ◌≤◌, List, [], ◌∷◌, length, get_or}
use Rattle.std.proofs.Common.{Option, Some, refl, sym, ap, ◌∙◌, subst, arith, length-append}
use Rattle.std.specs.Prelude.{slice_get, map}
use Rattle.std.proofs.lemmas.List.{length-map}
use Rattle.std.proofs.lemmas.Option.{slice_get_within, slice_get-get_or}
use Rattle.wasm_syntax.specs.declared.types.ValueType.{ValueType}
use Rattle.wasm_syntax.specs.declared.types.FunctionType.{FunctionType}
use Rattle.wasm_syntax.specs.declared.value.Value.{Value}
use Rattle.wasm_syntax.specs.declared.instruction.Instruction.{Instruction}
use Rattle.wasm_syntax.specs.declared.instruction.Instruction.TheVariants as instr
use Rattle.wasm_syntax.specs.rules.Sequence.{Sequence, Plain}
use Rattle.wasm_rules.specs.Types.{number_in, takes_of}
use Rattle.wasm_rules.specs.Typing.{Context}
use Rattle.wasm_rules.specs.Shapes.{LabelShape}
use Rattle.wasm_rules.specs.Validity.{module_context}
use Rattle.wasm_rules.specs.Configuration.{Program, Label, Thread, Configuration, Asks, FrameOf}
use Rattle.wasm_rules.specs.Steps.{topmost, signature_of, counted_step_of}
use Rattle.machine_jumps.specs.Jumps.{HasShape}
use Rattle.machine_jumps.specs.Moves.{HasOpcode, IsFirst, IsTypedBody}
use Rattle.machine_jumps.proofs.MovesHold.{opcodes_first, no_opcode_behind}
use Rattle.machine_frame.specs.declared.rules.frame.StackFrame.{StackFrame}
use Rattle.machine_frame.specs.rules.Threads.{AreFrames, context_of}
use Rattle.machine_frame.specs.laws.Threads.{Top, HasTaken}
use Rattle.machine_frame.proofs.Threads.Entering.{IsCalling, taken, under}
use Rattle.machine_frame.proofs.Threads.Calling.{direct, indirect}
use Rattle.machine.specs.Routines.Routines.{opcodes_in}
use Rattle.machine_frame.proofs.FrameLemmas.Effects.{has_room}
use Rattle.machine.specs.declared.execution.code.Executable.{Executable}
use Rattle.machine.specs.declared.execution.state.State.{State}
use Rattle.machine.specs.Execution.Codes.{HasSignature, parts_of_state}
use Rattle.machine.specs.Execution.Waiting.{AsksAt, IsAsking, TakesWords}
use Rattle.machine.proofs.CycleLemmas.Codes.{read_at}
use Rattle.machine.proofs.CycleLemmas.Advancing.{ready, top_of, own_of, frame_is_at}
use Rattle.machine.proofs.CycleLemmas.Asking.{IsCall, only_calls, called_given, entry_given}
use Rattle.machine.proofs.CycleLemmas.FunctionSignatures.{signature_there}
use Rattle.wasm_validate.proofs.BodyLemmas.LevelViews.{at_top as first_of}

-- there is a running frame
running_of : (c : Context) (program : Program) (d : Configuration) (f : ℕ) (arguments : List Value)
    (waits : Thread) (frames : List StackFrame) (words : List ℕ) (thread : Thread)
    → AreFrames c program frames words thread → counted_step_of program d thread
    ≡ Asks f arguments waits → (frame : StackFrame) × (others : List StackFrame)
    × (frames ≡ frame ∷ others)
running_of c program d f arguments waits [] words [] h e = absurd (cc)
running_of c program d f arguments waits [] words (frame ∷ thread) h e = absurd h
running_of c program d f arguments waits (frame ∷ frames) words thread h e = (frame, frames, refl)

-- the opcode at a position is the instruction that remains there
first_is : {rest : Sequence} (after : Sequence) (i j : Instruction) → IsFirst rest i → rest ≡ Plain
    j after
    → i ≡ j
first_is after i j h r = let first : IsFirst (Plain j after) i = subst (λ z. IsFirst z i) r h in
    first.0

opcode_remains : (c : Context) (body : Sequence) (p : ℕ) (shapes : List LabelShape)
    (types : List ValueType) {rest : Sequence} (after : Sequence) (i : Instruction) → IsTypedBody c
    body
    → HasShape c body p shapes types rest → rest ≡ Plain i after → HasOpcode body p i
opcode_remains c body p [] types {rest} after i typed reached r =
    let h = no_opcode_behind c body p types rest typed reached in let none = h.1 in absurd (cc)
opcode_remains c body p (label ∷ shapes) types {rest} after i typed reached r =
    let h = opcodes_first c body p label shapes types rest typed reached in
    h.1 ∙ ap Some (first_is after h.0 i h.2 r)

-- as many arguments as parameters, which are on top
given_count : {c : Context} {program : Program} {frame : StackFrame} {frames : List StackFrame}
    {thread : Thread} {signature : FunctionType} {words : List ℕ} {ls : List Value}
    {labels : List Label} {vs arguments : List Value} {rest : Sequence}
    → IsCalling c program frame frames thread signature words ls labels vs rest
    → topmost (length (takes_of signature)) vs ≡ Some arguments
    → (length signature.parameters ≡ length arguments) × (length signature.parameters
    ≤ length words)
given_count {c} {program} {frame} {frames} {thread} {signature} {words} {ls} {labels} {vs}
    {arguments} {rest} calling top =
    let t = taken c program frame frames thread signature words ls labels vs rest calling in
    let u = under c program frame frames thread signature words ls labels vs rest calling in
    let both : Some t.arguments ≡ Some arguments = sym t.top ∙ top in
    let same : t.arguments ≡ arguments = cc in
    let count = t.count in (
      sym count ∙ ap length same,
      rw t.words_are (omega (
        arith,
        count,
        length-append (map number_in t.arguments) u,
        length-map t.arguments number_in,
      )),
    )

module _ (code : Executable) (s : State) (functions : List FunctionType) (program : Program)
    (d : Configuration) (f : ℕ) (arguments : List Value) (waits : Thread)
    (h : AsksAt code s functions program d f arguments waits) where
  abbrev c : Context
  c = module_context code.«module» functions

  pub running : (frame : StackFrame) × (frames : List StackFrame) × (s.frames ≡ frame ∷ frames)
  running = let k = h.stands.stands in
      running_of c program d f arguments waits s.frames s.slots d.thread k.frames h.asks

  module _ (frame : StackFrame) (frames : List StackFrame) (e : s.frames ≡ frame ∷ frames) where
    abbrev top : Top c program (parts_of_state s) d frame frames
    top = top_of h.stands frame frames e

    abbrev here : Instruction → Type 0
    here i = slice_get (opcodes_in code.«module» frame.function) frame.position ≡ Some i

    -- it is at a call
    pub call_here : (i : Instruction) × here i × IsCall i
    call_here =
        let runs = top.runs in
        let at = runs.is_there in
        let routine = (ready h.stands).routines frame.function top.own in
        let asks : counted_step_of program d (FrameOf frame.function runs.ls runs.labels
        runs.vs runs.rest ∷ top.thread) ≡ Asks f arguments waits = sym
        (ap (λ t. counted_step_of program d t) runs.thread) ∙ h.asks in
        let call = only_calls f arguments waits program d frame.function runs.ls runs.labels runs.vs
        runs.rest top.thread asks in
        let there = opcode_remains (context_of c top.own) top.own.body frame.position at.shapes
        at.types call.1 call.0 routine.typed at.reached call.2 in
        (call.0, ap (λ xs. slice_get xs frame.position) routine.spelled ∙ there, call.3)

    -- there is room above the words, and an opcode behind
    pub room : length s.slots < 69632
    room =
        let own = own_of h.stands frame frames e in
        let stands = frame_is_at h.stands frame frames e in
        has_room _ own.function.code.body own.routine.table frame.base
        (frame.base + own.routine.locals) frame.position s.slots s.globals.items s.memory d stands
        (ap (λ xs. slice_get xs frame.position) (sym own.opcodes) ∙ call_here.1)

    pub position_within : frame.position < length (opcodes_in code.«module» frame.function)
    position_within =
        slice_get_within (opcodes_in code.«module» frame.function) frame.position call_here.0
        call_here.1

    pub position_few : frame.position < 4096
    position_few =
        let routine = (ready h.stands).routines frame.function top.own in
        let few = routine.few in let within = position_within in omega (arith, few, within)

    -- what a direct call takes
    pub record DirectTakes (g : ℕ) : Type 0 where
      pub signature : FunctionType
      pub has_signature : HasSignature code g signature
      pub count : length signature.parameters ≡ length arguments
      pub enough : length signature.parameters ≤ length s.slots

    pub direct_takes : (g : ℕ) → here (instr.Call g) → DirectTakes g
    direct_takes g at =
        let there = direct (ready h.stands) top at in
        let given = called_given f arguments waits g there.callee d (λ others.
        FrameOf frame.function top.runs.ls top.runs.labels others there.after) top.runs.vs
        top.thread (sym there.calls ∙ h.asks) in
        let signatures : signature_of there.callee ≡ given.0 = ap signature_of given.1 in
        let counts =
        given_count (subst (λ k.
        IsCalling c program frame frames top.thread k s.slots top.runs.ls top.runs.labels
        top.runs.vs there.after) signatures there.calling) given.3 in
        record {
          signature = given.0;
          has_signature = signature_there h.stands.is_code g (there.there ∙ ap Some given.1);
          count = counts.0;
          enough = counts.1;
        }

    -- what a call through the table takes
    pub record IndirectTakes (t : ℕ) : Type 0 where
      pub signature : FunctionType
      pub signature_is : slice_get code.«module».types t ≡ Some signature
      pub count : length signature.parameters ≡ length arguments
      pub enough : suc (length signature.parameters) ≤ length s.slots

    pub indirect_takes : (t : ℕ) → here (instr.CallIndirect t) → IndirectTakes t
    indirect_takes t at =
        let there = indirect (ready h.stands) top at in
        let given = entry_given f arguments waits program there.signature d (λ others.
        FrameOf frame.function top.runs.ls top.runs.labels others there.after) there.vs
        top.thread (slice_get d.store.table there.index) (sym there.calls ∙ h.asks) in
        let counts =
        given_count there.calling given.1 in
        let words = ap length there.words_are in
        let enough = counts.1 in
        record {
          signature = there.signature;
          signature_is = ap (λ types. slice_get types t) (sym h.stands.is_code.is_program.types)
              ∙ there.signature_is;
          count = counts.0;
          enough = omega (arith, words, enough);
        }

pub room_of : {code : Executable} {s : State} → IsAsking code s → length s.slots < 69632
room_of {code} {s} r =
    let top = running code s r.functions r.program r.configuration r.function r.arguments r.waits
    r.at in
    room code s r.functions r.program r.configuration r.function r.arguments r.waits r.at top.0
    top.1 top.2

-- ---- what is read there

-- the index of a function's type
pub signature_read : (code : Executable) (g : ℕ) (signature : FunctionType)
    → HasSignature code g signature → {indices : List ℕ} → indices ≡ code.type_indices.items
    → (g < length indices) × (slice_get code.«module».types (get_or indices g 0) ≡ Some signature)
signature_read code g signature h {indices} e =
    let at : slice_get indices g ≡ Some h.0 = ap (λ xs. slice_get xs g) e ∙ h.1 in
    let within = slice_get_within indices g h.0 at in
    let read = slice_get-get_or indices g 0 within in
    let same : get_or indices g 0 ≡ h.0 = cc in
    (within, ap (λ x. slice_get code.«module».types x) same ∙ h.2)

pub not_other : (i : Instruction) → IsCall i → ((g : ℕ) → i ≡ instr.Call g → ⊥)
    → ((t : ℕ) → i ≡ instr.CallIndirect t → ⊥) → ⊥
not_other i h a b =
    ⊎_elim (λ (k : (g : ℕ) × (i ≡ instr.Call g)). a k.0 k.1)
    (λ (k : (t : ℕ) × (i ≡ instr.CallIndirect t)). b k.0 k.1) h

module _ (code : Executable) (s : State) {frame : StackFrame}
    (first : slice_get s.frames 0 ≡ Some frame) where
  abbrev others : List StackFrame
  others = (first_of s.frames frame first).0

  abbrev frames_are : s.frames ≡ frame ∷ others
  frames_are = (first_of s.frames frame first).1

  module _ (r : IsAsking code s) where
    pub few_there : frame.position < 4096
    few_there = position_few code s r.functions r.program r.configuration r.function r.arguments
        r.waits r.at frame others frames_are

    pub within_there : {opcodes : List Instruction}
        → opcodes ≡ opcodes_in code.«module» frame.function → frame.position < length opcodes
    within_there e =
        rw e (position_within code s r.functions r.program r.configuration r.function r.arguments
        r.waits r.at frame others frames_are)

    module _ {opcodes : List Instruction}
        (opcodes_are : opcodes ≡ opcodes_in code.«module» frame.function) {i : Instruction}
        (read : i ≡ get_or opcodes frame.position i) where
      pub read_there : slice_get (opcodes_in code.«module» frame.function) frame.position ≡ Some i
      read_there =
          read_at frame.position opcodes_are (within_there opcodes_are) read

      pub no_other : ((g : ℕ) → i ≡ instr.Call g → ⊥) → ((t : ℕ) → i ≡ instr.CallIndirect t → ⊥) → ⊥
      no_other a b =
          let call = call_here code s r.functions r.program r.configuration r.function r.arguments
          r.waits r.at frame others frames_are in
          let there = call.1 in let known = read_there in
          let same : call.0 ≡ i = cc in
          not_other i (subst IsCall same call.2) a b

      pub direct_there : {g : ℕ} → i ≡ instr.Call g
          → DirectTakes code s r.functions r.program r.configuration r.function r.arguments r.waits
          r.at frame others frames_are g
      direct_there {g} is =
          direct_takes code s r.functions r.program r.configuration r.function r.arguments r.waits
          r.at frame others frames_are g (read_there ∙ ap Some is)

      pub indirect_there : {t : ℕ} → i ≡ instr.CallIndirect t
          → IndirectTakes code s r.functions r.program r.configuration r.function r.arguments
          r.waits r.at frame others frames_are t
      indirect_there {t} is =
          indirect_takes code s r.functions r.program r.configuration r.function r.arguments r.waits
          r.at frame others frames_are t (read_there ∙ ap Some is)

  -- how many words are taken
  has_taken : {o : Option Instruction} {i : Instruction} (n arguments : ℕ) → o ≡ Some i
      → HasTaken (Some i) n arguments → HasTaken o n arguments
  has_taken n arguments e h = subst (λ z. HasTaken z n arguments) (sym e) h

  pub takes_direct : {g : ℕ} (n : ℕ) → slice_get (opcodes_in code.«module» frame.function)
      frame.position ≡ Some (instr.Call g) →
      ((signature : FunctionType) → HasSignature code g signature
      → n ≡ length signature.parameters) → TakesWords code s n
  takes_direct {g} n at count = λ functions program d f arguments waits h.
      let t = direct_takes code s functions program d f arguments waits h frame others frames_are g
      at in
      let is = count t.signature t.has_signature in
      let enough = t.enough in (
        omega (arith, is, enough),
        (
          frame,
          others,
          frames_are,
          has_taken n (length arguments) at (is ∙ t.count),
        ),
      )

  pub takes_indirect : {t : ℕ} (n : ℕ)
      → slice_get (opcodes_in code.«module» frame.function) frame.position
      ≡ Some (instr.CallIndirect t)
      → ((signature : FunctionType) → slice_get code.«module».types t ≡ Some signature
      → n ≡ length signature.parameters + 1) → TakesWords code s n
  takes_indirect {t} n at count = λ functions program d f arguments waits h.
      let k = indirect_takes code s functions program d f arguments waits h frame others frames_are
      t at in
      let is = count k.signature k.signature_is in
      let enough = k.enough in
      let given = k.count in (
        omega (arith, is, enough),
        (
          frame,
          others,
          frames_are,
          has_taken n (length arguments) at (omega (arith, is, given)),
        ),
      )
