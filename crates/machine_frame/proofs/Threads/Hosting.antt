-- What the host's calls and its answers lead to.
use Rattle.std.proofs.Common.{◌≡◌, ℕ, suc, ◌+◌, ◌≤◌, Bool, true, false, if◌then◌else◌, List, []}
use Rattle.std.proofs.Common.{◌∷◌, ◌++◌, length, drop, replicate, Option, Some, None, refl, sym, ap}
use Rattle.std.proofs.Common.{◌∙◌, subst, arith}
use Rattle.std.specs.Prelude.{map, slice_get}
use Rattle.std.specs.List.{AllByRecursion}
use Rattle.std.proofs.lemmas.List.{append-nil, length-map}
use Rattle.wasm_syntax.specs.declared.types.ValueType.{ValueType}
use Rattle.wasm_syntax.specs.declared.types.FunctionType.{FunctionType}
use Rattle.wasm_syntax.specs.declared.value.Value.{Value}
use Rattle.wasm_syntax.specs.declared.value.Trap.TheVariants as trap
use Rattle.wasm_syntax.specs.declared.instruction.Instruction.{Instruction}
use Rattle.wasm_syntax.specs.declared.instruction.Instruction.TheVariants as instr
use Rattle.wasm_syntax.specs.rules.Sequence.{Sequence}
use Rattle.wasm_rules.specs.Types.{AreOf, number_in, takes_of, gives_of, is_same_function_type}
use Rattle.wasm_rules.specs.Typing.{Context}
use Rattle.wasm_rules.specs.Configuration.{Callee, Imported, Own, Program, Label, Frame, FrameOf}
use Rattle.wasm_rules.specs.Configuration.{Thread, Configuration, Goes, Traps, Asks}
use Rattle.wasm_rules.specs.Steps.{where_some, entered, called, calls_entry, held_by, is_exhausted}
use Rattle.wasm_rules.specs.Steps.{signature_of, zero_of, returned, counted_step, exited_by}
use Rattle.wasm_rules.specs.Steps.{IsReduced, IsAdministrative, answered}
use Rattle.wasm_rules.specs.Typed.{IsTypedMemory, IsEntry}
use Rattle.wasm_rules.proofs.Soundness.AdministrativeSound.{administrative_typed, answers_typed}
use Rattle.machine_slots.specs.rules.Places.{held_beside}
use Rattle.guest_memory.specs.rules.Memories.{LinearMemory}
use Rattle.machine_slots.specs.Frames.{frame_words}
use Rattle.machine_slots.proofs.Branches.{entry_pushes}
use Rattle.machine_jumps.specs.Tables.{Table}
use Rattle.machine_frame.proofs.FramePosition.Positions.{entry_is_typed}
use Rattle.machine_frame.specs.declared.rules.frame.StackFrame as threads
use Rattle.machine_frame.specs.rules.Threads.{IsOwn, context_of, AreWaiting, AreFrames}
use Rattle.machine_frame.specs.rules.Threads.{IsReadyProgram, MachineParts, PartsStandFor}
use Rattle.machine_frame.specs.laws.Threads.{Top, HasTaken, HostCalls, AnswersLead}
use Rattle.machine_frame.proofs.Threads.Words.{same_parts}
use Rattle.machine_frame.proofs.Threads.Running.{frames_run}
use Rattle.machine_frame.proofs.Threads.Waiting.{gives_back}
use Rattle.machine_frame.proofs.Threads.Entering.{IsCalling, under, waits, taken, entered_locals}
use Rattle.machine_frame.proofs.Threads.Entering.{entered_count, called_own, called_import}
use Rattle.machine_frame.proofs.Threads.Calling.{direct, same_signature, indirect}

-- ---- the host's next call

no_frames : (c : Context) (program : Program) (words : List ℕ) (thread : Thread)
    → AreFrames c program [] words thread → (thread ≡ []) × (words ≡ [])
no_frames c program words [] h = (refl, h)
no_frames c program words (frame ∷ thread) h = absurd h

pub host_calls : HostCalls
host_calls c program opcodes tables table held d f later ready stands none more =
    let empty = no_frames c program held.words d.thread (rw none at stands.frames) in
    let d_later : d.later ≡ f ∷ later = stands.later ∙ more in
    let entries : AllByRecursion (IsEntry program) (f ∷ later) = (rw d_later at stands.typed.later)
    in
    let entry = entries.0 in
    let signature : FunctionType = entry.0 in
    let declared : List ValueType = entry.1 in
    let body : Sequence = entry.2 in
    let own : IsOwn program f = record {
      signature = signature;
      declared = declared;
      body = body;
      is = entry.3;
    } in
    let next : Configuration =
    record { store = d.store; thread = entered f signature declared body [] ∷ []; later = later } in
    let leaves : IsAdministrative program d next =
    ap (λ t. exited_by program t d.later d.store) empty.0
    ∙ ap (λ z. exited_by program [] z d.store) d_later
    ∙ rw entry.3 refl in
    let locals : List Value = map zero_of declared in
    let none_taken : AreOf (takes_of signature) [] = rw entry.4 tt in
    let few = ready.few_locals f own in
    let pushed : replicate (length declared) 0 ≡ frame_words locals [] [] [] =
    sym (entry_pushes [] declared [] ∙ append-nil (replicate (length declared) 0)) in (
      own,
      entry.4,
      empty.1,
      next,
      leaves,
      record {
        typed = administrative_typed c program d next ready.typed stands.typed leaves;
        frames = (
          own,
          refl,
          entry_is_typed (context_of c own) body locals (entered_locals signature declared
              [] none_taken),
          [],
          record { words_are = pushed; base_is = refl },
          refl,
        );
        shown = stands.shown;
        same_table = stands.same_table;
        later = refl;
        few_frames = omega arith;
        few_values = omega (arith, few, entered_count declared []);
      },
    )

-- ---- the host's answer

-- what is asked for, and the frame that waits for it
record Asked (c : Context) (program : Program) (frame : threads.StackFrame)
    (frames : List threads.StackFrame) (thread : Thread) (words : List ℕ) (ls : List Value)
    (labels : List Label) (rest : Sequence) (arguments : List Value) (waiter : Thread)
    (signature : FunctionType) : Type 0 where
  under : List ℕ
  others : List Value
  waits_are : waiter ≡ FrameOf frame.function ls labels others rest ∷ thread
  waiting : AreWaiting c program signature (frame ∷ frames) under waiter
  words_are : words ≡ map number_in arguments ++ under

no_asking : (b : Bool) (d : Configuration) (f : ℕ) (arguments : List Value) (waiter : Thread)
    → (if b then Traps trap.StackExhausted else Goes d) ≡ Asks f arguments waiter → ⊥
no_asking true d f arguments waiter e = absurd (cc)
no_asking false d f arguments waiter e = absurd (cc)

module _ (c : Context) (program : Program) (frame : threads.StackFrame)
    (frames : List threads.StackFrame) (thread : Thread) (words : List ℕ) (ls : List Value)
    (labels : List Label) (vs : List Value) (rest : Sequence) (d : Configuration) (f : ℕ)
    (arguments : List Value) (waiter : Thread) (signature : FunctionType)
    (there : slice_get program.functions f ≡ Some (Imported signature)) where
  abbrev caller : List Value → Frame
  caller others = FrameOf frame.function ls labels others rest

  asked : (g : ℕ) (callee : Callee) → slice_get program.functions g ≡ Some callee
      → IsCalling c program frame frames thread (signature_of callee) words ls labels vs rest
      → called g callee d caller vs thread ≡ Asks f arguments waiter
      → Asked c program frame frames thread words ls labels rest arguments waiter signature
  asked g (Imported other) at calling e =
      let t = taken c program frame frames thread other words ls labels vs rest calling in
      let w : Thread = waits c program frame frames thread other words ls labels vs rest calling in
      let both : Asks g t.arguments w ≡ Asks f arguments waiter =
      sym (called_import g other d caller vs thread t.top) ∙ e in
      let number : g ≡ f = cc in
      let given : t.arguments ≡ arguments = cc in
      let waiters : w ≡ waiter = cc in
      let callees : Some (Imported other) ≡ Some (Imported signature) =
      sym at ∙ ap (λ z. slice_get program.functions z) number ∙ there in
      let signatures : other ≡ signature = cc in
      record {
        under = under c program frame frames thread other words ls labels vs rest calling;
        others = drop (length (takes_of other)) vs;
        waits_are = sym waiters;
        waiting =
            subst (λ z. AreWaiting c program signature (frame
            ∷ frames) (under c program frame frames thread other words ls labels vs rest
            calling) z) waiters
            (subst (λ k. AreWaiting c program k (frame
            ∷ frames) (under c program frame frames thread other words ls labels vs rest
            calling) w) signatures t.waiting);
        words_are = t.words_are
            ∙ ap (λ z. map number_in z
            ++ under c program frame frames thread other words ls labels vs rest calling) given;
      }
  asked g (Own other declared body) at calling e =
      let t = taken c program frame frames thread other words ls labels vs rest calling in
      absurd
      (no_asking
      (is_exhausted (entered g other declared body t.arguments
      ∷ caller (drop (length (takes_of other)) vs) ∷ thread))
      (record d {
        thread = entered g other declared body t.arguments
            ∷ caller (drop (length (takes_of other)) vs) ∷ thread;
      }) f arguments waiter (sym (called_own g other declared body d caller vs thread t.top) ∙ e))

  module _ {own : FunctionType}
      (calling : IsCalling c program frame frames thread own words ls labels vs rest) where
    asked_signature : (g : ℕ) {callee : Callee} → slice_get program.functions g ≡ Some callee
        → (b : Bool) → is_same_function_type own (signature_of callee) ≡ b
        → (if b then called g callee d caller vs thread else Traps trap.IndirectCallTypeMismatch)
        ≡ Asks f arguments waiter
        → Asked c program frame frames thread words ls labels rest arguments waiter signature
    asked_signature g {callee} at true same e =
        asked g callee at
        (subst (λ k. IsCalling c program frame frames thread k words ls labels vs rest)
        (same_signature own (signature_of callee) same) calling) e
    asked_signature g at false same e = absurd (cc)

    asked_callee : (g : ℕ) (callee : Option Callee) → slice_get program.functions g ≡ callee
        → where_some callee (λ callee. if is_same_function_type own (signature_of callee)
        then called g callee d caller vs thread else Traps trap.IndirectCallTypeMismatch)
        ≡ Asks f arguments waiter
        → Asked c program frame frames thread words ls labels rest arguments waiter signature
    asked_callee g None at e = absurd (cc)
    asked_callee g (Some callee) at e =
        asked_signature g at (is_same_function_type own (signature_of callee)) refl e

    asked_entry : (entry : Option (Option ℕ))
        → calls_entry program entry own d caller vs thread ≡ Asks f arguments waiter
        → Asked c program frame frames thread words ls labels rest arguments waiter signature
    asked_entry None e = absurd (cc)
    asked_entry (Some None) e = absurd (cc)
    asked_entry (Some (Some g)) e = asked_callee g (slice_get program.functions g) refl e

-- the frame waits at a call, and the words under what the call takes are those under it
record Answered (c : Context) (program : Program) (held : MachineParts) (d : Configuration)
    (frame : threads.StackFrame) (frames : List threads.StackFrame) (ls : List Value)
    (labels : List Label) (thread waiter : Thread) (signature : FunctionType) (under : List ℕ) :
    Type 0 where
  rest : Sequence
  others : List Value
  reduced : IsReduced program d
  waits_are : waiter ≡ FrameOf frame.function ls labels others rest ∷ thread
  waiting : AreWaiting c program signature (frame ∷ frames) under waiter

module _ {c : Context} {program : Program} {opcodes : ℕ → List Instruction} {tables : ℕ → Table}
    {table : List (Option ℕ)} {held : MachineParts} {d : Configuration} {frame : threads.StackFrame}
    {frames : List threads.StackFrame} (f : ℕ) (arguments results : List Value) (waiter : Thread)
    (signature : FunctionType) (memory : LinearMemory) (gone under : List ℕ)
    (ready : IsReadyProgram c program opcodes tables)
    (stands : PartsStandFor c program table held d) (were : held.frames ≡ frame ∷ frames)
    (asks : counted_step program d ≡ Asks f arguments waiter)
    (there : slice_get program.functions f ≡ Some (Imported signature))
    (words_are : held.words ≡ gone ++ under) (top : Top c program held d frame frames) where
  abbrev Waits : Type 0
  Waits = Answered c program held d frame frames top.runs.ls top.runs.labels top.thread
      waiter signature under

  waits_under : {rest : Sequence} {words : List ℕ} (front : List ℕ) → IsReduced program d
      → (a : Asked c program frame frames top.thread words top.runs.ls top.runs.labels rest
      arguments waiter signature) → held.words ≡ (front ++ map number_in arguments) ++ a.under
      → length gone ≡ length (front ++ map number_in arguments) → Waits
  waits_under {rest} front reduced a e h =
      let parts = same_parts (front ++ map number_in arguments) gone a.under under (sym h) (sym e
      ∙ words_are) in
      record {
        rest = rest;
        others = a.others;
        reduced = reduced;
        waits_are = a.waits_are;
        waiting = subst (λ z. AreWaiting c program signature (frame ∷ frames) z waiter) parts.1
            a.waiting;
      }

  waits_direct : {g : ℕ} → slice_get (opcodes frame.function) frame.position ≡ Some (instr.Call g)
      → length gone ≡ length arguments → Waits
  waits_direct {g} at h =
      let here = direct ready top at in
      let a = asked c program frame frames top.thread held.words top.runs.ls top.runs.labels
      top.runs.vs here.after d f arguments waiter signature there g here.callee here.there
      here.calling (sym here.calls ∙ asks) in
      waits_under [] here.reduced a a.words_are (h ∙ sym (length-map arguments number_in))

  waits_indirect : {t : ℕ}
      → slice_get (opcodes frame.function) frame.position ≡ Some (instr.CallIndirect t)
      → length gone ≡ suc (length arguments) → Waits
  waits_indirect at h =
      let here = indirect ready top at in
      let a = asked_entry c program frame frames top.thread here.words top.runs.ls top.runs.labels
      here.vs here.after d f arguments waiter signature there here.calling
      (slice_get d.store.table here.index) (sym here.calls ∙ asks) in
      waits_under (here.index ∷ []) here.reduced a
      (here.words_are ∙ ap (λ z. here.index ∷ z) a.words_are)
      (h ∙ ap suc (sym (length-map arguments number_in)))

  waits_at : (o : Option Instruction) → slice_get (opcodes frame.function) frame.position ≡ o
      → HasTaken o (length gone) (length arguments) → Waits
  waits_at (Some (instr.Call g)) at h = waits_direct at h
  waits_at (Some (instr.CallIndirect t)) at h = waits_indirect at h
  waits_at _ at h = absurd h

  answer_stands : Waits → AreOf (gives_of signature) results → IsTypedMemory program memory.bytes
      → memory.limit ≡ program.most_pages
      → PartsStandFor c program table
      (record held {
        frames = record frame { position = suc frame.position } ∷ frames;
        words = map number_in results ++ under;
        memory = memory;
      }) (answered d memory.bytes results waiter)
  answer_stands w o bytes limit =
      let beside : length top.runs.ls + held_by top.thread ≤ 65536 =
      subst (λ t. held_beside t ≤ 65536) top.runs.thread stands.few_values in
      let count : length (frame ∷ frames) ≤ 512 = subst (λ z. length z ≤ 512) were stands.few_frames
      in
      let few : held_beside (returned results waiter) ≤ 65536 =
      subst (λ t. held_beside (returned results t) ≤ 65536) (sym w.waits_are) beside in
      record {
        typed = answers_typed c program d f arguments waiter memory.bytes results
            signature ready.typed stands.typed asks w.reduced there o bytes;
        frames = gives_back c program (λ f own. (ready.routines f own).typed) signature frame frames
            under waiter results o w.waiting;
        shown = record {
          globals_are = stands.shown.globals_are;
          bytes_are = refl;
          limit_is = limit;
        };
        same_table = stands.same_table;
        later = stands.later;
        few_frames = count;
        few_values = few;
      }

pub answers_lead : AnswersLead
answers_lead c program opcodes tables table held d frame frames f arguments results waiter signature
    memory gone under ready stands were asks there o bytes limit words_are has =
    let top = frames_run c program opcodes tables table held d frame frames ready stands were in
    let w = waits_at f arguments results waiter signature memory gone under ready stands were asks
    there words_are top (slice_get (opcodes frame.function) frame.position) refl has in
    answer_stands f arguments results waiter signature memory gone under ready stands were asks
    there words_are top w o bytes limit
