-- What a call opcode leads to.
use Rattle.std.proofs.Common.{◌≡◌, ◌≢◌, ℕ, zero, suc, Bool, true, false, List, [], ◌∷◌, ◌++◌}
use Rattle.std.proofs.Common.{Option, Some, None, refl, sym, ap, ◌∙◌, subst}
use Rattle.std.specs.Prelude.{map, reverse, slice_get}
use Rattle.std.specs.List.{AllByRecursion}
use Rattle.std.proofs.lemmas.List.{reverse-reverse}
use Rattle.wasm_syntax.specs.declared.types.ValueType.{ValueType}
use Rattle.wasm_syntax.specs.declared.types.ValueType.TheVariants.{I32}
use Rattle.wasm_syntax.specs.declared.types.FunctionType.{FunctionType}
use Rattle.wasm_syntax.specs.declared.value.Value.{Value}
use Rattle.wasm_syntax.specs.declared.value.Value.TheVariants as value
use Rattle.wasm_syntax.specs.declared.value.Trap.TheVariants as trap
use Rattle.wasm_syntax.specs.declared.instruction.Instruction.{Instruction}
use Rattle.wasm_syntax.specs.declared.instruction.Instruction.TheVariants as instr
use Rattle.wasm_syntax.specs.rules.Sequence.{Sequence, Plain}
use Rattle.wasm_rules.specs.Types.{AreOf, number_in, takes_of, is_same_function_type}
use Rattle.wasm_rules.specs.Typing.{Context}
use Rattle.wasm_rules.specs.Configuration.{Callee, Program, Label, Frame, FrameOf, Thread}
use Rattle.wasm_rules.specs.Configuration.{Configuration, Traps}
use Rattle.wasm_rules.specs.Steps.{called, calls_entry, signature_of, counted_step, IsReduced}
use Rattle.wasm_rules.specs.Typed.{IsTypedProgram, IsTypedEntry}
use Rattle.wasm_rules.proofs.Soundness.ControlSound.{same_function_type, are_same as types_same}
use Rattle.wasm_rules.proofs.Soundness.CountedSound.{callee_at, callee_inside}
use Rattle.machine_slots.specs.rules.Places.{all_below}
use Rattle.machine_slots.specs.Frames.{frame_words}
use Rattle.machine_jumps.specs.Tables.{Table}
use Rattle.machine_jumps.specs.Moves.{HasOpcode}
use Rattle.machine_frame.specs.declared.rules.frame.StackFrame as threads
use Rattle.machine_frame.specs.rules.Threads.{context_of, IsReadyProgram, MachineParts}
use Rattle.machine_frame.specs.rules.Threads.{PartsStandFor}
use Rattle.machine_frame.specs.laws.Threads.{Top, EntryLeads, CallLeads, CallsLead}
use Rattle.machine_frame.specs.laws.Threads.{IndirectCallsLead}
use Rattle.machine_frame.proofs.Threads.Running.{frames_run}
use Rattle.machine_frame.proofs.Threads.CountedSteps.{reduced_before, with_rest, with_values}
use Rattle.machine_frame.proofs.Threads.CountedSteps.{call_counted, indirect_counted}
use Rattle.machine_frame.proofs.Threads.Waiting.{executes}
use Rattle.machine_frame.proofs.Threads.Entering.{IsCalling, leads}

-- ---- direct calls

-- the running frame at a call of the function g
pub record Direct (c : Context) (program : Program) (held : MachineParts) (d : Configuration)
    (frame : threads.StackFrame) (frames : List threads.StackFrame) (g : ℕ) (ls : List Value)
    (labels : List Label) (vs : List Value) (thread : Thread) : Type 0 where
  pub callee : Callee
  pub there : slice_get program.functions g ≡ Some callee
  pub after : Sequence
  pub calling : IsCalling c program frame frames thread (signature_of callee)
      held.words ls labels vs after
  pub reduced : IsReduced program d
  pub calls : counted_step program d
      ≡ called g callee d (λ others. FrameOf frame.function ls labels others after) vs thread

module _ {c : Context} {program : Program} {opcodes : ℕ → List Instruction} {tables : ℕ → Table}
    {held : MachineParts} {d : Configuration} {frame : threads.StackFrame}
    {frames : List threads.StackFrame} (ready : IsReadyProgram c program opcodes tables)
    (top : Top c program held d frame frames) where
  pub direct : {g : ℕ} → slice_get (opcodes frame.function) frame.position ≡ Some (instr.Call g)
      → Direct c program held d frame frames g top.runs.ls top.runs.labels top.runs.vs top.thread
  direct {g} at =
      let routine = ready.routines frame.function top.own in
      let s = top.runs.is_there in
      let here : HasOpcode top.own.body frame.position (instr.Call g) = (rw routine.spelled at at)
      in
      let x = executes (context_of c top.own) top.own.body frame.position
      (instr.Call g) s.shapes s.types top.runs.rest routine.typed s.reached here tt in
      let operands : AreOf (takes_of x.typing.0 ++ x.below) top.runs.vs =
      subst (λ z. AreOf z top.runs.vs) (x.split ∙ ap (λ z. z ++ x.below) x.typing.2) s.operands in
      let callee =
      callee_at program.functions g x.typing.0
      (sym (ap (λ fs. slice_get fs g) ready.typed.functions) ∙ x.typing.1) in
      let calling : IsCalling c program frame frames top.thread x.typing.0 held.words top.runs.ls
      top.runs.labels top.runs.vs x.after = record {
        own = top.own;
        callers = top.callers;
        base_is = top.base_is;
        waiting = top.waiting;
        shapes = s.shapes;
        takes = x.takes;
        below = x.below;
        call = Plain (instr.Call g) x.after;
        reached = x.reached;
        calls = (x.typing.1, x.typing.2, refl);
        labels_are = s.labels_are;
        locals = s.locals;
        operands = operands;
        words_are = top.runs.words_are;
      } in
      let thread =
      with_rest d frame.function top.runs.ls top.runs.vs top.runs.labels top.thread
      top.runs.thread x.remains in
      record {
        callee = callee.0;
        there = callee.1;
        after = x.after;
        calling = subst (λ k.
            IsCalling c program frame frames top.thread k held.words top.runs.ls top.runs.labels
            top.runs.vs x.after) (sym callee.2) calling;
        reduced = reduced_before program d frame.function top.runs.ls top.runs.vs top.runs.labels
            (instr.Call g) x.after top.thread thread;
        calls = call_counted program d frame.function top.runs.ls top.runs.vs top.runs.labels g
            x.after top.thread thread callee.1;
      }

pub calls_lead : CallsLead
calls_lead c program opcodes tables table held d frame frames f ready stands is =
    let top = frames_run c program opcodes tables table held d frame frames ready stands
    is.frames_are in
    let here = direct ready top is.here in (
      here.callee,
      here.there,
      leads frame frames ready.typed stands is.frames_are here.reduced top.thread held.words
          top.runs.ls top.runs.labels top.runs.vs here.after f here.callee here.there here.calling
          here.calls,
    )

-- ---- calls through the table

indexed : (types : List ValueType) (vs : List Value) → AreOf (I32 ∷ types) vs
    → (n : ℕ) × (others : List Value) × (vs ≡ value.I32 n ∷ others) × AreOf types others
indexed types [] h = absurd h
indexed types (value.I64 n ∷ vs) h = absurd h.0
indexed types (value.I32 n ∷ vs) h = (n, vs, refl, h.1)

typed_entry : (program : Program) (table : List (Option ℕ)) (i : ℕ) (entry : Option ℕ)
    → AllByRecursion (IsTypedEntry program) table → slice_get table i ≡ Some entry
    → IsTypedEntry program entry
typed_entry program [] i entry h e = absurd (cc)
typed_entry program (x ∷ table) zero entry h e = let same : x ≡ entry = cc in rw same at h.0
typed_entry program (x ∷ table) (suc i) entry h e = typed_entry program table i entry h.1 e

abbrev signature_by : List ValueType → List ValueType → FunctionType
signature_by parameters results = record { parameters = parameters; results = results }

pub same_signature : (f g : FunctionType) → is_same_function_type f g ≡ true → f ≡ g
same_signature f g e =
    let s = same_function_type f g e in
    let parameters : f.parameters ≡ g.parameters = sym (reverse-reverse f.parameters)
    ∙ ap reverse (sym s.0) ∙ reverse-reverse g.parameters in
    let results : f.results ≡ g.results = sym (reverse-reverse f.results) ∙ ap reverse (sym s.1)
    ∙ reverse-reverse g.results in
    ap (λ z. signature_by z f.results) parameters ∙ ap (λ z. signature_by g.parameters z) results

signature_same : (f : FunctionType) → is_same_function_type f f ≡ true
signature_same f = rw (types_same f.parameters) (types_same f.results)

other_signature : (f g : FunctionType) → is_same_function_type f g ≡ false → f ≢ g
other_signature f g e same =
    let yes : is_same_function_type f g ≡ true =
    subst (λ z. is_same_function_type f z ≡ true) same (signature_same f) in
    let no : true ≡ false = sym yes ∙ e in absurd (cc)

module _ {c : Context} {program : Program} {table : List (Option ℕ)} {held : MachineParts}
    {d : Configuration} {frame : threads.StackFrame} {frames : List threads.StackFrame}
    (typed : IsTypedProgram c program) (stands : PartsStandFor c program table held d)
    (were : held.frames ≡ frame ∷ frames) (reduced : IsReduced program d) {thread : Thread}
    {words : List ℕ} {ls : List Value} {labels : List Label} {vs : List Value} {rest : Sequence}
    {signature : FunctionType}
    (calling : IsCalling c program frame frames thread signature words ls labels vs rest)
    (index : ℕ) where
  abbrev caller : List Value → Frame
  caller others = FrameOf frame.function ls labels others rest

  entry_there : {entry : Option ℕ} → slice_get table index ≡ Some entry → IsTypedEntry program entry
  entry_there {entry} e =
      typed_entry program d.store.table index entry stands.typed.store.table
      (rw stands.same_table e)

  of_signature : (f : ℕ) {callee : Callee} → slice_get program.functions f ≡ Some callee
      → counted_step program d ≡ calls_entry program (Some (Some f)) signature d caller vs
      thread → (b : Bool) → is_same_function_type signature (signature_of callee) ≡ b
      → (signature ≡ signature_of callee → CallLeads c program table held d words f callee)
      × (signature ≢ signature_of callee → counted_step program d
      ≡ Traps trap.IndirectCallTypeMismatch)
  of_signature f {callee} at is true e =
      let same = same_signature signature (signature_of callee) e in
      let now : counted_step program d ≡ called f callee d caller vs thread = is
      ∙ rw (at, e) refl in (
        λ z. leads frame frames typed stands were reduced thread words ls labels vs rest f callee at
            (subst (λ k. IsCalling c program frame frames thread k words ls labels vs rest) same
            calling) now,
        λ z. absurd (z same),
      )
  of_signature f {callee} at is false e =
      let no = other_signature signature (signature_of callee) e in
      let now : counted_step program d ≡ Traps trap.IndirectCallTypeMismatch = is
      ∙ rw (at, e) refl in (λ z. absurd (no z), λ z. now)

  pub entry_leads : (entry : Option (Option ℕ)) → slice_get table index ≡ entry
      → counted_step program d ≡ calls_entry program entry signature d caller vs thread
      → EntryLeads c program table held d words signature entry
  entry_leads None e is = is
  entry_leads (Some None) e is = is
  entry_leads (Some (Some f)) e is =
      let callee = callee_inside program.functions f (entry_there e) in (
        callee.0,
        callee.1,
        of_signature f callee.1 is (is_same_function_type signature (signature_of callee.0)) refl,
      )

-- the running frame at a call through the table of a function of the type t
pub record Indirect (c : Context) (program : Program) (held : MachineParts) (d : Configuration)
    (frame : threads.StackFrame) (frames : List threads.StackFrame) (t : ℕ) (ls : List Value)
    (labels : List Label) (thread : Thread) : Type 0 where
  pub signature : FunctionType
  pub signature_is : slice_get program.types t ≡ Some signature
  pub index : ℕ
  pub words : List ℕ
  pub words_are : held.words ≡ index ∷ words
  pub vs : List Value
  pub after : Sequence
  pub calling : IsCalling c program frame frames thread signature words ls labels vs after
  pub reduced : IsReduced program d
  pub calls : counted_step program d ≡ calls_entry program (slice_get d.store.table index)
      signature d (λ others. FrameOf frame.function ls labels others after) vs thread

module _ {c : Context} {program : Program} {opcodes : ℕ → List Instruction} {tables : ℕ → Table}
    {held : MachineParts} {d : Configuration} {frame : threads.StackFrame}
    {frames : List threads.StackFrame} (ready : IsReadyProgram c program opcodes tables)
    (top : Top c program held d frame frames) where
  pub indirect : {t : ℕ}
      → slice_get (opcodes frame.function) frame.position ≡ Some (instr.CallIndirect t)
      → Indirect c program held d frame frames t top.runs.ls top.runs.labels top.thread
  indirect {t} at =
      let routine = ready.routines frame.function top.own in
      let s = top.runs.is_there in
      let here : HasOpcode top.own.body frame.position (instr.CallIndirect t) =
      (rw routine.spelled at at) in
      let x = executes (context_of c top.own) top.own.body frame.position
      (instr.CallIndirect t) s.shapes s.types top.runs.rest routine.typed s.reached here tt in
      let signature : FunctionType = x.typing.0 in
      let signature_is : slice_get program.types t ≡ Some signature =
      sym (ap (λ ts. slice_get ts t) ready.typed.types) ∙ x.typing.1 in
      let operands : AreOf (I32 ∷ (takes_of signature ++ x.below)) top.runs.vs =
      subst (λ z. AreOf z top.runs.vs) (x.split ∙ ap (λ z. z ++ x.below) x.typing.3) s.operands in
      let on = indexed (takes_of signature ++ x.below) top.runs.vs operands in
      let words : List ℕ =
      frame_words top.runs.ls on.1 (map number_in (all_below top.runs.labels)) top.callers in
      let calling : IsCalling c program frame frames top.thread signature words top.runs.ls
      top.runs.labels on.1 x.after = record {
        own = top.own;
        callers = top.callers;
        base_is = top.base_is;
        waiting = top.waiting;
        shapes = s.shapes;
        takes = x.takes;
        below = x.below;
        call = Plain (instr.CallIndirect t) x.after;
        reached = x.reached;
        calls = (x.typing.1, x.typing.3, refl);
        labels_are = s.labels_are;
        locals = s.locals;
        operands = on.3;
        words_are = refl;
      } in
      let before =
      with_rest d frame.function top.runs.ls top.runs.vs top.runs.labels top.thread
      top.runs.thread x.remains in
      let thread =
      with_values d frame.function top.runs.ls top.runs.labels
      (Plain (instr.CallIndirect t) x.after) top.thread before on.2 in
      record {
        signature = signature;
        signature_is = signature_is;
        index = on.0;
        words = words;
        words_are = top.runs.words_are
            ∙ ap (λ z. frame_words top.runs.ls z (map number_in (all_below top.runs.labels))
            top.callers) on.2;
        vs = on.1;
        after = x.after;
        calling = calling;
        reduced = reduced_before program d frame.function top.runs.ls (value.I32 on.0
            ∷ on.1) top.runs.labels (instr.CallIndirect t) x.after top.thread thread;
        calls = indirect_counted program d frame.function top.runs.ls on.1 top.runs.labels t on.0
            x.after top.thread thread signature_is;
      }

pub indirect_calls_lead : IndirectCallsLead
indirect_calls_lead c program opcodes tables table held d frame frames t ready stands is =
    let top = frames_run c program opcodes tables table held d frame frames ready stands
    is.frames_are in
    let here = indirect ready top is.here in
    let called_is : counted_step program d
    ≡ calls_entry program (slice_get table here.index) here.signature d (λ others.
    FrameOf frame.function top.runs.ls top.runs.labels others here.after) here.vs top.thread =
    here.calls ∙ ap (λ z. calls_entry program (slice_get z here.index) here.signature d (λ others.
    FrameOf frame.function top.runs.ls top.runs.labels others here.after) here.vs top.thread)
    stands.same_table in (
      here.signature,
      here.signature_is,
      here.index,
      here.words,
      here.words_are,
      entry_leads ready.typed stands is.frames_are here.reduced here.calling here.index
          (slice_get table here.index) refl called_is,
    )
