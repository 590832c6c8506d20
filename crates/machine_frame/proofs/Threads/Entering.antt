-- What calls lead to.
use Rattle.std.proofs.Common.{◌≡◌, ◌⊎◌, inl, inr, ⊎_elim, ℕ, ◌+◌, ◌-◌, ◌≤◌, ◌<◌, Bool, true, false}
use Rattle.std.proofs.Common.{if◌then◌else◌, ◌||◌, nat_lt, List, [], ◌∷◌, ◌++◌, length, drop}
use Rattle.std.proofs.Common.{Option, Some, refl, sym, ap, ◌∙◌, arith, length-append}
use Rattle.std.specs.Prelude.{map, reverse, replicate, slice_get}
use Rattle.std.proofs.lemmas.List.{length-map, length-reverse, reverse-reverse}
use Rattle.std.proofs.lemmas.Bool.Decides.{nat_tests}
use Rattle.wasm_syntax.specs.declared.types.ValueType.{ValueType}
use Rattle.wasm_syntax.specs.declared.types.FunctionType.{FunctionType}
use Rattle.wasm_syntax.specs.declared.value.Value.{Value}
use Rattle.wasm_syntax.specs.declared.value.Trap.TheVariants as trap
use Rattle.wasm_syntax.specs.rules.Sequence.{Sequence}
use Rattle.wasm_rules.specs.Types.{AreOf, number_in, takes_of}
use Rattle.wasm_rules.specs.Typing.{Context}
use Rattle.wasm_rules.specs.Configuration.{Callee, Imported, Own, Program, Label, Frame, FrameOf}
use Rattle.wasm_rules.specs.Configuration.{Thread, Configuration, Outcome, Goes, Traps, Asks}
use Rattle.wasm_rules.specs.Steps.{topmost, entered, called, held_by, is_exhausted, signature_of}
use Rattle.wasm_rules.specs.Steps.{zero_of, counted_step, IsReduced, IsCounted}
use Rattle.wasm_rules.specs.Shapes.{LabelShape}
use Rattle.wasm_rules.specs.Typed.{IsTypedProgram}
use Rattle.wasm_rules.proofs.Soundness.Values.{topmost_are, zeros_are, are_both, reverse_are}
use Rattle.machine_slots.specs.rules.Places.{HaveShape, all_below, IsCallOf}
use Rattle.machine_slots.specs.Frames.{frame_words}
use Rattle.machine_slots.proofs.Branches.{topmost_is, entry_pushes}
use Rattle.machine_jumps.specs.Jumps.{HasShape}
use Rattle.machine_frame.proofs.FramePosition.Positions.{entry_is_typed}
use Rattle.machine_frame.specs.declared.rules.frame.StackFrame as threads
use Rattle.machine_frame.specs.rules.Threads.{IsOwn, context_of, AreWaiting, MachineParts}
use Rattle.machine_frame.specs.rules.Threads.{PartsStandFor}
use Rattle.machine_frame.specs.laws.Threads.{CallLeads}
use Rattle.machine_frame.proofs.Threads.Words.{values_count, waiting_words, waiting_frames}
use Rattle.machine_frame.proofs.Threads.CountedSteps.{counted_typed}
use Rattle.machine_frame.proofs.Threads.Waiting.{words_above}

-- ---- the limits of the stack

less_test : (a b : ℕ) (test : Bool) → nat_lt a b ≡ test → a < b → test ≡ true
less_test a b true e h = refl
less_test a b false e h = absurd (let no : b ≤ a = grind (arith, nat_tests) in omega arith)

not_less_test : (a b : ℕ) (test : Bool) → nat_lt a b ≡ test → b ≤ a → test ≡ false
not_less_test a b false e h = refl
not_less_test a b true e h = absurd (let no : a < b = grind (arith, nat_tests) in omega arith)

either_test : (a b : Bool) → (a ≡ true) ⊎ (b ≡ true) → (a || b) ≡ true
either_test true b h = refl
either_test false b (inl e) = absurd (cc)
either_test false b (inr e) = e

pub fits : (thread : Thread) → length thread ≤ 512 → held_by thread ≤ 65536
    → is_exhausted thread ≡ false
fits thread h k =
    let a = not_less_test 512 (length thread) (nat_lt 512 (length thread)) refl h in
    let b = not_less_test 65536 (held_by thread) (nat_lt 65536 (held_by thread)) refl k in
    rw (a, b) refl

pub exhausts : (thread : Thread) → (512 < length thread) ⊎ (65536 < held_by thread)
    → is_exhausted thread ≡ true
exhausts thread h =
    either_test (nat_lt 512 (length thread)) (nat_lt 65536 (held_by thread))
    (⊎_elim
    (λ (k : 512 < length thread).
    inl (less_test 512 (length thread) (nat_lt 512 (length thread)) refl k))
    (λ (k : 65536 < held_by thread).
    inr (less_test 65536 (held_by thread) (nat_lt 65536 (held_by thread)) refl k))
    h)

chosen_first : {b : Bool} (x y : Outcome) → b ≡ true → (if b then x else y) ≡ x
chosen_first x y e = rw e refl

chosen_second : {b : Bool} (x y : Outcome) → b ≡ false → (if b then x else y) ≡ y
chosen_second x y e = rw e refl

-- ---- a frame at its call

-- The running frame is at a call of a function of this type. Its words are `words`, with the
-- arguments on top, and its values `vs`, where a call through the table has taken its index.
pub record IsCalling (c : Context) (program : Program) (frame : threads.StackFrame)
    (frames : List threads.StackFrame) (thread : Thread) (signature : FunctionType) (words : List ℕ)
    (ls : List Value) (labels : List Label) (vs : List Value) (rest : Sequence) : Type 0 where
  pub own : IsOwn program frame.function
  pub callers : List ℕ
  pub base_is : frame.base ≡ length callers
  pub waiting : AreWaiting c program own.signature frames callers thread
  pub shapes : List LabelShape
  pub takes : List ValueType
  pub below : List ValueType
  pub call : Sequence
  pub reached : HasShape (context_of c own) own.body frame.position shapes (takes ++ below) call
  pub calls : IsCallOf (context_of c own) call signature takes rest
  pub labels_are : HaveShape shapes labels
  pub locals : AreOf (context_of c own).locals ls
  pub operands : AreOf (takes_of signature ++ below) vs
  pub words_are : words ≡ frame_words ls vs (map number_in (all_below labels)) callers

module _ (c : Context) (program : Program) (frame : threads.StackFrame)
    (frames : List threads.StackFrame) (thread : Thread) (signature : FunctionType) (words : List ℕ)
    (ls : List Value) (labels : List Label) (vs : List Value) (rest : Sequence)
    (calling : IsCalling c program frame frames thread signature words ls labels vs rest) where
  -- the words below the arguments
  abbrev pub under : List ℕ
  under = frame_words ls (drop (length (takes_of signature)) vs)
      (map number_in (all_below labels)) calling.callers

  -- the frame that waits
  abbrev pub waits : Thread
  waits = FrameOf frame.function ls labels (drop (length (takes_of signature)) vs) rest ∷ thread

  pub record Taken : Type 0 where
    pub arguments : List Value
    pub top : topmost (length (takes_of signature)) vs ≡ Some arguments
    pub are : AreOf (takes_of signature) arguments
    pub words_are : words ≡ map number_in arguments ++ under
    pub count : length arguments ≡ length signature.parameters
    pub waiting : AreWaiting c program signature (frame ∷ frames) under waits
    pub held : length under ≡ held_by waits

  pub taken : Taken
  taken =
      let r = topmost_are (takes_of signature) calling.below vs calling.operands in
      let split = topmost_is (length (takes_of signature)) vs r.1 in
      let waiting : AreWaiting c program signature (frame ∷ frames) under waits = (
        calling.own,
        refl,
        record {
          shapes = calling.shapes;
          takes = calling.takes;
          types = calling.below;
          call = calling.call;
          reached = calling.reached;
          calls = calling.calls;
          labels_are = calling.labels_are;
          operands = r.3;
          locals = calling.locals;
        },
        calling.callers,
        record { words_are = refl; base_is = calling.base_is },
        calling.waiting,
      ) in
      record {
        arguments = r.0;
        top = r.1;
        are = r.2;
        words_are =
            calling.words_are
            ∙ ap (λ z. frame_words ls z (map number_in (all_below labels)) calling.callers) split.1
            ∙ words_above ls r.0 (drop (length (takes_of signature)) vs)
            (map number_in (all_below labels)) calling.callers;
        count = values_count (takes_of signature) r.0 r.2 ∙ length-reverse signature.parameters;
        waiting = waiting;
        held = waiting_words c program signature (frame ∷ frames) under waits waiting;
      }

-- ---- what follows

-- the locals of a function that is entered
pub entered_locals : (signature : FunctionType) (declared : List ValueType) (arguments : List Value)
    → AreOf (takes_of signature) arguments
    → AreOf (signature.parameters ++ declared) (reverse arguments ++ map zero_of declared)
entered_locals signature declared arguments are =
    let first : AreOf signature.parameters (reverse arguments) =
    (rw reverse-reverse at (reverse_are (takes_of signature) arguments are)) in
    are_both signature.parameters declared (reverse arguments) (map zero_of declared) first
    (zeros_are declared)

pub entered_count : (declared : List ValueType) (arguments : List Value)
    → length (reverse arguments ++ map zero_of declared) ≡ length arguments + length declared
entered_count declared arguments =
    omega (
      arith,
      length-append (reverse arguments) (map zero_of declared),
      length-reverse arguments,
      length-map declared zero_of,
    )

pub called_own : (f : ℕ) (signature : FunctionType) (declared : List ValueType) (body : Sequence)
    (d : Configuration) (caller : List Value → Frame) (vs : List Value) {arguments : List Value}
    (thread : Thread)
    → topmost (length (takes_of signature)) vs ≡ Some arguments
    → called f (Own signature declared body) d caller vs thread
    ≡ (if is_exhausted (entered f signature declared body arguments
    ∷ caller (drop (length (takes_of signature)) vs) ∷ thread) then Traps trap.StackExhausted
    else Goes (record d {
      thread = entered f signature declared body arguments
          ∷ caller (drop (length (takes_of signature)) vs) ∷ thread;
    }))
called_own f signature declared body d caller vs thread e = rw e refl

pub called_import : (f : ℕ) (signature : FunctionType) (d : Configuration) (caller : List Value
    → Frame) (vs : List Value) {arguments : List Value} (thread : Thread)
    → topmost (length (takes_of signature)) vs ≡ Some arguments
    → called f (Imported signature) d caller vs thread
    ≡ Asks f arguments (caller (drop (length (takes_of signature)) vs) ∷ thread)
called_import f signature d caller vs thread e = rw e refl

module _ {c : Context} {program : Program} {table : List (Option ℕ)} {held : MachineParts}
    {d : Configuration} (frame : threads.StackFrame) (frames : List threads.StackFrame)
    (typed : IsTypedProgram c program) (stands : PartsStandFor c program table held d)
    (were : held.frames ≡ frame ∷ frames) (reduced : IsReduced program d) (thread : Thread)
    (words : List ℕ) (ls : List Value) (labels : List Label) (vs : List Value) (rest : Sequence)
    (f : ℕ) where
  abbrev caller : List Value → Frame
  caller others = FrameOf frame.function ls labels others rest

  import_leads : {signature : FunctionType}
      → IsCalling c program frame frames thread signature words ls labels vs rest
      → counted_step program d ≡ called f (Imported signature) d caller vs thread
      → CallLeads c program table held d words f (Imported signature)
  import_leads {signature} calling is =
      let t = taken c program frame frames thread signature words ls labels vs rest calling in (
        t.arguments,
        waits c program frame frames thread signature words ls labels vs rest calling,
        under c program frame frames thread signature words ls labels vs rest calling,
        is ∙ called_import f signature d caller vs thread t.top,
        t.are,
        t.words_are,
      )

  module _ {signature : FunctionType} (declared : List ValueType) (body : Sequence) (at : slice_get
      program.functions f ≡ Some (Own signature declared body)) (calling : IsCalling c program frame
      frames thread signature words ls labels vs rest) (is : counted_step program d ≡ called f
      (Own signature declared body) d caller vs thread) where
    abbrev now : Taken c program frame frames thread signature words ls labels vs rest calling
    now = taken c program frame frames thread signature words ls labels vs rest calling

    abbrev below : List ℕ
    below = under c program frame frames thread signature words ls labels vs rest calling

    abbrev inside : Thread
    inside = entered f signature declared body now.arguments
        ∷ waits c program frame frames thread signature words ls labels vs rest calling

    abbrev next : Configuration
    next = record d { thread = inside }

    deeper : length inside ≡ length held.frames + 1
    deeper =
        let frames_count =
        waiting_frames c program calling.own.signature frames calling.callers thread calling.waiting
        in
        omega (arith, ap length were)

    more_held : held_by inside ≡ length declared + length words
    more_held =
        let all = ap length now.words_are in
        let locals = entered_count declared now.arguments in
        omega (
          arith,
          all,
          locals,
          now.held,
          length-append (map number_in now.arguments) below,
          length-map now.arguments number_in,
        )

    enough : length words ≡ length signature.parameters + length below
    enough =
        let all = ap length now.words_are in
        omega (
          arith,
          all,
          now.count,
          length-append (map number_in now.arguments) below,
          length-map now.arguments number_in,
        )

    goes : length held.frames < 512 → length declared + length words ≤ 65536
        → IsCounted program d next
    goes h k =
        is ∙ called_own f signature declared body d caller vs thread now.top ∙ chosen_second
        (Traps trap.StackExhausted) (Goes next) (fits inside (omega (arith, deeper))
        (omega (arith, more_held)))

    traps : (512 ≤ length held.frames) ⊎ (65536 < length declared + length words)
        → counted_step program d ≡ Traps trap.StackExhausted
    traps h =
        is ∙ called_own f signature declared body d caller vs thread now.top ∙ chosen_first
        (Traps trap.StackExhausted) (Goes next) (exhausts inside (⊎_elim (λ
        (k : 512 ≤ length held.frames). inl (omega (arith, deeper))) (λ
        (k : 65536 < length declared + length words). inr (omega (arith, more_held))) h))

    stands_inside : (h : length held.frames < 512) (k : length declared + length words ≤ 65536)
        → PartsStandFor c program table (record held {
          frames = record {
            function = f;
            position = 0;
            base = length words - length signature.parameters;
          } ∷ held.frames;
          words = replicate (length declared) 0 ++ words;
        }) next
    stands_inside h k =
        let locals : List Value = reverse now.arguments ++ map zero_of declared in
        let own : IsOwn program f = record {
          signature = signature;
          declared = declared;
          body = body;
          is = at;
        } in
        let pushed : replicate (length declared) 0 ++ words ≡ frame_words locals [] [] below =
        ap (λ z. replicate (length declared) 0 ++ z) now.words_are
        ∙ sym (entry_pushes now.arguments declared below) in
        record {
          typed = counted_typed next typed stands.typed reduced (goes h k);
          frames = rw were (
            own,
            refl,
            entry_is_typed (context_of c own) body locals
                (entered_locals signature declared now.arguments now.are),
            below,
            record { words_are = pushed; base_is = omega (arith, enough) },
            now.waiting,
          );
          shown = stands.shown;
          same_table = stands.same_table;
          later = stands.later;
          few_frames = omega arith;
          few_values = omega (arith, more_held);
        }

    own_leads : CallLeads c program table held d words f (Own signature declared body)
    own_leads = (omega (arith, enough), λ h k. (next, goes h k, stands_inside h k), λ h. traps h)

  pub leads : (callee : Callee) → slice_get program.functions f ≡ Some callee
      → IsCalling c program frame frames thread (signature_of callee) words ls labels vs rest
      → counted_step program d ≡ called f callee d caller vs thread
      → CallLeads c program table held d words f callee
  leads (Imported signature) at calling is = import_leads calling is
  leads (Own signature declared body) at calling is = own_leads declared body at calling is
