-- What remains at an opcode, and the frame that waits for what a function gives.
use Rattle.std.proofs.Common.{◌≡◌, ⊎_elim, ℕ, zero, suc, ◌≤◌, List, [], ◌∷◌, ◌++◌, length, Some}
use Rattle.std.proofs.Common.{refl, sym, ap, ◌∙◌, subst, arith, append_assoc}
use Rattle.std.specs.Prelude.{map, reverse, slice_get}
use Rattle.std.proofs.Math.Seq.{drop-append_seam}
use Rattle.std.proofs.lemmas.List.{map-append}
use Rattle.wasm_syntax.specs.declared.types.ValueType.{ValueType}
use Rattle.wasm_syntax.specs.declared.types.FunctionType.{FunctionType}
use Rattle.wasm_syntax.specs.declared.value.Value.{Value}
use Rattle.wasm_syntax.specs.declared.instruction.Instruction.{Instruction}
use Rattle.wasm_syntax.specs.declared.instruction.Instruction.TheVariants as instr
use Rattle.wasm_syntax.specs.rules.Sequence.{Sequence, Stop, Plain, InBlock, InLoop, InIf, InIfElse}
use Rattle.wasm_syntax.specs.rules.Sequence.{IsPlain}
use Rattle.wasm_rules.specs.Types.{AreOf, number_in, takes_of, gives_of}
use Rattle.wasm_rules.specs.Typing.{Context, HasInstructionType}
use Rattle.wasm_rules.specs.Configuration.{Program, Label, FrameOf, Thread}
use Rattle.wasm_rules.specs.Steps.{topmost, returned, held_by}
use Rattle.wasm_rules.specs.Shapes.{LabelShape, types_behind}
use Rattle.wasm_rules.proofs.TypedShape.{reached_shapes_typed}
use Rattle.wasm_rules.proofs.Soundness.Values.{are_both}
use Rattle.machine_slots.specs.rules.Places.{all_below, held_beside, IsCallOf}
use Rattle.machine_slots.specs.Frames.{frame_words}
use Rattle.machine_slots.proofs.Branches.{return_splits}
use Rattle.machine_jumps.specs.Jumps.{HasShape}
use Rattle.machine_jumps.specs.Moves.{opcodes_of, HasOpcode, IsFirst, IsTypedBody}
use Rattle.machine_jumps.proofs.MovesHold.{opcodes_first, no_opcode_behind, plain_leads_on}
use Rattle.machine_frame.specs.rules.FramePosition.{IsTypedAt}
use Rattle.machine_frame.specs.declared.rules.frame.StackFrame.{StackFrame}
use Rattle.machine_frame.specs.rules.Threads.{WaitsAt, IsOwn, context_of, AreWaiting, AreFrames}
use Rattle.machine_frame.specs.laws.Threads.{WordsReturned, frames_behind}
use Rattle.machine_frame.proofs.Threads.Words.{one_fall}

-- ---- what remains at an opcode

pub none_behind : (opcodes : List Instruction) (p : ℕ) {i : Instruction} → p ≡ length opcodes
    → slice_get opcodes p ≡ Some i → ⊥
none_behind [] p e h = absurd (cc)
none_behind (j ∷ opcodes) zero e h = absurd (omega arith)
none_behind (j ∷ opcodes) (suc p) e h = none_behind opcodes p (omega arith) h

first_plain : (rest : Sequence) (i : Instruction) → IsPlain i → IsFirst rest i → (after : Sequence)
    × (rest ≡ Plain i after)
first_plain Stop i plain h =
    ⊎_elim
    (λ (e : i ≡ instr.End). let no : IsPlain instr.End = (rw e at plain) in absurd no)
    (λ (e : i ≡ instr.Else). let no : IsPlain instr.Else = (rw e at plain) in absurd no)
    h
first_plain (Plain j rest) i plain h = (rest, ap (λ z. Plain z rest) (sym h.0))
first_plain (InBlock t inner rest) i plain h = let no : IsPlain (instr.Block t) = (rw h at plain) in
    absurd no
first_plain (InLoop t inner rest) i plain h = let no : IsPlain (instr.Loop t) = (rw h at plain) in
    absurd no
first_plain (InIf t first rest) i plain h = let no : IsPlain (instr.If t) = (rw h at plain) in
    absurd no
first_plain (InIfElse t first second rest) i plain h =
    let no : IsPlain (instr.If t) = (rw h at plain) in absurd no

plain_remains : (c : Context) (body : Sequence) (p : ℕ) (i : Instruction) (shapes : List LabelShape)
    (types : List ValueType) (rest : Sequence) → IsTypedBody c body
    → HasShape c body p shapes types rest → HasOpcode body p i → IsPlain i → (after : Sequence)
    × (rest ≡ Plain i after)
plain_remains c body p i [] types rest typed e o plain =
    let h = no_opcode_behind c body p types rest typed e in
    absurd (none_behind (opcodes_of body) p h.0 o)
plain_remains c body p i (label ∷ shapes) types rest typed e o plain =
    let h = opcodes_first c body p label shapes types rest typed e in
    let one : Some h.0 ≡ Some i = sym h.1 ∙ o in
    let same : h.0 ≡ i = cc in
    first_plain rest i plain (rw same at h.2)

-- This opcode remains, and its type takes the topmost operands.
pub record Executes (c : Context) (body : Sequence) (p : ℕ) (i : Instruction)
    (shapes : List LabelShape) (types : List ValueType) (rest : Sequence) : Type 0 where
  pub after : Sequence
  pub remains : rest ≡ Plain i after
  pub branches : List (List ValueType)
  pub takes : List ValueType
  pub gives : List ValueType
  pub below : List ValueType
  pub split : types ≡ takes ++ below
  pub typing : HasInstructionType c branches i takes gives
  pub reached : HasShape c body p shapes (takes ++ below) (Plain i after)

pub executes : (c : Context) (body : Sequence) (p : ℕ) (i : Instruction) (shapes : List LabelShape)
    (types : List ValueType) (rest : Sequence) → IsTypedBody c body
    → HasShape c body p shapes types rest → HasOpcode body p i → IsPlain i
    → Executes c body p i shapes types rest
executes c body p i shapes types rest typed e o plain =
    let r = plain_remains c body p i shapes types rest typed e o plain in
    let here : HasShape c body p shapes types (Plain i r.0) = (rw r.1 at e) in
    let s = reached_shapes_typed c body p (record {
      labels = shapes;
      operands = types;
      rest = Plain i r.0;
    }) typed here in
    let h = s.typed_rest in
    record {
      after = r.0;
      remains = r.1;
      branches = s.branches;
      takes = h.0;
      gives = h.1;
      below = h.2;
      split = h.3;
      typing = h.4;
      reached = subst (λ z. HasShape c body p shapes z (Plain i r.0)) h.3 here;
    }

-- ---- behind a call

call_behind : (c : Context) (call rest : Sequence) (signature : FunctionType)
    (takes below : List ValueType) → IsCallOf c call signature takes rest → (i : Instruction)
    × (call ≡ Plain i rest) × (types_behind c i (takes ++ below)
    ≡ Some (gives_of signature ++ below))
call_behind c (Plain (instr.Call x) after) rest signature takes below h = (
  instr.Call x,
  ap (λ z. Plain (instr.Call x) z) (sym h.2),
  rw (h.0, h.1) (ap (λ z. Some (gives_of signature
      ++ z)) (drop-append_seam (takes_of signature) below)),
)
call_behind c (Plain (instr.CallIndirect x) after) rest signature takes below h = (
  instr.CallIndirect x,
  ap (λ z. Plain (instr.CallIndirect x) z) (sym h.2),
  rw (h.0, h.1) (ap (λ z. Some (gives_of signature
      ++ z)) (drop-append_seam (takes_of signature) below)),
)
call_behind c _ rest signature takes below h = absurd h

-- The frame that waits is given what the function gives, and is after its call.
pub is_typed_behind : {c : Context} {body : Sequence} {p : ℕ} {signature : FunctionType}
    {ls : List Value} {labels : List Label} {vs : List Value} (results : List Value)
    {rest : Sequence}
    → IsTypedBody c body → WaitsAt c body p signature ls labels vs rest
    → AreOf (gives_of signature) results → IsTypedAt c body (suc p) ls labels (results ++ vs) rest
is_typed_behind {c} {body} {p} {signature} {vs} results {rest} typed w o =
    let b = call_behind c w.call rest signature w.takes w.types w.calls in
    let here : HasShape c body p w.shapes (w.takes ++ w.types) (Plain b.0 rest) =
    (rw b.1 at w.reached) in
    record {
      shapes = w.shapes;
      types = gives_of signature ++ w.types;
      reached = plain_leads_on c body p w.shapes (w.takes ++ w.types) (gives_of signature
          ++ w.types) b.0 rest typed here b.2;
      labels_are = w.labels_are;
      operands = are_both (gives_of signature) w.types results vs o w.operands;
      locals = w.locals;
    }

-- values above those of a frame
pub words_above : (ls above vs : List Value) (below callers : List ℕ)
    → frame_words ls (above ++ vs) below callers ≡ map number_in above
    ++ frame_words ls vs below callers
words_above ls above vs below callers =
    ap (λ z. z ++ (below ++ (map number_in (reverse ls) ++ callers)))
    (map-append number_in above vs)
    ∙ append_assoc (map number_in above) (map number_in vs) (below
    ++ (map number_in (reverse ls) ++ callers))

-- ---- frames that go on

abbrev pub AreBodies : Context → Program → Type 0
AreBodies c program = (f : ℕ) (own : IsOwn program f) → IsTypedBody (context_of c own) own.body

module _ (c : Context) (program : Program) (bodies : AreBodies c program) where
  -- the frame that waits is given these values
  pub gives_back : (signature : FunctionType) (frame : StackFrame) (frames : List StackFrame)
      (words : List ℕ) (thread : Thread) (results : List Value) → AreOf (gives_of signature) results
      → AreWaiting c program signature (frame ∷ frames) words thread
      → AreFrames c program (frames_behind (frame ∷ frames)) (map number_in results
      ++ words) (returned results thread)
  gives_back signature frame frames words [] results o h = absurd h
  gives_back signature frame frames words (FrameOf f ls labels vs rest ∷ thread) results o h = (
    h.0,
    h.1,
    is_typed_behind results (bodies f h.0) h.2 o,
    h.3,
    record {
      words_are = ap (λ z. map number_in results ++ z) h.4.words_are
          ∙ sym (words_above ls results vs (map number_in (all_below labels)) h.3);
      base_is = h.4.base_is;
    },
    h.5,
  )

  -- a frame ends with these values
  pub frame_ends : (signature : FunctionType) (frames : List StackFrame) (callers : List ℕ)
      (thread : Thread) (n : ℕ) {base : ℕ} (ls vs : List Value) {results : List Value}
      (below : List ℕ) {old : List ℕ} (words : List ℕ)
      → AreOf (gives_of signature) results → AreWaiting c program signature frames callers thread
      → topmost n vs ≡ Some results → base ≡ length callers → old ≡ frame_words ls vs below callers
      → WordsReturned frames n base old words
      → AreFrames c program (frames_behind frames) words (returned results thread)
  frame_ends signature [] callers [] n ls vs below words o h top at was falls =
      one_fall callers falls (rw (
        at,
        was,
      ) (return_splits 0 ls vs [] below callers refl)) ∙ h
  frame_ends signature [] callers (other ∷ thread) n ls vs below words
      o h top at was falls = absurd h
  frame_ends signature (frame ∷ frames) callers thread n ls vs {results} below
      words o h top at was falls =
      let same : words ≡ map number_in results ++ callers =
      one_fall (map number_in results ++ callers) falls (rw (
        at,
        was,
      ) (return_splits n ls vs results below callers top)) in
      rw same (gives_back signature frame frames callers thread results o h)

-- the frames that are left hold no more than they held when they waited
pub fewer_held : (results : List Value) (thread : Thread)
    → held_beside (returned results thread) ≤ held_by thread
fewer_held results [] = omega arith
fewer_held results (FrameOf f ls labels vs rest ∷ thread) = omega arith

pub fewer_frames : (frames : List StackFrame) → length (frames_behind frames) ≤ length frames
fewer_frames [] = omega arith
fewer_frames (frame ∷ frames) = omega arith
