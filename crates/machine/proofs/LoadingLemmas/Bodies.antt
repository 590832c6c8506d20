-- What is known of a frame's function, of its body at a position, and of the call at which it
-- waits.
use Rattle.std.proofs.Common.{◌≡◌, ◌≢◌, ◌⊎◌, ⊎_elim, ℕ, zero, suc, ◌+◌, ◌-◌, ◌<◌, ◌≤◌, List, []}
use Rattle.std.proofs.Common.{◌∷◌, Bool, IsTrue, ◌↔◌, ◌++◌, length, take, Option, Some, None, refl}
use Rattle.std.proofs.Common.{sym, ap, ◌∙◌, subst, arith, length-append, append_assoc}
use Rattle.std.specs.Prelude.{slice_get, reverse}
use Rattle.std.specs.Option.{option_map}
use Rattle.std.proofs.Math.Seq.{take-append_seam}
use Rattle.std.proofs.lemmas.List.{length-reverse, reverse-append}
use Rattle.std.proofs.lemmas.Option.{slice_get-map, slice_get_within}
use Rattle.wasm_syntax.specs.declared.types.ValueType.{ValueType}
use Rattle.wasm_syntax.specs.declared.types.ValueType.TheVariants.{I32}
use Rattle.wasm_syntax.specs.declared.types.FunctionType.{FunctionType}
use Rattle.wasm_syntax.specs.declared.module.Function.{Function}
use Rattle.wasm_syntax.specs.declared.instruction.Instruction.{Instruction}
use Rattle.wasm_syntax.specs.declared.instruction.Instruction.TheVariants as instr
use Rattle.wasm_syntax.specs.rules.Sequence.{Sequence, Stop, Plain, InBlock, InLoop, InIf, InIfElse}
use Rattle.wasm_syntax.specs.rules.Sequence.{IsPlain, Spells}
use Rattle.wasm_rules.specs.Types.{takes_of}
use Rattle.wasm_rules.specs.Typing.{Context, HasType, body_context}
use Rattle.wasm_rules.specs.Validity.{module_context}
use Rattle.wasm_rules.specs.Configuration.{Callee, Imported, Own, Program}
use Rattle.wasm_rules.specs.Shapes.{Shape, LabelShape, body_shape}
use Rattle.wasm_rules.specs.Steps.{signature_of}
use Rattle.wasm_rules.specs.Typed.{IsTypedProgram}
use Rattle.wasm_rules.proofs.TypedShape.{reached_shapes_typed}
use Rattle.wasm_rules.proofs.Soundness.Beginning.{programs_typed}
use Rattle.wasm_validate.specs.rules.Operands.{types_below, types_in, types_at}
use Rattle.wasm_validate.specs.Body.Bodies.{HasBody}
use Rattle.machine_slots.specs.rules.Places.{ShownFrame, IsCallOf}
use Rattle.machine_jumps.specs.Jumps.{HasShape}
use Rattle.machine_jumps.specs.Moves.{opcodes_of, HasOpcode, IsFirst, IsTypedBody}
use Rattle.machine_jumps.proofs.MovesHold.{opcodes_first, no_opcode_behind}
use Rattle.machine_frame.specs.laws.Fitting.{AreWordsOf, FitsRunning, FitsWaiting, IsOwnPlace}
use Rattle.machine_frame.proofs.Threads.Waiting.{none_behind}
use Rattle.machine_frame.specs.rules.Threads.{IsOwn}
use Rattle.machine.specs.laws.Routines.{IsNumberedCallee}
use Rattle.machine.specs.declared.execution.code.Executable.{Executable}
use Rattle.machine.specs.Execution.Codes.{IsExecutable}
use Rattle.machine.specs.Loading.Bodies.{IsOwnAt, HasMore, CallTakes}
use Rattle.machine.specs.Loading.Checks.{FitsTop, FitsBelow}
use Rattle.machine.proofs.RoutineLemmas.Numbers.{functions_numbered, functions_counted}
use Rattle.machine.proofs.RoutineLemmas.Made.{all_at}
use Rattle.machine.proofs.CycleLemmas.Codes.{calls_count, has_own}
use Rattle.wasm_rules.specs.laws.Laws.{GivesOneAtMost}

-- ---- the function of a frame

-- The program has a function with this number, of this type and this body.
pub record IsBodyOf (c : Context) (program : Program) (f : ℕ) (g : Function)
    (signature : FunctionType) : Type 0 where
  pub body : HasBody c signature g.code
  pub is : slice_get program.functions f ≡ Some (Own signature g.code.locals body.sequence)

module _ {code : Executable} {functions : List FunctionType} {program : Program}
    (is : IsExecutable code functions program) where
  c : Context
  c = module_context code.«module» functions

  pub typed_code : IsTypedProgram (module_context code.«module» functions) program
  typed_code = programs_typed is.pages code.«module» functions program is.few is.valid is.types
      is.is_program

  -- what is no own function is no function of the program's own
  pub not_own : (f : ℕ) → ((g : Function) → IsOwnAt code f g → ⊥) → IsOwn program f → ⊥
  not_own f none own =
      let h = has_own code functions program is own in
      none h.function (h.not_imported, h.function_there)

  -- the callee of an own function
  callee_of : (f : ℕ) (g : Function) → IsOwnAt code f g → (callee : Callee)
      → slice_get program.functions f ≡ Some callee → IsNumberedCallee code.«module» f callee
      → {signature : FunctionType} → signature_of callee ≡ signature
      → (body : Sequence) × (callee ≡ Own signature g.code.locals body) × Spells g.code.body body
  callee_of f g at (Imported k) e n same =
      let low = n.0 in
      let high = at.0 in
      let count = calls_count code functions program is in
      absurd (omega (arith, low, high, count))
  callee_of f g at (Own k declared body) e n {signature} same =
      let count = calls_count code functions program is in
      let number = n.2 in
      let place : f - length code.calls.items ≡ n.0 = omega (arith, count, number) in
      let there : slice_get code.«module».functions n.0 ≡ Some g =
      subst (λ z. slice_get code.«module».functions z ≡ Some g) place at.1 in
      let known = n.3 in
      let function : n.1 ≡ g = cc in
      let locals : declared ≡ g.code.locals =
      n.5 ∙ ap (λ (z : Function). z.code.locals) function in (
        body,
        ap (λ z. Own z declared body) same ∙ ap (λ z. Own signature z body) locals,
        subst (λ (z : Function). Spells z.code.body body) function n.6,
      )

  some_callee : (f : ℕ) (g : Function) → IsOwnAt code f g → f < length program.functions
  some_callee f g at =
      let within = slice_get_within code.«module».functions (f - length code.calls.items) g at.1 in
      let high = at.0 in
      let count = calls_count code functions program is in
      let all = functions_counted is.pages code.«module» program is.is_program in
      omega (arith, within, high, count, all)

  signature_there : (f : ℕ) {callee : Callee} {signature : FunctionType}
      → slice_get program.functions f ≡ Some callee → Some signature ≡ slice_get functions f
      → signature_of callee ≡ signature
  signature_there f {callee} e k =
      let t = typed_code in
      let there : slice_get functions f ≡ Some (signature_of callee) =
      ap (λ z. slice_get z f) t.functions ∙ (slice_get-map signature_of program.functions f
      ∙ ap (option_map signature_of) e) in
      cc

  -- what an own function is
  pub body_of : (f : ℕ) (g : Function) {signature : FunctionType} → IsOwnAt code f g
      → Some signature ≡ slice_get functions f
      → IsBodyOf (module_context code.«module» functions) program f g signature
  body_of f g {signature} at k =
      let within = some_callee f g at in
      found (slice_get program.functions f) refl (λ e. none_within within e)
    where
      none_within : f < length program.functions → slice_get program.functions f ≡ None → ⊥
      none_within within e = absurd (not_past program.functions f within e)
        where
          not_past : (xs : List Callee) (i : ℕ) → i < length xs → slice_get xs i ≡ None → ⊥
          not_past [] i h e = omega (arith, h)
          not_past (x ∷ xs) zero h e = absurd (cc)
          not_past (x ∷ xs) (suc i) h e = not_past xs i (omega (arith, h)) e

      found : (o : Option Callee) → slice_get program.functions f ≡ o
          → (slice_get program.functions f ≡ None → ⊥)
          → IsBodyOf (module_context code.«module» functions) program f g signature
      found None e some = absurd (some e)
      found (Some callee) e some =
          let n = functions_numbered is.pages code.«module» program f callee is.is_program e in
          let b = callee_of f g at callee e n (signature_there f e k) in
          let there : slice_get program.functions f ≡ Some (Own signature g.code.locals b.0) =
          e ∙ ap Some b.1 in
          record {
            body = record {
              sequence = b.0;
              spells = b.2;
              typed = typed_code.bodies f (Own signature g.code.locals b.0) there;
            };
            is = there;
          }

  -- a function gives one value at most
  pub one_result : (f : ℕ) {signature : FunctionType} → Some signature ≡ slice_get functions f
      → length signature.results ≤ 1
  one_result f {signature} k =
      let ready = is.routines.ready is.pages program functions is.few is.is_program is.types in
      all_at GivesOneAtMost functions f signature ready.functions (sym k)

  -- a function of the program's own has a type
  pub own_signature : (f : ℕ) (own : IsOwn program f) → slice_get functions f ≡ Some own.signature
  own_signature f own =
      let t = typed_code in
      ap (λ z. slice_get z f) t.functions ∙ (slice_get-map signature_of program.functions f
      ∙ ap (option_map signature_of) own.is)

-- ---- one function only

-- the function of a frame's place is the program's own
pub own_in : {c : Context} {program : Program} {place : ShownFrame} → IsOwnPlace c program place
    → IsOwn program place.function
own_in own = record {
  signature = own.signature;
  declared = own.declared;
  body = own.body;
  is = own.is;
}

-- the frame fits its function, as the running one or as one that waits
abbrev RunningIn : Context → ShownFrame → Callee → Type 0
RunningIn c place (Imported k) = Unit {0}
RunningIn c place (Own k d b) = FitsRunning (body_context c k d) b place

abbrev WaitingIn : Context → ShownFrame → FunctionType → Callee → Type 0
WaitingIn c place above (Imported k) = Unit {0}
WaitingIn c place above (Own k d b) = FitsWaiting (body_context c k d) b place above

module _ {c : Context} (program : Program) (place : ShownFrame) {signature : FunctionType}
    {declared : List ValueType} {body : Sequence}
    (is : slice_get program.functions place.function ≡ Some (Own signature declared body)) where
  abbrev own_place : IsOwnPlace c program place
  own_place = record {
    signature = signature;
    declared = declared;
    body = body;
    is = is;
    same = refl;
  }

  pub top_fits : FitsRunning (body_context c signature declared) body place
      → FitsTop c program place
  top_fits h = (own_place, h)

  pub top_runs : FitsTop c program place → FitsRunning (body_context c signature
      declared) body place
  top_runs h =
      let there = h.0.is in
      let same : Own h.0.signature h.0.declared h.0.body ≡ Own signature declared body = cc in
      subst (RunningIn c place) same h.1

  module _ {above : FunctionType} where
    pub below_fits : FitsWaiting (body_context c signature declared) body place above
        → FitsBelow c program above place
    below_fits h = (own_place, h)

    pub below_waits : FitsBelow c program above place
        → FitsWaiting (body_context c signature declared) body place above
    below_waits h =
        let there = h.0.is in
        let same : Own h.0.signature h.0.declared h.0.body ≡ Own signature declared body = cc in
        subst (WaitingIn c place above) same h.1

-- ---- what is at a position

module _ (c : Context) (body : Sequence) (p : ℕ) (typed : IsTypedBody c body) where
  -- what remains begins with the opcode there
  pub first_there : (i : Instruction) {s : Shape} → HasOpcode body p i
      → body_shape c body p ≡ Some s → IsFirst s.rest i
  first_there i {s} at e = by_labels s.labels e
    where
      by_labels : (labels : List LabelShape) → HasShape c body p labels s.operands s.rest
          → IsFirst s.rest i
      by_labels [] e = let h = no_opcode_behind c body p s.operands s.rest typed e in
          absurd (none_behind (opcodes_of body) p h.0 at)
      by_labels (label ∷ labels) e =
          let h = opcodes_first c body p label labels s.operands s.rest typed e in
          let known = h.1 in
          let same : h.0 ≡ i = cc in
          subst (IsFirst s.rest) same h.2

  -- where something remains, an opcode is there
  pub some_there : {s : Shape} → body_shape c body p ≡ Some s → s.rest ≢ Stop
      → (i : Instruction) × HasOpcode body p i × IsFirst s.rest i
  some_there {s} e more = by_labels s.labels e
    where
      by_labels : (labels : List LabelShape) → HasShape c body p labels s.operands s.rest
          → (i : Instruction) × HasOpcode body p i × IsFirst s.rest i
      by_labels [] e = absurd (more (no_opcode_behind c body p s.operands s.rest typed e).1)
      by_labels (label ∷ labels) e =
          opcodes_first c body p label labels s.operands s.rest typed e

not_closing : (rest : Sequence) (i : Instruction) → rest ≢ Stop → IsFirst rest i
    → (i ≢ instr.End) × (i ≢ instr.Else)
not_closing Stop i more h = absurd (more refl)
not_closing (Plain j rest) i more h = (λ e. plain (sym h.0 ∙ e) h.1, λ e. other (sym h.0 ∙ e) h.1)
  where
    plain : j ≡ instr.End → IsPlain j → ⊥
    plain e k = subst IsPlain e k

    other : j ≡ instr.Else → IsPlain j → ⊥
    other e k = subst IsPlain e k
not_closing (InBlock t body rest) i more h = (λ e. absurd (cc), λ e. absurd (cc))
not_closing (InLoop t body rest) i more h = (λ e. absurd (cc), λ e. absurd (cc))
not_closing (InIf t first rest) i more h = (λ e. absurd (cc), λ e. absurd (cc))
not_closing (InIfElse t first second rest) i more h = (λ e. absurd (cc), λ e. absurd (cc))

stops_close : (rest : Sequence) (i : Instruction) → i ≢ instr.End → i ≢ instr.Else
    → IsFirst rest i → rest ≢ Stop
stops_close rest i a b h e =
    let closing : (i ≡ instr.End) ⊎ (i ≡ instr.Else) = subst (λ z. IsFirst z i) e h in
    ⊎_elim a b closing

-- the shape that has these types
shape_with : (o : Option Shape) {types : List ValueType} → Some types ≡ option_map types_in o
    → (s : Shape) × (o ≡ Some s) × (types_in s ≡ types)
shape_with None e = absurd (cc)
shape_with (Some s) {types} e = (s, refl, (let same : types_in s ≡ types = cc in same))

-- ---- the running frame

module _ {c : Context} {signature : FunctionType} (g : Function) (b : HasBody c signature g.code)
    (place : ShownFrame) where
  abbrev inner : Context
  inner = body_context c signature g.code.locals

  opcodes_are : g.code.body ≡ opcodes_of b.sequence
  opcodes_are = b.spells.is

  pub runs_more : FitsRunning (body_context c signature g.code.locals) b.sequence place
      → HasMore g.code.body place.position
  runs_more h =
      let there = some_there inner b.sequence place.position b.typed h.reached h.more in
      let open_ones = not_closing h.shape.rest there.0 h.more there.2 in (
        there.0,
        ap (λ z. slice_get z place.position) opcodes_are ∙ there.1,
        open_ones.0,
        open_ones.1,
      )

  pub runs_reached : None ≡ types_at (body_context c signature g.code.locals) b.sequence
      place.position → FitsRunning (body_context c signature g.code.locals) b.sequence place → ⊥
  runs_reached e h =
      let there = ap (option_map types_in) h.reached in
      absurd (cc)

  module _ {types : List ValueType} (found : Some types ≡ types_at
      (body_context c signature g.code.locals) b.sequence place.position) where
    pub runs : HasMore g.code.body place.position
        → AreWordsOf ((signature.parameters ++ g.code.locals) ++ types) place.slots
        → FitsRunning (body_context c signature g.code.locals) b.sequence place
    runs more words =
        let s = shape_with (body_shape inner b.sequence place.position) found in
        let at : HasOpcode b.sequence place.position more.0 =
        ap (λ z. slice_get z place.position) (sym opcodes_are) ∙ more.1 in
        let first = first_there inner b.sequence place.position b.typed more.0 at s.1 in
        record {
          shape = s.0;
          reached = s.1;
          more = stops_close s.0.rest more.0 more.2 more.3 first;
          words = subst (λ z. AreWordsOf ((signature.parameters ++ g.code.locals)
              ++ z) place.slots) (sym s.2) words;
        }

    pub runs_words : FitsRunning (body_context c signature g.code.locals) b.sequence place
        → AreWordsOf ((signature.parameters ++ g.code.locals) ++ types) place.slots
    runs_words h =
        let there = ap (option_map types_in) h.reached in
        let same : types_in h.shape ≡ types = cc in
        subst (λ z. AreWordsOf ((signature.parameters ++ g.code.locals)
        ++ z) place.slots) same h.words

-- ---- a frame that waits

-- what is below the operands that a call takes, from the first one on
left_below : (takes types below : List ValueType)
    → take (length (reverse ((takes ++ types) ++ below)) - length takes)
    (reverse ((takes ++ types) ++ below)) ≡ reverse (types ++ below)
left_below takes types below =
    let under = types ++ below in
    let whole : reverse ((takes ++ types) ++ below) ≡ reverse under ++ reverse takes =
    ap reverse (append_assoc takes types below) ∙ reverse-append takes under in
    let count : length (reverse under ++ reverse takes) - length takes ≡ length (reverse under) =
    omega (arith, length-append (reverse under) (reverse takes), length-reverse takes) in
    ap (λ z. take (length z - length takes) z) whole
    ∙ (ap (λ n. take n (reverse under ++ reverse takes)) count
    ∙ take-append_seam (reverse under) (reverse takes))

all_count : (takes types below : List ValueType)
    → length (reverse ((takes ++ types) ++ below)) ≡ length takes + length (types ++ below)
all_count takes types below =
    omega (
      arith,
      length-reverse ((takes ++ types) ++ below),
      length-append (takes ++ types) below,
      length-append takes types,
      length-append types below,
    )

-- a call takes so many operands
taken_count : (c : Context) (i : Instruction) (rest after : Sequence) (signature : FunctionType)
    (takes : List ValueType) → IsFirst rest i → IsCallOf c rest signature takes after
    → CallTakes c i signature (length takes)
taken_count c i (Plain (instr.Call x) rest) after signature takes f h =
    subst (λ z. CallTakes c z signature (length takes)) (sym f.0)
    (h.0, ap length h.1 ∙ length-reverse signature.parameters)
taken_count c i (Plain (instr.CallIndirect x) rest) after signature takes f h =
    subst (λ z. CallTakes c z signature (length takes)) (sym f.0)
    (h.0, ap length h.1 ∙ ap suc (length-reverse signature.parameters))
taken_count c i _ after signature takes f h = absurd h

one_count : (c : Context) (i : Instruction) (signature : FunctionType) (n m : ℕ)
    → CallTakes c i signature n → CallTakes c i signature m → n ≡ m
one_count c (instr.Call x) signature n m a b = a.1 ∙ sym b.1
one_count c (instr.CallIndirect x) signature n m a b = a.1 ∙ sym b.1
one_count c _ signature n m a b = absurd a

-- the call that is there, with what it takes and leaves
record Called (c : Context) (rest : Sequence) (signature : FunctionType) (n : ℕ)
    (operands : List ValueType) : Type 0 where
  takes : List ValueType
  types : List ValueType
  after : Sequence
  calls : IsCallOf c rest signature takes after
  split : operands ≡ takes ++ types
  count : length takes ≡ n

-- where a call is what is first
call_first : (c : Context) (signature : FunctionType) (n : ℕ) (i : Instruction) (rest : Sequence)
    → IsFirst rest i → CallTakes c i signature n → (after : Sequence) × (rest ≡ Plain i after)
call_first c signature n i Stop f h =
    absurd (⊎_elim (λ (e : i ≡ instr.End). subst (λ z. CallTakes c z signature n) e h)
    (λ (e : i ≡ instr.Else). subst (λ z. CallTakes c z signature n) e h) f)
call_first c signature n i (Plain j rest) f h = (rest, ap (λ z. Plain z rest) (sym f.0))
call_first c signature n i (InBlock t body rest) f h = absurd
    (subst (λ z. CallTakes c z signature n) f h)
call_first c signature n i (InLoop t body rest) f h = absurd
    (subst (λ z. CallTakes c z signature n) f h)
call_first c signature n i (InIf t first rest) f h = absurd
    (subst (λ z. CallTakes c z signature n) f h)
call_first c signature n i (InIfElse t first second rest) f h =
    absurd (subst (λ z. CallTakes c z signature n) f h)

called_plain : (c : Context) (branches : List (List ValueType)) (out : List ValueType)
    (i : Instruction) (after : Sequence) (signature : FunctionType) (n : ℕ)
    (operands : List ValueType) → CallTakes c i signature n
    → HasType c branches (Plain i after) operands out → Called c (Plain i after)
    signature n operands
called_plain c branches out (instr.Call x) after signature n operands h t =
    let found = h.0 in
    let typing = t.4 in
    let other = typing.1 in
    let same : typing.0 ≡ signature = cc in
    record {
      takes = takes_of signature;
      types = t.2;
      after = after;
      calls = (h.0, refl, refl);
      split = t.3 ∙ ap (λ z. z ++ t.2) (typing.2 ∙ ap takes_of same);
      count = length-reverse signature.parameters ∙ sym h.1;
    }
called_plain c branches out (instr.CallIndirect x) after signature n operands h t =
    let found = h.0 in
    let typing = t.4 in
    let other = typing.1 in
    let same : typing.0 ≡ signature = cc in
    record {
      takes = I32 ∷ takes_of signature;
      types = t.2;
      after = after;
      calls = (h.0, refl, refl);
      split = t.3 ∙ ap (λ z. z ++ t.2) (typing.3 ∙ ap (λ z. I32 ∷ takes_of z) same);
      count = ap suc (length-reverse signature.parameters) ∙ sym h.1;
    }
called_plain c branches out _ after signature n operands h t = absurd h

called : (c : Context) (branches : List (List ValueType)) (out : List ValueType)
    (i : Instruction) (rest : Sequence) (signature : FunctionType) (n : ℕ)
    (operands : List ValueType) → IsFirst rest i → CallTakes c i signature n
    → HasType c branches rest operands out → Called c rest signature n operands
called c branches out i rest signature n operands f h t =
    let e = call_first c signature n i rest f h in
    let here = subst (λ z. HasType c branches z operands out) e.1 t in
    subst (λ z. Called c z signature n operands) (sym e.1)
    (called_plain c branches out i e.0 signature n operands h here)

-- a body looks up the same functions and types as its module
takes_inside : (c : Context) (signature : FunctionType) (declared : List ValueType)
    (i : Instruction) (above : FunctionType) (n : ℕ) → CallTakes c i above n
    → CallTakes (body_context c signature declared) i above n
takes_inside c signature declared (instr.Call x) above n h = h
takes_inside c signature declared (instr.CallIndirect x) above n h = h
takes_inside c signature declared _ above n h = absurd h

takes_outside : (c : Context) (signature : FunctionType) (declared : List ValueType)
    (i : Instruction) (above : FunctionType) (n : ℕ) → CallTakes
    (body_context c signature declared) i above n → CallTakes c i above n
takes_outside c signature declared (instr.Call x) above n h = h
takes_outside c signature declared (instr.CallIndirect x) above n h = h
takes_outside c signature declared _ above n h = absurd h

module _ {c : Context} {signature : FunctionType} (g : Function) (b : HasBody c signature g.code)
    (place : ShownFrame) (above : FunctionType) where
  abbrev waits_in : Context
  waits_in = body_context c signature g.code.locals

  body_is : g.code.body ≡ opcodes_of b.sequence
  body_is = b.spells.is

  -- a call is where a frame waits
  pub waits_there : FitsWaiting (body_context c signature g.code.locals) b.sequence place above
      → (i : Instruction) × (slice_get g.code.body place.position ≡ Some i)
      × (n : ℕ) × CallTakes c i above n
  waits_there h =
      let more : h.shape.rest ≢ Stop = λ e.
      subst (λ z. IsCallOf waits_in z above h.takes h.rest) e h.calls in
      let there = some_there waits_in b.sequence place.position b.typed h.reached more in (
        there.0,
        ap (λ z. slice_get z place.position) body_is ∙ there.1,
        length h.takes,
        takes_outside c signature g.code.locals there.0 above (length h.takes)
            (taken_count waits_in there.0 h.shape.rest h.rest above h.takes there.2 h.calls),
      )

  pub waits_reached : None ≡ types_at (body_context c signature g.code.locals) b.sequence
      place.position → FitsWaiting (body_context c signature g.code.locals) b.sequence
      place above → ⊥
  waits_reached e h =
      let there = ap (option_map types_in) h.reached in
      absurd (cc)

  module _ {i : Instruction} (at : slice_get g.code.body place.position ≡ Some i) (n : ℕ)
      (told : CallTakes c i above n) {types : List ValueType} (found : Some types ≡ types_at
      (body_context c signature g.code.locals) b.sequence place.position) where
    opcode : HasOpcode b.sequence place.position i
    opcode = ap (λ z. slice_get z place.position) (sym body_is) ∙ at

    takes : CallTakes waits_in i above n
    takes = takes_inside c signature g.code.locals i above n told

    pub waits : AreWordsOf ((signature.parameters ++ g.code.locals)
        ++ take (length types - n) types) place.slots
        → FitsWaiting (body_context c signature g.code.locals) b.sequence place above
    waits words =
        let s = shape_with (body_shape waits_in b.sequence place.position) found in
        let first = first_there waits_in b.sequence place.position b.typed i opcode s.1 in
        let t = reached_shapes_typed waits_in b.sequence place.position s.0 b.typed s.1 in
        let k = called waits_in t.branches t.out i s.0.rest above n s.0.operands first takes
        t.typed_rest in
        let below = types_below s.0.labels in
        let whole : types ≡ reverse ((k.takes ++ k.types) ++ below) =
        sym s.2 ∙ ap (λ z. reverse (z ++ below)) k.split in
        let types_left : take (length types - n) types ≡ reverse (k.types ++ below) =
        ap (λ z. take (length z - n) z) whole
        ∙ (ap (λ m. take (length (reverse ((k.takes ++ k.types) ++ below)) - m)
        (reverse ((k.takes ++ k.types) ++ below))) (sym k.count)
        ∙ left_below k.takes k.types below) in
        record {
          shape = s.0;
          takes = k.takes;
          types = k.types;
          rest = k.after;
          reached = s.1;
          calls = k.calls;
          split = k.split;
          words = subst (λ z. AreWordsOf ((signature.parameters ++ g.code.locals)
              ++ z) place.slots) types_left words;
        }

    -- so many operands there are
    pub waits_words : FitsWaiting (body_context c signature g.code.locals) b.sequence place above
        → (n ≤ length types)
        × AreWordsOf ((signature.parameters ++ g.code.locals) ++ take (length types - n) types)
        place.slots
    waits_words h =
        let there = ap (option_map types_in) h.reached in
        let same : types_in h.shape ≡ types = cc in
        let below = types_below h.shape.labels in
        let whole : types ≡ reverse ((h.takes ++ h.types) ++ below) =
        sym same ∙ ap (λ z. reverse (z ++ below)) h.split in
        let first = first_there waits_in b.sequence place.position b.typed i opcode h.reached in
        let count : n ≡ length h.takes = one_count waits_in i above n (length h.takes) takes
        (taken_count waits_in i h.shape.rest h.rest above h.takes first h.calls) in
        let types_left : reverse (h.types ++ below) ≡ take (length types - n) types =
        sym (left_below h.takes h.types below)
        ∙ (ap (λ m. take (length (reverse ((h.takes ++ h.types) ++ below)) - m)
        (reverse ((h.takes ++ h.types) ++ below))) (sym count)
        ∙ ap (λ z. take (length z - n) z) (sym whole)) in (
          omega (arith, count, ap length whole, all_count h.takes h.types below),
          subst (λ z. AreWordsOf ((signature.parameters ++ g.code.locals)
              ++ z) place.slots) types_left
              h.words,
        )

-- ---- the words that were compared

pub same_words : {ps qs ls ms ts us : List ValueType} (words : List ℕ) (told : Bool)
    → ps ≡ qs → ls ≡ ms → ts ≡ us → IsTrue told ↔ AreWordsOf ((ps ++ ls) ++ ts) words
    → IsTrue told ↔ AreWordsOf ((qs ++ ms) ++ us) words
same_words {qs} {ls} {ms} {ts} words told a b c h =
    subst (λ z. IsTrue told ↔ AreWordsOf ((qs ++ ms) ++ z) words) c
    (subst (λ z. IsTrue told ↔ AreWordsOf ((qs ++ z) ++ ts) words) b
    (subst (λ z. IsTrue told ↔ AreWordsOf ((z ++ ls) ++ ts) words) a h))

-- where the opcode is no call of such a function, there is none
pub none_there : (c : Context) (above : FunctionType) {i j : Instruction} {o : Option Instruction}
    → Some i ≡ o → o ≡ Some j → ((n : ℕ) → CallTakes c i above n → ⊥) → (n : ℕ)
    → CallTakes c j above n → ⊥
none_there c above {i} {j} e k none n h =
    let same : j ≡ i = cc in
    none n (subst (λ z. CallTakes c z above n) same h)
