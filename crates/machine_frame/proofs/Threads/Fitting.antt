-- What fits a program shows some configuration of it, and the other way round.
use Rattle.std.proofs.Common.{◌≡◌, ◌≢◌, ℕ, ◌+◌, ◌≤◌, List, [], ◌∷◌, ◌++◌, length, Some, None, refl}
use Rattle.std.proofs.Common.{sym, ap, ◌∙◌, subst, arith, length-append}
use Rattle.std.specs.Prelude.{map, reverse, slice_get}
use Rattle.std.specs.List.{AllByRecursion}
use Rattle.std.proofs.lemmas.List.{append_cancel_left, length-map, length-reverse, reverse-reverse}
use Rattle.wasm_syntax.specs.declared.types.ValueType.{ValueType}
use Rattle.wasm_syntax.specs.declared.types.ValueType.TheVariants.{I32, I64}
use Rattle.wasm_syntax.specs.declared.types.FunctionType.{FunctionType}
use Rattle.wasm_syntax.specs.declared.value.Value.{Value}
use Rattle.wasm_syntax.specs.declared.value.Value.TheVariants as value
use Rattle.wasm_syntax.specs.declared.instruction.Instruction.TheVariants as instr
use Rattle.wasm_syntax.specs.rules.Sequence.{Sequence, Stop, Plain, InBlock, InLoop, InIf, InIfElse}
use Rattle.wasm_rules.specs.Types.{AreOf, IsOf, value_of, number_in, takes_of, gives_of}
use Rattle.wasm_rules.specs.Types.{value_type_of}
use Rattle.wasm_rules.specs.Typing.{Context, HasType, body_context}
use Rattle.wasm_rules.specs.Configuration.{Own, Program, Store, Label, LabelOf, FrameOf, Thread}
use Rattle.wasm_rules.specs.Shapes.{LabelShape, ShapeOf}
use Rattle.wasm_rules.specs.laws.TypedShapes.{AreTypedShapes}
use Rattle.wasm_rules.specs.Steps.{held_by, held_below, exited_by}
use Rattle.wasm_rules.specs.Typed.{IsTypedMemory, IsTypedProgram, IsTypedThread}
use Rattle.wasm_rules.specs.Typed.{AreTypedLabels, IsEntry}
use Rattle.wasm_rules.proofs.TypedShape.{reached_shapes_typed}
use Rattle.wasm_rules.proofs.Soundness.Values.{are_both, reverse_are}
use Rattle.wasm_validate.specs.rules.Operands.{types_below, types_in}
use Rattle.machine_slots.specs.rules.Places.{HaveShape, all_below, slots_of, held_beside, IsCallOf}
use Rattle.machine_slots.specs.rules.Places.{ShownFrame, ShowsCallers, ShowsThread}
use Rattle.machine_slots.specs.declared.limits.TheConstants.{HELD_VALUES}
use Rattle.machine_slots.proofs.Branches.{held_all}
use Rattle.machine_frame.specs.laws.Fitting.{AreWordsOf, FitCallers, FitFrames, FewHeld}
use Rattle.machine_frame.specs.laws.Fitting.{ShownFits, FitsIsShown}
use Rattle.machine_frame.specs.rules.Stacked.{slots_held}
use Rattle.machine_frame.proofs.Threads.Words.{values_count}

-- ---- words and values

number_again : (t : ValueType) (w : ℕ) → number_in (value_of t w) ≡ w
number_again I32 w = refl
number_again I64 w = refl

-- values of these types, whose numbers are these words
record HasValues (types : List ValueType) (words : List ℕ) : Type 0 where
  values : List Value
  are : AreOf types values
  numbers : map number_in values ≡ words

with_values : (types : List ValueType) (words : List ℕ) → AreWordsOf types words
    → HasValues types words
with_values [] [] h = record { values = []; are = tt; numbers = refl }
with_values [] (w ∷ words) h = absurd h
with_values (t ∷ types) [] h = absurd h
with_values (t ∷ types) (w ∷ words) h =
    let more = with_values types words h.1 in
    let same = number_again t w in
    let rest = more.numbers in
    record { values = value_of t w ∷ more.values; are = (h.0, more.are); numbers = cc }

word_of : (t : ValueType) (v : Value) → IsOf t v → IsOf t (value_of t (number_in v))
word_of I32 (value.I32 n) h = h
word_of I64 (value.I64 n) h = h
word_of I32 (value.I64 n) h = absurd h
word_of I64 (value.I32 n) h = absurd h

words_with : (types : List ValueType) (vs : List Value) → AreOf types vs
    → AreWordsOf types (map number_in vs)
words_with [] [] h = tt
words_with [] (v ∷ vs) h = absurd h
words_with (t ∷ types) [] h = absurd h
words_with (t ∷ types) (v ∷ vs) h = (word_of t v h.0, words_with types vs h.1)

-- values of two lists of types
record Splits (ts us : List ValueType) (all : List Value) : Type 0 where
  front : List Value
  back : List Value
  whole : all ≡ front ++ back
  front_are : AreOf ts front
  back_are : AreOf us back

split : (ts us : List ValueType) (all : List Value) → AreOf (ts ++ us) all → Splits ts us all
split [] us all h = record { front = []; back = all; whole = refl; front_are = tt; back_are = h }
split (t ∷ ts) us [] h = absurd h
split (t ∷ ts) us (v ∷ all) h =
    let s = split ts us all h.1 in
    record {
      front = v ∷ s.front;
      back = s.back;
      whole = ap (λ z. v ∷ z) s.whole;
      front_are = (h.0, s.front_are);
      back_are = s.back_are;
    }

-- ---- labels

pub below_are : (shapes : List LabelShape) (labels : List Label) → HaveShape shapes labels
    → AreOf (types_below shapes) (all_below labels)
below_are [] [] h = tt
below_are [] (label ∷ labels) h = absurd h
below_are (ShapeOf takes target below after which ∷ shapes) [] h = absurd h
below_are (ShapeOf takes target types after which ∷ shapes)
    (LabelOf keeps target' below after' which' ∷ labels) h =
    are_both types (types_below shapes) below (all_below labels) h.2 (below_are shapes labels h.5)

-- labels of this shape, below which are these values
record HasLabels (shapes : List LabelShape) (values : List Value) : Type 0 where
  labels : List Label
  have : HaveShape shapes labels
  below : all_below labels ≡ values

labels_with : (shapes : List LabelShape) (values : List Value) → AreOf (types_below shapes) values
    → HasLabels shapes values
labels_with [] [] h = record { labels = []; have = tt; below = refl }
labels_with [] (v ∷ values) h = absurd h
labels_with (ShapeOf takes target types after which ∷ shapes) values h =
    let s = split types (types_below shapes) values h in
    let more = labels_with shapes s.back s.back_are in
    record {
      labels = LabelOf (length takes) target s.front after which ∷ more.labels;
      have = (refl, refl, s.front_are, refl, refl, more.have);
      below = ap (λ z. s.front ++ z) more.below ∙ sym s.whole;
    }

-- ---- the slots of a frame

-- locals, labels and operands with these slots
record HasParts (locals operands : List ValueType) (shapes : List LabelShape)
    (slots : List ℕ) : Type 0 where
  ls : List Value
  labels : List Label
  vs : List Value
  labels_are : HaveShape shapes labels
  operands_are : AreOf operands vs
  locals_are : AreOf locals ls
  slots_are : slots ≡ slots_of ls labels vs

parts_with : (locals operands : List ValueType) (shapes : List LabelShape) (slots : List ℕ)
    → AreWordsOf (locals ++ reverse (operands ++ types_below shapes)) slots
    → HasParts locals operands shapes slots
parts_with locals operands shapes slots h =
    let turned : List ValueType = reverse (operands ++ types_below shapes) in
    let all = with_values (locals ++ turned) slots h in
    let s = split locals turned all.values all.are in
    let back = reverse_are turned s.back s.back_are in
    let upright =
    subst (λ z. AreOf z (reverse s.back))
    (reverse-reverse (operands ++ types_below shapes)) back in
    let t = split operands (types_below shapes) (reverse s.back) upright in
    let l = labels_with shapes t.back t.back_are in
    let same : reverse (t.front ++ all_below l.labels) ≡ s.back =
    ap (λ z. reverse (t.front ++ z)) l.below ∙ ap reverse (sym t.whole)
    ∙ reverse-reverse s.back in
    record {
      ls = s.front;
      labels = l.labels;
      vs = t.front;
      labels_are = l.have;
      operands_are = t.front_are;
      locals_are = s.front_are;
      slots_are = sym all.numbers ∙ ap (map number_in) s.whole
          ∙ ap (λ z. map number_in (s.front ++ z)) (sym same);
    }

words_of_parts : (locals operands : List ValueType) (shapes : List LabelShape) (ls : List Value)
    (labels : List Label) (vs : List Value)
    → HaveShape shapes labels → AreOf operands vs → AreOf locals ls
    → AreWordsOf (locals ++ reverse (operands ++ types_below shapes)) (slots_of ls labels vs)
words_of_parts locals operands shapes ls labels vs h o l =
    let turned = reverse_are (operands ++ types_below shapes) (vs ++ all_below labels)
    (are_both operands (types_below shapes) vs (all_below labels) o
    (below_are shapes labels h)) in
    words_with (locals ++ reverse (operands ++ types_below shapes))
    (ls ++ reverse (vs ++ all_below labels))
    (are_both locals (reverse (operands ++ types_below shapes)) ls
    (reverse (vs ++ all_below labels)) l turned)

-- ---- frames

callers_fit : (c : Context) (program : Program) (above : FunctionType) (places : List ShownFrame)
    (thread : Thread)
    → ShowsCallers c program above places thread → FitCallers c program above places
callers_fit c program above [] thread h = tt
callers_fit c program above (place ∷ places) [] h = absurd h
callers_fit c program above (place ∷ places) (FrameOf f ls labels vs rest ∷ thread) h =
    let s = h.1 in
    let own = h.0 in
    let words =
    words_of_parts
    (own.signature.parameters ++ own.declared) s.types s.shape.labels ls labels vs s.labels_are
    s.operands s.locals in (
      record {
        signature = own.signature;
        declared = own.declared;
        body = own.body;
        is =
            subst (λ z. slice_get program.functions z ≡ Some
            (Own own.signature own.declared own.body)) (sym own.same) own.is;
        same = refl;
      },
      record {
        shape = s.shape;
        takes = s.takes;
        types = s.types;
        rest = rest;
        reached = s.reached;
        calls = s.calls;
        split = s.split;
        words =
            subst
            (AreWordsOf ((own.signature.parameters ++ own.declared) ++ reverse
            (s.types ++ types_below s.shape.labels))) (sym s.slots) words;
      },
      callers_fit c program own.signature places thread h.2,
    )

frames_fit : (c : Context) (program : Program) (places : List ShownFrame) (thread : Thread)
    → ShowsThread c program places thread → FitFrames c program places
frames_fit c program [] thread h = tt
frames_fit c program (place ∷ places) [] h = absurd h
frames_fit c program (place ∷ places) (FrameOf f ls labels vs rest ∷ thread) h =
    let s = h.1 in
    let own = h.0 in
    let words =
    words_of_parts
    (own.signature.parameters ++ own.declared) s.shape.operands s.shape.labels ls labels vs
    s.labels_are s.operands s.locals in (
      record {
        signature = own.signature;
        declared = own.declared;
        body = own.body;
        is =
            subst (λ z. slice_get program.functions z ≡ Some
            (Own own.signature own.declared own.body)) (sym own.same) own.is;
        same = refl;
      },
      record {
        shape = s.shape;
        reached = s.reached;
        more = λ e. s.more (s.remains ∙ e);
        words = subst (AreWordsOf ((own.signature.parameters ++ own.declared) ++ types_in s.shape))
            (sym s.slots) words;
      },
      callers_fit c program own.signature places thread h.2,
    )

-- a thread that is shown
record HasCallers (c : Context) (program : Program) (above : FunctionType)
    (places : List ShownFrame) : Type 0 where
  thread : Thread
  shows : ShowsCallers c program above places thread

shown_callers : (c : Context) (program : Program) (above : FunctionType) (places : List ShownFrame)
    → FitCallers c program above places → HasCallers c program above places
shown_callers c program above [] h = record { thread = []; shows = tt }
shown_callers c program above (place ∷ places) h =
    let s = h.1 in
    let own = h.0 in
    let p =
    parts_with
    (own.signature.parameters ++ own.declared) s.types s.shape.labels place.slots s.words in
    let more = shown_callers c program own.signature places h.2 in
    record {
      thread = FrameOf place.function p.ls p.labels p.vs s.rest ∷ more.thread;
      shows = (
        own,
        record {
          shape = s.shape;
          takes = s.takes;
          types = s.types;
          reached = s.reached;
          calls = s.calls;
          labels_are = p.labels_are;
          split = s.split;
          operands = p.operands_are;
          locals = p.locals_are;
          slots = p.slots_are;
        },
        more.shows,
      );
    }

record HasThread (c : Context) (program : Program) (places : List ShownFrame) : Type 0 where
  thread : Thread
  shows : ShowsThread c program places thread

shown_thread : (c : Context) (program : Program) (places : List ShownFrame)
    → FitFrames c program places → HasThread c program places
shown_thread c program [] h = record { thread = []; shows = tt }
shown_thread c program (place ∷ places) h =
    let s = h.1 in
    let own = h.0 in
    let p =
    parts_with
    (own.signature.parameters ++ own.declared) s.shape.operands s.shape.labels
    place.slots s.words in
    let more = shown_callers c program own.signature places h.2 in
    record {
      thread = FrameOf place.function p.ls p.labels p.vs s.shape.rest ∷ more.thread;
      shows = (
        own,
        record {
          shape = s.shape;
          reached = s.reached;
          remains = refl;
          more = s.more;
          labels_are = p.labels_are;
          operands = p.operands_are;
          locals = p.locals_are;
          slots = p.slots_are;
        },
        more.shows,
      );
    }

-- ---- typed threads

labels_typed : (c : Context) (branches : List (List ValueType)) (shapes : List LabelShape)
    (labels : List Label) (out : List ValueType)
    → HaveShape shapes labels → AreTypedShapes c branches shapes out
    → AreTypedLabels c branches labels out
labels_typed c [] [] [] out h t = t
labels_typed c [] [] (label ∷ labels) out h t = absurd h
labels_typed c [] (ShapeOf takes target below after which ∷ shapes) labels out h t = absurd t
labels_typed c (ts ∷ tss) [] labels out h t = absurd t
labels_typed c (ts ∷ tss) (ShapeOf takes target below after which ∷ shapes) [] out h t = absurd h
labels_typed c (ts ∷ tss) (ShapeOf takes target types after which ∷ shapes)
    (LabelOf keeps target' below after' which' ∷ labels) out h t = (
      types,
      t.0,
      h.0 ∙ ap length t.1,
      h.2,
      subst (λ z. HasType c tss z (out ++ types) t.0) (sym h.3) t.2,
      subst (λ z. HasType c tss z (ts ++ types) t.0) (sym h.1) t.3,
      labels_typed c tss shapes labels t.0 h.5 t.4,
    )

-- what follows a call is typed with what the call gives
behind_call : (c : Context) (branches : List (List ValueType)) (call rest : Sequence)
    (signature : FunctionType) (takes types out : List ValueType)
    → IsCallOf c call signature takes rest → HasType c branches call (takes ++ types) out
    → HasType c branches rest (gives_of signature ++ types) out
behind_call c branches (Plain (instr.Call x) after) rest signature takes types out h t =
    let known = h.0 in
    let typing = t.4 in
    let found = typing.1 in
    let same : typing.0 ≡ signature = cc in
    let taken : t.0 ≡ takes = typing.2 ∙ ap takes_of same ∙ sym h.1 in
    let below : t.2 ≡ types = append_cancel_left takes t.2 types (ap (λ z. z ++ t.2) (sym taken)
    ∙ sym t.3) in
    let given : t.1 ≡ gives_of signature = typing.3 ∙ ap gives_of same in
    let behind : HasType c branches after (gives_of signature ++ types) out =
    subst (λ z. HasType c branches after (gives_of signature ++ z) out) below
    (subst (λ z. HasType c branches after (z ++ t.2) out) given t.5) in
    subst (λ z. HasType c branches z (gives_of signature ++ types) out) (sym h.2) behind
behind_call c branches (Plain (instr.CallIndirect x) after) rest signature takes types out h t =
    let known = h.0 in
    let typing = t.4 in
    let found = typing.1 in
    let same : typing.0 ≡ signature = cc in
    let taken : t.0 ≡ takes = typing.3 ∙ ap (λ z. I32 ∷ takes_of z) same ∙ sym h.1 in
    let below : t.2 ≡ types = append_cancel_left takes t.2 types (ap (λ z. z ++ t.2) (sym taken)
    ∙ sym t.3) in
    let given : t.1 ≡ gives_of signature = typing.4 ∙ ap gives_of same in
    let behind : HasType c branches after (gives_of signature ++ types) out =
    subst (λ z. HasType c branches after (gives_of signature ++ z) out) below
    (subst (λ z. HasType c branches after (z ++ t.2) out) given t.5) in
    subst (λ z. HasType c branches z (gives_of signature ++ types) out) (sym h.2) behind
behind_call c branches _ rest signature takes types out h t = absurd h

module _ {c : Context} {program : Program} (typed : IsTypedProgram c program) where
  callers_typed : (above : FunctionType) (places : List ShownFrame) (thread : Thread)
      → ShowsCallers c program above places thread
      → IsTypedThread c program (gives_of above) thread
  callers_typed above [] [] h = tt
  callers_typed above [] (frame ∷ thread) h = absurd h
  callers_typed above (place ∷ places) [] h = absurd h
  callers_typed above (place ∷ places) (FrameOf f ls labels vs rest ∷ thread) h =
      let own = h.0 in
      let s = h.1 in
      let inner : Context = body_context c own.signature own.declared in
      let t = reached_shapes_typed inner own.body place.position s.shape
      (typed.bodies f (Own own.signature own.declared own.body) own.is) s.reached in
      let here : HasType inner t.branches s.shape.rest (s.takes ++ s.types) t.out =
      subst (λ z. HasType inner t.branches s.shape.rest z t.out) s.split t.typed_rest in (
        own.signature,
        own.declared,
        own.body,
        own.is,
        record {
          branches = t.branches;
          types = s.types;
          out = t.out;
          locals = s.locals;
          values = s.operands;
          typed_rest =
              behind_call inner t.branches s.shape.rest rest above s.takes s.types t.out s.calls
              here;
          typed_labels =
              labels_typed inner t.branches s.shape.labels labels t.out s.labels_are t.typed_labels;
        },
        callers_typed own.signature places thread h.2,
      )

  thread_typed : (places : List ShownFrame) (thread : Thread)
      → ShowsThread c program places thread → IsTypedThread c program [] thread
  thread_typed [] [] h = tt
  thread_typed [] (frame ∷ thread) h = absurd h
  thread_typed (place ∷ places) [] h = absurd h
  thread_typed (place ∷ places) (FrameOf f ls labels vs rest ∷ thread) h =
      let own = h.0 in
      let s = h.1 in
      let inner : Context = body_context c own.signature own.declared in
      let t = reached_shapes_typed inner own.body place.position s.shape
      (typed.bodies f (Own own.signature own.declared own.body) own.is) s.reached in (
        own.signature,
        own.declared,
        own.body,
        own.is,
        record {
          branches = t.branches;
          types = s.shape.operands;
          out = t.out;
          locals = s.locals;
          values = s.operands;
          typed_rest = subst (λ z. HasType inner t.branches z s.shape.operands t.out)
              (sym s.remains) t.typed_rest;
          typed_labels =
              labels_typed inner t.branches s.shape.labels labels t.out s.labels_are t.typed_labels;
        },
        callers_typed own.signature places thread h.2,
      )

-- ---- reduced threads

frame_reduces : (program : Program) (f : ℕ) (ls : List Value) (labels : List Label)
    (vs : List Value) (rest : Sequence) (thread : Thread) (later : List ℕ) (store : Store)
    → rest ≢ Stop → exited_by program (FrameOf f ls labels vs rest ∷ thread) later store ≡ None
frame_reduces program f ls labels vs Stop thread later store more = absurd (more refl)
frame_reduces program f ls labels vs (Plain i rest) thread later store more = refl
frame_reduces program f ls labels vs (InBlock t body rest) thread later store more = refl
frame_reduces program f ls labels vs (InLoop t body rest) thread later store more = refl
frame_reduces program f ls labels vs (InIf t first rest) thread later store more = refl
frame_reduces program f ls labels vs (InIfElse t first second rest) thread later store more = refl

reduces : (c : Context) (program : Program) (places : List ShownFrame) (thread : Thread)
    (later : List ℕ) (store : Store)
    → ShowsThread c program places thread → (places ≡ [] → later ≡ [])
    → exited_by program thread later store ≡ None
reduces c program [] [] later store h over = ap (λ z. exited_by program [] z store) (over refl)
reduces c program [] (frame ∷ thread) later store h over = absurd h
reduces c program (place ∷ places) [] later store h over = absurd h
reduces c program (place ∷ places) (FrameOf f ls labels vs rest ∷ thread) later store h over =
    frame_reduces program f ls labels vs rest thread later store h.1.more

-- where a reduced thread has no frames, the host calls nothing more
pub nothing_later : (program : Program) (later : List ℕ) (store : Store)
    → AllByRecursion (IsEntry program) later
    → exited_by program [] later store ≡ None → later ≡ []
nothing_later program [] store h e = refl
nothing_later program (f ∷ later) store h e =
    let there = h.0.3 in
    let none = (rw there at e) in
    absurd (cc)

over_shown : (c : Context) (program : Program) (places : List ShownFrame) (thread : Thread)
    (later : List ℕ) (store : Store)
    → ShowsThread c program places thread → AllByRecursion (IsEntry program) later
    → exited_by program thread later store ≡ None
    → places ≡ [] → later ≡ []
over_shown c program [] [] later store h entries e none =
    nothing_later program later store entries e
over_shown c program [] (frame ∷ thread) later store h entries e none = absurd h
over_shown c program (place ∷ places) thread later store h entries e none = absurd (cc)

-- ---- how many values there are

slots_count : (place : ShownFrame) (ls : List Value) (labels : List Label) (vs : List Value)
    → place.slots ≡ slots_of ls labels vs
    → length place.slots ≡ length ls + length vs + held_below labels
slots_count place ls labels vs e =
    omega (
      arith,
      ap length e,
      length-map
          (ls ++ reverse (vs ++ all_below labels)) number_in,
      length-append ls
          (reverse (vs ++ all_below labels)),
      length-reverse (vs ++ all_below labels),
      length-append vs
          (all_below labels),
      held_all labels,
    )

callers_count : (c : Context) (program : Program) (above : FunctionType) (places : List ShownFrame)
    (thread : Thread)
    → ShowsCallers c program above places thread → held_by thread ≡ slots_held places
callers_count c program above [] [] h = refl
callers_count c program above [] (frame ∷ thread) h = absurd h
callers_count c program above (place ∷ places) [] h = absurd h
callers_count c program above (place ∷ places) (FrameOf f ls labels vs rest ∷ thread) h =
    omega (
      arith,
      slots_count place ls labels vs h.1.slots,
      callers_count c program h.0.signature places
          thread h.2,
    )

locals_count : (c : Context) (signature : FunctionType) (declared : List ValueType)
    (ls : List Value) → AreOf (body_context c signature declared).locals ls
    → length ls ≡ length signature.parameters + length declared
locals_count c signature declared ls h = values_count (signature.parameters ++ declared) ls h
    ∙ length-append signature.parameters declared

few_shown : (c : Context) (program : Program) (places : List ShownFrame) (thread : Thread)
    → ShowsThread c program places thread → held_beside thread ≤ HELD_VALUES
    → FewHeld program places
few_shown c program [] thread h few = tt
few_shown c program (place ∷ places) [] h few = absurd h
few_shown c program (place ∷ places) (FrameOf f ls labels vs rest ∷ thread) h few =
    λ signature declared body is.
    let own = h.0 in
    let known : slice_get program.functions place.function ≡ Some
    (Own own.signature own.declared own.body) =
    subst (λ z. slice_get program.functions z ≡ Some (Own own.signature own.declared own.body))
    (sym own.same) own.is in
    let signatures : own.signature ≡ signature = cc in
    let locals : own.declared ≡ declared = cc in
    let count = locals_count c own.signature own.declared ls h.1.locals in
    let callers = callers_count c program own.signature places thread h.2 in
    omega (
      arith,
      few,
      count,
      callers,
      ap
          (λ (z : FunctionType). length z.parameters) signatures,
      ap length locals,
    )

few_again : (c : Context) (program : Program) (places : List ShownFrame) (thread : Thread)
    → ShowsThread c program places thread → FewHeld program places
    → held_beside thread ≤ HELD_VALUES
few_again c program [] [] h few = omega arith
few_again c program [] (frame ∷ thread) h few = absurd h
few_again c program (place ∷ places) [] h few = absurd h
few_again c program (place ∷ places) (FrameOf f ls labels vs rest ∷ thread) h few =
    let own = h.0 in
    let known : slice_get program.functions place.function ≡ Some
    (Own own.signature own.declared own.body) =
    subst (λ z. slice_get program.functions z ≡ Some (Own own.signature own.declared own.body))
    (sym own.same) own.is in
    let enough = few own.signature own.declared own.body known in
    let count = locals_count c own.signature own.declared ls h.1.locals in
    let callers = callers_count c program own.signature places thread h.2 in
    omega (arith, enough, count, callers)

-- ---- the whole

pub shown_fits : ShownFits
shown_fits c program table state d h =
    let globals = words_with (map value_type_of c.globals) d.store.globals h.typed.store.globals in
    record {
      memory = subst (IsTypedMemory program) (sym h.memory) h.typed.store.memory;
      globals = subst (AreWordsOf (map value_type_of c.globals)) (sym h.globals) globals;
      later = subst (AllByRecursion (IsEntry program)) (sym h.later) h.typed.later;
      over = λ none. h.later
          ∙ over_shown c program state.frames d.thread d.later d.store h.frames h.typed.later
          h.reduced none;
      frames = frames_fit c program state.frames d.thread h.frames;
      few_frames = h.few_frames;
      few_values = few_shown c program state.frames d.thread h.frames h.few_values;
    }

pub fits_shown : FitsIsShown
fits_shown c program table state typed entries h =
    let t = shown_thread c program state.frames h.frames in
    let globals = with_values (map value_type_of c.globals) state.globals h.globals in
    let store : Store = record {
      memory = state.memory;
      globals = globals.values;
      table =
          table;
    } in (
      record { store = store; thread = t.thread; later = state.later },
      record {
        typed = record {
          store = record { memory = h.memory; globals = globals.are; table = entries };
          thread = thread_typed typed state.frames t.thread t.shows;
          later = h.later;
        };
        reduced = reduces c program state.frames t.thread state.later store t.shows h.over;
        memory = refl;
        globals = sym globals.numbers;
        same_table = refl;
        later = refl;
        frames = t.shows;
        few_frames = h.few_frames;
        few_values = few_again c program state.frames t.thread t.shows h.few_values;
      },
    )
