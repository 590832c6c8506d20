-- A machine shows one configuration: its positions and slots say all of it.
use Rattle.std.proofs.Common.{◌≡◌, ℕ, List, [], ◌∷◌, ◌++◌, length, Some, refl, sym, ap, ◌∙◌, subst}
use Rattle.std.specs.Prelude.{map, reverse, Option}
use Rattle.std.proofs.lemmas.List.{append_cancel_left, reverse-reverse}
use Rattle.wasm_syntax.specs.declared.types.ValueType.{ValueType}
use Rattle.wasm_syntax.specs.declared.types.ValueType.TheVariants.{I32, I64}
use Rattle.wasm_syntax.specs.declared.types.FunctionType.{FunctionType}
use Rattle.wasm_syntax.specs.declared.value.Value.{Value}
use Rattle.wasm_syntax.specs.declared.value.Value.TheVariants as value
use Rattle.wasm_syntax.specs.declared.instruction.Instruction.TheVariants as instr
use Rattle.wasm_syntax.specs.rules.Sequence.{Sequence, Plain}
use Rattle.wasm_rules.specs.Types.{AreOf, number_in, value_type_of}
use Rattle.wasm_rules.specs.Typing.{Context, body_context}
use Rattle.wasm_rules.specs.Validity.{module_context}
use Rattle.wasm_rules.specs.Shapes.{Shape, LabelShape, ShapeOf, body_shape}
use Rattle.wasm_rules.specs.Configuration.{Own, Program, Label, LabelOf, FrameOf, Thread}
use Rattle.wasm_rules.specs.Configuration.{Configuration}
use Rattle.wasm_rules.proofs.Soundness.Values.{are_both, reverse_are}
use Rattle.machine_slots.specs.rules.Places.{ShownFrame, MachineState, HaveShape, all_below}
use Rattle.machine_slots.specs.rules.Places.{slots_of, IsCallOf, ShowsRunning, ShowsWaiting}
use Rattle.machine_slots.specs.rules.Places.{IsFrameOf, ShowsCallers, ShowsThread, Shows}
use Rattle.machine_frame.proofs.Threads.Words.{same_parts, values_count}
use Rattle.machine_frame.proofs.Threads.Fitting.{below_are}
use Rattle.machine.specs.laws.Laws.{MachineShowsOne}
use Rattle.machine.proofs.OneProgram.{one_program, one_list}

-- ---- values

-- values of the same types with the same numbers
same_values : (types : List ValueType) (vs ws : List Value) → AreOf types vs → AreOf types ws
    → map number_in vs ≡ map number_in ws → vs ≡ ws
same_values [] [] [] h k e = refl
same_values [] [] (w ∷ ws) h k e = absurd k
same_values [] (v ∷ vs) ws h k e = absurd h
same_values (t ∷ types) [] ws h k e = absurd h
same_values (t ∷ types) (v ∷ vs) [] h k e = absurd k
same_values (I32 ∷ types) (value.I32 n ∷ vs) (value.I32 m ∷ ws) h k e =
    let others = same_values types vs ws h.1 k.1 (cc) in cc
same_values (I64 ∷ types) (value.I64 n ∷ vs) (value.I64 m ∷ ws) h k e =
    let others = same_values types vs ws h.1 k.1 (cc) in cc
same_values (I32 ∷ types) (value.I64 n ∷ vs) (w ∷ ws) h k e = absurd h.0
same_values (I64 ∷ types) (value.I32 n ∷ vs) (w ∷ ws) h k e = absurd h.0
same_values (I32 ∷ types) (value.I32 n ∷ vs) (value.I64 m ∷ ws) h k e = absurd k.0
same_values (I64 ∷ types) (value.I64 n ∷ vs) (value.I32 m ∷ ws) h k e = absurd k.0

as_many : (types : List ValueType) (vs ws : List Value) → AreOf types vs → AreOf types ws
    → length vs ≡ length ws
as_many types vs ws h k = values_count types vs h ∙ sym (values_count types ws k)

-- ---- labels

abbrev types_below : List LabelShape → List ValueType
types_below [] = []
types_below (ShapeOf takes target types after which ∷ shapes) = types ++ types_below shapes

-- labels of one shape differ in nothing but the values below them
same_labels : (shapes : List LabelShape) (labels others : List Label) → HaveShape shapes labels
    → HaveShape shapes others → all_below labels ≡ all_below others → labels ≡ others
same_labels [] [] [] h k e = refl
same_labels [] [] (other ∷ others) h k e = absurd k
same_labels [] (label ∷ labels) others h k e = absurd h
same_labels (shape ∷ shapes) [] others h k e = absurd h
same_labels (shape ∷ shapes) (label ∷ labels) [] h k e = absurd k
same_labels (ShapeOf takes target types after which ∷ shapes) (LabelOf a b below c d
    ∷ labels) (LabelOf a' b' below' c' d' ∷ others) h k e =
    let cut = same_parts below below' (all_below labels) (all_below others)
    (as_many types below below' h.2 k.2) e in
    let values = cut.0 in
    let behind = same_labels shapes labels others h.5 k.5 cut.1 in
    let p = h.0 in let q = h.1 in let r = h.3 in let p' = k.0 in let q' = k.1 in let r' = k.3 in
    let w = h.4 in let w' = k.4 in
    cc

-- ---- frames

-- what a frame's slots say, where its types are known
record SameFrame (ls ms : List Value) (labels others : List Label) (vs ws : List Value) :
    Type 0 where
  locals : ls ≡ ms
  labels_are : labels ≡ others
  values : vs ≡ ws

module _ (locals operands : List ValueType) (shapes : List LabelShape) (ls ms : List Value)
    (labels others : List Label) (vs ws : List Value) where
  same_slots : AreOf locals ls → AreOf locals ms → AreOf operands vs → AreOf operands ws
      → HaveShape shapes labels → HaveShape shapes others
      → slots_of ls labels vs ≡ slots_of ms others ws → SameFrame ls ms labels others vs ws
  same_slots l m v w a b e =
      let types : List ValueType = operands ++ types_below shapes in
      let stack : List Value = vs ++ all_below labels in
      let stack' : List Value = ws ++ all_below others in
      let are : AreOf types stack =
      are_both operands (types_below shapes) vs (all_below labels) v (below_are shapes labels a)
      in
      let are' : AreOf types stack' =
      are_both operands (types_below shapes) ws (all_below others) w (below_are shapes others b)
      in
      let all : ls ++ reverse stack ≡ ms ++ reverse stack' =
      same_values (locals ++ reverse types) (ls ++ reverse stack) (ms ++ reverse stack')
      (are_both locals (reverse types) ls (reverse stack) l (reverse_are types stack are))
      (are_both locals (reverse types) ms (reverse stack') m (reverse_are types stack' are')) e in
      let cut = same_parts ls ms (reverse stack) (reverse stack') (as_many locals ls ms l m) all in
      let turned : stack ≡ stack' = sym (reverse-reverse stack) ∙ ap reverse cut.1
      ∙ reverse-reverse stack' in
      let parts = same_parts vs ws (all_below labels) (all_below others)
      (as_many operands vs ws v w) turned in
      record {
        locals = cut.0;
        labels_are = same_labels shapes labels others a b parts.1;
        values = parts.0;
      }

same_shape : (c : Context) (body : Sequence) (p : ℕ) {shape shape' : Shape}
    → body_shape c body p ≡ Some shape → body_shape c body p ≡ Some shape' → shape ≡ shape'
same_shape c body p a b = cc

-- a call takes the same of the operands
same_call : (c : Context) (s : Sequence) (signature : FunctionType) (takes takes' : List ValueType)
    (rest rest' : Sequence) → IsCallOf c s signature takes rest
    → IsCallOf c s signature takes' rest' → (takes ≡ takes') × (rest ≡ rest')
same_call c (Plain (instr.Call x) after) signature takes takes' rest rest' h k =
    (h.1 ∙ sym k.1, h.2 ∙ sym k.2)
same_call c (Plain (instr.CallIndirect x) after) signature takes takes' rest rest' h k =
    (h.1 ∙ sym k.1, h.2 ∙ sym k.2)
same_call c _ signature takes takes' rest rest' h k = absurd h

module _ {c : Context} {body : Sequence} {place : ShownFrame} {f f' : ℕ} {ls ms : List Value}
    {labels others : List Label} {vs ws : List Value} {rest rest' : Sequence} where
  one_running : f ≡ f' → ShowsRunning c body place ls labels vs rest
      → ShowsRunning c body place ms others ws rest'
      → FrameOf f ls labels vs rest ≡ FrameOf f' ms others ws rest'
  one_running same h k =
      let shape : k.shape ≡ h.shape =
      same_shape c body place.position k.reached h.reached in
      let frame = same_slots c.locals h.shape.operands h.shape.labels ls ms labels others vs ws
      h.locals k.locals h.operands (subst (λ (z : Shape). AreOf z.operands ws) shape k.operands)
      h.labels_are (subst (λ (z : Shape). HaveShape z.labels others) shape k.labels_are)
      (sym h.slots ∙ k.slots) in
      let remains : rest ≡ rest' = h.remains ∙ sym (ap (λ (z : Shape). z.rest) shape)
      ∙ sym k.remains in
      let a = frame.locals in let b = frame.labels_are in let d = frame.values in
      cc

  one_waiting : {signature : FunctionType} → f ≡ f' → ShowsWaiting c body place signature ls labels
      vs rest → ShowsWaiting c body place signature ms others ws rest'
      → FrameOf f ls labels vs rest ≡ FrameOf f' ms others ws rest'
  one_waiting {signature} same h k =
      let shape : k.shape ≡ h.shape =
      same_shape c body place.position k.reached h.reached in
      let call = same_call c h.shape.rest signature h.takes k.takes rest rest' h.calls
      (subst (λ (z : Shape). IsCallOf c z.rest signature k.takes rest') shape k.calls) in
      let split : h.takes ++ h.types ≡ h.takes ++ k.types =
      sym h.split ∙ sym (ap (λ (z : Shape). z.operands) shape) ∙ k.split
      ∙ ap (λ (z : List ValueType). z ++ k.types) (sym call.0) in
      let types : h.types ≡ k.types = append_cancel_left h.takes h.types k.types split in
      let frame = same_slots c.locals h.types h.shape.labels ls ms labels others vs ws
      h.locals k.locals h.operands (subst (λ (z : List ValueType). AreOf z ws)
      (sym types) k.operands)
      h.labels_are (subst (λ (z : Shape). HaveShape z.labels others) shape k.labels_are)
      (sym h.slots ∙ k.slots) in
      let remains = call.1 in
      let a = frame.locals in let b = frame.labels_are in let d = frame.values in
      cc

-- ---- threads

-- equal functions are shown by the same frames
module _ (c : Context) {place : ShownFrame} {ls : List Value} {labels : List Label}
    {vs : List Value} {rest : Sequence} {signature signature' : FunctionType}
    {declared declared' : List ValueType} {body body' : Sequence} (a : signature ≡ signature')
    (b : declared ≡ declared') (d : body ≡ body') where
  pub running_of : ShowsRunning (body_context c signature declared) body place ls labels vs rest
      → ShowsRunning (body_context c signature' declared') body' place ls labels vs rest
  running_of h = rw (← a, ← b, ← d) h

  pub waiting_of : {above : FunctionType}
      → ShowsWaiting (body_context c signature declared) body place above ls labels vs rest
      → ShowsWaiting (body_context c signature' declared') body' place above ls labels vs rest
  waiting_of h = rw (← a, ← b, ← d) h

-- a place has one function, with one type, one list of declared locals and one body
module _ {c : Context} {program : Program} {place : ShownFrame} {f f' : ℕ}
    (h : IsFrameOf c program place f) (k : IsFrameOf c program place f') where
  same_function : f ≡ f'
  same_function = sym h.same ∙ k.same

  same_own : Own k.signature k.declared k.body ≡ Own h.signature h.declared h.body
  same_own = let same = same_function in let a = h.is in let b = k.is in cc

  same_signature : k.signature ≡ h.signature
  same_signature = let e = same_own in cc

  same_declared : k.declared ≡ h.declared
  same_declared = let e = same_own in cc

  same_body : k.body ≡ h.body
  same_body = let e = same_own in cc

  same_callers : (places : List ShownFrame) (thread : Thread)
      → ShowsCallers c program k.signature places thread → ShowsCallers c program
      h.signature places thread
  same_callers places thread =
      subst (λ (z : FunctionType). ShowsCallers c program z places thread) same_signature

  module _ {ls ms : List Value} {labels others : List Label} {vs ws : List Value}
      {rest rest' : Sequence} where
    running_frame : ShowsRunning (body_context c h.signature h.declared) h.body place ls
        labels vs rest → ShowsRunning (body_context c k.signature k.declared) k.body place ms
        others ws rest' → FrameOf f ls labels vs rest ≡ FrameOf f' ms others ws rest'
    running_frame a b =
        one_running same_function a (running_of c same_signature same_declared same_body b)

    waiting_frame : {above : FunctionType}
        → ShowsWaiting (body_context c h.signature h.declared) h.body place above ls labels vs rest
        → ShowsWaiting (body_context c k.signature k.declared) k.body place above ms others ws rest'
        → FrameOf f ls labels vs rest ≡ FrameOf f' ms others ws rest'
    waiting_frame a b =
        one_waiting same_function a (waiting_of c same_signature same_declared same_body b)

one_caller : (c : Context) (program : Program) (above : FunctionType) (places : List ShownFrame)
    (thread other : Thread) → ShowsCallers c program above places thread
    → ShowsCallers c program above places other → thread ≡ other
one_caller c program above [] [] [] h k = refl
one_caller c program above [] [] (g ∷ others) h k = absurd k
one_caller c program above [] (g ∷ frames) other h k = absurd h
one_caller c program above (place ∷ places) [] other h k = absurd h
one_caller c program above (place ∷ places) (g ∷ frames) [] h k = absurd k
one_caller c program above (place ∷ places) (FrameOf f ls labels vs rest
    ∷ frames) (FrameOf f' ms labels' ws rest' ∷ others) h k =
    let frame = waiting_frame h.0 k.0 h.1 k.1 in
    let behind =
    one_caller c program h.0.signature places frames others h.2
    (same_callers h.0 k.0 places others k.2) in
    cc

one_thread : (c : Context) (program : Program) (places : List ShownFrame) (thread other : Thread)
    → ShowsThread c program places thread → ShowsThread c program places other → thread ≡ other
one_thread c program [] [] [] h k = refl
one_thread c program [] [] (g ∷ others) h k = absurd k
one_thread c program [] (g ∷ frames) other h k = absurd h
one_thread c program (place ∷ places) [] other h k = absurd h
one_thread c program (place ∷ places) (g ∷ frames) [] h k = absurd k
one_thread c program (place ∷ places) (FrameOf f ls labels vs rest
    ∷ frames) (FrameOf f' ms labels' ws rest' ∷ others) h k =
    let frame = running_frame h.0 k.0 h.1 k.1 in
    let behind =
    one_caller c program h.0.signature places frames others h.2
    (same_callers h.0 k.0 places others k.2) in
    cc

-- ---- configurations

abbrev configuration_of : List ℕ → List Value → List (Option ℕ) → Thread → List ℕ → Configuration
configuration_of memory globals table thread later =
    record {
      store = record { memory = memory; globals = globals; table = table };
      thread = thread;
      later = later;
    }

one_configuration : {c : Context} {program : Program} {table : List (Option ℕ)}
    {state : MachineState} {d e : Configuration} → Shows c program table state d
    → Shows c program table state e → d ≡ e
one_configuration {c} {program} {state} {d} {e} h k =
    let globals =
    same_values (map value_type_of c.globals) d.store.globals e.store.globals
    h.typed.store.globals k.typed.store.globals (sym h.globals ∙ k.globals) in
    let memory : d.store.memory ≡ e.store.memory = sym h.memory ∙ k.memory in
    let tables : d.store.table ≡ e.store.table = h.same_table ∙ sym k.same_table in
    let later : d.later ≡ e.later = sym h.later ∙ k.later in
    let thread = one_thread c program state.frames d.thread e.thread h.frames k.frames in
    let whole : configuration_of d.store.memory d.store.globals d.store.table d.thread d.later
    ≡ configuration_of e.store.memory e.store.globals e.store.table e.thread e.later =
    rw (memory, globals, tables, thread, later) refl in
    whole

pub shows_one : MachineShowsOne
shows_one v p q d e h k =
    let programs : q ≡ p = one_program v.guest v.most_pages k.functions h.functions q p k.is h.is in
    let functions : k.functions ≡ h.functions =
    one_list v.guest v.most_pages k.functions h.functions q p k.is h.is in
    let there : Shows (module_context v.guest h.functions) p v.table v.state e =
    subst (λ (z : Program). Shows (module_context v.guest h.functions) z v.table v.state e) programs
    (subst (λ (z : List FunctionType). Shows (module_context v.guest z) q v.table v.state e)
    functions k.shows) in (
      sym programs,
      one_configuration h.shows there,
    )
