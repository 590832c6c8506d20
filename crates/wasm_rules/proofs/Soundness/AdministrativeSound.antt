-- The administrative steps, and the answers of the host, keep a typed configuration so.
use Rattle.std.proofs.Common.{◌≡◌, ◌⊎◌, ℕ, List, [], ◌∷◌, ◌++◌, Option, Some, None, refl, subst}
use Rattle.std.proofs.Common.{inl, inr}
use Rattle.std.specs.Prelude.{slice_get}
use Rattle.std.specs.Option.{option_map}
use Rattle.std.specs.List.{AllByRecursion}
use Rattle.wasm_syntax.specs.declared.types.ValueType.{ValueType}
use Rattle.wasm_syntax.specs.declared.types.FunctionType.{FunctionType}
use Rattle.wasm_syntax.specs.declared.value.Value.{Value}
use Rattle.wasm_syntax.specs.rules.Sequence.{Sequence, Stop}
use Rattle.wasm_rules.specs.Types.{AreOf, takes_of, gives_of}
use Rattle.wasm_rules.specs.Typing.{Context, body_context}
use Rattle.wasm_rules.specs.Configuration.{Imported, Own, Program, Store, Part, Label, LabelOf}
use Rattle.wasm_rules.specs.Configuration.{FrameOf, Thread, Configuration, Outcome, Asks, Stuck}
use Rattle.wasm_rules.specs.Steps.{returned, entered, exited, begun, exited_by, counted_step}
use Rattle.wasm_rules.specs.Steps.{IsReduced, IsEnded, IsCounted, ReducesTo, here, on, Advances}
use Rattle.wasm_rules.specs.Steps.{none, more, answered}
use Rattle.wasm_rules.specs.Typed.{IsTypedProgram, IsTypedMemory, IsTypedStore, AreTypedLabels}
use Rattle.wasm_rules.specs.Typed.{IsTypedThread, IsEntry, IsTyped}
use Rattle.wasm_rules.specs.laws.Soundness.{IsSound, NeverStuck, AdministrativeTyped}
use Rattle.wasm_rules.specs.laws.Soundness.{AnswersTyped, StepsTyped}
use Rattle.wasm_rules.proofs.Soundness.Values.{are_both}
use Rattle.wasm_rules.proofs.Soundness.ControlSound.{returned_typed, entered_typed}
use Rattle.wasm_rules.proofs.Soundness.CountedSound.{never_stuck}

-- the end of a label
label_exited : (base : Context) (program : Program) (signature : FunctionType)
    (declared : List ValueType) (body : Sequence) (f : ℕ) (ls : List Value) (keeps : ℕ)
    (target : Sequence) (below : List Value) (after : Sequence) (which : Part) (labels : List Label)
    (vs : List Value) (frames : Thread) (branches : List (List ValueType)) (out : List ValueType)
    → slice_get program.functions f ≡ Some (Own signature declared body)
    → AreOf (signature.parameters ++ declared) ls → AreOf out vs
    → AreTypedLabels (body_context base signature declared) branches
    (LabelOf keeps target below after which ∷ labels) out
    → IsTypedThread base program (gives_of signature) frames
    → IsTypedThread base program [] (FrameOf f ls labels (vs ++ below) after ∷ frames)
label_exited base program signature declared body f ls keeps target below after which
    labels vs frames []
    out is l o h waits = absurd h
label_exited base program signature declared body f ls keeps target below after which
    labels vs frames (ts ∷ tss) out is l o h waits = (
      signature,
      declared,
      body,
      is,
      record {
        branches = tss;
        types = out ++ h.0;
        out = h.1;
        locals = l;
        values = are_both out h.0 vs below o h.3;
        typed_rest = h.4;
        typed_labels = h.6;
      },
      waits,
    )

-- the end of a function
frame_exited : (base : Context) (program : Program) (signature : FunctionType)
    (declared : List ValueType) (vs : List Value) (frames : Thread)
    (branches : List (List ValueType)) (out : List ValueType) → AreOf out vs
    → AreTypedLabels (body_context base signature declared) branches [] out
    → IsTypedThread base program (gives_of signature) frames
    → IsTypedThread base program [] (returned vs frames)
frame_exited base program signature declared vs frames (ts ∷ tss) out o h waits = absurd h
frame_exited base program signature declared vs frames [] out o h waits =
    returned_typed base program (gives_of signature) vs frames (rw h at o) waits

some_exited : (base : Context) (program : Program) (store : Store) (later : List ℕ)
    (thread : Option Thread) (d : Configuration)
    → option_map (λ (thread : Thread). record {
      store = store;
      thread = thread;
      later = later;
    }) thread ≡ Some d → IsTypedStore base program store
    → AllByRecursion (IsEntry program) later → ((t : Thread) → thread ≡ Some t
    → IsTypedThread base program [] t) → IsTyped base program d
some_exited base program store later None d e s a h = absurd (cc)
some_exited base program store later (Some t) d e s a h =
    let next : Configuration = record { store = store; thread = t; later = later } in
    let same : next ≡ d = cc in
    subst (λ d. IsTyped base program d) same (record { store = s; thread = h t refl; later = a })

-- what is left by a frame
frame_step_typed : (base : Context) (program : Program) (f : ℕ) (ls : List Value)
    (labels : List Label) (vs : List Value) (rest : Sequence) (frames : Thread) (t : Thread)
    → exited rest f ls labels vs frames ≡ Some t
    → IsTypedThread base program [] (FrameOf f ls labels vs rest ∷ frames)
    → IsTypedThread base program [] t
frame_step_typed base program f ls (LabelOf keeps target below after which
    ∷ labels) vs Stop frames t e h =
    let same : FrameOf f ls labels (vs ++ below) after ∷ frames ≡ t = cc in
    let o : AreOf h.4.out vs = (rw (h.4.typed_rest) at h.4.values) in
    subst (λ t. IsTypedThread base program [] t) same
    (label_exited base program h.0 h.1 h.2 f ls keeps target below after which labels vs frames
    h.4.branches h.4.out h.3 h.4.locals o h.4.typed_labels h.5)
frame_step_typed base program f ls [] vs Stop frames t e h =
    let same : returned vs frames ≡ t = cc in
    let o : AreOf h.4.out vs = (rw (h.4.typed_rest) at h.4.values) in
    subst (λ t. IsTypedThread base program [] t) same
    (frame_exited base program h.0 h.1 vs frames h.4.branches h.4.out o h.4.typed_labels h.5)
frame_step_typed base program f ls labels vs _ frames t e h = absurd (cc)

-- the host's next call
entry_typed : (base : Context) (program : Program) (f : ℕ) (t : Thread)
    → IsTypedProgram base program → IsEntry program f
    → begun (slice_get program.functions f) f ≡ Some t → IsTypedThread base program [] t
entry_typed base program f t typed h e =
    let now : begun (Some (Own h.0 h.1 h.2)) f ≡ Some t = (rw h.3 at e) in
    let same : entered f h.0 h.1 h.2 [] ∷ [] ≡ t = cc in
    let none : AreOf (takes_of h.0) [] = rw h.4 tt in
    subst (λ t. IsTypedThread base program [] t) same (
      h.0,
      h.1,
      h.2,
      h.3,
      entered_typed base f h.0 h.1 h.2 [] none (typed.bodies f (Own h.0 h.1 h.2) h.3),
      tt,
    )

thread_step_typed : (base : Context) (program : Program) (store : Store) (thread : Thread)
    (later : List ℕ) (d : Configuration) → IsTypedProgram base program
    → IsTypedStore base program store → IsTypedThread base program [] thread
    → AllByRecursion (IsEntry program) later → exited_by program thread later store ≡ Some d
    → IsTyped base program d
thread_step_typed base program store [] [] d typed s h a e = absurd (cc)
thread_step_typed base program store [] (f ∷ later) d typed s h a e =
    some_exited base program store later (begun (slice_get program.functions f) f) d e s a.1 (λ t b.
    entry_typed base program f t typed a.0 b)
thread_step_typed base program store (FrameOf f ls labels vs rest ∷ frames) later d typed s h a e =
    some_exited base program store later (exited rest f ls labels vs frames) d e s a (λ t b.
    frame_step_typed base program f ls labels vs rest frames t b h)

pub administrative_typed : AdministrativeTyped
administrative_typed base program c d typed now e =
    thread_step_typed base program c.store c.thread c.later d typed now.store now.thread now.later e

pub never_stuck_holds : NeverStuck
never_stuck_holds base program c typed now s = never_stuck base program c typed now s

-- ---- answers

asks_sound : (base : Context) (program : Program) (o : Outcome) (f : ℕ) (arguments : List Value)
    (waits : Thread) → o ≡ Asks f arguments waits → IsSound base program o
    → IsSound base program (Asks f arguments waits)
asks_sound base program o f arguments waits e h = rw e at h

answer_typed : (base : Context) (program : Program) (c : Configuration) (f : ℕ)
    (arguments : List Value) (waits : Thread) (memory : List ℕ) (results : List Value)
    (signature : FunctionType) → IsTyped base program c
    → slice_get program.functions f ≡ Some (Imported signature) → AreOf (gives_of signature) results
    → IsTypedMemory program memory → IsEnded c ⊎ IsSound base program (counted_step program c)
    → counted_step program c ≡ Asks f arguments waits
    → IsTyped base program (answered c memory results waits)
answer_typed base program c f arguments waits memory results signature now is o m (inl ended) e =
    let none : counted_step program c ≡ Stuck = rw ended.returned refl in absurd (cc)
answer_typed base program c f arguments waits memory results signature now is o m (inr sound) e =
    let h = asks_sound base program (counted_step program c) f arguments waits e sound in
    let same : h.0 ≡ signature = cc in
    let given : AreOf (gives_of h.0) results = rw same o in
    record {
      store = record { memory = m; globals = now.store.globals; table = now.store.table };
      thread = returned_typed base program (gives_of h.0) results waits given h.3;
      later = now.later;
    }

pub answers_typed : AnswersTyped
answers_typed base program c f arguments waits memory results signature typed now e s is o m =
    answer_typed base program c f arguments waits memory results signature now is o m
    (never_stuck base program c typed now s) e

-- ---- steps

pub reduces_typed : (base : Context) (program : Program) (c d : Configuration)
    → IsTypedProgram base program → IsTyped base program c → ReducesTo program c d
    → IsTyped base program d × IsReduced program d
reduces_typed base program c d typed now (here s) = (now, s)
reduces_typed base program c d typed now (on {c = c'} {d = between} e s) =
    reduces_typed base program between d typed (administrative_typed base program c' between
    typed now e) s

pub goes_typed : (base : Context) (program : Program) (c d : Configuration) → IsCounted program c d
    → IsEnded c ⊎ IsSound base program (counted_step program c) → IsTyped base program d
goes_typed base program c d e (inl ended) =
    let none : counted_step program c ≡ Stuck = rw ended.returned refl in absurd (cc)
goes_typed base program c d e (inr sound) = rw e at sound

advances_typed : (base : Context) (program : Program) (c d : Configuration)
    → IsTypedProgram base program → IsTyped base program c → IsReduced program c
    → Advances program c d → IsTyped base program d × IsReduced program d
advances_typed base program c d typed now s a =
    reduces_typed base program a.between d typed (goes_typed base program c a.between a.counted
    (never_stuck base program c typed now s)) a.reduces

pub steps_typed : StepsTyped
steps_typed base program n c d typed now s none = (now, s)
steps_typed base program n c d typed now s (more {n = m} {c = c'} {d = between} a rest) =
    let next = advances_typed base program c' between typed now s a in
    steps_typed base program m between d typed next.0 next.1 rest
