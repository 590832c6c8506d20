-- Which configurations are reduced.
use Rattle.std.proofs.Common.{◌≡◌, ℕ, List, [], ◌∷◌, Option, Some, None, refl, sym}
use Rattle.wasm_syntax.specs.declared.value.Value.{Value}
use Rattle.wasm_syntax.specs.declared.value.Trap.{Trap}
use Rattle.wasm_syntax.specs.rules.Sequence.{Sequence, Stop, Plain, InBlock, InLoop, InIf, InIfElse}
use Rattle.std.specs.Prelude.{slice_get}
use Rattle.std.specs.Option.{option_map}
use Rattle.wasm_rules.specs.Configuration.{Program, Store, Label, FrameOf, Thread}
use Rattle.wasm_rules.specs.Configuration.{Configuration, Outcome, Asks, Traps, Stuck}
use Rattle.wasm_rules.specs.Steps.{counted_step, counted_step_of, exited, exited_by, begun}
use Rattle.wasm_rules.specs.Steps.{IsReduced, IsEnded}

-- nothing comes of nothing
nothing_made : {X Y Z : Type 0} (o : Option X) (g : X → Y) (h : X → Z) → option_map g o ≡ None
    → option_map h o ≡ None
nothing_made None g h e = refl
nothing_made (Some x) g h e = absurd (cc)

-- whether one is reduced is no question of its store
pub another_store : (program : Program) (thread : Thread) (later : List ℕ) (old new : Store)
    → exited_by program thread later old ≡ None → exited_by program thread later new ≡ None
another_store program [] [] old new e = refl
another_store program [] (f ∷ later) old new e =
    nothing_made (begun (slice_get program.functions f) f) _ _ e
another_store program (FrameOf f ls labels vs rest ∷ frames) later old new e =
    nothing_made (exited rest f ls labels vs frames) _ _ e

-- what is ended is reduced
pub ended_reduced : (program : Program) {d : Configuration} → IsEnded d → IsReduced program d
ended_reduced program h = rw (h.returned, h.nothing_later) refl

-- what has a counted step is reduced
frame_reduced : (program : Program) (c : Configuration) {o : Outcome} (f : ℕ) (ls : List Value)
    (labels : List Label) (vs : List Value) (rest : Sequence) (frames : Thread) (later : List ℕ)
    (store : Store) → counted_step_of program c (FrameOf f ls labels vs rest ∷ frames) ≡ o
    → (o ≡ Stuck → ⊥) → exited_by program (FrameOf f ls labels vs rest ∷ frames) later store ≡ None
frame_reduced program c f ls labels vs Stop frames later store e known = absurd (known (sym e))
frame_reduced program c f ls labels vs (Plain i rest) frames later store e known = refl
frame_reduced program c f ls labels vs (InBlock t body rest) frames later store e known = refl
frame_reduced program c f ls labels vs (InLoop t body rest) frames later store e known = refl
frame_reduced program c f ls labels vs (InIf t first rest) frames later store e known = refl
frame_reduced program c f ls labels vs (InIfElse t first second rest) frames later store e known =
    refl

thread_reduced : (program : Program) (c : Configuration) {o : Outcome} (thread : Thread)
    (later : List ℕ) (store : Store) → counted_step_of program c thread ≡ o → (o ≡ Stuck → ⊥)
    → exited_by program thread later store ≡ None
thread_reduced program c [] later store e known = absurd (known (sym e))
thread_reduced program c (FrameOf f ls labels vs rest ∷ frames) later store e known =
    frame_reduced program c f ls labels vs rest frames later store e known

pub asking_reduced : (program : Program) (d : Configuration) (f : ℕ) (arguments : List Value)
    (waits : Thread) → counted_step program d ≡ Asks f arguments waits → IsReduced program d
asking_reduced program d f arguments waits e =
    thread_reduced program d d.thread d.later d.store e (λ k. absurd (cc))

pub trapping_reduced : (program : Program) (d : Configuration) (why : Trap)
    → counted_step program d ≡ Traps why → IsReduced program d
trapping_reduced program d why e =
    thread_reduced program d d.thread d.later d.store e (λ k. absurd (cc))
