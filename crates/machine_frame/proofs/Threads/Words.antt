-- The words of frames, and how many there are.
use Rattle.std.proofs.Common.{◌≡◌, ℕ, suc, ◌+◌, List, [], ◌∷◌, ◌++◌, length, refl, sym, ap, ◌∙◌}
use Rattle.std.proofs.Common.{arith, length-append}
use Rattle.std.specs.Prelude.{map}
use Rattle.std.proofs.lemmas.List.{length-map}
use Rattle.wasm_syntax.specs.declared.types.ValueType.{ValueType}
use Rattle.wasm_syntax.specs.declared.types.FunctionType.{FunctionType}
use Rattle.wasm_syntax.specs.declared.value.Value.{Value}
use Rattle.wasm_rules.specs.Types.{AreOf, number_in}
use Rattle.wasm_rules.specs.Typing.{Context}
use Rattle.wasm_rules.specs.Configuration.{Program, Label, FrameOf, Thread}
use Rattle.wasm_rules.specs.Steps.{held_by}
use Rattle.machine_slots.specs.rules.Places.{all_below}
use Rattle.machine_slots.specs.Frames.{frame_words}
use Rattle.machine_slots.specs.laws.Laws.{Falls}
use Rattle.machine_slots.proofs.Branches.{held_all}
use Rattle.machine_slots.proofs.TypedFrames.{length-frame_words}
use Rattle.machine_frame.specs.declared.rules.frame.StackFrame.{StackFrame}
use Rattle.machine_frame.specs.rules.Threads.{AreWaiting}

-- lists whose first parts are equally long agree in both parts
pub same_parts : {A : Type 0} (xs ys us ws : List A) → length xs ≡ length ys → xs ++ us ≡ ys ++ ws
    → (xs ≡ ys) × (us ≡ ws)
same_parts [] [] us ws h e = (refl, e)
same_parts [] (y ∷ ys) us ws h e = absurd (omega arith)
same_parts (x ∷ xs) [] us ws h e = absurd (omega arith)
same_parts (x ∷ xs) (y ∷ ys) us ws h e =
    let tails : xs ++ us ≡ ys ++ ws = cc in
    let r = same_parts xs ys us ws (omega arith) tails in
    let front = r.0 in ((cc), r.1)

-- so do lists whose last parts are equally long
pub same_ends : {A : Type 0} (xs ys us ws : List A) → length us ≡ length ws → xs ++ us ≡ ys ++ ws
    → us ≡ ws
same_ends xs ys us ws h e =
    (same_parts xs ys us ws (omega (
      arith,
      ap length e,
      length-append xs us,
      length-append ys ws,
    )) e).1

pub values_count : (types : List ValueType) (vs : List Value) → AreOf types vs
    → length vs ≡ length types
values_count [] [] h = refl
values_count [] (v ∷ vs) h = absurd h
values_count (t ∷ types) [] h = absurd h
values_count (t ∷ types) (v ∷ vs) h = ap suc (values_count types vs h.1)

-- how many values a frame holds
pub frame_holds : (ls vs : List Value) (labels : List Label) (callers : List ℕ)
    → length (frame_words ls vs (map number_in (all_below labels)) callers)
    ≡ length ls + length vs + length (all_below labels) + length callers
frame_holds ls vs labels callers =
    omega (
      arith,
      length-frame_words ls vs (map number_in (all_below labels)) callers,
      length-map (all_below labels) number_in,
    )

-- Frames that wait have a word for each value that they hold.
pub waiting_words : (c : Context) (program : Program) (signature : FunctionType)
    (frames : List StackFrame) (words : List ℕ) (thread : Thread)
    → AreWaiting c program signature frames words thread → length words ≡ held_by thread
waiting_words c program signature [] words [] h = ap length h
waiting_words c program signature [] words (other ∷ thread) h = absurd h
waiting_words c program signature (frame ∷ frames) words [] h = absurd h
waiting_words c program signature (frame ∷ frames) words (FrameOf f ls labels vs rest ∷ thread) h =
    let below = waiting_words c program h.0.signature frames h.3 thread h.5 in
    let here = ap length h.4.words_are in
    omega (arith, below, here, frame_holds ls vs labels h.3, held_all labels)

pub waiting_frames : (c : Context) (program : Program) (signature : FunctionType)
    (frames : List StackFrame) (words : List ℕ) (thread : Thread)
    → AreWaiting c program signature frames words thread → length frames ≡ length thread
waiting_frames c program signature [] words [] h = refl
waiting_frames c program signature [] words (other ∷ thread) h = absurd h
waiting_frames c program signature (frame ∷ frames) words [] h = absurd h
waiting_frames c program signature (frame ∷ frames) words (FrameOf f ls labels vs rest ∷ thread) h =
    ap suc (waiting_frames c program h.0.signature frames h.3 thread h.5)

-- A fall leads to the words that it leads to.
pub one_fall : {keeps base : ℕ} {old new : List ℕ} (other : List ℕ) → Falls keeps base old new
    → Falls keeps base old other → new ≡ other
one_fall other a b =
    let parts = same_parts a.kept b.kept (a.between ++ a.under) (b.between
    ++ b.under) (sym a.keeps_is ∙ b.keeps_is) (sym a.before ∙ b.before) in
    let ends = same_ends a.between b.between a.under b.under (sym a.height_is ∙ b.height_is) parts.1
    in
    a.after ∙ ap (λ z. z ++ a.under) parts.0 ∙ ap (λ z. b.kept ++ z) ends ∙ sym b.after
