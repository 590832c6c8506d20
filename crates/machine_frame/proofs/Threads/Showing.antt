-- What a machine's frames and words show, and that they stand for what they show.
use Rattle.std.proofs.Common.{◌≡◌, ℕ, suc, ◌-◌, List, [], ◌∷◌, ◌++◌, length, take, drop, Some, None}
use Rattle.std.proofs.Common.{refl, sym, ap, ◌∙◌, subst, arith, append_assoc, length-append}
use Rattle.std.specs.Prelude.{map, reverse}
use Rattle.std.proofs.Math.Seq.{take-append_seam, drop-append_seam}
use Rattle.std.proofs.lemmas.List.{reverse-reverse, append-nil}
use Rattle.wasm_syntax.specs.declared.types.FunctionType.{FunctionType}
use Rattle.wasm_syntax.specs.declared.value.Value.{Value}
use Rattle.wasm_syntax.specs.rules.Sequence.{Stop}
use Rattle.wasm_rules.specs.Types.{number_in}
use Rattle.wasm_rules.specs.Typing.{Context}
use Rattle.wasm_rules.specs.Configuration.{Program, Store, Label, LabelOf, FrameOf, Thread}
use Rattle.wasm_rules.specs.Steps.{exited_by}
use Rattle.machine_slots.specs.rules.Places.{all_below, slots_of, ShowsCallers, ShowsThread}
use Rattle.machine_slots.specs.Frames.{frame_words}
use Rattle.machine_slots.proofs.TypedFrames.{slots_words, words_slots}
use Rattle.machine_frame.specs.declared.rules.frame.StackFrame.{StackFrame}
use Rattle.machine_frame.specs.rules.Stacked.{AreStacked}
use Rattle.machine_frame.specs.rules.Threads.{AreWaiting, AreFrames, places_of}
use Rattle.machine_frame.specs.laws.Threads.{ReducedIsShown, ShownStands}

-- ---- the words of a frame, apart from those below

abbrev own_words : List Value → List Label → List Value → List ℕ
own_words ls labels vs = frame_words ls vs (map number_in (all_below labels)) []

words_part : (ls : List Value) (labels : List Label) (vs : List Value) (callers : List ℕ)
    → frame_words ls vs (map number_in (all_below labels)) callers ≡ own_words ls labels vs
    ++ callers
words_part ls labels vs callers =
    let operands : List ℕ = map number_in vs in
    let below : List ℕ = map number_in (all_below labels) in
    let locals : List ℕ = map number_in (reverse ls) in
    simp (append_assoc, append-nil)

slots_are : (ls : List Value) (labels : List Label) (vs : List Value)
    → reverse (own_words ls labels vs) ≡ slots_of ls labels vs
slots_are ls labels vs = words_slots ls labels vs [] (own_words ls labels vs) refl

own_are : (ls : List Value) (labels : List Label) (vs : List Value) (own : List ℕ)
    → reverse own ≡ slots_of ls labels vs → own ≡ own_words ls labels vs
own_are ls labels vs own e = sym (reverse-reverse own) ∙ ap reverse e ∙ slots_words ls labels vs []

-- the place of a frame has its own words
pub record Parts (words own callers : List ℕ) (base : ℕ) : Type 0 where
  pub front : take (length words - base) words ≡ own
  pub back : drop (length words - base) words ≡ callers

pub parts_of : {words : List ℕ} (own callers : List ℕ) {base : ℕ} → words ≡ own ++ callers
    → base ≡ length callers → Parts words own callers base
parts_of {words} own callers {base} e at =
    let count : length words - base ≡ length own =
    omega (arith, ap length e, length-append own callers) in
    record {
      front = ap (λ n. take n words) count ∙ ap (λ z. take (length own) z) e
          ∙ take-append_seam own callers;
      back = ap (λ n. drop n words) count ∙ ap (λ z. drop (length own) z) e
          ∙ drop-append_seam own callers;
    }

pub places_count : (frames : List StackFrame) (words : List ℕ)
    → length (places_of frames words) ≡ length frames
places_count [] words = refl
places_count (frame ∷ frames) words =
    ap suc (places_count frames (drop (length words - frame.base) words))

-- ---- what is shown

waiting_shown : (c : Context) (program : Program) (signature : FunctionType)
    (frames : List StackFrame) (words : List ℕ) (thread : Thread)
    → AreWaiting c program signature frames words thread → ShowsCallers c program signature
    (places_of frames words) thread
waiting_shown c program signature [] words [] h = tt
waiting_shown c program signature [] words (other ∷ thread) h = absurd h
waiting_shown c program signature (frame ∷ frames) words [] h = absurd h
waiting_shown c program signature (frame ∷ frames) words (FrameOf f ls labels vs rest ∷ thread) h =
    let w = h.2 in
    let parts = parts_of (own_words ls labels vs) h.3 (h.4.words_are ∙ words_part ls labels vs h.3)
    h.4.base_is in
    let more = waiting_shown c program h.0.signature frames h.3 thread h.5 in (
      record {
        signature = h.0.signature;
        declared = h.0.declared;
        body = h.0.body;
        is =
            h.0.is;
        same = h.1;
      },
      record {
        shape = record { labels = w.shapes; operands = w.takes ++ w.types; rest = w.call };
        takes = w.takes;
        types = w.types;
        reached = w.reached;
        calls = w.calls;
        labels_are = w.labels_are;
        split = refl;
        operands = w.operands;
        locals = w.locals;
        slots = ap reverse parts.front ∙ slots_are ls labels vs;
      },
      subst (λ z. ShowsCallers c program h.0.signature (places_of frames z) thread)
          (sym parts.back) more,
    )

-- a reduced frame has something to execute
never_stops : (program : Program) (store : Store) (later : List ℕ) (f : ℕ) (ls vs : List Value)
    (labels : List Label) (frames : Thread)
    → exited_by program (FrameOf f ls labels vs Stop ∷ frames) later store ≡ None → ⊥
never_stops program store later f ls vs [] frames e = absurd (cc)
never_stops program store later f ls vs (LabelOf keeps target below after which ∷ labels) frames e =
    absurd (cc)

frames_shown : (c : Context) (program : Program) (frames : List StackFrame) (words : List ℕ)
    (thread : Thread) (later : List ℕ) (store : Store) → exited_by program thread later store ≡ None
    → AreFrames c program frames words thread
    → ShowsThread c program (places_of frames words) thread
frames_shown c program [] words [] later store e h = tt
frames_shown c program [] words (other ∷ thread) later store e h = absurd h
frames_shown c program (frame ∷ frames) words [] later store e h = absurd h
frames_shown c program (frame ∷ frames) words (FrameOf f ls labels vs rest
    ∷ thread) later store e h =
    let s = h.2 in
    let parts = parts_of (own_words ls labels vs) h.3 (h.4.words_are ∙ words_part ls labels vs h.3)
    h.4.base_is in
    let more = waiting_shown c program h.0.signature frames h.3 thread h.5 in (
      record {
        signature = h.0.signature;
        declared = h.0.declared;
        body = h.0.body;
        is =
            h.0.is;
        same = h.1;
      },
      record {
        shape = record { labels = s.shapes; operands = s.types; rest = rest };
        reached = s.reached;
        remains = refl;
        more = λ stop. never_stops program store later f ls vs labels thread (rw stop at e);
        labels_are = s.labels_are;
        operands = s.operands;
        locals = s.locals;
        slots = ap reverse parts.front ∙ slots_are ls labels vs;
      },
      subst (λ z. ShowsCallers c program h.0.signature (places_of frames z) thread)
          (sym parts.back) more,
    )

pub reduced_is_shown : ReducedIsShown
reduced_is_shown c program opcodes tables table held d ready stands reduced =
    let few = stands.few_frames in
    record {
      typed = stands.typed;
      reduced = reduced;
      memory = stands.shown.bytes_are;
      globals = stands.shown.globals_are;
      same_table = stands.same_table;
      later = sym stands.later;
      frames = frames_shown c program held.frames held.words d.thread d.later d.store reduced
          stands.frames;
      few_frames = omega (arith, few, places_count held.frames held.words);
      few_values = stands.few_values;
    }

-- ---- what is there

waiting_stacked : (c : Context) (program : Program) (signature : FunctionType)
    (frames : List StackFrame) (words : List ℕ) (thread : Thread)
    → AreWaiting c program signature frames words thread → AreStacked frames words
waiting_stacked c program signature [] words [] h = h
waiting_stacked c program signature [] words (other ∷ thread) h = absurd h
waiting_stacked c program signature (frame ∷ frames) words [] h = absurd h
waiting_stacked c program signature (frame ∷ frames) words (FrameOf f ls labels vs rest
    ∷ thread) h = (
      own_words ls labels vs,
      h.3,
      h.4.words_are ∙ words_part ls labels vs h.3,
      h.4.base_is,
      waiting_stacked c program h.0.signature frames h.3 thread h.5,
    )

pub frames_stacked : (c : Context) (program : Program) (frames : List StackFrame) (words : List ℕ)
    (thread : Thread) → AreFrames c program frames words thread → AreStacked frames words
frames_stacked c program [] words [] h = h
frames_stacked c program [] words (other ∷ thread) h = absurd h
frames_stacked c program (frame ∷ frames) words [] h = absurd h
frames_stacked c program (frame ∷ frames) words (FrameOf f ls labels vs rest ∷ thread) h = (
  own_words ls labels vs,
  h.3,
  h.4.words_are ∙ words_part ls labels vs h.3,
  h.4.base_is,
  waiting_stacked c program h.0.signature frames h.3 thread h.5,
)

-- the words of a frame whose place has these slots
stacked_words : (ls : List Value) (labels : List Label) (vs : List Value)
    {words own callers : List ℕ} {base : ℕ} → words ≡ own ++ callers → Parts words own callers base
    → reverse (take (length words - base) words) ≡ slots_of ls labels vs
    → words ≡ frame_words ls vs (map number_in (all_below labels)) callers
stacked_words ls labels vs {own} {callers} e parts slots =
    e ∙ ap (λ z. z ++ callers) (own_are ls labels vs own (sym (ap reverse parts.front) ∙ slots))
    ∙ sym (words_part ls labels vs callers)

shown_waits : (c : Context) (program : Program) (signature : FunctionType)
    (frames : List StackFrame) (words : List ℕ) (thread : Thread) → AreStacked frames words
    → ShowsCallers c program signature (places_of frames words) thread
    → AreWaiting c program signature frames words thread
shown_waits c program signature [] words [] k h = k
shown_waits c program signature [] words (other ∷ thread) k h = absurd h
shown_waits c program signature (frame ∷ frames) words [] k h = absurd h
shown_waits c program signature (frame ∷ frames) words (FrameOf f ls labels vs rest ∷ thread) k h =
    let s = h.1 in
    let parts = parts_of k.0 k.1 k.2 k.3 in
    let more : ShowsCallers c program h.0.signature (places_of frames k.1) thread =
    subst (λ z. ShowsCallers c program h.0.signature (places_of frames z) thread)
    parts.back h.2 in (
      record { signature = h.0.signature; declared = h.0.declared; body = h.0.body; is = h.0.is },
      h.0.same,
      record {
        shapes = s.shape.labels;
        takes = s.takes;
        types = s.types;
        call = s.shape.rest;
        reached = s.reached
            ∙ ap (λ z. Some (record {
              labels = s.shape.labels;
              operands = z;
              rest = s.shape.rest;
            })) s.split;
        calls = s.calls;
        labels_are = s.labels_are;
        operands = s.operands;
        locals = s.locals;
      },
      k.1,
      record {
        words_are = stacked_words ls labels vs k.2 parts s.slots;
        base_is = k.3;
      },
      shown_waits c program h.0.signature frames k.1 thread k.4 more,
    )

pub shown_frames : (c : Context) (program : Program) (frames : List StackFrame) (words : List ℕ)
    (thread : Thread) → AreStacked frames words
    → ShowsThread c program (places_of frames words) thread
    → AreFrames c program frames words thread
shown_frames c program [] words [] k h = k
shown_frames c program [] words (other ∷ thread) k h = absurd h
shown_frames c program (frame ∷ frames) words [] k h = absurd h
shown_frames c program (frame ∷ frames) words (FrameOf f ls labels vs rest ∷ thread) k h =
    let s = h.1 in
    let parts = parts_of k.0 k.1 k.2 k.3 in
    let more : ShowsCallers c program h.0.signature (places_of frames k.1) thread =
    subst (λ z. ShowsCallers c program h.0.signature (places_of frames z) thread)
    parts.back h.2 in (
      record { signature = h.0.signature; declared = h.0.declared; body = h.0.body; is = h.0.is },
      h.0.same,
      record {
        shapes = s.shape.labels;
        types = s.shape.operands;
        reached = s.reached
            ∙ ap (λ z. Some (record {
              labels = s.shape.labels;
              operands = s.shape.operands;
              rest = z;
            })) (sym s.remains);
        labels_are = s.labels_are;
        operands = s.operands;
        locals = s.locals;
      },
      k.1,
      record {
        words_are = stacked_words ls labels vs k.2 parts s.slots;
        base_is = k.3;
      },
      shown_waits c program h.0.signature frames k.1 thread k.4 more,
    )

pub shown_stands : ShownStands
shown_stands c program table held e d limit stands shows = record {
  typed = shows.typed;
  frames = shown_frames c program held.frames held.words d.thread
      (frames_stacked c program held.frames held.words e.thread stands.frames) shows.frames;
  shown = record { globals_are = shows.globals; bytes_are = shows.memory; limit_is = limit };
  same_table = shows.same_table;
  later = sym shows.later;
  few_frames = stands.few_frames;
  few_values = shows.few_values;
}
