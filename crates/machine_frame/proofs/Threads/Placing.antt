-- The places of frames, counted from the outermost one. A frame's slots lie between its base and
-- the next one's.
use Rattle.std.proofs.Common.{◌≡◌, ◌⊎◌, inl, inr, ⊎_elim, ℕ, zero, suc, ◌+◌, ◌-◌, ◌<◌, ◌≤◌, List}
use Rattle.std.proofs.Common.{[], ◌∷◌, ◌++◌, length, take, drop, Option, Some, None, refl, sym, ap}
use Rattle.std.proofs.Common.{◌∙◌, subst, arith, length-append}
use Rattle.std.specs.Prelude.{reverse, slice_get}
use Rattle.std.proofs.Math.Seq.{drop-append_seam}
use Rattle.std.proofs.lemmas.List.{reverse-append, length-reverse, length-drop, take-append-le}
use Rattle.std.proofs.lemmas.List.{drop-append-le, take_all}
use Rattle.std.proofs.lemmas.Option.{same_Some, slice_get_past, slice_get_within}
use Rattle.machine_slots.specs.rules.Places.{ShownFrame}
use Rattle.machine_frame.specs.declared.rules.frame.StackFrame.{StackFrame}
use Rattle.machine_frame.specs.rules.Stacked.{AreStacked}
use Rattle.machine_frame.specs.Stacked.{end_of, slots_end}
use Rattle.machine_frame.specs.rules.Threads.{places_of}
use Rattle.machine_frame.proofs.Threads.Showing.{parts_of, places_count}

-- ---- lists from their end

turned : {A : Type 0} (x : A) (xs : List A) → reverse (x ∷ xs) ≡ reverse xs ++ x ∷ []
turned x xs = reverse-append (x ∷ []) xs

in_front : {A : Type 0} (xs ys : List A) (i : ℕ) {y : A} → slice_get xs i ≡ Some y
    → slice_get (xs ++ ys) i ≡ Some y
in_front [] ys i e = absurd (cc)
in_front (x ∷ xs) ys zero e = e
in_front (x ∷ xs) ys (suc i) e = in_front xs ys i e

at_end : {A : Type 0} (xs : List A) (x : A) → slice_get (xs ++ x ∷ []) (length xs) ≡ Some x
at_end [] x = refl
at_end (y ∷ xs) x = at_end xs x

-- what is at a place of a list with one more at its end
at_place : {A : Type 0} (xs : List A) (x : A) {y : A} (i : ℕ) → slice_get (xs ++ x ∷ []) i ≡ Some y
    → (slice_get xs i ≡ Some y) ⊎ ((i ≡ length xs) × (x ≡ y))
at_place [] x {y} zero e = inr (refl, same_Some x y e)
at_place [] x (suc i) e = absurd (cc)
at_place (z ∷ xs) x zero e = inl e
at_place (z ∷ xs) x {y} (suc i) e =
    ⊎_elim (λ (k : slice_get xs i ≡ Some y). inl k)
    (λ (k : (i ≡ length xs) × (x ≡ y)). inr (ap suc k.0, k.1)) (at_place xs x i e)

-- ---- frames from the outermost in

-- what a frame shows whose words end there
abbrev pub shown_at : StackFrame → ℕ → List ℕ → ShownFrame
shown_at frame end words = record {
  function = frame.function;
  position = frame.position;
  slots = take (end - frame.base) (drop frame.base (reverse words));
}

-- a frame with this number, counted from the outermost one
pub record IsPlaced (frames : List StackFrame) (words : List ℕ) (i : ℕ)
    (frame : StackFrame) : Type 0 where
  pub begins : frame.base ≤ slots_end frames words i
  pub ends : slots_end frames words i ≤ length words
  pub shown : slice_get (reverse (places_of frames words)) i ≡ Some
      (shown_at frame (slots_end frames words i) words)

-- ---- a frame below the innermost one

-- The next one's base is the same with that one above.
end_again : (f : StackFrame) (frames : List StackFrame) (words callers : List ℕ) (i : ℕ)
    (o : Option StackFrame)
    → slice_get (reverse frames) (suc i) ≡ o → i < length (reverse frames)
    → f.base ≡ length callers
    → slots_end (f ∷ frames) words i ≡ end_of o (length callers)
end_again f frames words callers i (Some g) e within at =
    ap (λ z. end_of (slice_get z (suc i)) (length words)) (turned f frames) ∙ ap
    (λ z. end_of z (length words)) (in_front (reverse frames) (f ∷ []) (suc i) e)
end_again f frames words callers i None e within at =
    let last : suc i ≡ length (reverse frames) = none_next (reverse frames) i e within in
    ap (λ z. end_of (slice_get z (suc i)) (length words)) (turned f frames)
    ∙ ap (λ z. end_of (slice_get (reverse frames ++ f ∷ []) z) (length words)) last
    ∙ ap (λ z. end_of z (length words)) (at_end (reverse frames) f)
    ∙ at
  where
    none_next : (xs : List StackFrame) (i : ℕ) → slice_get xs (suc i) ≡ None → i < length xs
        → suc i ≡ length xs
    none_next [] i e within = absurd (omega arith)
    none_next (x ∷ []) zero e within = refl
    none_next (x ∷ y ∷ xs) zero e within = absurd (cc)
    none_next (x ∷ xs) (suc i) e within = ap suc (none_next xs i e (omega arith))

-- slots that lie below other words
below_others : {words : List ℕ} (own callers : List ℕ) (base end : ℕ) → words ≡ own ++ callers →
    base ≤ end
    → end ≤ length callers
    → take (end - base) (drop base (reverse words)) ≡ take (end - base)
    (drop base (reverse callers))
below_others {words} own callers base end e begins ends =
    let count = length-reverse callers in
    let back : reverse words ≡ reverse callers ++ reverse own = ap reverse e
    ∙ reverse-append own callers in
    let few : end - base ≤ length (drop base (reverse callers)) =
    omega (arith, ends, count, length-drop base (reverse callers)) in
    ap (λ z. take (end - base) (drop base z)) back
    ∙ ap (take (end - base)) (drop-append-le base (reverse callers) (reverse own)
    (omega (arith, begins, ends, count)))
    ∙ take-append-le (end - base) (drop base (reverse callers)) (reverse own) few

placed_below : (f : StackFrame) {frames : List StackFrame} {words : List ℕ} (own : List ℕ)
    {callers : List ℕ} {i : ℕ} {frame : StackFrame}
    → words ≡ own ++ callers → f.base ≡ length callers → slice_get (reverse frames) i ≡ Some frame
    → IsPlaced frames callers i frame → IsPlaced (f ∷ frames) words i frame
placed_below f {frames} {words} own {callers} {i} {frame} e at here p =
    let within : i < length (reverse frames) = slice_get_within (reverse frames) i frame here in
    let same : slots_end (f ∷ frames) words i ≡ slots_end frames callers i =
    end_again f frames words callers i (slice_get (reverse frames) (suc i)) refl within at in
    let parts = parts_of own callers e at in
    let begins = p.begins in
    let ends = p.ends in
    let front : ShownFrame = record {
      function = f.function;
      position = f.position;
      slots =
          reverse (take (length words - f.base) words);
    } in
    let there : slice_get (reverse (places_of frames callers) ++ front ∷ []) i ≡ Some
    (shown_at frame (slots_end frames callers i) callers) =
    in_front (reverse (places_of frames callers)) (front ∷ []) i p.shown in
    let slots =
    below_others own callers frame.base (slots_end frames callers i) e begins ends in
    record {
      begins = subst (λ z. frame.base ≤ z) (sym same) begins;
      ends = omega (arith, same, ends, ap length e, length-append own callers);
      shown =
          ap (λ z. slice_get (reverse (front ∷ places_of frames z)) i) parts.back
          ∙ ap (λ z. slice_get z i) (turned front (places_of frames callers))
          ∙ there
          ∙ ap
          (λ z. Some (record { function = frame.function; position = frame.position; slots = z }))
          (sym slots)
          ∙ ap (λ z. Some (shown_at frame z words)) (sym same);
    }

-- ---- the innermost one

placed_last : (frame : StackFrame) (frames : List StackFrame) {words : List ℕ}
    (own callers : List ℕ) {i : ℕ}
    → words ≡ own ++ callers → frame.base ≡ length callers → i ≡ length (reverse frames)
    → IsPlaced (frame ∷ frames) words i frame
placed_last frame frames {words} own callers {i} e at last =
    let none : slice_get (reverse (frame ∷ frames)) (suc i) ≡ None =
    slice_get_past (reverse (frame ∷ frames)) (suc i)
    (omega (arith, last, length-reverse frames, length-reverse (frame ∷ frames))) in
    let same : slots_end (frame ∷ frames) words i ≡ length words =
    ap (λ z. end_of z (length words)) none in
    let parts = parts_of own callers e at in
    let count : length words ≡ length own + length callers = ap length e
    ∙ length-append own callers in
    let front : ShownFrame = record {
      function = frame.function;
      position = frame.position;
      slots =
          reverse (take (length words - frame.base) words);
    } in
    let places : List ShownFrame = places_of frames (drop (length words - frame.base) words) in
    let long : i ≡ length (reverse places) =
    omega (
      arith,
      last,
      length-reverse frames,
      length-reverse places,
      places_count frames
          (drop (length words - frame.base) words),
    ) in
    let rest : drop frame.base (reverse words) ≡ reverse own =
    ap (λ z. drop z (reverse words)) (at ∙ sym (length-reverse callers))
    ∙ ap (drop (length (reverse callers))) (ap reverse e ∙ reverse-append own callers)
    ∙ drop-append_seam (reverse callers) (reverse own) in
    let slots : reverse (take (length words - frame.base) words) ≡ take (length words - frame.base)
    (drop frame.base (reverse words)) =
    ap reverse parts.front
    ∙ sym (take_all (length words - frame.base) (reverse own)
    (omega (arith, count, at, length-reverse own)))
    ∙ ap (take (length words - frame.base)) (sym rest) in
    record {
      begins = omega (arith, same, count, at);
      ends = omega (arith, same);
      shown =
          ap (λ z. slice_get z i) (turned front places)
          ∙ ap (slice_get (reverse places ++ front ∷ [])) long
          ∙ at_end (reverse places) front
          ∙ ap
          (λ z. Some (record {
            function = frame.function;
            position = frame.position;
            slots =
                z;
          })) slots
          ∙ ap (λ z. Some (shown_at frame z words)) (sym same);
    }

-- ---- each

pub placed : (frames : List StackFrame) (words : List ℕ) (i : ℕ) {frame : StackFrame}
    → AreStacked frames words
    → slice_get (reverse frames) i ≡ Some frame → IsPlaced frames words i frame
placed [] words i h e = absurd (cc)
placed (f ∷ frames) words i {frame} h e =
    let there : slice_get (reverse frames ++ f ∷ []) i ≡ Some frame =
    subst (λ z. slice_get z i ≡ Some frame) (turned f frames) e in
    ⊎_elim (λ (k : slice_get (reverse frames) i ≡ Some frame). placed_below f h.0 h.2 h.3 k
    (placed frames h.1 i h.4 k)) (λ (k : (i ≡ length (reverse frames)) × (f ≡ frame)). subst
    (λ z. IsPlaced (f ∷ frames) words i z) k.1 (placed_last f frames h.0 h.1 h.2 h.3 k.0))
    (at_place (reverse frames) f i there)
