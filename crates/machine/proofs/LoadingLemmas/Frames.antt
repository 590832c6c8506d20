-- Frames that are checked from the running one out, and how many values they hold.
use Rattle.std.proofs.Common.{◌≡◌, ℕ, suc, ◌+◌, ◌-◌, ◌<◌, ◌≤◌, List, [], ◌∷◌, length, drop, get_or}
use Rattle.std.proofs.Common.{Some, refl, sym, ap, ◌∙◌, subst, arith, length-append}
use Rattle.std.specs.Prelude.{reverse, slice_get}
use Rattle.std.proofs.lemmas.List.{length-reverse, get_or-reverse, at_drop_all}
use Rattle.std.proofs.lemmas.Option.{slice_get-get_or, get_or_from_slice_get}
use Rattle.wasm_syntax.specs.declared.types.ValueType.{ValueType}
use Rattle.wasm_syntax.specs.declared.types.FunctionType.{FunctionType}
use Rattle.wasm_syntax.specs.rules.Sequence.{Sequence}
use Rattle.wasm_rules.specs.Typing.{Context}
use Rattle.wasm_rules.specs.Configuration.{Own, Program}
use Rattle.machine_slots.specs.rules.Places.{ShownFrame}
use Rattle.machine_slots.specs.declared.limits.TheConstants.{HELD_VALUES}
use Rattle.machine_frame.specs.declared.rules.frame.StackFrame.{StackFrame}
use Rattle.machine_frame.specs.rules.Stacked.{AreStacked, slots_held}
use Rattle.machine_frame.specs.rules.Threads.{places_of}
use Rattle.machine_frame.specs.laws.Fitting.{IsOwnPlace, FitCallers, FitFrames, FewHeld}
use Rattle.machine_frame.proofs.Threads.Showing.{parts_of}
use Rattle.machine.specs.Loading.Checks.{FitsTop, FitsBelow}
use Rattle.machine.proofs.LoadingLemmas.Words.{front_there}

-- what is so far from the end is so far from the front
pub from_end : {X : Type 0} (xs : List X) (i j : ℕ) {x : X} → slice_get (reverse xs) i ≡ Some x
    → i + suc j ≡ length xs → slice_get xs j ≡ Some x
from_end xs i j {x} e at =
    let here : i < length xs = omega (arith, at) in
    let a = get_or-reverse xs i x here in
    let b = get_or_from_slice_get (reverse xs) i x x e in
    let place : length xs - 1 - i ≡ j = omega (arith, at) in
    let c = slice_get-get_or xs j x (omega (arith, at)) in
    c ∙ ap Some (ap (λ n. get_or xs n x) (sym place) ∙ (sym a ∙ b))

-- ---- frames, from the running one out

-- The frames before this number fit, the last of which is of this function: all fit exactly where
-- those from here on fit that one.
pub record SoFar (c : Context) (program : Program) (places : List ShownFrame) (number above : ℕ) :
    Type 0 where
  pub place : ShownFrame
  pub is_above : above ≡ place.function
  pub own : IsOwnPlace c program place
  pub toward : FitCallers c program own.signature (drop number places) → FitFrames c program places
  pub back : FitFrames c program places → FitCallers c program own.signature (drop number places)

one_signature : (c : Context) (program : Program) (place : ShownFrame)
    (a b : IsOwnPlace c program place) → a.signature ≡ b.signature
one_signature c program place a b =
    let e = a.is in
    let k = b.is in
    cc

module _ (c : Context) (program : Program) (places : List ShownFrame) where
  -- the running frame fits
  pub begins : {top : ShownFrame} → slice_get places 0 ≡ Some top → FitsTop c program top
      → SoFar c program places 1 top.function
  begins {top} e fits =
      let whole : places ≡ top ∷ drop 1 places = front_there places 0 e in
      record {
        place = top;
        is_above = refl;
        own = fits.0;
        toward = λ callers. subst (FitFrames c program) (sym whole) (fits.0, fits.1, callers);
        back = λ all.
            let h : FitFrames c program (top ∷ drop 1 places) =
            subst (FitFrames c program) whole all in
            subst (λ k. FitCallers c program k (drop 1 places))
            (one_signature c program top h.0 fits.0) h.2;
      }

  pub no_begin : {top : ShownFrame} → slice_get places 0 ≡ Some top
      → FitFrames c program places → FitsTop c program top
  no_begin {top} e all =
      let h : FitFrames c program (top ∷ drop 1 places) =
      subst (FitFrames c program) (front_there places 0 e) all in
      (h.0, h.1)

  module _ {number above : ℕ} (so_far : SoFar c program places number above) {q : ShownFrame}
      (there : slice_get places number ≡ Some q) where
    rest_is : drop number places ≡ q ∷ drop (suc number) places
    rest_is = front_there places number there

    -- one more frame fits
    pub goes_on : FitsBelow c program so_far.own.signature q
        → SoFar c program places (number + 1) q.function
    goes_on fits =
        let next : suc number ≡ number + 1 = omega arith in
        record {
          place = q;
          is_above = refl;
          own = fits.0;
          toward = λ callers.
              let here : FitCallers c program fits.0.signature (drop (suc number) places) =
              subst (λ n. FitCallers c program fits.0.signature (drop n places))
              (sym next) callers in so_far.toward (subst (FitCallers c program
              so_far.own.signature) (sym rest_is) (fits.0, fits.1, here));
          back = λ all.
              let h : FitCallers c program so_far.own.signature (q ∷ drop (suc number) places) =
              subst (FitCallers c program so_far.own.signature) rest_is (so_far.back all) in
              let here = subst (λ k. FitCallers c program k (drop (suc number) places))
              (one_signature c program q h.0 fits.0) h.2 in
              subst (λ n. FitCallers c program fits.0.signature (drop n places)) next here;
        }

    pub stops : FitFrames c program places → FitsBelow c program so_far.own.signature q
    stops all =
        let h : FitCallers c program so_far.own.signature (q ∷ drop (suc number) places) =
        subst (FitCallers c program so_far.own.signature) rest_is (so_far.back all) in
        (h.0, h.1)

  pub all_fit : {number above : ℕ} → SoFar c program places number above
      → length places ≤ number → FitFrames c program places
  all_fit {number} so_far past =
      so_far.toward (subst (FitCallers c program so_far.own.signature)
      (sym (at_drop_all (λ ys. ys) places number past)) tt)

-- ---- how many values there are

pub held_count : (frames : List StackFrame) (words : List ℕ) → AreStacked frames words
    → slots_held (places_of frames words) ≡ length words
held_count [] words h = ap length (sym h)
held_count (frame ∷ frames) words h =
    let parts = parts_of h.0 h.1 h.2 h.3 in
    let more = held_count frames h.1 h.4 in
    let below : slots_held (places_of frames (drop (length words - frame.base) words))
    ≡ length h.1 = ap (λ z. slots_held (places_of frames z)) parts.back ∙ more in
    omega (
      arith,
      below,
      ap (λ z. length (reverse z)) parts.front,
      length-reverse h.0,
      ap length h.2,
      length-append h.0 h.1,
    )

-- the values below the running frame are as many as its base
pub few_of : (program : Program) (top : StackFrame) (frames : List StackFrame) (words : List ℕ)
    → AreStacked (top ∷ frames) words
    → ((signature : FunctionType) (declared : List ValueType) (body : Sequence)
    → slice_get program.functions top.function ≡ Some (Own signature declared body)
    → length signature.parameters + length declared + top.base ≤ HELD_VALUES)
    → FewHeld program (places_of (top ∷ frames) words)
few_of program top frames words h few = λ signature declared body is.
    let parts = parts_of h.0 h.1 h.2 h.3 in
    let more = held_count frames h.1 h.4 in
    let below : slots_held (places_of frames (drop (length words - top.base) words))
    ≡ length h.1 = ap (λ z. slots_held (places_of frames z)) parts.back ∙ more in
    let own = few signature declared body is in
    let base = h.3 in
    omega (arith, below, own, base)

pub few_top : (program : Program) (top : StackFrame) (frames : List StackFrame) (words : List ℕ)
    → AreStacked (top ∷ frames) words → FewHeld program (places_of (top ∷ frames) words)
    → (signature : FunctionType) (declared : List ValueType) (body : Sequence)
    → slice_get program.functions top.function ≡ Some (Own signature declared body)
    → length signature.parameters + length declared + top.base ≤ HELD_VALUES
few_top program top frames words h few signature declared body is =
    let parts = parts_of h.0 h.1 h.2 h.3 in
    let more = held_count frames h.1 h.4 in
    let below : slots_held (places_of frames (drop (length words - top.base) words))
    ≡ length h.1 = ap (λ z. slots_held (places_of frames z)) parts.back ∙ more in
    let own = few signature declared body is in
    let base = h.3 in
    omega (arith, below, own, base)

-- the same of frames of which this is the first
module _ (program : Program) {top : StackFrame} (frames : List StackFrame) (words : List ℕ)
    (e : slice_get frames 0 ≡ Some top) (h : AreStacked frames words) where
  pub few_held : ((signature : FunctionType) (declared : List ValueType) (body : Sequence)
      → slice_get program.functions top.function ≡ Some (Own signature declared body)
      → length signature.parameters + length declared + top.base ≤ HELD_VALUES)
      → FewHeld program (places_of frames words)
  few_held few =
      let whole = front_there frames 0 e in
      let P : List StackFrame → Type 0 = λ z. FewHeld program (places_of z words) in
      let S : List StackFrame → Type 0 = λ z. AreStacked z words in
      subst P (sym whole) (few_of program top (drop 1 frames) words (subst S whole h) few)

  pub few_there : FewHeld program (places_of frames words)
      → (signature : FunctionType) (declared : List ValueType) (body : Sequence)
      → slice_get program.functions top.function ≡ Some (Own signature declared body)
      → length signature.parameters + length declared + top.base ≤ HELD_VALUES
  few_there few =
      let whole = front_there frames 0 e in
      let P : List StackFrame → Type 0 = λ z. FewHeld program (places_of z words) in
      let S : List StackFrame → Type 0 = λ z. AreStacked z words in
      few_top program top (drop 1 frames) words (subst S whole h) (subst P whole few)
