-- Words, frames and memory that are put into a machine one after the other.
use Rattle.std.proofs.Common.{◌≡◌, ◌≢◌, ◌⊎◌, inl, inr, ℕ, ◌+◌, ◌<◌, List, [], ◌∷◌, ◌++◌, length}
use Rattle.std.proofs.Common.{reverse}
use Rattle.std.proofs.Common.{append_assoc, length-append, refl, sym, ap, subst, ◌∙◌, arith}
use Rattle.std.specs.Prelude.{Result, Ok, Err}
use Rattle.std.specs.List.{AllByRecursion, flat_map}
use Rattle.std.specs.Result.{IsErrAnd}
use Rattle.std.proofs.lemmas.Grind.{reverse_onto}
use Rattle.std.proofs.lemmas.List.{append-nil, reverse-append, length-reverse}
use Rattle.wasi_abi.specs.rules.Layouts.{u32_bytes}
use Rattle.machine_slots.specs.declared.limits.TheConstants.{FRAMES}
use Rattle.machine_slots.specs.declared.slots.TheConstants.{SLOTS}
use Rattle.machine_slots.specs.rules.Places.{ShownFrame}
use Rattle.machine_frame.specs.rules.Stacked.{slots_held}
use Rattle.machine.specs.declared.loading.fault.LoadFault.{LoadFault}
use Rattle.machine.specs.declared.loading.fault.LoadFault.TheVariants as load
use Rattle.machine.specs.rules.Loading.{with_frames, with_frame, with_global, IsSlotPushed}
use Rattle.machine.specs.rules.Values.{MachineValue}
use Rattle.state_image.specs.declared.restoring.fault.RestoreFault.{RestoreFault}
use Rattle.state_image.specs.declared.restoring.fault.RestoreFault.TheVariants as fault
use Rattle.state_image.specs.rules.ProcessImage.{items_bytes, place_bytes}
use Rattle.state_image.specs.rules.Ranges.{IsIn, AreFew, IsPlaceIn}
use Rattle.state_image.specs.rules.Reading.{HasField, LacksField}
use Rattle.state_image.specs.restoring.Machines.{restore_fault, PutsField, with_globals_behind}
use Rattle.state_image.specs.restoring.Machines.{with_frame_inside, with_frames_inside}
use Rattle.state_image.specs.restoring.Machines.{slots_behind, with_slots_behind}
use Rattle.state_image.specs.restoring.Machines.{AreSoManyPlaces, HaveStackRoom}
use Rattle.state_image.proofs.Fields.{Tells, cut, number_field}
use Rattle.state_image.proofs.ProcessImageGiven.{item_more, items_read}
use Rattle.state_image.proofs.Machines.{all_behind, place_field}
use Rattle.state_image.proofs.ReadLemmas.{is_that}

-- ---- faults

-- only parts that don't fit make bytes none of an image
pub unfit_of : {X : Type 0} (r : Result X RestoreFault) (e : LoadFault)
    → IsErrAnd r (λ y. y ≡ restore_fault e) → r ≡ Err fault.NotAnImage → e ≡ load.Unfit
unfit_of r load.Unfit is same = refl
unfit_of (Ok x) load.Memory is same = absurd is
unfit_of (Err y) load.Memory is same =
    let memory : y ≡ fault.Memory = is in
    let none : y ≡ fault.NotAnImage = cc in
    absurd cc

-- ---- globals

pub global_more : (word : ℕ) (words : List ℕ) (v w : MachineValue) → w ≡ with_global word v
    → with_globals_behind words w ≡ with_globals_behind (word ∷ words) v
global_more word words v w is =
    ap (with_globals_behind words) is
    ∙ ap (λ (gs : List ℕ). record v { state = record v.state { globals = gs } })
    (append_assoc v.state.globals (word ∷ []) words)

pub no_more_globals : (v : MachineValue) → with_globals_behind [] v ≡ v
no_more_globals v =
    ap (λ (gs : List ℕ). record v { state = record v.state { globals = gs } })
    (append-nil v.state.globals)

-- ---- slots

pub no_more_slots : (v : MachineValue) → with_slots_behind [] v ≡ v
no_more_slots v = ap (λ (fs : List ShownFrame). with_frames fs v) (whole v.state.frames) where
  whole : (fs : List ShownFrame) → slots_behind [] fs ≡ fs
  whole [] = refl
  whole (place ∷ places) =
      ap (λ (words : List ℕ). record place { slots = words } ∷ places) (append-nil place.slots)

some_are : (place : ShownFrame) (places : List ShownFrame) → place ∷ places ≢ []
some_are place places e = cc

-- a slot was pushed into the innermost frame, and others come after it
pub slot_more : (word : ℕ) (words : List ℕ) (v w : MachineValue) → v.state.frames ≢ []
    → IsSlotPushed word v w
    → (w.state.frames ≢ []) × (with_slots_behind words w ≡ with_slots_behind (word ∷ words) v)
slot_more word words v w some pushed = by v.state.frames refl where
  by : (fs : List ShownFrame) → v.state.frames ≡ fs
      → (w.state.frames ≢ []) × (with_slots_behind words w ≡ with_slots_behind (word ∷ words) v)
  by [] e = absurd (some e)
  by (place ∷ places) e =
      let one : ShownFrame = record place { slots = place.slots ++ word ∷ [] } in
      let is : w ≡ with_frames (one ∷ places) v = pushed place places e in (
        λ none. some_are one places (sym (ap (λ (x : MachineValue). x.state.frames) is) ∙ none),
        ap (with_slots_behind words) is
            ∙ ap (λ (ws : List ℕ). with_frames (record place { slots = ws } ∷ places) v)
            (append_assoc place.slots (word ∷ []) words)
            ∙ ap (λ (fs : List ShownFrame). with_frames (slots_behind (word ∷ words) fs) v)
            (sym e),
      )

-- how many slots there are with these
held_behind : (words : List ℕ) (fs : List ShownFrame) → fs ≢ []
    → slots_held (slots_behind words fs) ≡ slots_held fs + length words
held_behind words [] some = absurd (some refl)
held_behind words (place ∷ places) some = omega (arith, length-append place.slots words)

-- where the stack is full and a word is left, there are too many
pub slots_over : (word : ℕ) (rest now words : List ℕ) (v w : MachineValue)
    → v.state.frames ≢ [] → w.state.frames ≢ []
    → with_slots_behind now w ≡ with_slots_behind words v
    → now ≡ word ∷ rest → (w.state.frames ≡ []) ⊎ (slots_held w.state.frames ≡ SLOTS)
    → SLOTS < slots_held v.state.frames + length words
slots_over word rest now words v w some others is those_left (inl none) = absurd (others none)
slots_over word rest now words v w some others is those_left (inr full) =
    let one : length now ≡ length (word ∷ rest) = ap length those_left in
    let counts : slots_held (slots_behind now w.state.frames)
    ≡ slots_held (slots_behind words v.state.frames) =
    ap (λ (x : MachineValue). slots_held x.state.frames) is in
    let mine = held_behind now w.state.frames others in
    let its = held_behind words v.state.frames some in
    omega (arith, one, counts, mine, its, full)

-- ---- one frame

pub has_frame : (function position : ℕ) (v w : MachineValue) → w ≡ with_frame function position v
    → w.state.frames ≢ []
has_frame function position v w is none =
    some_are (record { function = function; position = position; slots = [] }) v.state.frames
    (sym (ap (λ (x : MachineValue). x.state.frames) is) ∙ none)

-- the frame that was pushed has no slots yet
pub over_there : (function position : ℕ) (words : List ℕ) (v w : MachineValue)
    → w ≡ with_frame function position v → SLOTS < slots_held w.state.frames + length words
    → SLOTS < slots_held v.state.frames + length words
over_there function position words v w is over =
    let same : slots_held w.state.frames ≡ 0 + slots_held v.state.frames =
    ap (λ (x : MachineValue). slots_held x.state.frames) is in
    omega (arith, same, over)

-- there is no room for a frame more
pub no_frame_more : (place : ShownFrame) (outer : List ShownFrame) → length outer ≡ FRAMES
    → HaveStackRoom outer (place ∷ []) → ⊥
no_frame_more place outer full room = absurd (let few = room.few in omega (arith, full, few))

-- there is none for its slots
pub no_slots_more : (place : ShownFrame) (outer : List ShownFrame)
    → SLOTS < slots_held outer + length place.slots → HaveStackRoom outer (place ∷ []) → ⊥
no_slots_more place outer over room = absurd (let slots = room.slots in omega (arith, over, slots))

-- ---- frames

held_append : (xs ys : List ShownFrame) → slots_held (xs ++ ys) ≡ slots_held xs + slots_held ys
held_append [] ys = omega arith
held_append (x ∷ xs) ys = (let later = held_append xs ys in omega (arith, later))

pub held_reversed : (xs : List ShownFrame) → slots_held (reverse xs) ≡ slots_held xs
held_reversed [] = refl
held_reversed (x ∷ xs) =
    let turned : slots_held (reverse (x ∷ xs)) ≡ slots_held (reverse xs ++ x ∷ []) =
    ap slots_held (reverse_onto xs x []) in
    let both = held_append (reverse xs) (x ∷ []) in
    let later = held_reversed xs in
    omega (arith, turned, both, later)

-- frames that were put inside others so far
abbrev pub PutsPlaces : ℕ → MachineValue → MachineValue → List ℕ → List ℕ → Type 0
PutsPlaces count v w old new =
    PutsField (flat_map place_bytes) (AreSoManyPlaces count) with_frames_inside v w old new

pub no_place_yet : (v : MachineValue) (bytes : List ℕ) → PutsPlaces 0 v v bytes bytes
no_place_yet v bytes = record {
  field = [];
  has = record { in_range = record { number = refl; each = tt }; is = refl };
  is = refl;
}

-- one frame more
pub place_more : (i : ℕ) (v a b : MachineValue) (old mid new : List ℕ) → PutsPlaces i v a old mid
    → PutsField place_bytes IsPlaceIn with_frame_inside a b mid new
    → PutsPlaces (i + 1) v b old new
place_more i v a b old mid new so_far one =
    let places = so_far.field in
    let place = one.field in
    let outer = v.state.frames in
    let number = so_far.has.in_range.number in
    record {
      field = places ++ place ∷ [];
      has = record {
        in_range = record {
          number = omega (arith, number, length-append places (place ∷ []));
          each = all_behind ShownFrame IsPlaceIn places (place ∷ []) so_far.has.in_range.each
              (one.has.in_range, tt);
        };
        is = item_more place_bytes places place old mid new so_far.has.is one.has.is;
      };
      is = one.is
          ∙ ap (with_frame_inside place) so_far.is
          ∙ ap (λ (fs : List ShownFrame). with_frames (fs ++ outer) v)
          (sym (reverse-append places (place ∷ [])));
    }

-- what is left of items after the first ones
record AreItemsLeft {X : Type 0} (P : X → Type 0) (bytes : X → List ℕ) (first all : List X)
    (mid rest : List ℕ) : Type 0 where
  pub next : X
  pub more : List X
  pub are : all ≡ first ++ next ∷ more
  pub within : P next
  pub is : mid ≡ bytes next ++ (flat_map bytes more ++ rest)

items_left : (X : Type 0) (P : X → Type 0) (bytes : X → List ℕ) → Tells X P bytes
    → (first all : List X) (mid rest : List ℕ)
    → AllByRecursion P first → AllByRecursion P all → length first < length all
    → flat_map bytes first ++ mid ≡ flat_map bytes all ++ rest
    → AreItemsLeft P bytes first all mid rest
items_left X P bytes tells [] [] mid rest p q lt e = absurd (omega (arith, lt))
items_left X P bytes tells [] (y ∷ all) mid rest p q lt e = record {
  next = y;
  more = all;
  are = refl;
  within = q.0;
  is = e ∙ append_assoc (bytes y) (flat_map bytes all) rest;
}
items_left X P bytes tells (x ∷ first) [] mid rest p q lt e = absurd (omega (arith, lt))
items_left X P bytes tells (x ∷ first) (y ∷ all) mid rest p q lt e =
    let one = cut X P bytes tells x y (flat_map bytes first) (flat_map bytes all) mid rest p.0 q.0
    e in
    let later = items_left X P bytes tells first all mid rest p.1 q.1 (omega (arith, lt)) one.1 in
    let heads : x ≡ y = one.0 in
    let tails : all ≡ first ++ later.next ∷ later.more = later.are in
    record {
      next = later.next;
      more = later.more;
      are = cc;
      within = later.within;
      is = later.is;
    }

-- where a frame is refused, so are all of them
pub places_refused : (i count : ℕ) (v a : MachineValue) (old mid : List ℕ) → i < count
    → PutsPlaces i v a old mid
    → ((place : ShownFrame) (rest : List ℕ)
    → IsPlaceIn place × HaveStackRoom a.state.frames (place ∷ []) → mid ≢ place_bytes place ++ rest)
    → (places : List ShownFrame) (rest : List ℕ)
    → AreSoManyPlaces count places × HaveStackRoom v.state.frames places
    → old ≢ flat_map place_bytes places ++ rest
places_refused i count v a old mid lt so_far refuses places rest may e =
    let first = so_far.field in
    let outer = v.state.frames in
    let number = so_far.has.in_range.number in
    let all = may.0.number in
    let those_left = items_left ShownFrame IsPlaceIn place_bytes place_field first places mid rest
    so_far.has.in_range.each may.0.each (omega (arith, lt, number, all)) (sym so_far.has.is ∙ e) in
    let here : a.state.frames ≡ reverse first ++ outer =
    ap (λ (x : MachineValue). x.state.frames) so_far.is in
    let deep : length a.state.frames ≡ length first + length outer =
    ap length here ∙ length-append (reverse first) outer
    ∙ ap (λ (n : ℕ). n + length outer) (length-reverse first) in
    let held : slots_held a.state.frames ≡ slots_held first + slots_held outer =
    ap slots_held here ∙ held_append (reverse first) outer
    ∙ ap (λ (n : ℕ). n + slots_held outer) (held_reversed first) in
    let total : slots_held places
    ≡ slots_held first + (length those_left.next.slots + slots_held those_left.more) =
    ap slots_held those_left.are ∙ held_append first (those_left.next ∷ those_left.more) in
    let few = may.1.few in
    let slots = may.1.slots in
    refuses those_left.next (flat_map place_bytes those_left.more ++ rest) (
      those_left.within,
      record {
        few = omega (arith, deep, number, all, few, lt);
        slots = omega (arith, held, total, slots);
      },
    ) those_left.is

-- ---- frames behind their number

pub no_number_of_places : (outer : List ShownFrame) (old new : List ℕ)
    → LacksField u32_bytes (IsIn 4) old new → (places : List ShownFrame) (rest : List ℕ)
    → AreFew ShownFrame IsPlaceIn places × HaveStackRoom outer places
    → old ≢ items_bytes place_bytes places ++ rest
no_number_of_places outer old new lacks places rest may e =
    lacks.none (length places) (flat_map place_bytes places ++ rest) may.0.few
    (e ∙ append_assoc (u32_bytes (length places)) (flat_map place_bytes places) rest)

pub places_counted : (count : ℕ) (v w : MachineValue) (old mid new : List ℕ)
    → HasField u32_bytes (IsIn 4) count old mid → PutsPlaces count v w mid new
    → PutsField (items_bytes place_bytes) (AreFew ShownFrame IsPlaceIn) with_frames_inside v w old
    new
places_counted count v w old mid new number put =
    let places = put.field in
    let same = put.has.in_range.number in
    record {
      field = places;
      has = record {
        in_range = record {
          few = subst (IsIn 4) (sym same) number.in_range;
          each = put.has.in_range.each;
        };
        is = items_read place_bytes places old mid new
            (number.is ∙ ap (λ (n : ℕ). u32_bytes n ++ mid) (sym same)) put.has.is;
      };
      is = put.is;
    }

pub no_counted_places : (count : ℕ) (outer : List ShownFrame) (old mid : List ℕ)
    → HasField u32_bytes (IsIn 4) count old mid
    → ((places : List ShownFrame) (rest : List ℕ)
    → AreSoManyPlaces count places × HaveStackRoom outer places
    → mid ≢ flat_map place_bytes places ++ rest)
    → (places : List ShownFrame) (rest : List ℕ)
    → AreFew ShownFrame IsPlaceIn places × HaveStackRoom outer places
    → old ≢ items_bytes place_bytes places ++ rest
no_counted_places count outer old mid number refuses places rest may e =
    let same = is_that (number_field 4) number (length places) (flat_map place_bytes places ++ rest)
    may.0.few (e ∙ append_assoc (u32_bytes (length places)) (flat_map place_bytes places) rest) in
    refuses places rest (record { number = sym same.0; each = may.0.each }, may.1) same.1
