-- The words of a machine that shows a typed configuration are within the fields of its image.
use Rattle.std.proofs.Common.{◌≡◌, ℕ, ◌*◌, ◌^◌, ◌<◌, ◌≤◌, List, [], ◌∷◌, ◌++◌, length, map}
use Rattle.std.proofs.Common.{reverse, Option, sym, subst, arith}
use Rattle.std.specs.List.{AllByRecursion}
use Rattle.std.proofs.lemmas.List.Sums.{sum_by-cons}
use Rattle.wasm_syntax.specs.declared.types.ValueType.{ValueType}
use Rattle.wasm_syntax.specs.declared.types.ValueType.TheVariants.{I32, I64}
use Rattle.wasm_syntax.specs.declared.types.FunctionType.{FunctionType}
use Rattle.wasm_syntax.specs.declared.value.Value.{Value}
use Rattle.wasm_syntax.specs.declared.value.Value.TheVariants as value
use Rattle.wasm_rules.specs.Types.{IsOf, AreOf, number_in, value_type_of}
use Rattle.wasm_rules.specs.Typing.{Context}
use Rattle.wasm_rules.specs.Configuration.{Program, Label, LabelOf, FrameOf, Thread, Configuration}
use Rattle.wasm_rules.specs.Typed.{IsTypedMemory}
use Rattle.wasm_rules.specs.Shapes.{LabelShape, ShapeOf}
use Rattle.machine_slots.specs.rules.Places.{ShownFrame, HaveShape, all_below}
use Rattle.machine_slots.specs.rules.Places.{slots_of, ShowsCallers, ShowsThread, Shows}
use Rattle.state_image.specs.rules.ProcessImage.{Saved}
use Rattle.state_image.specs.rules.WellTyped.{IsPlaceWithin, slots_in, IsWithinBounds}
use Rattle.state_image.specs.rules.Ranges.{IsIn, IsPlaceIn, IsWhole, HasMachine}
use Rattle.state_image.proofs.Machines.{all_behind, all_reversed}

-- ---- words

-- a value whose number has room in a word
abbrev IsWordValue : Value → Type 0
IsWordValue v = IsIn 8 (number_in v)

word_of : (t : ValueType) (v : Value) → IsOf t v → IsWordValue v
word_of I32 (value.I32 n) h = (let small : n < 2 ^ 32 = h in omega (arith, small))
word_of I64 (value.I64 n) h = h
word_of I32 (value.I64 n) h = absurd h
word_of I64 (value.I32 n) h = absurd h

words_of : (types : List ValueType) (vs : List Value) → AreOf types vs
    → AllByRecursion IsWordValue vs
words_of [] [] h = tt
words_of [] (v ∷ vs) h = absurd h
words_of (t ∷ types) [] h = absurd h
words_of (t ∷ types) (v ∷ vs) h = (word_of t v h.0, words_of types vs h.1)

numbers_of : (vs : List Value) → AllByRecursion IsWordValue vs
    → AllByRecursion (IsIn 8) (map number_in vs)
numbers_of [] h = tt
numbers_of (v ∷ vs) h = (h.0, numbers_of vs h.1)

below_words : (shapes : List LabelShape) (labels : List Label) → HaveShape shapes labels
    → AllByRecursion IsWordValue (all_below labels)
below_words [] [] h = tt
below_words [] (label ∷ labels) h = absurd h
below_words (shape ∷ shapes) [] h = absurd h
below_words (ShapeOf takes target types after which ∷ shapes)
    (LabelOf keeps target' below after' which' ∷ labels) h =
    all_behind Value IsWordValue below (all_below labels) (words_of types below h.2)
    (below_words shapes labels h.5)

slot_words : (locals types : List ValueType) (shapes : List LabelShape) (ls : List Value)
    (labels : List Label) (vs : List Value)
    → AreOf locals ls → AreOf types vs → HaveShape shapes labels
    → AllByRecursion (IsIn 8) (slots_of ls labels vs)
slot_words locals types shapes ls labels vs a b c =
    numbers_of (ls ++ reverse (vs ++ all_below labels))
    (all_behind Value IsWordValue ls (reverse (vs ++ all_below labels)) (words_of locals ls a)
    (all_reversed Value IsWordValue (vs ++ all_below labels)
    (all_behind Value IsWordValue vs (all_below labels) (words_of types vs b)
    (below_words shapes labels c))))

-- ---- frames

-- the slots are words
abbrev HasWords : ShownFrame → Type 0
HasWords place = AllByRecursion (IsIn 8) place.slots

callers_words : (c : Context) (program : Program) (above : FunctionType) (places : List ShownFrame)
    (frames : Thread) → ShowsCallers c program above places frames → AllByRecursion HasWords places
callers_words c program above [] [] h = tt
callers_words c program above [] (frame ∷ frames) h = absurd h
callers_words c program above (place ∷ places) [] h = absurd h
callers_words c program above (place ∷ places) (FrameOf f ls labels vs rest ∷ frames) h = (
  subst (AllByRecursion (IsIn 8)) (sym h.1.slots)
      (slot_words _ h.1.types h.1.shape.labels ls labels vs h.1.locals h.1.operands
      h.1.labels_are),
  callers_words c program h.0.signature places frames h.2,
)

thread_words : (c : Context) (program : Program) (places : List ShownFrame) (frames : Thread)
    → ShowsThread c program places frames → AllByRecursion HasWords places
thread_words c program [] [] h = tt
thread_words c program [] (frame ∷ frames) h = absurd h
thread_words c program (place ∷ places) [] h = absurd h
thread_words c program (place ∷ places) (FrameOf f ls labels vs rest ∷ frames) h = (
  subst (AllByRecursion (IsIn 8)) (sym h.1.slots)
      (slot_words _ h.1.shape.operands h.1.shape.labels ls labels vs h.1.locals h.1.operands
      h.1.labels_are),
  callers_words c program h.0.signature places frames h.2,
)

-- each has few slots where all have
few_slots : (n : ℕ) (places : List ShownFrame) → slots_in places ≤ n
    → AllByRecursion (λ (place : ShownFrame). length place.slots ≤ n) places
few_slots n [] le = tt
few_slots n (place ∷ places) le =
    let all = sum_by-cons (λ (f : ShownFrame). length f.slots) place places in
    (omega (arith, le, all), few_slots n places (omega (arith, le, all)))

place_in : (place : ShownFrame) → IsPlaceWithin place → length place.slots ≤ 69632
    → HasWords place → IsPlaceIn place
place_in place h le words =
    let function : place.function < 4096 = h.function in
    let position : place.position < 4096 = h.position in
    record {
      function = omega (arith, function);
      position = omega (arith, position);
      slots = record { few = omega (arith, le); each = words };
    }

places_in : (places : List ShownFrame) → AllByRecursion IsPlaceWithin places
    → AllByRecursion (λ (place : ShownFrame). length place.slots ≤ 69632) places
    → AllByRecursion HasWords places → AllByRecursion IsPlaceIn places
places_in [] h le k = tt
places_in (place ∷ places) h le k =
    (place_in place h.0 le.0 k.0, places_in places h.1 le.1 k.1)

-- ---- machines

memory_within : (program : Program) (memory : List ℕ) → IsTypedMemory program memory
    → length memory ≤ 2 ^ 32 → IsWhole memory
memory_within program memory h le =
    let whole : length memory ≡ h.pages * 65536 = h.whole in
    record { pages = h.pages; whole = h.whole; few = omega (arith, whole, le) }

pub machine_within : (c : Context) (program : Program) (table : List (Option ℕ)) (s : Saved)
    (d : Configuration) → Shows c program table s.machine d → IsWithinBounds s
    → HasMachine s.machine
machine_within c program table s d h b =
    let m = s.machine in
    let few : length m.frames ≤ 512 = h.few_frames in
    let globals : length m.globals ≤ 1024 = b.globals in
    let global_types = map value_type_of c.globals in
    let each = numbers_of d.store.globals
    (words_of global_types d.store.globals h.typed.store.globals) in
    record {
      globals = record {
        few = omega (arith, globals);
        each = subst (AllByRecursion (IsIn 8)) (sym h.globals) each;
      };
      frames = record {
        few = omega (arith, few);
        each = places_in m.frames b.places (few_slots 69632 m.frames b.slots)
            (thread_words c program m.frames d.thread h.frames);
      };
      memory = memory_within program m.memory
          (subst (IsTypedMemory program) (sym h.memory) h.typed.store.memory) b.memory;
    }
