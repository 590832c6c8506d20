-- Globals, frames and memory of two machines, told by their bytes.
use Rattle.std.proofs.Common.{◌≡◌, ℕ, ◌*◌, ◌/◌, List, [], ◌∷◌, ◌++◌, length, reverse, refl, sym}
use Rattle.std.proofs.Common.{ap, subst, ◌∙◌, arith}
use Rattle.std.specs.List.{AllByRecursion}
use Rattle.std.proofs.lemmas.Grind.{reverse_onto}
use Rattle.std.proofs.lemmas.List.{reverse-reverse, length-reverse}
use Rattle.guest_memory.specs.rules.Bytes.{page_size}
use Rattle.wasi_abi.specs.rules.Layouts.{u32_bytes, u64_bytes}
use Rattle.machine_slots.specs.rules.Places.{ShownFrame, MachineState}
use Rattle.state_image.specs.rules.ProcessImage.{items_bytes, place_bytes, memory_bytes}
use Rattle.state_image.specs.rules.ProcessImage.{machine_bytes}
use Rattle.state_image.specs.rules.Ranges.{IsIn, AreFew, AreWords, IsPlaceIn, IsWhole, HasMachine}
use Rattle.state_image.proofs.Fields.{Tells, same_front, cut, number_field, items_field}

-- ---- words

pub words_field : Tells (List ℕ) AreWords (items_bytes u64_bytes)
words_field = items_field ℕ (IsIn 8) u64_bytes (number_field 8)

-- ---- frames

frame_of : ℕ → ℕ → List ℕ → ShownFrame
frame_of function position slots = record
    { function = function; position = position; slots = slots }

same_frame : (f g : ShownFrame) → f.function ≡ g.function → f.position ≡ g.position
    → f.slots ≡ g.slots → f ≡ g
unfolding frame_of
same_frame f g a b c = let whole : frame_of f.function f.position f.slots ≡ frame_of g.function
    g.position g.slots = rw (a, b, c) refl in whole

pub place_field : Tells ShownFrame IsPlaceIn place_bytes
place_field = record { front = told } where
  told : (f g : ShownFrame) (rest other : List ℕ) → IsPlaceIn f → IsPlaceIn g
      → place_bytes f ++ rest ≡ place_bytes g ++ other → (f ≡ g) × (rest ≡ other)
  told f g rest other p q e =
      let function = cut ℕ (IsIn 4) u32_bytes (number_field 4) f.function g.function
      (u32_bytes f.position ++ items_bytes u64_bytes f.slots)
      (u32_bytes g.position ++ items_bytes u64_bytes g.slots) rest other p.function q.function
      e in
      let position = cut ℕ (IsIn 4) u32_bytes (number_field 4) f.position g.position
      (items_bytes u64_bytes f.slots) (items_bytes u64_bytes g.slots) rest other p.position
      q.position function.1 in
      let slots = words_field.front f.slots g.slots rest other p.slots q.slots position.1 in
      (same_frame f g function.0 position.0 slots.0, slots.1)

-- ---- memory

pages_in : (pages n : ℕ) → n ≡ pages * page_size → n / page_size ≡ pages
pages_in pages n e = omega (arith, e)

pub same_memory : (a b rest other : List ℕ) → IsWhole a → IsWhole b
    → memory_bytes a ++ rest ≡ memory_bytes b ++ other → (a ≡ b) × (rest ≡ other)
same_memory a b rest other p q e =
    let mine : length a / page_size ≡ p.pages = pages_in p.pages (length a) p.whole in
    let its : length b / page_size ≡ q.pages = pages_in q.pages (length b) q.whole in
    let here : IsIn 4 (length a / page_size) = rw mine p.few in
    let there : IsIn 4 (length b / page_size) = rw its q.few in
    let pages = cut ℕ (IsIn 4) u32_bytes (number_field 4) (length a / page_size)
    (length b / page_size) a b rest other here there e in
    let same : p.pages ≡ q.pages = sym mine ∙ pages.0 ∙ its in
    same_front ℕ a b rest other (p.whole ∙ ap (λ n. n * page_size) same ∙ sym q.whole) pages.1

-- ---- machines

pub record SameMachine (m n : MachineState) : Type 0 where
  pub globals : m.globals ≡ n.globals
  pub frames : m.frames ≡ n.frames
  pub memory : m.memory ≡ n.memory

pub all_behind : (X : Type 0) (P : X → Type 0) (xs ys : List X) → AllByRecursion P xs
    → AllByRecursion P ys → AllByRecursion P (xs ++ ys)
all_behind X P [] ys h k = k
all_behind X P (x ∷ xs) ys h k = (h.0, all_behind X P xs ys h.1 k)

pub all_reversed : (X : Type 0) (P : X → Type 0) (xs : List X) → AllByRecursion P xs
    → AllByRecursion P (reverse xs)
all_reversed X P [] h = tt
all_reversed X P (x ∷ xs) h = subst (AllByRecursion P) (sym (reverse_onto xs x []))
    (all_behind X P (reverse xs) (x ∷ []) (all_reversed X P xs h.1) (h.0, tt))

turned : (X : Type 0) (P : X → Type 0) (xs : List X) → AreFew X P xs → AreFew X P (reverse xs)
turned X P xs h = record { few = rw (length-reverse xs) h.few; each = all_reversed X P xs h.each }

turned_back : (X : Type 0) (xs ys : List X) → reverse xs ≡ reverse ys → xs ≡ ys
turned_back X xs ys e = sym (reverse-reverse xs) ∙ ap reverse e ∙ reverse-reverse ys

-- the frames and the memory
abbrev from_frames : MachineState → List ℕ
from_frames m = items_bytes place_bytes (reverse m.frames) ++ memory_bytes m.memory

pub same_machine : (m n : MachineState) (rest other : List ℕ) → HasMachine m → HasMachine n
    → machine_bytes m ++ rest ≡ machine_bytes n ++ other → SameMachine m n × (rest ≡ other)
same_machine m n rest other p q e =
    let globals = cut (List ℕ) AreWords (items_bytes u64_bytes) words_field m.globals n.globals
    (from_frames m) (from_frames n) rest other p.globals q.globals e in
    let frames = cut (List ShownFrame) (AreFew ShownFrame IsPlaceIn) (items_bytes place_bytes)
    (items_field ShownFrame IsPlaceIn place_bytes place_field)
    (reverse m.frames) (reverse n.frames) (memory_bytes m.memory) (memory_bytes n.memory) rest
    other (turned ShownFrame IsPlaceIn m.frames p.frames)
    (turned ShownFrame IsPlaceIn n.frames q.frames) globals.1 in
    let memory = same_memory m.memory n.memory rest other p.memory q.memory frames.1 in (
      record {
        globals = globals.0;
        frames = turned_back ShownFrame m.frames n.frames frames.0;
        memory = memory.0;
      },
      memory.1,
    )
