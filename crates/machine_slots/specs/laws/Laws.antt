-- Typed frames and their slots, over all programs.
use Rattle.std.specs.Prelude.{◌≡◌, ℕ, zero, suc, ◌+◌, ◌≤◌, ◌^◌, List, [], ◌∷◌, ◌++◌, length, map}
use Rattle.std.specs.Prelude.{reverse, replicate, drop, Some}
use Rattle.wasm_syntax.specs.declared.types.ValueType.{ValueType}
use Rattle.wasm_syntax.specs.declared.value.Value.{Value}
use Rattle.wasm_syntax.specs.declared.instruction.Instruction.{Instruction}
use Rattle.wasm_syntax.specs.rules.Sequence.{Sequence, spelled}
use Rattle.wasm_rules.specs.Types.{AreOf, number_in}
use Rattle.wasm_rules.specs.Typing.{Context, HasInstructionType}
use Rattle.wasm_rules.specs.Configuration.{Program, Store, Label, LabelOf, FrameOf}
use Rattle.wasm_rules.specs.Shapes.{Shape, body_shape}
use Rattle.wasm_rules.specs.Steps.{topmost, branch, held_below, zero_of}
use Rattle.wasm_rules.specs.Effects.{IsEffect}
use Rattle.wasm_rules.specs.Typed.{IsTypedStore}
use Rattle.machine_slots.specs.rules.Places.{HaveShape, slots_of, all_below}
use Rattle.machine_slots.specs.Frames.{Cells, frame_words, ShowsStore, IsReady}

-- a frame whose operands have the types that the instruction's typing rule asks for, and which is
-- shown, is ready for it
abbrev pub TypedFramesAreReady : Type 0
TypedFramesAreReady =
    (c : Context) (program : Program) (labels : List (List ValueType)) (i : Instruction)
    (p q types : List ValueType) (before : Cells) (store : Store) (ls vs : List Value)
    (below callers : List ℕ)
    → program.most_pages ≤ 2 ^ 16 → IsEffect i → HasInstructionType c labels i p q
    → IsTypedStore c program store → AreOf c.locals ls
    → AreOf (p ++ types) vs → before.words ≡ frame_words ls vs below callers
    → ShowsStore program store before.globals before.memory
    → IsReady program i before store ls vs below callers

-- the words of a frame, from the bottom up, are its slots above those of the frames that wait
abbrev pub SlotsAreWords : Type 0
SlotsAreWords =
    (ls : List Value) (labels : List Label) (vs : List Value) (callers words : List ℕ)
    → words ≡ frame_words ls vs (map number_in (all_below labels)) (reverse callers)
    → reverse words ≡ callers ++ slots_of ls labels vs

abbrev pub WordsAreSlots : Type 0
WordsAreSlots =
    (ls : List Value) (labels : List Label) (vs : List Value) (callers : List ℕ)
    → reverse (callers ++ slots_of ls labels vs)
    ≡ frame_words ls vs (map number_in (all_below labels)) (reverse callers)

-- ---- branches, returns and entries

-- words before and after a fall: those on top that are kept, those that go, and those that stay
-- below
pub record Falls (keeps height : ℕ) (old new : List ℕ) : Type 0 where
  pub kept : List ℕ
  pub between : List ℕ
  pub under : List ℕ
  pub keeps_is : keeps ≡ length kept
  pub height_is : height ≡ length under
  pub before : old ≡ kept ++ (between ++ under)
  pub after : new ≡ kept ++ under

-- how many values the label with this number keeps
abbrev pub kept_by : ℕ → List Label → ℕ
kept_by l [] = 0
kept_by zero (LabelOf keeps target below after which ∷ labels) = keeps
kept_by (suc l) (label ∷ labels) = kept_by l labels

-- a branch is a fall to the height of the locals and of the values below the label
abbrev pub BranchesFall : Type 0
BranchesFall =
    (l f g : ℕ) (ls ms : List Value) (labels outer : List Label) (vs values : List Value)
    (target : Sequence) (callers : List ℕ)
    → branch l f ls labels vs ≡ Some (FrameOf g ms outer values target)
    → Falls (kept_by l labels) (length callers + (length ls + held_below (drop l labels)))
    (frame_words ls vs (map number_in (all_below labels)) callers)
    (frame_words ls values (map number_in (all_below outer)) callers)

-- a return of so many results is a fall to the place of the first local
abbrev pub ReturnsFall : Type 0
ReturnsFall =
    (n : ℕ) (ls vs results : List Value) (below callers : List ℕ)
    → topmost n vs ≡ Some results
    → Falls n (length callers) (frame_words ls vs below callers) (map number_in results
    ++ callers)

-- a function's frame, as it is entered, is its arguments where they lie, and a zero above them for
-- each declared local
abbrev pub EntryPushesZeros : Type 0
EntryPushesZeros =
    (arguments : List Value) (declared : List ValueType) (callers : List ℕ)
    → frame_words (reverse arguments ++ map zero_of declared) [] [] callers
    ≡ replicate (length declared) 0 ++ (map number_in arguments ++ callers)

-- ---- positions

-- no two positions of a body have one shape
abbrev pub ShapesTellPositions : Type 0
ShapesTellPositions =
    (c : Context) (body : Sequence) (p q : ℕ) (s : Shape) → body_shape c body p ≡ Some s
    → body_shape c body q ≡ Some s → p ≡ q

-- No two positions fit the same labels and leave as many opcodes of the innermost sequence.
abbrev pub LabelsTellPositions : Type 0
LabelsTellPositions =
    (c : Context) (body : Sequence) (p q : ℕ) (s t : Shape) (labels : List Label)
    → body_shape c body p ≡ Some s → body_shape c body q ≡ Some t → HaveShape s.labels labels
    → HaveShape t.labels labels
    → length (spelled s.rest) ≡ length (spelled t.rest) → p ≡ q
