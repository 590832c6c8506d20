-- A machine as positions and slots, and the configuration that it shows (this project's own).
use Rattle.std.specs.Prelude.{◌≡◌, ◌≢◌, ℕ, ◌+◌, ◌≤◌, List, [], ◌∷◌, ◌++◌, length, map, reverse}
use Rattle.std.specs.Prelude.{Option, Some, slice_get}
use Rattle.wasm_syntax.specs.declared.types.ValueType.{ValueType}
use Rattle.wasm_syntax.specs.declared.types.ValueType.TheVariants.{I32}
use Rattle.wasm_syntax.specs.declared.types.FunctionType.{FunctionType}
use Rattle.wasm_syntax.specs.declared.value.Value.{Value}
use Rattle.wasm_syntax.specs.declared.instruction.Instruction.TheVariants as instr
use Rattle.wasm_syntax.specs.rules.Sequence.{Sequence, Stop, Plain}
use Rattle.wasm_rules.specs.Types.{AreOf, number_in, takes_of}
use Rattle.wasm_rules.specs.Typing.{Context, body_context}
use Rattle.wasm_rules.specs.Configuration.{Own, Program, Label, LabelOf, FrameOf, Thread}
use Rattle.wasm_rules.specs.Configuration.{Configuration}
use Rattle.wasm_rules.specs.Steps.{held_by, IsReduced}
use Rattle.wasm_rules.specs.Shapes.{Shape, LabelShape, ShapeOf, body_shape}
use Rattle.wasm_rules.specs.Typed.{IsTyped}
use Rattle.machine_slots.specs.declared.limits.TheConstants.{FRAMES, HELD_VALUES}

-- A frame: its function, and the position of an opcode in its body, counted from 0 with each `else`
-- and `end`. Its slots are its parameters, its locals and its operands, the first one first. The
-- position is that of the next counted instruction, or in a frame that waits of its call, whose
-- arguments are no slots any more.
pub record ShownFrame : Type 0 where
  pub function : ℕ
  pub position : ℕ
  pub slots : List ℕ

-- the frames, the running one first, the globals, the bytes of memory, and the calls of the host
-- that are to come
pub record MachineState : Type 0 where
  pub frames : List ShownFrame
  pub globals : List ℕ
  pub memory : List ℕ
  pub later : List ℕ

-- labels of this shape
abbrev pub HaveShape : List LabelShape → List Label → Type 0
HaveShape [] [] = Unit {0}
HaveShape (ShapeOf takes target types after which
    ∷ shapes) (LabelOf keeps target' below after' which' ∷ labels) =
    (keeps ≡ length takes) × (target' ≡ target) × AreOf types below × (after' ≡ after)
    × (which' ≡ which) × HaveShape shapes labels
HaveShape [] (label ∷ labels) = ⊥
HaveShape (shape ∷ shapes) [] = ⊥

-- the values below all labels, the last one first
abbrev pub all_below : List Label → List Value
all_below [] = []
all_below (LabelOf keeps target below after which ∷ labels) = below ++ all_below labels

-- the slots of a frame: its locals, and then its operands from the first one on; an i32 has zeros
-- above
abbrev pub slots_of : List Value → List Label → List Value → List ℕ
slots_of ls labels vs = map number_in (ls ++ reverse (vs ++ all_below labels))

-- what a call takes from the operands: its arguments, and before those the place in the table
abbrev pub IsCallOf : Context → Sequence → FunctionType → List ValueType → Sequence → Type 0
IsCallOf c (Plain (instr.Call x) after) signature takes rest = (slice_get c.functions x
    ≡ Some signature) × (takes ≡ takes_of signature) × (rest ≡ after)
IsCallOf c (Plain (instr.CallIndirect x) after) signature takes rest = (slice_get c.types x
    ≡ Some signature) × (takes ≡ I32 ∷ takes_of signature) × (rest ≡ after)
IsCallOf c _ signature takes rest = ⊥

-- the running frame, at its next counted instruction
pub record ShowsRunning (c : Context) (body : Sequence) (place : ShownFrame) (ls : List Value)
    (labels : List Label) (vs : List Value) (rest : Sequence) : Type 0 where
  pub shape : Shape
  pub reached : body_shape c body place.position ≡ Some shape
  pub remains : rest ≡ shape.rest
  pub more : rest ≢ Stop
  pub labels_are : HaveShape shape.labels labels
  pub operands : AreOf shape.operands vs
  pub locals : AreOf c.locals ls
  pub slots : place.slots ≡ slots_of ls labels vs

-- a frame that waits, at its call of a function of this type
pub record ShowsWaiting (c : Context) (body : Sequence) (place : ShownFrame)
    (signature : FunctionType) (ls : List Value) (labels : List Label) (vs : List Value)
    (rest : Sequence) : Type 0 where
  pub shape : Shape
  pub takes : List ValueType
  pub types : List ValueType
  pub reached : body_shape c body place.position ≡ Some shape
  pub calls : IsCallOf c shape.rest signature takes rest
  pub labels_are : HaveShape shape.labels labels
  pub split : shape.operands ≡ takes ++ types
  pub operands : AreOf types vs
  pub locals : AreOf c.locals ls
  pub slots : place.slots ≡ slots_of ls labels vs

-- a frame's function
pub record IsFrameOf (c : Context) (program : Program) (place : ShownFrame) (f : ℕ) : Type 0 where
  pub signature : FunctionType
  pub declared : List ValueType
  pub body : Sequence
  pub is : slice_get program.functions f ≡ Some (Own signature declared body)
  pub same : place.function ≡ f

-- the frames that wait, each for the one above it
abbrev pub ShowsCallers : Context → Program → FunctionType → List ShownFrame → Thread → Type 0
ShowsCallers c program above [] [] = Unit {0}
ShowsCallers c program above (place ∷ places) (FrameOf f ls labels vs rest ∷ frames) =
    (own : IsFrameOf c program place f)
    × ShowsWaiting (body_context c own.signature own.declared) own.body place above ls
    labels vs rest × ShowsCallers c program own.signature places frames
ShowsCallers c program above [] (frame ∷ frames) = ⊥
ShowsCallers c program above (place ∷ places) [] = ⊥

-- these places show the frames of this thread, each in its function's body
abbrev pub ShowsThread : Context → Program → List ShownFrame → Thread → Type 0
ShowsThread c program [] [] = Unit {0}
ShowsThread c program (place ∷ places) (FrameOf f ls labels vs rest ∷ frames) =
    (own : IsFrameOf c program place f)
    × ShowsRunning (body_context c own.signature own.declared) own.body place ls labels vs rest
    × ShowsCallers c program own.signature places frames
ShowsThread c program [] (frame ∷ frames) = ⊥
ShowsThread c program (place ∷ places) [] = ⊥

-- how many values the frames hold, beside the operands of the running one
abbrev pub held_beside : Thread → ℕ
held_beside [] = 0
held_beside (FrameOf f ls labels vs rest ∷ frames) = length ls + held_by frames

-- A machine shows a reduced, typed configuration, whose table is the module's, within the limits of
-- its stack.
pub record Shows (c : Context) (program : Program) (table : List (Option ℕ)) (state : MachineState)
    (configuration : Configuration) : Type 0 where
  pub typed : IsTyped c program configuration
  pub reduced : IsReduced program configuration
  pub memory : state.memory ≡ configuration.store.memory
  pub globals : state.globals ≡ map number_in configuration.store.globals
  pub same_table : configuration.store.table ≡ table
  pub later : state.later ≡ configuration.later
  pub frames : ShowsThread c program state.frames configuration.thread
  pub few_frames : length state.frames ≤ FRAMES
  pub few_values : held_beside configuration.thread ≤ HELD_VALUES
