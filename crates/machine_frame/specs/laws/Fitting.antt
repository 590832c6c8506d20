-- Which places, with their slots, show some thread. It is a second form of `Shows`: what fits a
-- program is what shows some configuration of it.
use Rattle.std.specs.Prelude.{◌≡◌, ◌≢◌, ℕ, ◌+◌, ◌≤◌, List, [], ◌∷◌, ◌++◌, length, map, reverse}
use Rattle.std.specs.Prelude.{Option, Some, slice_get}
use Rattle.std.specs.List.{AllByRecursion}
use Rattle.wasm_syntax.specs.declared.types.ValueType.{ValueType}
use Rattle.wasm_syntax.specs.declared.types.FunctionType.{FunctionType}
use Rattle.wasm_syntax.specs.rules.Sequence.{Sequence, Stop}
use Rattle.wasm_rules.specs.Types.{IsOf, value_of, value_type_of}
use Rattle.wasm_rules.specs.Typing.{Context, body_context}
use Rattle.wasm_rules.specs.Configuration.{Own, Program, Configuration}
use Rattle.wasm_rules.specs.Shapes.{Shape, body_shape}
use Rattle.wasm_rules.specs.Typed.{IsTypedMemory, IsEntry, IsTypedEntry, IsTypedProgram}
use Rattle.wasm_validate.specs.rules.Operands.{types_below, types_in}
use Rattle.machine_slots.specs.rules.Places.{IsCallOf, ShownFrame, IsFrameOf, MachineState, Shows}
use Rattle.machine_slots.specs.declared.limits.TheConstants.{FRAMES, HELD_VALUES}
use Rattle.machine_frame.specs.rules.Stacked.{slots_held}

-- the words are numbers of values of these types, one by one
abbrev pub AreWordsOf : List ValueType → List ℕ → Type 0
AreWordsOf [] [] = Unit {0}
AreWordsOf (t ∷ types) (w ∷ words) = IsOf t (value_of t w) × AreWordsOf types words
AreWordsOf [] (w ∷ words) = ⊥
AreWordsOf (t ∷ types) [] = ⊥

-- ---- frames

-- The running frame: typing reaches its position, where something is left to execute, and its slots
-- are of the types of its locals and of the operands there.
pub record FitsRunning (c : Context) (body : Sequence) (place : ShownFrame) : Type 0 where
  pub shape : Shape
  pub reached : body_shape c body place.position ≡ Some shape
  pub more : shape.rest ≢ Stop
  pub words : AreWordsOf (c.locals ++ types_in shape) place.slots

-- A frame that waits: its position is that of a call of a function of this type, and its slots are
-- of the types of its locals and of the operands that the call leaves.
pub record FitsWaiting (c : Context) (body : Sequence) (place : ShownFrame)
    (signature : FunctionType) : Type 0 where
  pub shape : Shape
  pub takes : List ValueType
  pub types : List ValueType
  pub rest : Sequence
  pub reached : body_shape c body place.position ≡ Some shape
  pub calls : IsCallOf c shape.rest signature takes rest
  pub split : shape.operands ≡ takes ++ types
  pub words : AreWordsOf (c.locals ++ reverse (types ++ types_below shape.labels)) place.slots

-- a place's function is one of the module's own
abbrev pub IsOwnPlace : Context → Program → ShownFrame → Type 0
IsOwnPlace c program place = IsFrameOf c program place place.function

-- what its body looks up
abbrev pub place_context : {c : Context} {program : Program} {place : ShownFrame}
    → IsOwnPlace c program place → Context
place_context {c} own = body_context c own.signature own.declared

-- frames that wait, each for the one above it
abbrev pub FitCallers : Context → Program → FunctionType → List ShownFrame → Type 0
FitCallers c program above [] = Unit {0}
FitCallers c program above (place ∷ places) =
    (own : IsOwnPlace c program place) × FitsWaiting (place_context own) own.body place above
    × FitCallers c program own.signature places

-- the running frame first
abbrev pub FitFrames : Context → Program → List ShownFrame → Type 0
FitFrames c program [] = Unit {0}
FitFrames c program (place ∷ places) =
    (own : IsOwnPlace c program place) × FitsRunning (place_context own) own.body place
    × FitCallers c program own.signature places

-- ---- limits

-- the locals of the running frame, and all slots of those that wait
abbrev pub FewHeld : Program → List ShownFrame → Type 0
FewHeld program [] = Unit {0}
FewHeld program (place ∷ places) =
    (signature : FunctionType) (declared : List ValueType) (body : Sequence)
    → slice_get program.functions place.function ≡ Some (Own signature declared body)
    → length signature.parameters + length declared + slots_held places ≤ HELD_VALUES

-- ---- the whole

-- What a state has to be so that it shows some configuration.
pub record FitsProgram (c : Context) (program : Program) (state : MachineState) : Type 0 where
  pub memory : IsTypedMemory program state.memory
  pub globals : AreWordsOf (map value_type_of c.globals) state.globals
  pub later : AllByRecursion (IsEntry program) state.later
  pub over : state.frames ≡ [] → state.later ≡ []
  pub frames : FitFrames c program state.frames
  pub few_frames : length state.frames ≤ FRAMES
  pub few_values : FewHeld program state.frames

-- ---- laws

-- What shows some configuration fits the program.
abbrev pub ShownFits : Type 0
ShownFits =
    (c : Context) (program : Program) (table : List (Option ℕ)) (state : MachineState)
    (d : Configuration)
    → Shows c program table state d → FitsProgram c program state

-- What fits a typed program shows some configuration of it, with any table of its functions.
abbrev pub FitsIsShown : Type 0
FitsIsShown =
    (c : Context) (program : Program) (table : List (Option ℕ)) (state : MachineState)
    → IsTypedProgram c program → AllByRecursion (IsTypedEntry program) table
    → FitsProgram c program state
    → (d : Configuration) × Shows c program table state d
