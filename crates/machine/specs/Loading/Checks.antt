-- What the checks of a machine's parts tell.
use Rattle.std.specs.Prelude.{◌≡◌, ◌↔◌, Bool, IsTrue, List, [], map}
use Rattle.std.specs.List.{AllByRecursion}
use Rattle.wasm_syntax.specs.declared.types.FunctionType.{FunctionType}
use Rattle.wasm_rules.specs.Types.{value_type_of}
use Rattle.wasm_rules.specs.Typing.{Context}
use Rattle.wasm_rules.specs.Validity.{module_context}
use Rattle.wasm_rules.specs.Configuration.{Program}
use Rattle.wasm_rules.specs.Typed.{IsEntry}
use Rattle.wasm_validate.specs.declared.parts.context.ModuleContext.{ModuleContext}
use Rattle.wasm_validate.specs.Parts.Contexts.{IsContextOf}
use Rattle.machine_slots.specs.rules.Places.{ShownFrame}
use Rattle.machine_frame.specs.laws.Fitting.{AreWordsOf, IsOwnPlace, place_context, FitsRunning}
use Rattle.machine_frame.specs.laws.Fitting.{FitsWaiting, FewHeld}
use Rattle.machine_frame.specs.rules.Threads.{places_of}
use Rattle.machine.specs.declared.execution.code.Executable.{Executable}
use Rattle.machine.specs.declared.execution.state.State.{State}
use Rattle.machine.specs.Execution.Codes.{IsExecutable}

-- ---- what the checks look up

-- the code is that of this program, and the context is its module's
pub record LooksUpCode (code : Executable) (context : ModuleContext) (functions : List FunctionType)
    (program : Program) : Type 0 where
  pub is_code : IsExecutable code functions program
  pub looked_up : IsContextOf (module_context code.«module» functions) context

-- those of some program
abbrev pub CanLookUp : Executable → ModuleContext → Type 0
CanLookUp code context = (functions : List FunctionType) × (program : Program)
    × LooksUpCode code context functions program

-- the code of some program
abbrev pub IsSomeCode : Executable → Type 0
IsSomeCode code = (functions : List FunctionType) × (program : Program)
    × IsExecutable code functions program

-- whether P holds of each program that the code may be of
abbrev pub TellsFit : Executable → ModuleContext → Bool → (Context → Program → Type 0) → Type 0
TellsFit code context told P = (functions : List FunctionType) (program : Program)
    → LooksUpCode code context functions program
    → IsTrue told ↔ P (module_context code.«module» functions) program

-- ---- frames

-- the running frame fits
abbrev pub FitsTop : Context → Program → ShownFrame → Type 0
FitsTop c program place = (own : IsOwnPlace c program place)
    × FitsRunning (place_context own) own.body place

-- a frame fits that waits for a function of this type
abbrev pub FitsBelow : Context → Program → FunctionType → ShownFrame → Type 0
FitsBelow c program above place = (own : IsOwnPlace c program place)
    × FitsWaiting (place_context own) own.body place above

-- ---- what is beside frames and memory

-- globals, calls to come, and the count of values fit
pub record FitsAround (c : Context) (program : Program) (s : State) : Type 0 where
  pub globals : AreWordsOf (map value_type_of c.globals) s.globals.items
  pub later : AllByRecursion (IsEntry program) s.later.items
  pub over : s.frames ≡ [] → s.later.items ≡ []
  pub few_values : FewHeld program (places_of s.frames s.slots)
