-- When a program and a configuration are well typed (Core Specification 1.0, appendix A.5).
use Rattle.std.specs.Prelude.{◌≡◌, ℕ, ◌*◌, ◌≤◌, ◌^◌, List, [], ◌∷◌, ◌++◌, length, map, Option}
use Rattle.std.specs.Prelude.{Some, slice_get, IfSome}
use Rattle.std.specs.List.{AllByRecursion}
use Rattle.wasm_syntax.specs.declared.types.ValueType.{ValueType}
use Rattle.wasm_syntax.specs.declared.types.FunctionType.{FunctionType}
use Rattle.wasm_syntax.specs.declared.value.Value.{Value}
use Rattle.wasm_syntax.specs.rules.Sequence.{Sequence}
use Rattle.guest_memory.specs.rules.Bytes.{IsByte, page_size}
use Rattle.wasm_rules.specs.Types.{AreOf, gives_of, value_type_of}
use Rattle.wasm_rules.specs.Typing.{Context, HasType, body_context}
use Rattle.wasm_rules.specs.Validity.{IsIndex}
use Rattle.wasm_rules.specs.Configuration.{Callee, Imported, Own, Program, Store, Label}
use Rattle.wasm_rules.specs.Configuration.{LabelOf, FrameOf, Thread, Configuration}
use Rattle.wasm_rules.specs.Steps.{signature_of}

-- ---- the program

-- a function's body has its type
abbrev pub IsTypedCallee : Context → Callee → Type 0
IsTypedCallee c (Imported signature) = Unit {0}
IsTypedCallee c (Own signature declared body) =
    HasType (body_context c signature declared) (gives_of signature
    ∷ []) body [] (gives_of signature)

-- every body has its type, and memory has at most 65,536 pages
pub record IsTypedProgram (c : Context) (program : Program) : Type 0 where
  pub types : c.types ≡ program.types
  pub functions : c.functions ≡ map signature_of program.functions
  pub bodies : (f : ℕ) (callee : Callee) → slice_get program.functions f ≡ Some callee
      → IsTypedCallee c callee
  pub pages : program.most_pages ≤ 2 ^ 16

-- ---- the store

-- whole pages of bytes, no fewer than the module's minimum and no more than there may be
pub record IsTypedMemory (program : Program) (memory : List ℕ) : Type 0 where
  pub pages : ℕ
  pub whole : length memory ≡ pages * page_size
  pub least : program.least_pages ≤ pages
  pub within : pages ≤ program.most_pages
  pub bytes : AllByRecursion IsByte memory

-- an entry of the table is empty or names a function
abbrev pub IsTypedEntry : Program → Option ℕ → Type 0
IsTypedEntry program entry = IfSome entry (IsIndex program.functions)

-- memory, globals and table are of the program's types
pub record IsTypedStore (c : Context) (program : Program) (store : Store) : Type 0 where
  pub memory : IsTypedMemory program store.memory
  pub globals : AreOf (map value_type_of c.globals) store.globals
  pub table : AllByRecursion (IsTypedEntry program) store.table

-- ---- the thread

-- The labels around a sequence that leaves `out` lead to the end of the function. A branch to each
-- takes the types that stand for it in the list of labels.
abbrev pub AreTypedLabels : Context → List (List ValueType) → List Label → List ValueType → Type 0
AreTypedLabels c [] [] out = out ≡ c.returns
AreTypedLabels c (ts ∷ tss) (LabelOf keeps target below after which ∷ labels) out =
    (types : List ValueType) × (end : List ValueType) × (keeps ≡ length ts) × AreOf types below
    × HasType c tss after (out ++ types) end × HasType c tss target (ts ++ types) end
    × AreTypedLabels c tss labels end
AreTypedLabels c [] (label ∷ labels) out = ⊥
AreTypedLabels c (ts ∷ tss) [] out = ⊥

-- a frame whose values will have those of the given types above them
pub record IsTypedFrame (c : Context) (given : List ValueType) (ls : List Value)
    (labels : List Label) (vs : List Value) (rest : Sequence) : Type 0 where
  pub branches : List (List ValueType)
  pub types : List ValueType
  pub out : List ValueType
  pub locals : AreOf c.locals ls
  pub values : AreOf types vs
  pub typed_rest : HasType c branches rest (given ++ types) out
  pub typed_labels : AreTypedLabels c branches labels out

-- a thread whose first frame will be given values of these types. Each other frame waits for what
-- the one above it gives
abbrev pub IsTypedThread : Context → Program → List ValueType → Thread → Type 0
IsTypedThread c program given [] = Unit {0}
IsTypedThread c program given (FrameOf f ls labels vs rest ∷ frames) =
    (signature : FunctionType) × (declared : List ValueType) × (body : Sequence)
    × (slice_get program.functions f ≡ Some (Own signature declared body))
    × IsTypedFrame (body_context c signature declared) given ls labels vs rest
    × IsTypedThread c program (gives_of signature) frames

-- ---- configurations

-- a function of the module's own that the host may call
abbrev pub IsEntry : Program → ℕ → Type 0
IsEntry program f =
    (signature : FunctionType) × (declared : List ValueType) × (body : Sequence)
    × (slice_get program.functions f ≡ Some (Own signature declared body))
    × (signature.parameters ≡ [])

-- a configuration is well typed
pub record IsTyped (c : Context) (program : Program) (configuration : Configuration) : Type 0 where
  pub store : IsTypedStore c program configuration.store
  pub thread : IsTypedThread c program [] configuration.thread
  pub later : AllByRecursion (IsEntry program) configuration.later
