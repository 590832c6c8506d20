-- What the fault of a part says of the module.
use Rattle.std.proofs.Common.{◌≡◌, ◌⊎◌, inl, inr, ℕ, zero, suc, ◌<◌, List, [], ◌∷◌, ◌++◌, length}
use Rattle.std.proofs.Common.{map, Option, Some, None, sym, subst, arith, Result, Ok, Err}
use Rattle.std.specs.Prelude.{slice_get, IfSome, IfErr}
use Rattle.std.specs.List.{AllByRecursion}
use Rattle.wasm_syntax.specs.declared.types.ValueType.{ValueType}
use Rattle.wasm_syntax.specs.declared.types.FunctionType.{FunctionType}
use Rattle.wasm_syntax.specs.declared.types.GlobalType.{GlobalType}
use Rattle.wasm_syntax.specs.declared.instruction.Instruction.{Instruction}
use Rattle.wasm_syntax.specs.declared.module.Module.{Module}
use Rattle.wasm_syntax.specs.declared.module.Export.{Export}
use Rattle.wasm_syntax.specs.rules.Modules.{function_type_of}
use Rattle.wasm_rules.specs.Types.{imported_functions}
use Rattle.wasm_rules.specs.Validity.{AreFunctionTypes, HaveDistinctNames, IsConstant}
use Rattle.wasm_rules.specs.Validity.{IsExportItemValid, IsIndex, IsStartValid}
use Rattle.wasm_rules.proofs.OneProgram.{one_list}
use Rattle.wasm_validate.specs.declared.parts.fault.ValidFault.{ValidFault}
use Rattle.wasm_validate.specs.declared.parts.fault.ValidFault.TheVariants.{Typing, Index, Limits}
use Rattle.wasm_validate.specs.declared.parts.fault.ValidFault.TheVariants.{DuplicateExport, Memory}
use Rattle.wasm_validate.specs.rules.Answers.{DemandsInTurn, DeniesOne, IsFor, JudgesExports}
use Rattle.wasm_validate.specs.rules.Faults.{AreIndicesDefined, AreLimitsKept, HasFault}
use Rattle.wasm_validate.specs.rules.Faults.{NamesGlobal, WouldBeConstant, WouldBeStart}
use Rattle.wasm_validate.specs.rules.Faults.{WouldBeTyped}
use Rattle.wasm_validate.specs.Parts.Contexts.{HasFunctionTypes}

-- ---- items

-- what is there among more, and among the first, is there
back : {X : Type 0} (xs more : List X) (i : ℕ) (x : X) → i < length xs
    → slice_get (xs ++ more) i ≡ Some x → slice_get xs i ≡ Some x
back [] more i x h e = absurd (omega arith)
back (y ∷ xs) more zero x h e = e
back (y ∷ xs) more (suc i) x h e = back xs more i x (omega arith) e

pub constant_there : (globals : List GlobalType) (expression : List Instruction) (t : ValueType)
    → NamesGlobal globals expression → WouldBeConstant globals expression t
    → IsConstant globals expression t
constant_there globals expression t names (more, inl constant) = inl constant
constant_there globals expression t names (more, inr (x, g, there, fixed, type_is, is)) =
    inr (x, g, back globals more x g (names x is) there, fixed, type_is, is)

pub start_there : (functions : List FunctionType) (start : Option ℕ)
    → IfSome start (IsIndex functions) → WouldBeStart functions start → IsStartValid functions start
start_there functions None named would = tt
start_there functions (Some x) named (more, (f, there, takes, gives)) =
    (f, back functions more x f named there, takes, gives)

-- of two checks in turn: an index names nothing, or what is there isn't right
pub turn_told : {P T Q : Type 0} (e : ValidFault) → (P → T → Q)
    → ((e ≡ Index) × (P → ⊥) × (Q → ⊥)) ⊎ ((e ≡ Typing) × P × (Q → ⊥)) → DeniesOne e T P (Unit {0})
turn_told {P} {T} {Q} e f (inl h) =
    let D : ValidFault → Type 0 = λ x. DeniesOne x T P (Unit {0}) in subst D (sym h.0) h.1
turn_told {P} {T} {Q} e f (inr h) =
    let D : ValidFault → Type 0 = λ x. DeniesOne x T P (Unit {0}) in subst D (sym h.0)
    (λ t. h.2 (f h.1 t))

-- of the fault of a check in turn
pub turns_told : {P T Q : Type 0} (r : Result (Unit {0}) ValidFault) → (P → T → Q)
    → DemandsInTurn r Index P Typing Q → IfErr r (λ e. DeniesOne e T P (Unit {0}))
turns_told (Ok x) f h = tt
turns_told (Err e) f h = turn_told e f h

-- what needs another thing doesn't hold where that doesn't
pub one_as : {T I L T' I' L' : Type 0} (e : ValidFault) → (T' → T) → (I' → I) → (L' → L)
    → DeniesOne e T I L → DeniesOne e T' I' L'
one_as Typing t i l h = λ x. h (t x)
one_as Index t i l h = λ x. h (i x)
one_as Limits t i l h = λ x. h (l x)
one_as DuplicateExport t i l h = h
one_as Memory t i l h = tt

-- the same of a result
pub ones_as : {T I L T' I' L' : Type 0} (r : Result (Unit {0}) ValidFault) → (T' → T) → (I' → I)
    → (L' → L) → IfErr r (λ e. DeniesOne e T I L) → IfErr r (λ e. DeniesOne e T' I' L')
ones_as (Ok x) t i l h = tt
ones_as (Err e) t i l h = one_as e t i l h

-- ---- modules

module _ (m : Module) where
  -- of a part of the module whose functions have these types
  pub part_fault : {T I L : Type 0} (functions : List FunctionType) → AreFunctionTypes m functions
      → (e : ValidFault) → (WouldBeTyped m functions → T) → (AreIndicesDefined m functions → I)
      → (AreLimitsKept m → L) → DeniesOne e T I L → HasFault m e
  part_fault functions are Typing t i l h = (functions, are, λ w. h (t w))
  part_fault functions are Index t i l h = λ others they n.
      let N : List FunctionType → Type 0 = AreIndicesDefined m in
      h (i (subst N (one_list m.types
      (imported_functions m.imports ++ map function_type_of m.functions) others functions they are)
      n))
  part_fault functions are Limits t i l h = λ k. h (l k)
  part_fault functions are DuplicateExport t i l h = absurd h
  part_fault functions are Memory t i l h = tt

  pub parts_fault : {T I L : Type 0} (r : Result (Unit {0}) ValidFault)
      (functions : List FunctionType) → AreFunctionTypes m functions
      → (WouldBeTyped m functions → T) → (AreIndicesDefined m functions → I)
      → (AreLimitsKept m → L) → IfErr r (λ e. DeniesOne e T I L) → IfErr r (HasFault m)
  parts_fault (Ok x) functions are t i l h = tt
  parts_fault (Err e) functions are t i l h = part_fault functions are e t i l h

  -- a limit doesn't hold
  pub limits_fault : {P : Type 0} (e : ValidFault) → (AreLimitsKept m → P) → (e ≡ Limits) × (P → ⊥)
      → HasFault m e
  limits_fault e f h =
      let F : ValidFault → Type 0 = HasFault m in subst F (sym h.0) (λ k. h.1 (f k))

  -- a function has no type
  pub types_fault : (e : ValidFault) → IsFor Index (HasFunctionTypes m) e → HasFault m e
  types_fault Memory h = tt
  types_fault Index h = λ functions are n. h.1 (functions, are)
  types_fault _ h = let is = h.0 in absurd (cc)

  -- an export names nothing, or has the name of another
  pub exports_fault : (functions : List FunctionType) → AreFunctionTypes m functions
      → (e : ValidFault) → JudgesExports {X = Unit {0}} (Err e)
      (AllByRecursion (λ (x : Export). IsExportItemValid m functions x.item) m.exports)
      (HaveDistinctNames m.exports) → HasFault m e
  exports_fault functions are Memory h = tt
  exports_fault functions are Index h =
      part_fault functions are Index (λ w. w) (λ n. n.exports) (λ k. k) h
  exports_fault functions are DuplicateExport h = h
  exports_fault functions are Typing h = absurd h
  exports_fault functions are Limits h = absurd h
