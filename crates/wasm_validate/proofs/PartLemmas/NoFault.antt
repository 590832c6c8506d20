-- A valid module has no fault.
use Rattle.std.proofs.Common.{◌≡◌, inl, inr, ℕ, List, [], ◌∷◌, ◌++◌, map, Option, Some, None, refl}
use Rattle.std.proofs.Common.{sym, subst}
use Rattle.std.specs.Prelude.{IfSome}
use Rattle.std.specs.List.{AllByRecursion}
use Rattle.std.proofs.lemmas.List.{append-nil}
use Rattle.std.proofs.lemmas.Option.{slice_get_within}
use Rattle.wasm_syntax.specs.declared.types.ValueType.{ValueType}
use Rattle.wasm_syntax.specs.declared.types.ValueType.TheVariants.{I32}
use Rattle.wasm_syntax.specs.declared.types.FunctionType.{FunctionType}
use Rattle.wasm_syntax.specs.declared.types.GlobalType.{GlobalType}
use Rattle.wasm_syntax.specs.declared.instruction.Instruction.{Instruction}
use Rattle.wasm_syntax.specs.declared.module.Module.{Module}
use Rattle.wasm_syntax.specs.declared.module.Function.{Function}
use Rattle.wasm_syntax.specs.declared.module.Global.{Global}
use Rattle.wasm_syntax.specs.declared.module.Element.{Element}
use Rattle.wasm_syntax.specs.declared.module.Data.{Data}
use Rattle.wasm_syntax.specs.rules.Modules.{function_type_of}
use Rattle.wasm_rules.specs.Types.{imported_functions, imported_globals}
use Rattle.wasm_rules.specs.Validity.{IsConstant, IsDataValid, IsElementValid}
use Rattle.wasm_rules.specs.Validity.{IsFunctionValid, IsGlobalValid, IsIndex, IsStartValid}
use Rattle.wasm_rules.specs.Validity.{IsValid, globals_of, module_context}
use Rattle.wasm_rules.proofs.OneProgram.{one_list}
use Rattle.wasm_validate.specs.declared.parts.fault.ValidFault.{ValidFault}
use Rattle.wasm_validate.specs.declared.parts.fault.ValidFault.TheVariants.{Typing, Index, Limits}
use Rattle.wasm_validate.specs.declared.parts.fault.ValidFault.TheVariants.{DuplicateExport, Memory}
use Rattle.wasm_validate.specs.rules.Faults.{AreDataIndicesDefined, AreElementIndicesDefined}
use Rattle.wasm_validate.specs.rules.Faults.{AreFunctionIndicesDefined, AreIndicesDefined}
use Rattle.wasm_validate.specs.rules.Faults.{AreLimitsKept, HasFault, IsFunctionAligned}
use Rattle.wasm_validate.specs.rules.Faults.{NamesGlobal, WouldBeConstant, WouldBeGlobal}
use Rattle.wasm_validate.specs.rules.Faults.{WouldBeStart, WouldBeTyped, WouldHaveType}
use Rattle.wasm_validate.proofs.BodyLemmas.NoFault.{accesses_aligned, indices_defined}
use Rattle.wasm_validate.proofs.BodyLemmas.NoFault.{would_have_body}

each : {X : Type 0} (P Q : X → Type 0) (xs : List X) → ((x : X) → P x → Q x) → AllByRecursion P xs
    → AllByRecursion Q xs
each P Q [] f h = tt
each P Q (x ∷ xs) f h = (f x h.0, each P Q xs f h.1)

would_be_constant : (globals : List GlobalType) (expression : List Instruction) (t : ValueType)
    → IsConstant globals expression t → WouldBeConstant globals expression t
would_be_constant globals expression t h =
    let P : List GlobalType → Type 0 = λ z. IsConstant z expression t in
    ([], subst P (sym (append-nil globals)) h)

constant_named : (globals : List GlobalType) (expression : List Instruction) (t : ValueType)
    → IsConstant globals expression t → NamesGlobal globals expression
constant_named globals expression t (inl (v, of, is)) x e = absurd (cc)
constant_named globals expression t (inr (y, g, there, fixed, type_is, is)) x e =
    let same : y ≡ x = cc in subst (λ z. IsIndex globals z) same
    (slice_get_within globals y g there)

would_be_start : (functions : List FunctionType) (start : Option ℕ) → IsStartValid functions start
    → WouldBeStart functions start
would_be_start functions start h =
    let P : List FunctionType
    → Type 0 = λ z. IsStartValid z start in ([], subst P (sym (append-nil functions)) h)

start_named : (functions : List FunctionType) (start : Option ℕ) → IsStartValid functions start
    → IfSome start (IsIndex functions)
start_named functions None h = tt
start_named functions (Some x) h = slice_get_within functions x h.0 h.1

module _ (m : Module) (v : IsValid m) where
  would_have_type : (f : Function) → IsFunctionValid m v.functions f → WouldHaveType m v.functions f
  would_have_type f h =
      (h.0, h.2, would_have_body (module_context m v.functions) h.0 f.code h.1 h.3 h.4)

  function_defined : (f : Function) → IsFunctionValid m v.functions f
      → AreFunctionIndicesDefined m v.functions f
  function_defined f h =
      (h.0, h.2, indices_defined (module_context m v.functions) h.0 f.code h.1 h.3 h.4)

  function_aligned : (f : Function) → IsFunctionValid m v.functions f → IsFunctionAligned f
  function_aligned f h = accesses_aligned (module_context m v.functions) h.0 f.code h.1 h.3 h.4

  would_be_typed : WouldBeTyped m v.functions
  would_be_typed = record {
    globals =
        each (IsGlobalValid m) (WouldBeGlobal m) m.globals
        (λ g h. would_be_constant
        (imported_globals m.imports) g.initial g.global_type.value_type h) v.globals;
    start = would_be_start v.functions m.start v.start;
    elements =
        each (IsElementValid m v.functions)
        (λ (e : Element). WouldBeConstant (globals_of m) e.offset I32) m.elements
        (λ e h. would_be_constant (globals_of m) e.offset I32 h.1) v.elements;
    data_segments =
        each (IsDataValid m) (λ (d : Data). WouldBeConstant
        (globals_of m) d.offset I32) m.data_segments
        (λ d h. would_be_constant (globals_of m) d.offset I32 h.1) v.data_segments;
    bodies =
        each (IsFunctionValid m v.functions)
        (WouldHaveType m v.functions) m.functions would_have_type v.bodies;
  }

  are_defined : AreIndicesDefined m v.functions
  are_defined = record {
    globals =
        each (IsGlobalValid m) (λ (g : Global). NamesGlobal
        (imported_globals m.imports) g.initial) m.globals
        (λ g h. constant_named
        (imported_globals m.imports) g.initial g.global_type.value_type h) v.globals;
    exports = v.exports;
    start = start_named v.functions m.start v.start;
    elements =
        each (IsElementValid m v.functions) (AreElementIndicesDefined m v.functions) m.elements
        (λ e h. (h.0, constant_named (globals_of m) e.offset I32 h.1, h.2)) v.elements;
    data_segments =
        each (IsDataValid m) (AreDataIndicesDefined m) m.data_segments
        (λ d h. (h.0, constant_named (globals_of m) d.offset I32 h.1)) v.data_segments;
    bodies =
        each (IsFunctionValid m v.functions)
        (AreFunctionIndicesDefined m v.functions) m.functions function_defined v.bodies;
  }

  are_kept : AreLimitsKept m
  are_kept =
      search (each (IsFunctionValid m v.functions) IsFunctionAligned m.functions function_aligned
      v.bodies)

  pub no_fault : (fault : ValidFault) → HasFault m fault → fault ≡ Memory
  no_fault Memory h = refl
  no_fault Typing h =
      let T : List FunctionType → Type 0 = WouldBeTyped m in
      absurd (h.2 (subst T (one_list m.types
      (imported_functions m.imports
      ++ map function_type_of m.functions) v.functions h.0 v.function_types h.1)
      would_be_typed))
  no_fault Index h = absurd (h v.functions v.function_types are_defined)
  no_fault Limits h = absurd (h are_kept)
  no_fault DuplicateExport h = absurd (h v.names)
