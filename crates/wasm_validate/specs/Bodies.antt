-- What is said of bodies in a module.
use Rattle.std.specs.Prelude.{IfErr, List, Result}
use Rattle.std.specs.List.{AllByRecursion}
use Rattle.wasm_syntax.specs.declared.types.FunctionType.{FunctionType}
use Rattle.wasm_syntax.specs.declared.module.Module.{Module}
use Rattle.wasm_rules.specs.Validity.{IsFunctionTypeValid, module_context}
use Rattle.wasm_validate.specs.declared.parts.context.ModuleContext.{ModuleContext}
use Rattle.wasm_validate.specs.declared.parts.fault.ValidFault.{ValidFault}
use Rattle.wasm_validate.specs.rules.Answers.{Judges}
use Rattle.wasm_validate.specs.Parts.Contexts.{IsContextOf}

-- Ok exactly where P holds, as far as memory goes, of each module with this context and of the
-- types of its functions, where its types are valid
abbrev pub JudgesIn : {X : Type 0} → ModuleContext → Result X ValidFault
    → (Module → List FunctionType → Type 0) → Type 0
JudgesIn code r P =
    (m : Module) (functions : List FunctionType) → IsContextOf (module_context m functions) code
    → AllByRecursion IsFunctionTypeValid m.types
    → Judges r (P m functions)

-- a fault says this of each such module
abbrev pub FaultIn : {X : Type 0} → ModuleContext → Result X ValidFault
    → (Module → List FunctionType → ValidFault → Type 0) → Type 0
FaultIn code r P =
    (m : Module) (functions : List FunctionType) → IsContextOf (module_context m functions) code
    → AllByRecursion IsFunctionTypeValid m.types
    → IfErr r (P m functions)
