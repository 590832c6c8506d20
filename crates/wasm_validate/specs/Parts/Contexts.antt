-- What a context of the code stands for.
use Rattle.std.specs.Prelude.{◌≡◌, ◌↔◌, ℕ, IsTrue, List}
use Rattle.wasm_syntax.specs.declared.types.FunctionType.{FunctionType}
use Rattle.wasm_syntax.specs.declared.module.Module.{Module}
use Rattle.wasm_rules.specs.Typing.{Context as Typing, HasTable, HasMemory}
use Rattle.wasm_rules.specs.Validity.{AreTypesAt, AreFunctionTypes, module_context}
use Rattle.wasm_validate.specs.declared.parts.context.ModuleContext.{ModuleContext}

-- what typing looks up is what the code looks up
pub record IsContextOf (c : Typing) (code : ModuleContext) : Type 0 where
  pub types : code.types.now ≡ c.types
  pub functions : AreTypesAt c.types code.function_types.items c.functions
  pub globals : code.globals.items ≡ c.globals
  pub table : IsTrue code.has_table ↔ HasTable c
  pub memory : IsTrue code.has_memory ↔ HasMemory c

-- each function has a type
abbrev pub HaveTypes : List FunctionType → List ℕ → Type 0
HaveTypes types indices = (functions : List FunctionType) × AreTypesAt types indices functions

abbrev pub HasFunctionTypes : Module → Type 0
HasFunctionTypes m = (functions : List FunctionType) × AreFunctionTypes m functions

-- what bodies of this module look up
abbrev pub IsContextOfModule : Module → ModuleContext → Type 0
IsContextOfModule m code = (functions : List FunctionType) → AreFunctionTypes m functions
    → IsContextOf (module_context m functions) code
