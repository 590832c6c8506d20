-- A module has one program under a limit of pages, and one list of function types.
use Rattle.std.proofs.Common.{◌≡◌, ℕ, List, ◌++◌, sym, ◌∙◌}
use Rattle.std.specs.Prelude.{map}
use Rattle.wasm_syntax.specs.declared.types.FunctionType.{FunctionType}
use Rattle.wasm_syntax.specs.declared.module.Module.{Module}
use Rattle.wasm_rules.specs.Types.{imported_functions}
use Rattle.wasm_syntax.specs.rules.Modules.{function_type_of}
use Rattle.wasm_rules.specs.Configuration.{Program}
use Rattle.wasm_rules.proofs.OneProgram as program
use Rattle.machine.specs.rules.Values.{IsProgramIn}

module _ (m : Module) (most : ℕ) (fs gs : List FunctionType) (p q : Program)
    (a : IsProgramIn m most fs p) (b : IsProgramIn m most gs q) where
  pub one_program : p ≡ q
  one_program = program.one_program m a.pages b.pages p q a.is_program b.is_program (a.most
      ∙ sym b.most)

  pub one_list : fs ≡ gs
  one_list = program.one_list m.types (imported_functions m.imports
      ++ map function_type_of m.functions) fs gs a.types b.types
