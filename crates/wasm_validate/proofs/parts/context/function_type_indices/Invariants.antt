use Rattle.std.proofs.Common.{◌≡◌, ◌++◌, drop, map}
use Rattle.wasm_rules.specs.Types.{imported_functions}
use Rattle.wasm_syntax.specs.rules.Modules.{function_type_of}
use Rattle.wasm_validate.proofs.parts.context.function_type_indices.Given as goal

abbrev pub invariant-loop-import : goal.invariant-loop-import
invariant-loop-import l =
    l.indices.items ++ imported_functions (drop l.import-index l.module.imports)
    ≡ imported_functions l.module.imports

abbrev pub invariant-loop-function : goal.invariant-loop-function
invariant-loop-function l =
    l.indices.items ++ map function_type_of (drop l.function-index l.module.functions)
    ≡ imported_functions l.module.imports ++ map function_type_of l.module.functions
