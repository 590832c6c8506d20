use Rattle.std.proofs.Common.{◌≡◌, ◌++◌, drop, map}
use Rattle.wasm_rules.specs.Types.{imported_globals, global_type_of}
use Rattle.wasm_rules.specs.Validity.{globals_of}
use Rattle.wasm_validate.proofs.parts.context.global_types.Given as goal

abbrev pub invariant-loop-import : goal.invariant-loop-import
invariant-loop-import l = l.types.items ++ imported_globals (drop l.import-index l.module.imports)
    ≡ imported_globals l.module.imports

abbrev pub invariant-loop-global : goal.invariant-loop-global
invariant-loop-global l = l.types.items ++ map global_type_of (drop l.global-index l.module.globals)
    ≡ globals_of l.module
