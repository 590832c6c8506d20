use Rattle.std.proofs.Common.{List, ◌++◌, map, subst}
use Rattle.std.specs.List.{AllByRecursion}
use Rattle.wasm_syntax.specs.declared.types.FunctionType.{FunctionType}
use Rattle.wasm_rules.specs.Types.{imported_functions}
use Rattle.wasm_syntax.specs.rules.Modules.{function_type_of}
use Rattle.wasm_rules.specs.Validity.{IsFunctionValid}
use Rattle.wasm_validate.specs.Parts.Parts.{IsValidButBodies}
use Rattle.wasm_rules.proofs.OneProgram.{one_list}
use Rattle.wasm_validate.proofs.laws.parts_are_validity.Goals as goal

pub returns-clause-needed : goal.returns-clause-needed
returns-clause-needed c = λ m functions are v.
    let e = one_list m.types (imported_functions m.imports
    ++ map function_type_of m.functions) v.functions functions v.function_types are in
    let P : List FunctionType → Type 0 = λ fs. IsValidButBodies m fs
    × AllByRecursion (IsFunctionValid m fs) m.functions in
    subst P e (search)
