use Rattle.std.proofs.Common.{◌≡◌, drop}
use Rattle.std.specs.Prelude.{slice_get}
use Rattle.machine.proofs.InstanceLemmas.FunctionTypes.{all_types}
use Rattle.machine.proofs.instance.exports.function_type_index.Given as goal

abbrev pub invariant-loop-import : goal.invariant-loop-import
invariant-loop-import l = slice_get (all_types l.module.imports l.module.functions) l.function
    ≡ slice_get (all_types (drop l.import-index l.module.imports) l.module.functions) l.index_left
