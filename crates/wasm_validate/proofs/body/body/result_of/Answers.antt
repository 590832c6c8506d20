use Rattle.std.proofs.Common.{◌≡◌, ◌≤◌, List, [], ◌∷◌, length, refl, ap, ◌∙◌, arith}
use Rattle.std.specs.Prelude.{slice_get, reverse}
use Rattle.wasm_syntax.specs.declared.types.ValueType.{ValueType}
use Rattle.wasm_rules.specs.Types.{results_of}
use Rattle.wasm_validate.proofs.body.body.result_of.Goals as goal

only_result : (results : List ValueType) → length results ≤ 1
    → results_of (slice_get results 0) ≡ reverse results
only_result [] h = refl
only_result (t ∷ []) h = refl
only_result (t ∷ u ∷ results) h = absurd (omega arith)

pub returns : goal.returns
returns c = ap results_of (c.copied.ensures ∙ c.get.ensures)
    ∙ only_result c.args.function_type.now.results c.requires
