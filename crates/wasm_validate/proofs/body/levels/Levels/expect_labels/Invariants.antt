use Rattle.std.proofs.Common.{◌≡◌, drop}
use Rattle.wasm_rules.specs.Types.{results_of}
use Rattle.wasm_validate.specs.laws.Checking.{labels_of, are_labels}
use Rattle.wasm_validate.specs.laws.FirstFault.{labels_fault}
use Rattle.wasm_validate.proofs.body.levels.Levels.expect_labels.Given as goal

abbrev pub invariant-loop-label : goal.invariant-loop-label
invariant-loop-label l = record {
  test : are_labels (labels_of l.self) (results_of l.takes) l.labels
      ≡ are_labels (labels_of l.self) (results_of l.takes) (drop l.label-index l.labels);
  fault : labels_fault (labels_of l.self) (results_of l.takes) l.labels
      ≡ labels_fault (labels_of l.self) (results_of l.takes) (drop l.label-index l.labels);
}
