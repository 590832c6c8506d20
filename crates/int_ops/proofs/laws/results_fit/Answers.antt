use Rattle.int_ops.proofs.Bounds.{unary_below, binary_below, truth_below, convert_below}
use Rattle.int_ops.proofs.Bounds.{sign_extended_below}
use Rattle.int_ops.proofs.laws.results_fit.Goals as goal

pub returns : goal.returns
returns c = record {
  unary = unary_below;
  binary = binary_below;
  truth = truth_below;
  conversion = convert_below;
  extension = sign_extended_below;
}
