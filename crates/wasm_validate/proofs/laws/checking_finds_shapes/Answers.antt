use Rattle.wasm_validate.proofs.Algorithm.Reaching.{finds_shapes}
use Rattle.wasm_validate.proofs.laws.checking_finds_shapes.Goals as goal

pub returns : goal.returns
returns c = finds_shapes
