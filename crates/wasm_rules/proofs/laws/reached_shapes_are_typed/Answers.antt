use Rattle.wasm_rules.proofs.TypedShape.{reached_shapes_typed}
use Rattle.wasm_rules.proofs.laws.reached_shapes_are_typed.Goals as goal

pub returns : goal.returns
returns c = reached_shapes_typed
