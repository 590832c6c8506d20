use Rattle.wasm_rules.proofs.Heights.{heights_small}
use Rattle.wasm_rules.proofs.laws.heights_are_small.Goals as goal

pub returns : goal.returns
returns c = heights_small
