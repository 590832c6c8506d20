use Rattle.std.proofs.Common.{length, ap, ◌∙◌}
use Rattle.wasm_validate.proofs.BodyLemmas.KnownTypes.{known_count}
use Rattle.wasm_validate.proofs.body.types.OperandTypes.len.Goals as goal

pub returns : goal.returns
returns c = known_count c.self.inside.known.now c.self.invariant ∙ ap length c.self.view_is
