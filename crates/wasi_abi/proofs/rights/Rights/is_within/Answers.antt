use Rattle.std.proofs.Common.{◌∙◌}
use Rattle.wasi_abi.proofs.RightsLemmas.{are_within-mask}
use Rattle.wasi_abi.proofs.rights.Rights.is_within.Goals as goal

pub returns : goal.returns
returns c = c.contains.ensures tt ∙ are_within-mask _ _
