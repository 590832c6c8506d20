use Rattle.std.proofs.Common.{◌∙◌}
use Rattle.wasi_abi.proofs.RightsLemmas.{are_within-mask, has_right-mask}
use Rattle.wasi_abi.proofs.rights.Rights.has.Goals as goal

pub returns-clause-all : goal.returns-clause-all
returns-clause-all c = c.contains.ensures tt ∙ are_within-mask _ _

pub returns-clause-one : goal.returns-clause-one
returns-clause-one c bit e = c.contains.ensures tt ∙ has_right-mask _ bit _ e
