use Rattle.std.proofs.Common.{◌∙◌}
use Rattle.wasi_abi.proofs.RightsLemmas.{has_right-mask}
use Rattle.wasi_abi.proofs.flags.DescriptorFlags.has.Goals as goal

pub returns : goal.returns
returns c = c.contains.ensures tt ∙ has_right-mask _ _ _ c.requires
