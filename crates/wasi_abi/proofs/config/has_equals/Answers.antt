use Rattle.wasi_abi.proofs.ConfigLemmas.{list_any-equals}
use Rattle.wasi_abi.proofs.config.has_equals.Goals as goal

pub returns : goal.returns
returns c = rw c.contains.ensures.value (list_any-equals _)
