use Rattle.wasm_validate.proofs.Algorithm.Sound.{sound}
use Rattle.wasm_validate.proofs.Algorithm.Complete.{complete}
use Rattle.wasm_validate.proofs.laws.checking_is_typing.Goals as goal

pub returns-clause-only : goal.returns-clause-only
returns-clause-only c = sound

pub returns-clause-all : goal.returns-clause-all
returns-clause-all c = complete
