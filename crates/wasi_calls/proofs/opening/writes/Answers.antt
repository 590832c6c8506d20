use Rattle.std.proofs.Common.{refl}
use Rattle.wasi_calls.proofs.opening.writes.Goals as goal

pub returns : goal.returns
returns c = c.has.ensures.one 6 refl
