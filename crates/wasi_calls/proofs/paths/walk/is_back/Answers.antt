use Rattle.wasi_calls.proofs.Parts.{short_on, long_on}
use Rattle.wasi_calls.proofs.paths.walk.is_back.Goals as goal

pub returns-in_default : goal.returns-in_default
returns-in_default c = short_on c.args.name.now c.in_default.len_below

pub returns-in_default-2 : goal.returns-in_default-2
returns-in_default-2 c = long_on c.args.name.now c.in_default.len_at_least
