use Rattle.wasi_calls.proofs.Parts.{long_kept}
use Rattle.wasi_calls.proofs.paths.form.is_dropped.Goals as goal

pub returns-in_default : goal.returns-in_default
returns-in_default c = long_kept c.args.part.now c.in_default.len_at_least
