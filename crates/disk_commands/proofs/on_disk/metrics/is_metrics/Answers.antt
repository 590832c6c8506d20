use Rattle.std.proofs.Common.{refl}
use Rattle.std.proofs.lemmas.Bool.{false≢true}
use Rattle.disk_commands.proofs.on_disk.metrics.is_metrics.Goals as goal

pub returns-in-Some : goal.returns-in-Some
returns-in-Some c = (λ yes. (_, c.in-Some.ensures.spelled), λ begins. refl)

pub returns-in-None : goal.returns-in-None
returns-in-None c = (
  λ no. absurd (false≢true no),
  λ (rest, is). absurd (c.in-None.ensures.found rest is),
)
