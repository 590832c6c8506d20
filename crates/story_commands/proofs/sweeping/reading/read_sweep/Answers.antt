use Rattle.std.proofs.Common.{ℕ, List, subst}
use Rattle.worker.specs.declared.story.life.PlannedLife.{PlannedLife}
use Rattle.story_commands.specs.rules.Sweeps.{IsSweptLife}
use Rattle.story_commands.proofs.sweeping.reading.read_sweep.Goals as goal

pub returns-in-None-clause-fault : goal.returns-in-None-clause-fault
returns-in-None-clause-fault c = (
  c.in-Ok.lives,
  c.in-Ok.ensures.read,
  subst (λ (lives : List PlannedLife). (place : ℕ) → IsSweptLife lives c.args.number place → ⊥)
      c.as_slice.ensures (rw c.in-None.is at c.swept_place.ensures.none),
)
