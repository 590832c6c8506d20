use Rattle.worker_store.specs.restart_theorem.Lives.Beginning.{Recovers as recovers}
use Rattle.worker_store.specs.restart_theorem.Lives.{Creates}
use Rattle.worker.proofs.OpeningLemmas.{opens_again, opens_not, opens_anew, opens_none, is_none}
use Rattle.worker.proofs.OpeningLemmas.{is_other}
use Rattle.worker.proofs.story.opening.open_worker.Goals as goal

pub returns-in-Ok-clause-opens : goal.returns-in-Ok-clause-opens
returns-in-Ok-clause-opens g c =
    λ some. (
      opens_again g.D.Disk.medium g.O.Outlet.takes _ _ _ _ some _ _ _ c.in-Ok.ensures.recovers
          c.in-Ok.ensures.carries,
      λ again. c.in-Ok.ensures.recovers,
    )

pub returns-then-not-is_no_worker-clause-opens : goal.returns-then-not-is_no_worker-clause-opens
returns-then-not-is_no_worker-clause-opens g c =
    λ some. (
      recovers,
      opens_not g.D.Disk.medium g.O.Outlet.takes _ _ _ _ some _ _ _
          (is_other _ _ c.is_no_worker.ensures c.if-not-is_no_worker.true)
          c.in-Err.ensures.recovers c.in-Err.ensures.carries,
    )

pub returns-in-Ok-create-clause-opens : goal.returns-in-Ok-create-clause-opens
returns-in-Ok-create-clause-opens g c =
    λ some. (
      opens_anew g.D.Disk.medium g.O.Outlet.takes _ _ _ _ some _ _ _ _
          (is_none _ _ c.is_no_worker.ensures c.if-not-is_no_worker.false)
          c.in-Err.ensures.recovers c.in-Err.ensures.carries _ c.in-Ok-create.ensures.carries,
      λ again. absurd (cc),
    )

pub returns-in-Err-create-clause-opens : goal.returns-in-Err-create-clause-opens
returns-in-Err-create-clause-opens g c =
    λ some. (
      Creates,
      opens_none g.D.Disk.medium g.O.Outlet.takes _ _ _ _ some _ _ _ _
          (is_none _ _ c.is_no_worker.ensures c.if-not-is_no_worker.false)
          c.in-Err.ensures.recovers c.in-Err.ensures.carries _ c.in-Err-create.ensures.carries
          c.in-Err-create.ensures.refused,
    )
