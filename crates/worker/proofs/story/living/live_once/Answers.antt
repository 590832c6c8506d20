use Rattle.worker.proofs.OpeningLemmas.{lives_on, lives_shut}
use Rattle.worker.proofs.story.living.live_once.Goals as goal

pub returns-in-Ok : goal.returns-in-Ok
returns-in-Ok g c =
    lives_on g.D.Disk.medium g.S.Source.gives g.O.Outlet.takes _ _ _ _ _ _ _ _ _ _ _
    c.in-Ok.opened c.go_on.result c.in-Ok.ensures.opens c.go_on.ensures.done c.go_on.ensures.told
    c.go_on.ensures.generation

pub returns-in-Err : goal.returns-in-Err
returns-in-Err g c =
    λ some. lives_shut g.D.Disk.medium g.S.Source.gives g.O.Outlet.takes _ _ _ _ _ _ _ _
    c.in-Err.fault (c.in-Err.ensures.opens some)
