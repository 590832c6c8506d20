use Rattle.worker.proofs.LifeLemmas.Uncut.{lives_go_on_uncut}
use Rattle.worker.proofs.laws.uncut_lives_go_on.Goals as goal

pub returns : goal.returns
returns g c =
    lives_go_on_uncut g.D.Disk.medium g.S.Source.gives g.O.Outlet.takes
    c.process_images_fit_areas.ensures
