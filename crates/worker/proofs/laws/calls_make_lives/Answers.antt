use Rattle.worker.proofs.LifeLemmas.Living.{calls_make_lives, anything_comes_true}
use Rattle.worker.proofs.laws.calls_make_lives.Goals as goal

pub returns-clause-made : goal.returns-clause-made
returns-clause-made g c =
    calls_make_lives g.D.Disk.medium g.S.Source.gives g.O.Outlet.takes
    c.process_images_fit_areas.ensures

pub returns-clause-put_in : goal.returns-clause-put_in
returns-clause-put_in g c = anything_comes_true
