use Rattle.worker.proofs.LifeLemmas.Replying.{lives_end_as_said}
use Rattle.worker.proofs.LifeLemmas.Uncut.{lives_go_on_uncut}
use Rattle.disk_commands.specs.rules.ServedOnDisk.{handing}
use Rattle.disk_commands.proofs.laws.lives_on_disk_go_on.Goals as goal

pub returns-clause-goes_on : goal.returns-clause-goes_on
returns-clause-goes_on g c =
    lives_go_on_uncut g.D.Disk.medium handing g.O.Outlet.takes c.process_images_fit_areas.ensures

pub returns-clause-ended : goal.returns-clause-ended
returns-clause-ended g c = lives_end_as_said g.D.Disk.medium handing g.O.Outlet.takes
