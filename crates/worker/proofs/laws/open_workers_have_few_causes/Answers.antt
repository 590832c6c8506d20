use Rattle.worker.proofs.CauseLemmas.{checkpoint_causes, upgrade_causes, disk_faults}
use Rattle.worker.proofs.laws.open_workers_have_few_causes.Goals as goal

pub returns-clause-checkpoints : goal.returns-clause-checkpoints
returns-clause-checkpoints g c =
    checkpoint_causes g.D.Disk.medium c.process_images_fit_areas.ensures

pub returns-clause-upgrades : goal.returns-clause-upgrades
returns-clause-upgrades g c =
    upgrade_causes g.D.Disk.medium c.process_images_fit_areas.ensures

pub returns-clause-disks : goal.returns-clause-disks
returns-clause-disks g c = disk_faults g.D.Disk.medium
