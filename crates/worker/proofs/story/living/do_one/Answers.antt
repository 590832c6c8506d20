use Rattle.std.proofs.Common.{refl}
use Rattle.worker_store.specs.restart_theorem.Lives.{Slice, Batch, Checkpoint, Upgrade}
use Rattle.worker.proofs.ActLemmas.{call_is_done, call_fails, quiet_is_done, quiet_fails}
use Rattle.worker.proofs.story.living.do_one.Goals as goal

pub returns-in-Ok-clause-does : goal.returns-in-Ok-clause-does
returns-in-Ok-clause-does g c =
    let runs = c.in-Ok.ensures.runs c.requires in
    rw c.in-Slice.is (call_is_done g.D.Disk.medium g.S.Source.gives g.O.Outlet.takes
    (Slice c.in-Slice.fuel) _ _ _ _ _ _ _ _ c.in-Ok._now runs.carries)

pub returns-in-Err-clause-does : goal.returns-in-Err-clause-does
returns-in-Err-clause-does g c =
    let runs = c.in-Err.ensures.runs c.requires in
    rw c.in-Slice.is (call_fails g.D.Disk.medium g.S.Source.gives g.O.Outlet.takes
    (Slice c.in-Slice.fuel) _ _ _ _ _ _ _ _ c.in-Err.fault runs.carries
    (record { shows = runs.steps.shows; cause = runs.steps.on_any_disk }))

pub returns-in-Ok-batch-clause-does : goal.returns-in-Ok-batch-clause-does
returns-in-Ok-batch-clause-does g c =
    let runs = c.in-Ok-batch.ensures.runs c.requires in
    rw c.in-Batch.is (call_is_done g.D.Disk.medium g.S.Source.gives g.O.Outlet.takes
    (Batch c.in-Batch.fuel c.in-Batch.most) _ _ _ _ _ _ _ _ c.in-Ok-batch._now runs.carries)

pub returns-in-Err-batch-clause-does : goal.returns-in-Err-batch-clause-does
returns-in-Err-batch-clause-does g c =
    let runs = c.in-Err-batch.ensures.runs c.requires in
    rw c.in-Batch.is (call_fails g.D.Disk.medium g.S.Source.gives g.O.Outlet.takes
    (Batch c.in-Batch.fuel c.in-Batch.most) _ _ _ _ _ _ _ _ c.in-Err-batch.fault runs.carries
    (record { shows = runs.steps.shows; cause = runs.steps.on_any_disk }))

pub returns-in-Ok-checkpoint-clause-does : goal.returns-in-Ok-checkpoint-clause-does
returns-in-Ok-checkpoint-clause-does g c =
    let saves = c.in-Ok-checkpoint.ensures.saves c.requires in
    rw (c.in-Checkpoint.is, c.in-Ok-checkpoint.ensures.quiet) (quiet_is_done g.D.Disk.medium
    g.S.Source.gives g.O.Outlet.takes Checkpoint _ _ _ _ _ _ refl tt saves.carries)

pub returns-in-Err-checkpoint-clause-does : goal.returns-in-Err-checkpoint-clause-does
returns-in-Err-checkpoint-clause-does g c =
    let saves = c.in-Err-checkpoint.ensures.saves c.requires in
    rw (c.in-Checkpoint.is, c.in-Err-checkpoint.ensures.quiet) (quiet_fails g.D.Disk.medium
    g.S.Source.gives g.O.Outlet.takes Checkpoint _ _ _ _ _ _ refl c.in-Err-checkpoint.fault
    saves.carries (record { shows = saves.keeps.shows; cause = saves.on_any_disk }))

pub returns-in-Ok-upgrade-clause-does : goal.returns-in-Ok-upgrade-clause-does
returns-in-Ok-upgrade-clause-does g c =
    let upgrades = c.in-Ok-upgrade.ensures.upgrades c.requires in
    rw (c.in-Upgrade.is, c.in-Ok-upgrade.ensures.quiet) (quiet_is_done g.D.Disk.medium
    g.S.Source.gives g.O.Outlet.takes Upgrade _ _ _ _ _ _ refl tt upgrades.carries)

pub returns-in-Err-upgrade-clause-does : goal.returns-in-Err-upgrade-clause-does
returns-in-Err-upgrade-clause-does g c =
    let upgrades = c.in-Err-upgrade.ensures.upgrades c.requires in
    rw (c.in-Upgrade.is, c.in-Err-upgrade.ensures.quiet) (quiet_fails g.D.Disk.medium
    g.S.Source.gives g.O.Outlet.takes Upgrade _ _ _ _ _ _ refl c.in-Err-upgrade.fault
    upgrades.carries
    (record { shows = upgrades.keeps.shows; cause = (upgrades.on_any_disk, upgrades.leaves) }))
