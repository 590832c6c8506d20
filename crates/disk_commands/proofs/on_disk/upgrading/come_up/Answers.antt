use Rattle.std.proofs.Common.{arith, refl}
use Rattle.record_replay.specs.declared.slices.now.Now.TheVariants.{Waiting, Ended, Spent}
use Rattle.disk_commands.proofs.BreakLemmas.{slice_breaks_in}
use Rattle.disk_commands.proofs.HearingLemmas.{slice_hears_up_to}
use Rattle.disk_commands.proofs.TakingLemmas.{slice_heeds}
use Rattle.disk_commands.proofs.LivingLemmas.{slice_fewer}
use Rattle.disk_commands.proofs.UpgradingLemmas.{none_come, come_more, come_last, come_broken}
use Rattle.disk_commands.proofs.on_disk.upgrading.come_up.Goals as goal

pub loop-how-init : goal.loop-how-init
loop-how-init g c =
    none_come g.D.Disk.medium g.S.Source.gives g.O.Outlet.takes 100000 _ c.requires

pub loop-how-smaller : goal.loop-how-smaller
loop-how-smaller g c =
    let runs = c.in-Ok-Spent.ensures.runs c.loop-how.invariant.room in
    slice_fewer g.D.Disk.medium g.S.Source.gives g.O.Outlet.takes c.loop-how.worker
    c.slice.new.self 100000 Spent _ _ _ _ runs.steps.shows (omega (arith))
    (rw c.in-Ok-Spent.field-0-is at runs.steps.done) refl

pub loop-how-preserved : goal.loop-how-preserved
loop-how-preserved g c =
    let runs = c.in-Ok-Spent.ensures.runs c.loop-how.invariant.room in
    come_more g.D.Disk.medium g.S.Source.gives g.O.Outlet.takes _ _ _ c.loop-how.invariant _ _ _ _
    (rw c.in-Ok-Spent.field-0-is at runs.carries)
    runs.steps.shows (omega (arith))
    (rw c.in-Ok-Spent.field-0-is at runs.steps.done)
    runs.steps.room

pub returns-in-Ok-Waiting-clause-comes : goal.returns-in-Ok-Waiting-clause-comes
returns-in-Ok-Waiting-clause-comes g c =
    let runs = c.in-Ok-Waiting.ensures.runs c.loop-how.invariant.room in
    come_last g.D.Disk.medium g.S.Source.gives g.O.Outlet.takes _ _ _ c.loop-how.invariant _ _ _ _
    Waiting (rw c.in-Ok-Waiting.field-0-is at runs.carries)
    runs.steps.shows
    (rw c.in-Ok-Waiting.field-0-is at runs.steps.done)
    (rw c.in-Ok-Waiting.field-0-is at runs.steps.abreast)

pub returns-in-Ok-Ended-clause-comes : goal.returns-in-Ok-Ended-clause-comes
returns-in-Ok-Ended-clause-comes g c =
    let runs = c.in-Ok-Ended.ensures.runs c.loop-how.invariant.room in
    come_last g.D.Disk.medium g.S.Source.gives g.O.Outlet.takes _ _ _ c.loop-how.invariant _ _ _ _
    (Ended c.in-Ok-Ended.how) (rw c.in-Ok-Ended.field-0-is at runs.carries)
    runs.steps.shows
    (rw c.in-Ok-Ended.field-0-is at runs.steps.done)
    (rw c.in-Ok-Ended.field-0-is at runs.steps.abreast)

pub returns-in-Err-clause-comes : goal.returns-in-Err-clause-comes
returns-in-Err-clause-comes g c =
    let runs = c.in-Err.ensures.runs c.loop-how.invariant.room in
    come_broken g.D.Disk.medium g.S.Source.gives g.O.Outlet.takes _ _ _ c.loop-how.invariant _ _ _ _
    c.in-Err.fault runs.carries runs.steps.shows
    (slice_hears_up_to g.S.Source.gives g.O.Outlet.takes 100000 _ _ _ _
    c.loop-how.worker.process c.slice.new.self.process c.in-Err.fault c.loop-how.worker.has_failed
    runs.steps.shows runs.failed (λ e. (c.in-Err.ensures.refused e).3))
    (slice_heeds g.S.Source.gives g.O.Outlet.takes 100000 _ _ _ _
    c.loop-how.worker.process c.slice.new.self.process c.in-Err.fault c.loop-how.worker.has_failed
    runs.steps.shows runs.failed (λ e. (c.in-Err.ensures.refused e).0)
    (λ e. (c.in-Err.ensures.refused e).4))
    (slice_breaks_in g.S.Source.gives g.O.Outlet.takes 100000 _ _ _ _
    c.loop-how.worker.process c.slice.new.self.process c.in-Err.fault c.loop-how.worker.has_failed
    runs.failed (λ e. (c.in-Err.ensures.refused e).0)
    (λ e. (c.in-Err.ensures.refused e).3) (λ e. (c.in-Err.ensures.refused e).4))
    runs.steps.on_any_disk
