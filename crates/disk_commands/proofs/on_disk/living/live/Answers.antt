use Rattle.record_replay.specs.declared.slices.now.Now.TheVariants.{Waiting, Ended}
use Rattle.worker.specs.rules.Scenes.{scene}
use Rattle.disk_commands.proofs.LivingLemmas.{round_more, round_last, round_broken}
use Rattle.disk_commands.proofs.on_disk.living.live.Goals as goal

pub loop-how-preserved : goal.loop-how-preserved
loop-how-preserved g c =
    round_more g.D.Disk.medium g.S.Source.gives g.O.Outlet.takes _ _ _ _ c.loop-how.invariant _
    c.in-Ok-Spent.ensures.room
    (rw c.in-Ok-Spent.field-0-is at c.in-Ok-Spent.ensures.done)

pub returns-in-Ok-Waiting-clause-lives : goal.returns-in-Ok-Waiting-clause-lives
returns-in-Ok-Waiting-clause-lives g c =
    round_last g.D.Disk.medium g.S.Source.gives g.O.Outlet.takes _ _ _ _ c.loop-how.invariant
    Waiting (scene c.round.new.worker c.round.new.disk c.round.new.source c.round.new.outlet)
    (rw c.in-Ok-Waiting.field-0-is at c.in-Ok-Waiting.ensures.done)

pub returns-in-Ok-Ended-clause-lives : goal.returns-in-Ok-Ended-clause-lives
returns-in-Ok-Ended-clause-lives g c =
    round_last g.D.Disk.medium g.S.Source.gives g.O.Outlet.takes _ _ _ _ c.loop-how.invariant
    (Ended c.in-Ok-Ended.how)
    (scene c.round.new.worker c.round.new.disk c.round.new.source c.round.new.outlet)
    (rw c.in-Ok-Ended.field-0-is at c.in-Ok-Ended.ensures.done)

pub returns-in-Err-clause-lives : goal.returns-in-Err-clause-lives
returns-in-Err-clause-lives g c =
    round_broken g.D.Disk.medium g.S.Source.gives g.O.Outlet.takes _ _ _ _ c.loop-how.invariant
    c.in-Err.fault _ c.in-Err.ensures.failed
