use Rattle.std.proofs.Common.{◌≡◌, List, subst}
use Rattle.std.specs.Prelude.{Some}
use Rattle.worker.specs.declared.story.report.LifeEnd.TheVariants.{Failed}
use Rattle.worker.specs.declared.story.report.LifeReport.{LifeReport}
use Rattle.story_commands.specs.rules.Sweeps.{end_at}
use Rattle.story_commands.proofs.SweepLemmas.Runs.{plan_failed}
use Rattle.story_commands.proofs.sweeping.whole_sweep.plan_fault.Goals as goal

pub returns-in-Some : goal.returns-in-Some
returns-in-Some c =
    let job = c.args.job.now in
    let place = c.args.place in
    let why = c.in-Some.why in
    plan_failed job.wasm.now job.config.now job.lives.now c.args.run place why c.requires
    c.in-Some.ensures.within
    (subst (λ (reports : List LifeReport). end_at place reports ≡ Some (Failed why))
    c.as_slice.ensures c.in-Some.ensures.failed)
