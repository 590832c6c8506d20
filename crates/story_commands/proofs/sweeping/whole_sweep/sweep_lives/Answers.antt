use Rattle.story_commands.specs.laws.CutRuns.{IsSweepFault}
use Rattle.story_commands.proofs.SweepLemmas.Runs.{kept_fault, plain_ends, plan_ends}
use Rattle.story_commands.proofs.sweeping.whole_sweep.sweep_lives.Goals as goal

pub returns-in_err-plain-clause-failed : goal.returns-in_err-plain-clause-failed
returns-in_err-plain-clause-failed g c =
    let job = c.args.job.now in
    kept_fault c.from_residual.result c.in_err-plain.field-0.0
    (IsSweepFault job.wasm.now job.config.now job.lives.now job.place) c.from_residual.ensures.1
    (plan_ends job.wasm.now job.config.now job.lives.now job.place c.in_err-plain.field-0.0
    c.in_err-plain.ensures.failed)

pub returns-in_default-clause-failed : goal.returns-in_default-clause-failed
returns-in_default-clause-failed g c =
    let job = c.args.job.now in
    plain_ends job.wasm.now job.config.now job.lives.now job.place
    c.in_ok-plain.plain.run c.in_ok-plain.ensures.run

pub returns-in_default-calls_at-clause-failed : goal.returns-in_default-calls_at-clause-failed
returns-in_default-calls_at-clause-failed g c =
    let job = c.args.job.now in
    plain_ends job.wasm.now job.config.now job.lives.now job.place
    c.in_ok-plain.plain.run c.in_ok-plain.ensures.run
