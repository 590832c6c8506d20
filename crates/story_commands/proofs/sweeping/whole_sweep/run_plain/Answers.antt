use Rattle.story_commands.proofs.SweepLemmas.Starts.{idle_within, plain_started}
use Rattle.story_commands.proofs.sweeping.whole_sweep.run_plain.Goals as goal

pub run_with_start-requires : goal.run_with_start-requires
run_with_start-requires c =
    let job = c.args.job.now in
    idle_within job.lives.now c.in_ok-lives.lives job.place c.requires c.in_ok-lives.ensures

pub returns-in-Some-start-clause-start : goal.returns-in-Some-start-clause-start
returns-in-Some-start-clause-start c =
    let job = c.args.job.now in
    plain_started job.wasm.now job.config.now job.lives.now c.in_ok-lives.lives job.place
    c.in_ok-run.field-0.run.reports c.in-Some-start.start c.requires c.in_ok-lives.ensures
    (rw c.in-Some-start.is at c.in_ok-run.ensures.start)
