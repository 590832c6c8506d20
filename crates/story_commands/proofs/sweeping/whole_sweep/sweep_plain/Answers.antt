use Rattle.std.proofs.Common.{refl}
use Rattle.story_commands.specs.laws.CutRuns.{IsSweepFault}
use Rattle.story_commands.proofs.SweepLemmas.Runs.{all_agree, cut_ends, kept_fault, leaving_ends}
use Rattle.story_commands.proofs.SweepLemmas.Runs.{upgrade_ends}
use Rattle.story_commands.proofs.SweepLemmas.Starts.{is_started}
use Rattle.story_commands.proofs.sweeping.whole_sweep.sweep_plain.Goals as goal

pub returns-in_err-test_taken-clause-failed : goal.returns-in_err-test_taken-clause-failed
returns-in_err-test_taken-clause-failed g c =
    let job = c.args.job.now in
    kept_fault c.from_residual.result c.in_err-test_taken.field-0.0
    (IsSweepFault job.wasm.now job.config.now job.lives.now job.place) c.from_residual.ensures.1
    (leaving_ends job.wasm.now job.config.now job.lives.now job.place c.in_err-test_taken.field-0.0
    c.in_err-test_taken.ensures.failed)

pub returns-in_err-before-clause-failed : goal.returns-in_err-before-clause-failed
returns-in_err-before-clause-failed g c =
    let job = c.args.job.now in
    kept_fault c.from_residual-in_err-before.result c.in_err-before.field-0.0
    (IsSweepFault job.wasm.now job.config.now job.lives.now job.place)
    c.from_residual-in_err-before.ensures.1
    (upgrade_ends job.wasm.now job.config.now job.lives.now job.place c.args.plain.now.run
    c.sweep_of.result c.in_err-before.field-0.0 c.requires.told.is_plain c.sweep_of.ensures.of
    c.in_err-before.ensures)

pub sweep_calls-requires : goal.sweep_calls-requires
sweep_calls-requires g c =
    let job = c.args.job.now in
    let plain = c.args.plain.now in
    is_started job.wasm.now job.config.now job.lives.now job.place plain.run plain.start
    c.sweep_of-sweep.result c.args.calls c.requires.told.is_plain c.requires.told.begun
    c.requires.place c.requires.start c.sweep_of-sweep.ensures.of c.sweep_of-sweep.ensures.start

pub returns-in_err-cuts-clause-failed : goal.returns-in_err-cuts-clause-failed
returns-in_err-cuts-clause-failed g c =
    let job = c.args.job.now in
    kept_fault c.from_residual-in_err-cuts.result c.in_err-cuts.field-0.0
    (IsSweepFault job.wasm.now job.config.now job.lives.now job.place)
    c.from_residual-in_err-cuts.ensures.1
    (cut_ends job.wasm.now job.config.now job.lives.now job.place c.args.plain.now.run
    c.sweep_of-sweep.result c.args.calls c.in_err-cuts.field-0.0 c.requires.told.is_plain
    c.sweep_of-sweep.ensures.of c.requires.told.begun c.in_err-cuts.ensures.failed)

pub returns-in-Some-clause-swept : goal.returns-in-Some-clause-swept
returns-in-Some-clause-swept g c =
    let job = c.args.job.now in
    all_agree job.wasm.now job.config.now job.lives.now job.place job.fronts.now
    c.args.plain.now.run c.args.texts.now c.sweep_of-sweep.result c.args.calls c.in-Some.cuts _
    c.requires.told c.sweep_of-sweep.ensures.of c.sweep_of-sweep.ensures.texts
    c.in_ok-test_taken.ensures.taken (rw c.in-Some.is at c.in_ok-cuts.ensures.swept) refl
