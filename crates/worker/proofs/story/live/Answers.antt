use Rattle.std.proofs.Common.{◌∙◌, ap}
use Rattle.worker.specs.declared.story.hearing.HeardLines.{HeardLines}
use Rattle.worker.proofs.GoingLemmas.{ended_lives_are_told}
use Rattle.worker.proofs.RunLemmas.{ended_lives_are_run}
use Rattle.worker.proofs.story.live.Goals as goal

pub returns-in-Ok-clause-lives : goal.returns-in-Ok-clause-lives
returns-in-Ok-clause-lives c =
    ended_lives_are_told c.args.spelled.wasm.now c.args.spelled.config.now c.args.life.now
    c.args.disk c.new-disk.result c.live_once.new.disk c.new-outlet.result c.live_once.new.outlet
    c.live_once.new.source c.new-source.result c.as_slice-acts.result.now c.in-Ok.lived
    c.end_life.result c.new-disk.ensures.below c.new-disk.ensures.stop c.new-disk.ensures.fail
    c.new-disk.ensures.calls
    (ap (λ (h : HeardLines). h.lines) c.new-outlet.ensures.inside ∙ c.new.ensures.none)
    (c.new-outlet.ensures.until_fault ∙ c.number_refused.ensures)
    (c.new-source.ensures ∙ c.into_vec.ensures ∙ c.in_ok-answers.ensures ∙ c.as_slice.ensures)
    c.as_slice-acts.ensures c.in-Ok.ensures c.end_life.ensures c.calls_make_lives.ensures.made

pub returns-in-Ok-clause-run : goal.returns-in-Ok-clause-run
returns-in-Ok-clause-run c =
    ended_lives_are_run c.args.spelled.wasm.now c.args.spelled.config.now c.args.life.now
    c.args.disk c.new-disk.result c.live_once.new.disk c.new-outlet.result c.live_once.new.outlet
    c.live_once.new.source c.new-source.result c.as_slice-acts.result.now c.in-Ok.lived
    c.end_life.result (record {
      below = c.new-disk.ensures.below;
      stop = c.new-disk.ensures.stop;
      fail = c.new-disk.ensures.fail;
      none_begun = c.new-disk.ensures.calls;
    })
    (ap (λ (h : HeardLines). h.lines) c.new-outlet.ensures.inside ∙ c.new.ensures.none)
    (c.new-outlet.ensures.until_fault ∙ c.number_refused.ensures)
    (c.new-source.ensures ∙ c.into_vec.ensures ∙ c.in_ok-answers.ensures ∙ c.as_slice.ensures)
    c.as_slice-acts.ensures c.in-Ok.ensures c.end_life.ensures
