use Rattle.std.proofs.Common.{ap, ◌∙◌, arith}
use Rattle.std.proofs.lemmas.Result.{err_from_is_err_and}
use Rattle.process.specs.rules.Values.{ProcessValue}
use Rattle.record_replay.proofs.Played.{begins, begins_in_vain, counts, play_next, play_in_vain}
use Rattle.record_replay.proofs.replaying.play_all.Goals as goal

pub loop-entry-init : goal.loop-entry-init
loop-entry-init g c =
    let all = c.in_ok-release_waiting.ensures.all in
    record {
      played = begins _ _ _ _ _ all;
      guest = ap (λ (v : ProcessValue). v.machine.guest) all.released.is;
    }

pub returns-in_err-release_waiting-clause-stopped :
    goal.returns-in_err-release_waiting-clause-stopped
returns-in_err-release_waiting-clause-stopped g c =
    let p = err_from_is_err_and c.from_residual.result c.from_residual.ensures.1 in
    rw (p.1, p.2) (begins_in_vain _ _ _ _ _ _ c.in_err-release_waiting.ensures.some)

pub returns-in_err-play-clause-stopped : goal.returns-in_err-play-clause-stopped
returns-in_err-play-clause-stopped g c =
    let p = err_from_is_err_and c.from_residual-in_err-play.result
    c.from_residual-in_err-play.ensures.1 in
    rw (p.1, p.2) (play_in_vain _ _ _ _ _ _ _ _ _ c.loop-entry-test.true c.entry-item.is
    c.loop-entry.invariant.played _ c.in_err-play.ensures.stopped)

pub loop-entry-preserved : goal.loop-entry-preserved
loop-entry-preserved g c = record {
  played = play_next _ _ _ _ _ _ _ _ _ c.loop-entry-test.true c.entry-item.is
      c.loop-entry.invariant.played _ c.in_ok-play.ensures.played;
  guest = c.in_ok-play.ensures.guest ∙ c.loop-entry.invariant.guest;
}

pub overflow_sub-result : goal.overflow_sub-result
overflow_sub-result g c =
    let on = counts _ _ _ _ _ _ c.loop-entry.invariant.played c.steps-first.ensures.shows in
    let first = c.steps-first.ensures.value in
    let last = c.steps.ensures.value in
    omega arith

pub returns-clause-counted : goal.returns-clause-counted
returns-clause-counted g c =
    let on = counts _ _ _ _ _ _ c.loop-entry.invariant.played c.steps-first.ensures.shows in
    let first = c.steps-first.ensures.value in
    let last = c.steps.ensures.value in
    omega arith
