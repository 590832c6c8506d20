use Rattle.std.proofs.Common.{ap, ◌∙◌}
use Rattle.std.proofs.lemmas.Result.{err_from_is_err_and}
use Rattle.process.specs.rules.Values.{ProcessValue}
use Rattle.record_replay.proofs.Played.{given_in_vain, played, told_in_vain}
use Rattle.record_replay.proofs.replaying.play.Goals as goal

pub returns-in_err-give-clause-stopped : goal.returns-in_err-give-clause-stopped
returns-in_err-give-clause-stopped g c =
    let p = err_from_is_err_and c.from_residual-in_err-give.result
    c.from_residual-in_err-give.ensures.1 in
    rw (p.1, p.2) (given_in_vain _ _ _ c.give.new.self c.args.entry.now _ _
    c.in_ok-run_to_step.ensures.done c.in_err-give.field-0.0
    c.in_err-give.ensures.gives)

pub returns-in_err-release_waiting-clause-stopped :
    goal.returns-in_err-release_waiting-clause-stopped
returns-in_err-release_waiting-clause-stopped g c =
    let p = err_from_is_err_and c.from_residual-in_err-release_waiting.result
    c.from_residual-in_err-release_waiting.ensures.1 in
    rw (p.1, p.2) (told_in_vain _ _ _ c.give.new.self c.args.entry.now _ _
    c.in_ok-run_to_step.ensures.done
    c.in_ok-give.ensures.gives
    c.in_ok-give.ensures.released _ _ c.in_err-release_waiting.ensures.some)

pub returns-clause-played : goal.returns-clause-played
returns-clause-played g c =
    played _ _ _ c.give.new.self c.args.entry.now _ _ c.in_ok-run_to_step.ensures.done
    c.in_ok-give.ensures.gives
    c.in_ok-give.ensures.released _ _ c.in_ok-release_waiting.ensures.all

pub returns-clause-guest : goal.returns-clause-guest
returns-clause-guest g c =
    let all = c.in_ok-release_waiting.ensures.all in
    ap (λ (v : ProcessValue). v.machine.guest) all.released.is ∙ c.in_ok-give.ensures.guest
    ∙ c.in_ok-run_to_step.ensures.guest
