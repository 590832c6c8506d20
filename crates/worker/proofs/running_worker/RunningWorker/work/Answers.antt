use Rattle.std.proofs.Common.{◌-◌, ap, arith, refl, Bool, Ok, Err}
use Rattle.std.proofs.lemmas.Result.{err_from_is_err_and}
use Rattle.record_replay.proofs.Ending.{turning_counts, spent, over}
use Rattle.worker.proofs.DurableLemmas.Slicing.{in_slice_none, spent_on, over_on, vain_on}
use Rattle.worker.proofs.DurableLemmas.Slicing.{flushed_on, flushed_less, unflushed_on, given_on}
use Rattle.worker.proofs.DurableLemmas.Slicing.{given_lower, waits_done, waits_shown, waits_on}
use Rattle.worker.proofs.DurableLemmas.Slicing.{unasked_on, vain_stops, turn_runs, vain_so_far}
use Rattle.worker.proofs.DurableLemmas.Slicing.{unflushed_so_far, unasked_so_far}
use Rattle.worker.proofs.running_worker.RunningWorker.work.Goals as goal

pub loop-self-init : goal.loop-self-init
loop-self-init g c =
    in_slice_none g.D.Disk.medium g.S.Source.gives g.O.Outlet.takes c.args.self.now c.args.fuel
    c.steps-first.result c.args.disk.now c.args.source.now c.args.outlet.now
    c.requires.none_waits c.steps-first.ensures.shows c.steps-first.ensures.value

pub overflow_sub-fuel_left : goal.overflow_sub-fuel_left
overflow_sub-fuel_left g c =
    let i = c.loop-self.invariant in
    let counts = turning_counts _ _ _ _ _ _ _ _ _ _ i.turning in
    let first = counts.0 in
    let is = c.steps.ensures.value in
    omega arith

pub overflow_sub-fuel_left-in-loop-self : goal.overflow_sub-fuel_left-in-loop-self
overflow_sub-fuel_left-in-loop-self g c =
    let i = c.loop-self.invariant in
    let counts = turning_counts _ _ _ _ _ _ _ _ _ _ i.turning in
    let within = counts.1 in
    let is = c.steps.ensures.value in
    omega arith

pub returns-in_err-advance-clause-works : goal.returns-in_err-advance-clause-works
returns-in_err-advance-clause-works g c =
    let p = err_from_is_err_and c.from_residual.result c.from_residual.ensures.1 in
    rw (p.1, p.2) (vain_on _ _ _ _ _ c.advance.new.self _ _ _ _ _ _ _ _ _ c.loop-self.invariant
    (ap (λ z. c.args.fuel - (z - c.steps-first.result)) c.steps.ensures.value)
    c.in_err-advance.ensures.released c.in_err-advance.ensures.guest
    c.in_err-advance.field-0.0 c.in_err-advance.ensures.advances)

pub returns-in-Spent-clause-done : goal.returns-in-Spent-clause-done
returns-in-Spent-clause-done g c =
    let i = c.loop-self.invariant in
    spent _ _ _ _ c.advance.new.self _ _ _ _ _ _ _ i.turning
    (ap (λ z. c.args.fuel - (z - c.steps-first.result)) c.steps.ensures.value)
    c.in_ok-advance.ensures.released (rw c.in-Spent.is at c.in_ok-advance.ensures.advances)

pub returns-in-Spent-clause-abreast : goal.returns-in-Spent-clause-abreast
returns-in-Spent-clause-abreast g c = λ other. absurd (other refl)

pub returns-in-Spent-clause-works : goal.returns-in-Spent-clause-works
returns-in-Spent-clause-works g c =
    spent_on _ _ _ _ _ c.advance.new.self _ _ _ _ _ _ _ _ _ c.loop-self.invariant
    (ap (λ z. c.args.fuel - (z - c.steps-first.result)) c.steps.ensures.value)
    c.in_ok-advance.ensures.released c.in_ok-advance.ensures.guest
    (rw c.in-Spent.is at c.in_ok-advance.ensures.advances)

pub returns-in-Ended-clause-done : goal.returns-in-Ended-clause-done
returns-in-Ended-clause-done g c =
    let i = c.loop-self.invariant in
    over _ _ _ _ c.advance.new.self _ _ _ _ _ _ _ i.turning
    (ap (λ z. c.args.fuel - (z - c.steps-first.result)) c.steps.ensures.value)
    c.in_ok-advance.ensures.released c.in-Ended.how
    (rw c.in-Ended.is at c.in_ok-advance.ensures.advances)

pub returns-in-Ended-clause-abreast : goal.returns-in-Ended-clause-abreast
returns-in-Ended-clause-abreast g c = λ other. refl

pub returns-in-Ended-clause-works : goal.returns-in-Ended-clause-works
returns-in-Ended-clause-works g c =
    over_on _ _ _ _ _ c.advance.new.self _ _ _ _ _ _ _ _ _ c.loop-self.invariant
    (ap (λ z. c.args.fuel - (z - c.steps-first.result)) c.steps.ensures.value)
    c.in_ok-advance.ensures.released c.in_ok-advance.ensures.guest c.in-Ended.how
    (rw c.in-Ended.is at c.in_ok-advance.ensures.advances)

pub loop-self-preserved-in_ok-flush-in-Owes : goal.loop-self-preserved-in_ok-flush-in-Owes
loop-self-preserved-in_ok-flush-in-Owes g c =
    let done = c.in_ok-flush-in-Owes.ensures in
    flushed_on _ _ _ _ _ c.advance.new.self _ _ _ _ _ _ _ _ _ c.loop-self.invariant
    (ap (λ z. c.args.fuel - (z - c.steps-first.result)) c.steps.ensures.value)
    c.in_ok-advance.ensures.released c.in_ok-advance.ensures.guest
    (rw c.in-Owes.is at c.in_ok-advance.ensures.advances) c.flush.new.self c.flush.new.disk
    c.flush.new.outlet done.all done.turn done.store

pub loop-self-smaller-in_ok-flush-in-Owes : goal.loop-self-smaller-in_ok-flush-in-Owes
loop-self-smaller-in_ok-flush-in-Owes g c =
    let done = c.in_ok-flush-in-Owes.ensures in
    flushed_less _ _ _ _ _ c.advance.new.self _ _ _ _ _ _ _ _ _ c.loop-self.invariant
    (ap (λ z. c.args.fuel - (z - c.steps-first.result)) c.steps.ensures.value)
    c.in_ok-advance.ensures.released c.in_ok-advance.ensures.guest
    (rw c.in-Owes.is at c.in_ok-advance.ensures.advances) c.flush.new.self c.flush.new.disk
    c.flush.new.outlet done.all

pub returns-in_err-flush-in-Owes-clause-works : goal.returns-in_err-flush-in-Owes-clause-works
returns-in_err-flush-in-Owes-clause-works g c =
    let p = err_from_is_err_and c.from_residual-in_err-flush-in-Owes.result
    c.from_residual-in_err-flush-in-Owes.ensures.1 in
    rw (p.1, p.2) (unflushed_on _ _ _ _ _ c.advance.new.self _ _ _ _ _ _ _ _ _
    c.loop-self.invariant
    (ap (λ z. c.args.fuel - (z - c.steps-first.result)) c.steps.ensures.value)
    c.in_ok-advance.ensures.released c.in_ok-advance.ensures.guest
    (rw c.in-Owes.is at c.in_ok-advance.ensures.advances) c.flush.new.self c.flush.new.disk
    c.flush.new.outlet c.in_err-flush-in-Owes.field-0.0 c.in_err-flush-in-Owes.ensures.turn
    c.in_err-flush-in-Owes.ensures.store.pays)

pub returns-in_err-ask-in-Asks-clause-works : goal.returns-in_err-ask-in-Asks-clause-works
returns-in_err-ask-in-Asks-clause-works g c =
    let p = err_from_is_err_and c.from_residual-in_err-ask-in-Asks.result
    c.from_residual-in_err-ask-in-Asks.ensures.1 in
    rw (p.1, p.2) (unasked_on _ _ _ _ _ c.advance.new.self _ _ _ _ _ _ _ _ _
    c.loop-self.invariant
    (ap (λ z. c.args.fuel - (z - c.steps-first.result)) c.steps.ensures.value)
    c.in_ok-advance.ensures.released c.in_ok-advance.ensures.guest c.in-Asks.question
    (rw c.in-Asks.is at c.in_ok-advance.ensures.advances) c.ask.new.self c.ask.new.disk
    c.ask.new.source c.in_err-ask-in-Asks.field-0.0 c.in_err-ask-in-Asks.ensures.turn
    c.in_err-ask-in-Asks.ensures.few)

pub returns-then-not-branch-clause-done : goal.returns-then-not-branch-clause-done
returns-then-not-branch-clause-done g c =
    waits_done _ _ _ _ _ c.advance.new.self _ _ _ _ _ _ _ _ _ c.loop-self.invariant
    (ap (λ z. c.args.fuel - (z - c.steps-first.result)) c.steps.ensures.value)
    c.in_ok-advance.ensures.released c.in_ok-advance.ensures.guest c.in-Asks.question
    (rw c.in-Asks.is at c.in_ok-advance.ensures.advances) c.ask.new.self c.ask.new.disk
    c.ask.new.source (rw c.if-not-branch.true at c.in_ok-ask-in-Asks.ensures.once)

pub returns-then-not-branch-clause-abreast : goal.returns-then-not-branch-clause-abreast
returns-then-not-branch-clause-abreast g c = λ other. c.in_ok-ask-in-Asks.ensures.abreast

pub returns-then-not-branch-clause-shows : goal.returns-then-not-branch-clause-shows
returns-then-not-branch-clause-shows g c =
    waits_shown _ _ _ _ _ c.advance.new.self _ _ _ _ _ _ _ _ _ c.loop-self.invariant
    (ap (λ z. c.args.fuel - (z - c.steps-first.result)) c.steps.ensures.value)
    c.in_ok-advance.ensures.released c.in_ok-advance.ensures.guest c.in-Asks.question
    (rw c.in-Asks.is at c.in_ok-advance.ensures.advances) c.ask.new.self c.ask.new.disk
    c.ask.new.source (rw c.if-not-branch.true at c.in_ok-ask-in-Asks.ensures.once)
    c.in_ok-advance.ensures.shows

pub returns-then-not-branch-clause-works : goal.returns-then-not-branch-clause-works
returns-then-not-branch-clause-works g c =
    waits_on _ _ _ _ _ c.advance.new.self _ _ _ _ _ _ _ _ _ c.loop-self.invariant
    (ap (λ z. c.args.fuel - (z - c.steps-first.result)) c.steps.ensures.value)
    c.in_ok-advance.ensures.released c.in_ok-advance.ensures.guest c.in-Asks.question
    (rw c.in-Asks.is at c.in_ok-advance.ensures.advances) c.ask.new.self c.ask.new.disk
    c.ask.new.source (rw c.if-not-branch.true at c.in_ok-ask-in-Asks.ensures.turn)
    c.in_ok-ask-in-Asks.ensures.few

pub loop-self-smaller : goal.loop-self-smaller
loop-self-smaller g c =
    given_lower _ _ _ _ _ c.advance.new.self _ _ _ _ _ _ _ _ _ c.loop-self.invariant
    (ap (λ z. c.args.fuel - (z - c.steps-first.result)) c.steps.ensures.value)
    c.in_ok-advance.ensures.released c.in_ok-advance.ensures.guest c.in-Asks.question
    (rw c.in-Asks.is at c.in_ok-advance.ensures.advances) c.ask.new.self c.ask.new.disk
    c.ask.new.source (rw c.if-not-branch.false at c.in_ok-ask-in-Asks.ensures.once)

pub loop-self-preserved : goal.loop-self-preserved
loop-self-preserved g c =
    let done = c.in_ok-ask-in-Asks.ensures in
    given_on _ _ _ _ _ c.advance.new.self _ _ _ _ _ _ _ _ _ c.loop-self.invariant
    (ap (λ z. c.args.fuel - (z - c.steps-first.result)) c.steps.ensures.value)
    c.in_ok-advance.ensures.released c.in_ok-advance.ensures.guest c.in-Asks.question
    (rw c.in-Asks.is at c.in_ok-advance.ensures.advances) c.ask.new.self c.ask.new.disk
    c.ask.new.source (rw c.if-not-branch.false at done.once) done.released
    (rw c.if-not-branch.false at done.turn) done.runs done.places done.sectors done.few

pub returns-in_err-advance-clause-failed : goal.returns-in_err-advance-clause-failed
returns-in_err-advance-clause-failed g c =
    let p = err_from_is_err_and c.from_residual.result c.from_residual.ensures.1 in
    rw (p.1, p.2) (vain_so_far _ _ _ _ _ c.advance.new.self _ _ _ _ _ _ _ _ _
    c.loop-self.invariant
    (ap (λ z. c.args.fuel - (z - c.steps-first.result)) c.steps.ensures.value)
    c.in_err-advance.ensures.released c.in_err-advance.ensures.guest
    c.in_err-advance.field-0.0 c.in_err-advance.ensures.advances)

pub returns-in_err-flush-in-Owes-clause-failed : goal.returns-in_err-flush-in-Owes-clause-failed
returns-in_err-flush-in-Owes-clause-failed g c =
    let p = err_from_is_err_and c.from_residual-in_err-flush-in-Owes.result
    c.from_residual-in_err-flush-in-Owes.ensures.1 in
    rw (p.1, p.2) (unflushed_so_far _ _ _ _ _ c.advance.new.self _ _ _ _ _ _ _ _ _
    c.loop-self.invariant
    (ap (λ z. c.args.fuel - (z - c.steps-first.result)) c.steps.ensures.value)
    c.in_ok-advance.ensures.released c.in_ok-advance.ensures.guest
    (rw c.in-Owes.is at c.in_ok-advance.ensures.advances) c.flush.new.self c.flush.new.disk
    c.flush.new.outlet c.in_err-flush-in-Owes.field-0.0 c.in_err-flush-in-Owes.ensures.fault)

pub returns-in_err-ask-in-Asks-clause-failed : goal.returns-in_err-ask-in-Asks-clause-failed
returns-in_err-ask-in-Asks-clause-failed g c =
    let p = err_from_is_err_and c.from_residual-in_err-ask-in-Asks.result
    c.from_residual-in_err-ask-in-Asks.ensures.1 in
    rw (p.1, p.2) (unasked_so_far _ _ _ _ _ c.advance.new.self _ _ _ _ _ _ _ _ _
    c.loop-self.invariant
    (ap (λ z. c.args.fuel - (z - c.steps-first.result)) c.steps.ensures.value)
    c.in_ok-advance.ensures.released c.in_ok-advance.ensures.guest c.in-Asks.question
    (rw c.in-Asks.is at c.in_ok-advance.ensures.advances) c.ask.new.self c.ask.new.disk
    c.ask.new.source c.in_err-ask-in-Asks.field-0.0 c.in_err-ask-in-Asks.ensures.fault)

pub returns-in_err-advance-clause-runs : goal.returns-in_err-advance-clause-runs
returns-in_err-advance-clause-runs g c =
    let p = err_from_is_err_and c.from_residual.result c.from_residual.ensures.1 in
    rw (p.1, p.2) (vain_stops _ _ _ _ _ c.advance.new.self _ _ _ _ _ _ _ _ _
    c.loop-self.invariant
    (ap (λ z. c.args.fuel - (z - c.steps-first.result)) c.steps.ensures.value)
    c.in_err-advance.ensures.released c.in_err-advance.ensures.guest
    c.in_err-advance.field-0.0)

pub returns-in_err-flush-in-Owes-clause-runs : goal.returns-in_err-flush-in-Owes-clause-runs
returns-in_err-flush-in-Owes-clause-runs g c =
    let p = err_from_is_err_and c.from_residual-in_err-flush-in-Owes.result
    c.from_residual-in_err-flush-in-Owes.ensures.1 in
    rw (p.1, p.2) (turn_runs _ _ _ _ _ c.advance.new.self _ _ _ _ _ _ _ _ _
    c.loop-self.invariant
    (ap (λ z. c.args.fuel - (z - c.steps-first.result)) c.steps.ensures.value)
    c.in_ok-advance.ensures.released c.in_ok-advance.ensures.guest {T = Unit {0}}
    c.flush.new.self c.flush.new.disk (Err c.in_err-flush-in-Owes.field-0.0)
    c.in_err-flush-in-Owes.ensures.store.runs)

pub returns-in_err-ask-in-Asks-clause-runs : goal.returns-in_err-ask-in-Asks-clause-runs
returns-in_err-ask-in-Asks-clause-runs g c =
    let p = err_from_is_err_and c.from_residual-in_err-ask-in-Asks.result
    c.from_residual-in_err-ask-in-Asks.ensures.1 in
    rw (p.1, p.2) (turn_runs _ _ _ _ _ c.advance.new.self _ _ _ _ _ _ _ _ _
    c.loop-self.invariant
    (ap (λ z. c.args.fuel - (z - c.steps-first.result)) c.steps.ensures.value)
    c.in_ok-advance.ensures.released c.in_ok-advance.ensures.guest {T = Bool} c.ask.new.self
    c.ask.new.disk (Err c.in_err-ask-in-Asks.field-0.0) c.in_err-ask-in-Asks.ensures.runs)

pub returns-then-not-branch-clause-runs : goal.returns-then-not-branch-clause-runs
returns-then-not-branch-clause-runs g c =
    turn_runs _ _ _ _ _ c.advance.new.self _ _ _ _ _ _ _ _ _ c.loop-self.invariant
    (ap (λ z. c.args.fuel - (z - c.steps-first.result)) c.steps.ensures.value)
    c.in_ok-advance.ensures.released c.in_ok-advance.ensures.guest c.ask.new.self c.ask.new.disk
    (Ok c.in_ok-ask-in-Asks.field-0) c.in_ok-ask-in-Asks.ensures.runs
