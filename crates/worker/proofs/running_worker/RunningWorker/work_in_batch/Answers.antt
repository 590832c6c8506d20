use Rattle.std.proofs.Common.{◌-◌, ap, arith, refl, sym, subst, ◌∙◌, Err}
use Rattle.std.proofs.lemmas.Result.{err_from_is_err_and}
use Rattle.record_replay.proofs.Ending.{turning_counts}
use Rattle.process.specs.rules.Values.{IsProcess}
use Rattle.worker.proofs.DurableLemmas.InBatch.{in_batch_none, spent_in, over_in, vain_in, owed_in}
use Rattle.worker.proofs.DurableLemmas.InBatch.{owed_lower, unowed_in, asks_in, freed_in, free_in}
use Rattle.worker.proofs.DurableLemmas.InBatch.{unfreed_in, answered_in, answered_lower, waits_in}
use Rattle.worker.proofs.DurableLemmas.InBatch.{unasked_in, asked_counts, freed_steps, waits_shown}
use Rattle.worker.proofs.DurableLemmas.Freeing.{as_many, freed_same}
use Rattle.worker.proofs.running_worker.RunningWorker.work_in_batch.Goals as goal

pub loop-self-init : goal.loop-self-init
loop-self-init g c = (
  in_batch_none g.D.Disk.medium g.S.Source.gives g.O.Outlet.takes c.args.self.now
      c.args.watched.fuel c.args.queue.now.most c.steps-first.result c.args.queue.now.lines
      c.args.disk.now c.args.source.now c.args.outlet.now c.requires.none_held c.requires.none_waits
      c.steps-first.ensures.shows c.steps-first.ensures.value,
  refl,
)

pub overflow_sub-fuel_left : goal.overflow_sub-fuel_left
overflow_sub-fuel_left g c =
    let i = c.loop-self.invariant.0 in
    let counts = turning_counts _ _ _ _ _ _ _ _ _ _ i.turning in
    let first = counts.0 in
    let is = c.steps.ensures.value in
    omega arith

pub overflow_sub-fuel_left-in-loop-self : goal.overflow_sub-fuel_left-in-loop-self
overflow_sub-fuel_left-in-loop-self g c =
    let i = c.loop-self.invariant.0 in
    let counts = turning_counts _ _ _ _ _ _ _ _ _ _ i.turning in
    let within = counts.1 in
    let is = c.steps.ensures.value in
    omega arith

pub returns-in_err-advance-clause-works : goal.returns-in_err-advance-clause-works
returns-in_err-advance-clause-works g c =
    let p = err_from_is_err_and c.from_residual.result c.from_residual.ensures.1 in
    rw (p.1, p.2) (vain_in _ _ _ _ _ c.advance.new.self _ _ _ _ _ _ _ _ _ _ _
    c.loop-self.invariant.0
    (ap (λ z. c.args.watched.fuel - (z - c.steps-first.result)) c.steps.ensures.value)
    c.in_err-advance.ensures.released c.in_err-advance.ensures.guest
    c.in_err-advance.field-0.0 c.in_err-advance.ensures.advances)

pub returns-in-Spent-clause-works : goal.returns-in-Spent-clause-works
returns-in-Spent-clause-works g c =
    spent_in _ _ _ _ _ c.advance.new.self _ _ _ _ _ _ _ _ _ _ _ c.loop-self.invariant.0
    (ap (λ z. c.args.watched.fuel - (z - c.steps-first.result)) c.steps.ensures.value)
    c.in_ok-advance.ensures.released c.in_ok-advance.ensures.guest
    (rw c.in-Spent.is at c.in_ok-advance.ensures.advances)

pub returns-in-Spent-clause-abreast : goal.returns-in-Spent-clause-abreast
returns-in-Spent-clause-abreast g c = λ other. absurd (other refl)

pub returns-in-Ended-clause-works : goal.returns-in-Ended-clause-works
returns-in-Ended-clause-works g c =
    over_in _ _ _ _ _ c.advance.new.self _ _ _ _ _ _ _ _ _ _ _ c.loop-self.invariant.0
    (ap (λ z. c.args.watched.fuel - (z - c.steps-first.result)) c.steps.ensures.value)
    c.in_ok-advance.ensures.released c.in_ok-advance.ensures.guest c.in-Ended.how
    (rw c.in-Ended.is at c.in_ok-advance.ensures.advances)

pub returns-in-Ended-clause-abreast : goal.returns-in-Ended-clause-abreast
returns-in-Ended-clause-abreast g c = λ other. refl

pub loop-self-preserved-in_ok-hold_or_flush-in-Owes :
    goal.loop-self-preserved-in_ok-hold_or_flush-in-Owes
loop-self-preserved-in_ok-hold_or_flush-in-Owes g c =
    let done = c.in_ok-hold_or_flush-in-Owes.ensures in
    let most = c.loop-self.invariant.1 in (
      owed_in _ _ _ _ _ c.advance.new.self _ _ _ _ _ _ _ _ _ _ _ c.loop-self.invariant.0
          (ap (λ z. c.args.watched.fuel - (z - c.steps-first.result)) c.steps.ensures.value)
          c.in_ok-advance.ensures.released c.in_ok-advance.ensures.guest
          (rw c.in-Owes.is at c.in_ok-advance.ensures.advances) c.hold_or_flush.new.self
          c.hold_or_flush.new.disk c.hold_or_flush.new.outlet c.hold_or_flush.new.queue.lines
          (as_many g.D.Disk.medium g.O.Outlet.takes _ _ _ _ c.hold_or_flush.new.self
          c.hold_or_flush.new.queue.lines _ c.hold_or_flush.new.disk _
          c.hold_or_flush.new.outlet most done.done) done.store,
      done.most ∙ most,
    )

pub loop-self-smaller-in_ok-hold_or_flush-in-Owes :
    goal.loop-self-smaller-in_ok-hold_or_flush-in-Owes
loop-self-smaller-in_ok-hold_or_flush-in-Owes g c =
    let done = c.in_ok-hold_or_flush-in-Owes.ensures in
    let most = c.loop-self.invariant.1 in
    owed_lower _ _ _ _ _ c.advance.new.self _ _ _ _ _ _ _ _ _ _ _ c.loop-self.invariant.0
    (ap (λ z. c.args.watched.fuel - (z - c.steps-first.result)) c.steps.ensures.value)
    c.in_ok-advance.ensures.released c.in_ok-advance.ensures.guest
    (rw c.in-Owes.is at c.in_ok-advance.ensures.advances) c.hold_or_flush.new.self
    c.hold_or_flush.new.disk c.hold_or_flush.new.outlet c.hold_or_flush.new.queue.lines
    (as_many g.D.Disk.medium g.O.Outlet.takes _ _ _ _ c.hold_or_flush.new.self
    c.hold_or_flush.new.queue.lines _ c.hold_or_flush.new.disk _ c.hold_or_flush.new.outlet most
    done.done)

pub returns-in_err-hold_or_flush-in-Owes-clause-works :
    goal.returns-in_err-hold_or_flush-in-Owes-clause-works
returns-in_err-hold_or_flush-in-Owes-clause-works g c =
    let p = err_from_is_err_and c.from_residual-in_err-hold_or_flush-in-Owes.result
    c.from_residual-in_err-hold_or_flush-in-Owes.ensures.1 in
    let failed = c.in_err-hold_or_flush-in-Owes.ensures in
    rw (p.1, p.2) (unowed_in _ _ _ _ _ c.advance.new.self _ _ _ _ _ _ _ _ _ _ _
    c.loop-self.invariant.0
    (ap (λ z. c.args.watched.fuel - (z - c.steps-first.result)) c.steps.ensures.value)
    c.in_ok-advance.ensures.released c.in_ok-advance.ensures.guest
    (rw c.in-Owes.is at c.in_ok-advance.ensures.advances) c.hold_or_flush.new.self
    c.hold_or_flush.new.disk c.hold_or_flush.new.outlet c.hold_or_flush.new.queue.lines
    c.in_err-hold_or_flush-in-Owes.field-0.0 failed.fails failed.store)

pub returns-in_err-flush_unless_ready-in-Asks-clause-works :
    goal.returns-in_err-flush_unless_ready-in-Asks-clause-works
returns-in_err-flush_unless_ready-in-Asks-clause-works g c =
    let p = err_from_is_err_and c.from_residual-in_err-flush_unless_ready-in-Asks.result
    c.from_residual-in_err-flush_unless_ready-in-Asks.ensures.1 in
    let failed = c.in_err-flush_unless_ready-in-Asks.ensures in
    let asking = asks_in _ _ _ _ _ c.advance.new.self _ _ _ _ _ _ _ _ _ _ _ c.loop-self.invariant.0
    (ap (λ z. c.args.watched.fuel - (z - c.steps-first.result)) c.steps.ensures.value)
    c.in_ok-advance.ensures.released c.in_ok-advance.ensures.guest c.in-Asks.question
    (rw c.in-Asks.is at c.in_ok-advance.ensures.advances) in
    rw (p.1, p.2) (unfreed_in _ _ _ _ _ c.flush_unless_ready.new.self _ _ _ _ _
    c.flush_unless_ready.new.queue.lines _ _ c.flush_unless_ready.new.disk _ _ _ _
    c.flush_unless_ready.new.outlet asking c.in_err-flush_unless_ready-in-Asks.field-0.0
    failed.fails failed.store)

pub returns-in_err-ask_in_batch-in-Asks-clause-works :
    goal.returns-in_err-ask_in_batch-in-Asks-clause-works
returns-in_err-ask_in_batch-in-Asks-clause-works g c =
    let p = err_from_is_err_and c.from_residual-in_err-ask_in_batch-in-Asks.result
    c.from_residual-in_err-ask_in_batch-in-Asks.ensures.1 in
    let failed = c.in_err-ask_in_batch-in-Asks.ensures in
    let asking = asks_in _ _ _ _ _ c.advance.new.self _ _ _ _ _ _ _ _ _ _ _ c.loop-self.invariant.0
    (ap (λ z. c.args.watched.fuel - (z - c.steps-first.result)) c.steps.ensures.value)
    c.in_ok-advance.ensures.released c.in_ok-advance.ensures.guest c.in-Asks.question
    (rw c.in-Asks.is at c.in_ok-advance.ensures.advances) in
    let free = c.in_ok-flush_unless_ready-in-Asks.ensures in
    let freed = freed_in _ _ _ _ _ c.flush_unless_ready.new.self _ _ _ _ _
    c.flush_unless_ready.new.queue.lines _ _ c.flush_unless_ready.new.disk _ _ _ _
    c.flush_unless_ready.new.outlet asking free.done free.store in
    let is_free = free_in _ _ _ _ _ c.flush_unless_ready.new.self _ _ _ _ _
    c.flush_unless_ready.new.queue.lines _ _ c.flush_unless_ready.new.disk _ _ _ _
    c.flush_unless_ready.new.outlet asking free.done in
    rw (p.1, p.2) (unasked_in _ _ _ _ _ c.ask_in_batch.new.self _ _ _ _ _ _ _
    c.ask_in_batch.new.disk _ _
    c.ask_in_batch.new.source _ _ freed is_free failed.few
    c.in_err-ask_in_batch-in-Asks.field-0.0 failed.ended failed.holding failed.fault
    (λ is. failed.goes (ap (λ z. Err z) is)) failed.runs)

pub returns-then-not-branch-clause-works : goal.returns-then-not-branch-clause-works
returns-then-not-branch-clause-works g c =
    let done = c.in_ok-ask_in_batch-in-Asks.ensures in
    let asking = asks_in _ _ _ _ _ c.advance.new.self _ _ _ _ _ _ _ _ _ _ _ c.loop-self.invariant.0
    (ap (λ z. c.args.watched.fuel - (z - c.steps-first.result)) c.steps.ensures.value)
    c.in_ok-advance.ensures.released c.in_ok-advance.ensures.guest c.in-Asks.question
    (rw c.in-Asks.is at c.in_ok-advance.ensures.advances) in
    let free = c.in_ok-flush_unless_ready-in-Asks.ensures in
    let freed = freed_in _ _ _ _ _ c.flush_unless_ready.new.self _ _ _ _ _
    c.flush_unless_ready.new.queue.lines _ _ c.flush_unless_ready.new.disk _ _ _ _
    c.flush_unless_ready.new.outlet asking free.done free.store in
    let is_free = free_in _ _ _ _ _ c.flush_unless_ready.new.self _ _ _ _ _
    c.flush_unless_ready.new.queue.lines _ _ c.flush_unless_ready.new.disk _ _ _ _
    c.flush_unless_ready.new.outlet asking free.done in
    waits_in _ _ _ _ _ c.ask_in_batch.new.self _ _ _ _ _ _ _ c.ask_in_batch.new.disk _ _
    c.ask_in_batch.new.source _ _ freed is_free done.few
    (rw c.if-not-branch.true at done.once) (rw c.if-not-branch.true at done.holding) done.runs

pub returns-then-not-branch-clause-shows : goal.returns-then-not-branch-clause-shows
returns-then-not-branch-clause-shows g c =
    let done = c.in_ok-ask_in_batch-in-Asks.ensures in
    let asking = asks_in _ _ _ _ _ c.advance.new.self _ _ _ _ _ _ _ _ _ _ _ c.loop-self.invariant.0
    (ap (λ z. c.args.watched.fuel - (z - c.steps-first.result)) c.steps.ensures.value)
    c.in_ok-advance.ensures.released c.in_ok-advance.ensures.guest c.in-Asks.question
    (rw c.in-Asks.is at c.in_ok-advance.ensures.advances) in
    let free = c.in_ok-flush_unless_ready-in-Asks.ensures in
    let freed = freed_in _ _ _ _ _ c.flush_unless_ready.new.self _ _ _ _ _
    c.flush_unless_ready.new.queue.lines _ _ c.flush_unless_ready.new.disk _ _ _ _
    c.flush_unless_ready.new.outlet asking free.done free.store in
    let is_free = free_in _ _ _ _ _ c.flush_unless_ready.new.self _ _ _ _ _
    c.flush_unless_ready.new.queue.lines _ _ c.flush_unless_ready.new.disk _ _ _ _
    c.flush_unless_ready.new.outlet asking free.done in
    let questioning = asking.questioning in
    let same = freed_same g.D.Disk.medium g.O.Outlet.takes _ c.flush_unless_ready.new.self _
    c.flush_unless_ready.new.queue.lines _ c.flush_unless_ready.new.disk _
    c.flush_unless_ready.new.outlet questioning.empty free.done in
    waits_shown _ _ _ _ _ c.ask_in_batch.new.self _ _ _ _ _ _ _ c.ask_in_batch.new.disk _ _
    c.ask_in_batch.new.source _ _ freed is_free done.few
    (rw c.if-not-branch.true at done.once)
    (subst IsProcess (sym same) c.in_ok-advance.ensures.shows)

pub returns-then-not-branch-clause-abreast : goal.returns-then-not-branch-clause-abreast
returns-then-not-branch-clause-abreast g c = λ other. c.in_ok-ask_in_batch-in-Asks.ensures.abreast

pub loop-self-smaller : goal.loop-self-smaller
loop-self-smaller g c =
    let done = c.in_ok-ask_in_batch-in-Asks.ensures in
    let asking = asks_in _ _ _ _ _ c.advance.new.self _ _ _ _ _ _ _ _ _ _ _ c.loop-self.invariant.0
    (ap (λ z. c.args.watched.fuel - (z - c.steps-first.result)) c.steps.ensures.value)
    c.in_ok-advance.ensures.released c.in_ok-advance.ensures.guest c.in-Asks.question
    (rw c.in-Asks.is at c.in_ok-advance.ensures.advances) in
    let free = c.in_ok-flush_unless_ready-in-Asks.ensures in
    let freed = freed_in _ _ _ _ _ c.flush_unless_ready.new.self _ _ _ _ _
    c.flush_unless_ready.new.queue.lines _ _ c.flush_unless_ready.new.disk _ _ _ _
    c.flush_unless_ready.new.outlet asking free.done free.store in
    let is_free = free_in _ _ _ _ _ c.flush_unless_ready.new.self _ _ _ _ _
    c.flush_unless_ready.new.queue.lines _ _ c.flush_unless_ready.new.disk _ _ _ _
    c.flush_unless_ready.new.outlet asking free.done in
    let before = asked_counts _ _ _ _ _ c.advance.new.self _ _ _ _ _ _ _ _ _ _ _
    c.loop-self.invariant.0
    (ap (λ z. c.args.watched.fuel - (z - c.steps-first.result)) c.steps.ensures.value)
    c.in_ok-advance.ensures.released c.in-Asks.question
    (rw c.in-Asks.is at c.in_ok-advance.ensures.advances) in
    let still = freed_steps g.D.Disk.medium g.S.Source.gives g.O.Outlet.takes _
    c.flush_unless_ready.new.self _
    c.flush_unless_ready.new.queue.lines _ c.flush_unless_ready.new.disk _
    c.flush_unless_ready.new.outlet free.done in
    answered_lower _ _ _ _ _ c.ask_in_batch.new.self _ _ _ _ _ _ _ c.ask_in_batch.new.disk _ _
    c.ask_in_batch.new.source _ _ freed is_free done.few
    c.loop-self.self.process (rw c.if-not-branch.false at done.once) (omega (arith, before, still))

pub loop-self-preserved : goal.loop-self-preserved
loop-self-preserved g c =
    let done = c.in_ok-ask_in_batch-in-Asks.ensures in
    let asking = asks_in _ _ _ _ _ c.advance.new.self _ _ _ _ _ _ _ _ _ _ _ c.loop-self.invariant.0
    (ap (λ z. c.args.watched.fuel - (z - c.steps-first.result)) c.steps.ensures.value)
    c.in_ok-advance.ensures.released c.in_ok-advance.ensures.guest c.in-Asks.question
    (rw c.in-Asks.is at c.in_ok-advance.ensures.advances) in
    let free = c.in_ok-flush_unless_ready-in-Asks.ensures in
    let freed = freed_in _ _ _ _ _ c.flush_unless_ready.new.self _ _ _ _ _
    c.flush_unless_ready.new.queue.lines _ _ c.flush_unless_ready.new.disk _ _ _ _
    c.flush_unless_ready.new.outlet asking free.done free.store in
    let is_free = free_in _ _ _ _ _ c.flush_unless_ready.new.self _ _ _ _ _
    c.flush_unless_ready.new.queue.lines _ _ c.flush_unless_ready.new.disk _ _ _ _
    c.flush_unless_ready.new.outlet asking free.done in (
      answered_in _ _ _ _ _ c.ask_in_batch.new.self _ _ _ _ _ _ _ c.ask_in_batch.new.disk _ _
          c.ask_in_batch.new.source _ _ freed is_free done.few
          (rw c.if-not-branch.false at done.once) done.released
          (rw c.if-not-branch.false at done.holding) done.runs done.places done.sectors,
      free.most ∙ c.loop-self.invariant.1,
    )
