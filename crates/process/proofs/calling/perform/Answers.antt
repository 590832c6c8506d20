use Rattle.std.proofs.Common.{option_copied, refl, sym, subst}
use Rattle.process.specs.Parts.{HasFewLines}
use Rattle.wasi_calls.specs.declared.outcome.CallOutcome.TheVariants as outcome
use Rattle.process.proofs.Performed.{waits_for, over_leads, few_done, few_refused, tells_done}
use Rattle.process.proofs.Performed.{tells_refused, exit_leads, exit_tells, memory_kept, asks_kept}
use Rattle.process.proofs.Performed.{asks_wants}
use Rattle.process.proofs.Performing.{ends_not}
use Rattle.process.proofs.Holding.{holds_called}
use Rattle.process.proofs.Beyond.{beyond}
use Rattle.process.proofs.calling.perform.Goals as goal

pub returns-then-not-has_numbers-clause-calls : goal.returns-then-not-has_numbers-clause-calls
returns-then-not-has_numbers-clause-calls c = λ guest p shows running at. (
  refl,
  refl,
  beyond c.args.machine.now c.args.host.now c.args.call c.args.arguments.now
      (option_copied c.args.answer) (c.has_numbers.ensures.many c.if-not-has_numbers.true) guest p
      shows at,
)

pub finish-ended-requires-clause-waits : goal.finish-ended-requires-clause-waits
finish-ended-requires-clause-waits c =
    waits_for c.args.machine.now c.call_host.new.machine c.args.host.now c.call_host.new.host
    c.args.call c.args.arguments.now (option_copied c.args.answer) c.requires.typed
    outcome.Done 0 refl c.in-Done.ensures.called c.requires.waits

pub finish-ended-requires-in-Refused-clause-waits :
    goal.finish-ended-requires-in-Refused-clause-waits
finish-ended-requires-in-Refused-clause-waits c =
    waits_for c.args.machine.now c.call_host.new.machine c.args.host.now c.call_host.new.host
    c.args.call c.args.arguments.now (option_copied c.args.answer) c.requires.typed
    (outcome.Refused c.in-Refused.error) c.number.result c.number.ensures
    c.in-Refused.ensures.called c.requires.waits

pub finish-ended-requires-clause-few : goal.finish-ended-requires-clause-few
finish-ended-requires-clause-few c =
    few_done c.args.machine.now c.call_host.new.machine c.args.host.now c.call_host.new.host
    c.args.call c.args.arguments.now (option_copied c.args.answer) c.in-Done.ensures.called
    (c.has_numbers.ensures.few c.if-not-has_numbers.false) c.requires.waits

pub finish-ended-requires-in-Refused-clause-few : goal.finish-ended-requires-in-Refused-clause-few
finish-ended-requires-in-Refused-clause-few c =
    few_refused c.args.machine.now c.call_host.new.machine c.args.host.now c.call_host.new.host
    c.args.call c.args.arguments.now (option_copied c.args.answer) c.in-Refused.error
    c.in-Refused.ensures.called c.requires.few c.requires.waits

pub returns-in-Done-clause-calls : goal.returns-in-Done-clause-calls
returns-in-Done-clause-calls c = λ guest p shows running at. (
  over_leads c.args.machine.now c.call_host.new.machine c.args.host.now c.call_host.new.host
      c.args.call c.args.arguments.now (option_copied c.args.answer) c.requires.typed
      outcome.Done 0 refl c.in-Done.ensures.called
      c.finish-ended.new.machine c.finish-ended.new.host c.finish-ended.result
      c.finish-ended.ensures.finishes c.finish-ended.ensures.same guest p shows at,
  tells_done c.args.machine.now c.call_host.new.machine c.args.host.now c.call_host.new.host
      c.args.call c.args.arguments.now (option_copied c.args.answer) c.is_sync-synced.result
      c.is_sync-synced.ensures c.in-Done.ensures.called guest p shows running at,
)

pub returns-in-Refused-clause-calls : goal.returns-in-Refused-clause-calls
returns-in-Refused-clause-calls c = λ guest p shows running at. (
  over_leads c.args.machine.now c.call_host.new.machine c.args.host.now c.call_host.new.host
      c.args.call c.args.arguments.now (option_copied c.args.answer) c.requires.typed
      (outcome.Refused c.in-Refused.error) c.number.result c.number.ensures
      c.in-Refused.ensures.called
      c.finish-ended-in-Refused.new.machine c.finish-ended-in-Refused.new.host
      c.finish-ended-in-Refused.result
      c.finish-ended-in-Refused.ensures.finishes c.finish-ended-in-Refused.ensures.same guest p
      shows at,
  tells_refused c.args.machine.now c.call_host.new.machine c.args.host.now c.call_host.new.host
      c.args.call c.args.arguments.now (option_copied c.args.answer) c.in-Refused.error
      c.in-Refused.ensures.called guest p shows at,
)

pub returns-in-Ask-clause-few : goal.returns-in-Ask-clause-few
returns-in-Ask-clause-few c =
    let kept = asks_kept c.args.machine.now c.call_host.new.machine c.args.host.now
    c.call_host.new.host c.args.call c.args.arguments.now
    (option_copied c.args.answer) c.in-Ask.question c.in-Ask.ensures.called c.requires.waits in
    subst HasFewLines (sym kept.1) c.requires.few

pub returns-in-Ask-clause-calls : goal.returns-in-Ask-clause-calls
returns-in-Ask-clause-calls c = λ guest p shows running at.
    let kept = asks_kept c.args.machine.now c.call_host.new.machine c.args.host.now
    c.call_host.new.host c.args.call c.args.arguments.now
    (option_copied c.args.answer) c.in-Ask.question c.in-Ask.ensures.called c.requires.waits in (
      kept.0,
      kept.1,
      asks_wants c.args.machine.now c.call_host.new.machine c.args.host.now c.call_host.new.host
          c.args.call c.args.arguments.now (option_copied c.args.answer) c.in-Ask.question
          c.in-Ask.ensures.called guest p shows at,
    )

pub returns-in-Exit-clause-calls : goal.returns-in-Exit-clause-calls
returns-in-Exit-clause-calls c = λ guest p shows running at. (
  exit_leads c.args.machine.now c.call_host.new.machine c.args.host.now c.call_host.new.host
      c.args.call c.args.arguments.now (option_copied c.args.answer) c.in-Exit.code
      c.in-Exit.ensures.called c.stop.new.self c.end.new.self c.stop.ensures.stops
      c.stop.ensures.same c.end.ensures.changed c.end.ensures.shown guest p shows at,
  exit_tells c.args.machine.now c.call_host.new.machine c.args.host.now c.call_host.new.host
      c.args.call c.args.arguments.now (option_copied c.args.answer) c.in-Exit.code
      c.in-Exit.ensures.called guest p shows at,
)

pub returns-in-Memory-clause-few : goal.returns-in-Memory-clause-few
returns-in-Memory-clause-few c =
    let kept = memory_kept c.args.machine.now c.call_host.new.machine c.args.host.now
    c.call_host.new.host c.args.call c.args.arguments.now
    (option_copied c.args.answer) c.in-Memory.ensures.called c.requires.waits in
    subst HasFewLines (sym kept.1) c.requires.few

pub returns-in-Memory-clause-calls : goal.returns-in-Memory-clause-calls
returns-in-Memory-clause-calls c = λ guest p shows running at.
    let kept = memory_kept c.args.machine.now c.call_host.new.machine c.args.host.now
    c.call_host.new.host c.args.call c.args.arguments.now
    (option_copied c.args.answer) c.in-Memory.ensures.called c.requires.waits in (
      kept.0,
      kept.1,
      ends_not guest p c.args.call c.args.arguments.now at (c.in-Memory.ensures.called.wants refl),
    )

pub returns-in-Ask-clause-holds : goal.returns-in-Ask-clause-holds
returns-in-Ask-clause-holds c =
    holds_called c.args.machine.now c.call_host.new.machine c.in-Ask.ensures.called.is
    c.in-Ask.ensures.called.large c.requires.holds

pub returns-in-Exit-clause-holds : goal.returns-in-Exit-clause-holds
returns-in-Exit-clause-holds c =
    c.stop.ensures.holds (holds_called c.args.machine.now c.call_host.new.machine
    c.in-Exit.ensures.called.is c.in-Exit.ensures.called.large c.requires.holds)

pub returns-in-Memory-clause-holds : goal.returns-in-Memory-clause-holds
returns-in-Memory-clause-holds c =
    holds_called c.args.machine.now c.call_host.new.machine c.in-Memory.ensures.called.is
    c.in-Memory.ensures.called.large c.requires.holds
