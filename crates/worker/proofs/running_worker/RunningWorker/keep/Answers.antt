use Rattle.std.proofs.Common.{ap, ◌∙◌}
use Rattle.std.proofs.lemmas.Result.{err_from_is_err_and}
use Rattle.wasi_calls.specs.rules.Held.{HeldWasiState}
use Rattle.worker.proofs.DurableLemmas.Keeping.{misfit_refused, record_lacking, answer_refused}
use Rattle.worker.proofs.DurableLemmas.Keeping.{answer_taken}
use Rattle.worker.proofs.StoreTurnLemmas.{append_hears, append_cause, taken_cause}
use Rattle.worker.proofs.running_worker.RunningWorker.keep.Goals as goal
use Rattle.wasi_abi.specs.rules.Versions.{text_limit}

pub returns-then-not-does_fit-clause-not_taken : goal.returns-then-not-does_fit-clause-not_taken
returns-then-not-does_fit-clause-not_taken c =
    misfit_refused c.args.self.now c.args.question c.args.entry c.text_limit.result
    (c.text_limit.ensures ∙ ap text_limit (c.version.ensures
    ∙ ap (λ (h : HeldWasiState). h.host.version) c.host.ensures)) c.fits-does_fit.result
    c.fits-does_fit.ensures c.if-not-does_fit.true

pub returns-in_err-append-clause-not_taken : goal.returns-in_err-append-clause-not_taken
returns-in_err-append-clause-not_taken c =
    let p = err_from_is_err_and c.from_residual.result c.from_residual.ensures.1 in
    rw (p.1, p.2) (record_lacking c.args.self.now c.args.question c.args.entry c.text_limit.result
    (c.text_limit.ensures ∙ ap text_limit (c.version.ensures
    ∙ ap (λ (h : HeldWasiState). h.host.version) c.host.ensures)) c.fits-does_fit.result
    c.fits-does_fit.ensures c.if-not-does_fit.false c.args.self.now.process c.append.new.self
    c.in_err-append.field-0.0 c.in_err-append.ensures.cause)

pub returns-in_err-give-clause-not_taken : goal.returns-in_err-give-clause-not_taken
returns-in_err-give-clause-not_taken c =
    let p = err_from_is_err_and c.from_residual-in_err-give.result
    c.from_residual-in_err-give.ensures.1 in
    rw (p.1, p.2) (answer_refused c.args.self.now c.args.question c.args.entry c.text_limit.result
    (c.text_limit.ensures ∙ ap text_limit (c.version.ensures
    ∙ ap (λ (h : HeldWasiState). h.host.version) c.host.ensures)) c.fits-does_fit.result
    c.fits-does_fit.ensures c.if-not-does_fit.false c.give.new.self c.append.new.self
    c.in_err-give.field-0.0 c.in_ok-append.ensures.appended c.in_err-give.ensures.gives)

pub returns-clause-taken : goal.returns-clause-taken
returns-clause-taken c =
    answer_taken c.args.self.now c.args.question c.args.entry c.text_limit.result
    (c.text_limit.ensures ∙ ap text_limit (c.version.ensures
    ∙ ap (λ (h : HeldWasiState). h.host.version) c.host.ensures)) c.fits-does_fit.result
    c.fits-does_fit.ensures c.if-not-does_fit.false c.give.new.self c.append.new.self
    c.in_ok-append.ensures.appended c.in_ok-append.ensures.fits c.in_ok-append.ensures.room
    c.in_ok-give.ensures.gives c.steps-is_numbered.ensures.shows c.in_ok-give.ensures.released
    c.in_ok-give.ensures.guest

pub returns-in_err-append-clause-kept : goal.returns-in_err-append-clause-kept
returns-in_err-append-clause-kept c =
    let p = err_from_is_err_and c.from_residual.result c.from_residual.ensures.1 in
    let failed = c.in_err-append.ensures in
    rw (p.1, p.2) (record {
      stays = failed.stays;
      cause = append_cause c.args.self.now.store c.args.entry c.in_err-append.field-0.0
          failed.cause;
    })

pub returns-in_err-give-clause-kept : goal.returns-in_err-give-clause-kept
returns-in_err-give-clause-kept c =
    let p = err_from_is_err_and c.from_residual-in_err-give.result
    c.from_residual-in_err-give.ensures.1 in
    let done = c.in_ok-append.ensures in
    rw (p.1, p.2) (record {
      stays = done.stays;
      cause = taken_cause c.args.self.now.store c.in_err-give.field-0.0;
    })

pub returns-clause-kept : goal.returns-clause-kept
returns-clause-kept c =
    let done = c.in_ok-append.ensures in
    append_hears c.args.self.now.store c.append.new.self c.args.entry done.stays done.appended
