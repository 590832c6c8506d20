use Rattle.std.proofs.lemmas.Result.{err_from_is_err_and}
use Rattle.machine.proofs.Refused.{denied, told, not_linkable}
use Rattle.machine.proofs.from_bytes.steps.accept.Goals as goal

pub returns-in_err-valid-clause-only : goal.returns-in_err-valid-clause-only
returns-in_err-valid-clause-only c =
    let p = err_from_is_err_and c.from_residual.result c.from_residual.ensures.1 in
    rw (p.1, p.2)
    (denied c.args.pages c.args.bytes.now c.in_err-valid.field-0.0 c.in_err-valid.ensures.only)

pub returns-in_err-valid-clause-reported : goal.returns-in_err-valid-clause-reported
returns-in_err-valid-clause-reported c =
    let p = err_from_is_err_and c.from_residual.result c.from_residual.ensures.1 in
    rw (p.1, p.2)
    (told c.args.pages c.args.bytes.now c.in_err-valid.field-0.0 c.in_err-valid.ensures.reported)

pub returns-in_err-link-clause-only : goal.returns-in_err-link-clause-only
returns-in_err-link-clause-only c =
    let p = err_from_is_err_and c.from_residual-in_err-link.result
    c.from_residual-in_err-link.ensures.1 in
    rw (p.1, p.2)
    (not_linkable c.args.pages c.args.bytes.now c.in_ok-valid.valid
    c.in_ok-valid.ensures.read.spelled c.in_err-link.field-0.0 c.in_err-link.ensures.only)

pub returns-in_err-link-clause-reported : goal.returns-in_err-link-clause-reported
returns-in_err-link-clause-reported c =
    let p = err_from_is_err_and c.from_residual-in_err-link.result
    c.from_residual-in_err-link.ensures.1 in
    let read = c.in_ok-valid.ensures.read in
    rw (p.1, p.2) (
      c.in_ok-valid.valid,
      read.spelled,
      read.limits,
      read.valid,
      c.in_err-link.ensures.refused,
    )
