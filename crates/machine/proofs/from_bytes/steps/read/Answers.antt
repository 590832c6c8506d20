use Rattle.std.proofs.lemmas.Result.{err_from_is_err_and}
use Rattle.machine.proofs.Refused.{not_valid}
use Rattle.machine.proofs.from_bytes.steps.read.Goals as goal

pub returns-in_err-validate-clause-only : goal.returns-in_err-validate-clause-only
returns-in_err-validate-clause-only c =
    let p = err_from_is_err_and c.from_residual-in_err-validate.result
    c.from_residual-in_err-validate.ensures.1 in
    rw (p.1, p.2) (not_valid c.in_ok-decoded.ensures.found.0 c.in_err-validate.field-0.0
    c.in_err-validate.ensures.only)
