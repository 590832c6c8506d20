use Rattle.std.proofs.Common.{refl}
use Rattle.worker.proofs.inspecting.tell_found.Goals as goal

pub returns-in-Ok : goal.returns-in-Ok
returns-in-Ok c = (
  c.wanted_by-question.result,
  c.wanted_by-question.ensures,
  rw (c.in-Ok.is, c.as_slice.ensures) refl,
)

pub returns-in-Err : goal.returns-in-Err
returns-in-Err c = (c.wanted_by-question.result, c.wanted_by-question.ensures, rw c.in-Err.is refl)
