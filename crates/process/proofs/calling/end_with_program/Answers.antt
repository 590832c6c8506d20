use Rattle.std.proofs.Common.{refl}
use Rattle.process.proofs.calling.end_with_program.Goals as goal

pub returns-then-not-has_ended-clause-ends : goal.returns-then-not-has_ended-clause-ends
returns-then-not-has_ended-clause-ends c = λ program d h shows host. (
  λ e. let ended = (c.has_ended.ensures program d shows).1 e in
      let going = c.if-not-has_ended.true in absurd (cc),
  host,
)

pub returns-clause-ends : goal.returns-clause-ends
returns-clause-ends c = λ program d h shows host. (
  (c.has_ended.ensures program d shows).0 c.if-not-has_ended.false,
  refl,
  c.end.ensures.shown h host,
)
