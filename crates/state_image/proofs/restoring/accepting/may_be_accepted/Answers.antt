use Rattle.std.proofs.lemmas.Bool.{both_ways}
use Rattle.state_image.proofs.restoring.accepting.may_be_accepted.Goals as goal

pub returns-then-not-is_outermost : goal.returns-then-not-is_outermost
returns-then-not-is_outermost c = λ entry has. (
  λ told. absurd (cc),
  λ may. absurd (both_ways _ c.if-not-is_outermost.true
      (((rw c.machine-machine.ensures at c.is_outermost.ensures) entry has).1 may.outermost)),
)

pub returns-then-not-is_within_limits : goal.returns-then-not-is_within_limits
returns-then-not-is_within_limits c = λ entry has. (
  λ told. absurd (cc),
  λ may. absurd (both_ways _ c.if-not-is_within_limits.true
      ((rw c.machine-machine.ensures at c.is_within_limits.ensures).1 (may.globals, may.places))),
)

pub returns : goal.returns
returns c = λ entry has.
    let within = (rw c.machine-machine.ensures at c.is_within_limits.ensures).0
    c.if-not-is_within_limits.false in (
      λ told. record {
        outermost = ((rw c.machine-machine.ensures at c.is_outermost.ensures) entry has).0
            c.if-not-is_outermost.false;
        alive = c.is_alive.ensures.0 c.if-not-is_alive.false;
        globals = within.0;
        places = within.1;
        unread = c.is_unread_short.ensures.0 c.if-not-is_unread_short.false;
        next = c.has_next_in_time.ensures.0 told;
      },
      λ may. c.has_next_in_time.ensures.1 may.next,
    )
