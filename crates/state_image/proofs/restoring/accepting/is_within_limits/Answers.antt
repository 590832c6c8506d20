use Rattle.std.proofs.Common.{ap, length, arith}
use Rattle.state_image.proofs.restoring.accepting.is_within_limits.Goals as goal

pub returns-then-globals-le-GLOBALS : goal.returns-then-globals-le-GLOBALS
returns-then-globals-le-GLOBALS c = (
  λ told. (
    omega (arith, ap length c.globals.ensures, c.if-globals-le-GLOBALS.true),
    c.are_places_within.ensures.0 told,
  ),
  λ is. c.are_places_within.ensures.1 is.1,
)
