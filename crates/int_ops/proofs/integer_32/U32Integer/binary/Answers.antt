use Rattle.std.proofs.Common.{Ok, ap, ◌∙◌}
use Rattle.std.specs.Int.{w32}
use Rattle.int_ops.proofs.Rotations.{rotate_left_is, rotate_right_is}
use Rattle.int_ops.proofs.integer_32.U32Integer.binary.Goals as goal

pub returns-in-Rotl : goal.returns-in-Rotl
returns-in-Rotl c =
    rw c.in-Rotl.is (ap Ok (c.rotate_left.ensures
    ∙ rotate_left_is w32 c.args.self c.args.other c.ranges.self.fits))

pub returns-in-Rotr : goal.returns-in-Rotr
returns-in-Rotr c =
    rw c.in-Rotr.is (ap Ok (c.rotate_right.ensures
    ∙ rotate_right_is w32 c.args.self c.args.other c.ranges.self.fits))
