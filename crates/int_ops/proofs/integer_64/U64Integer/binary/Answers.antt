use Rattle.std.proofs.Common.{Ok, ap, ◌∙◌, ◌%◌}
use Rattle.std.specs.Int.{w64}
use Rattle.std.proofs.Math.Nat.{mod-mod}
use Rattle.int_ops.specs.rules.Integers.{rotated_left, rotated_right}
use Rattle.int_ops.proofs.Rotations.{rotate_left_is, rotate_right_is}
use Rattle.int_ops.proofs.integer_64.U64Integer.binary.Goals as goal

pub returns-in-Rotl : goal.returns-in-Rotl
returns-in-Rotl c =
    let a = c.args.self in
    let by = c.args.other % 64 in
    let is = rotate_left_is w64 a by c.ranges.self.fits in
    rw c.in-Rotl.is (ap Ok (c.rotate_left.ensures ∙ is
    ∙ ap (rotated_left w64 a) (mod-mod c.args.other 64)))

pub returns-in-Rotr : goal.returns-in-Rotr
returns-in-Rotr c =
    let a = c.args.self in
    let by = c.args.other % 64 in
    let is = rotate_right_is w64 a by c.ranges.self.fits in
    rw c.in-Rotr.is (ap Ok (c.rotate_right.ensures ∙ is
    ∙ ap (rotated_right w64 a) (mod-mod c.args.other 64)))
