use Rattle.std.proofs.Common.{◌+◌, ◌-◌, ◌≡◌, arith, get_or, length, refl, subst}
use Rattle.std.specs.Io.KnownBytes.{Appends}
use Rattle.story_commands.proofs.SweepLemmas.Digits.{digit_more}
use Rattle.story_commands.proofs.sweeping.spelling.spell_grouped.Goals as goal

pub loop-digit-preserved : goal.loop-digit-preserved
loop-digit-preserved g c =
    let digits = c.args.digits.now in
    let i = c.loop-digit.digit-index in
    let mid = g.W.Write.contents c.write_all.new.self in
    let next = g.W.Write.contents c.write_all-in-loop-digit.new.self in
    let count : c.loop-digit.digits_left - 1 + (i + 1) ≡ length digits =
    omega (arith, c.loop-digit.invariant.1, c.loop-digit-test.true) in (
      digit_more digits i (get_or digits i 0) (c.loop-digit.digits_left - 1)
          (g.W.Write.contents c.args.out.now) (g.W.Write.contents c.loop-digit.out) mid next
          c.loop-digit-test.true refl count c.loop-digit.invariant.0
          c.in_ok-write_all.ensures.bytes
          (subst (Appends mid next) c.comma_before.ensures c.in_ok-write_all-2.ensures.bytes),
      count,
    )
