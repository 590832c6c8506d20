use Rattle.std.proofs.Common.{◌≡◌, ◌+◌, length}
use Rattle.story_commands.proofs.SweepLemmas.Digits.{HasSpelled}
use Rattle.story_commands.proofs.sweeping.spelling.spell_grouped.Given as goal

-- the first digits are spelled
abbrev pub invariant-loop-digit : goal.invariant-loop-digit
invariant-loop-digit g l = HasSpelled l.digits l.digit-index (g.W.Write.contents l.fn.out)
    (g.W.Write.contents l.out) × (l.digits_left + l.digit-index ≡ length l.digits)
