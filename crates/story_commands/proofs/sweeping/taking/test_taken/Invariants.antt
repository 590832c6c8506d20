use Rattle.std.proofs.Common.{◌≡◌}
use Rattle.story_commands.proofs.SweepLemmas.Taken.{TakeAllBefore}
use Rattle.story_commands.proofs.sweeping.taking.test_taken.Given as goal

-- the first lives take all
abbrev pub invariant-loop-life : goal.invariant-loop-life
invariant-loop-life l = TakeAllBefore l.wasm l.config l.lives l.life-index
    × (l.place ≡ l.life-index)
