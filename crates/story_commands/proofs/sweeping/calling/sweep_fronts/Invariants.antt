use Rattle.std.proofs.Common.{◌≡◌, ◌+◌, map, take}
use Rattle.std.specs.List.{All}
use Rattle.story_commands.specs.rules.Sweeps.{SomeCut, cut_point}
use Rattle.story_commands.specs.laws.CutRuns.{IsSweptAt}
use Rattle.story_commands.proofs.sweeping.calling.sweep_fronts.Given as goal

-- the cuts with the first fronts were run
abbrev pub invariant-loop-front : goal.invariant-loop-front
invariant-loop-front l =
    All (SomeCut (IsSweptAt l.sweep)) (map (cut_point l.call) (take l.front-index l.fronts))
    × (l.now.cuts ≡ l.fn.so_far.cuts + l.front-index)
