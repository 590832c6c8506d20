use Rattle.std.proofs.Common.{subst}
use Rattle.std.specs.List.{All}
use Rattle.story_commands.specs.rules.Sweeps.{HadMemory}
use Rattle.story_commands.proofs.sweeping.running.fed.Goals as goal

pub returns-clause-fed : goal.returns-clause-fed
returns-clause-fed c =
    subst (All HadMemory) c.as_slice.ensures (c.are_starved.ensures c.if-are_starved.false)
