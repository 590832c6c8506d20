use Rattle.std.proofs.Common.{◌≡◌, map, take, reverse}
use Rattle.disk_commands.specs.FactViews.{values_of}
use Rattle.disk_commands.specs.rules.DiskFacts.{frame_value}
use Rattle.disk_commands.proofs.inspecting.process_facts.frame_values.Given as goal

-- the first frames are there
abbrev pub invariant-loop-index : goal.invariant-loop-index
invariant-loop-index l = values_of l.values.items
    ≡ map frame_value (take l.index (reverse l.machine.state.frames))
