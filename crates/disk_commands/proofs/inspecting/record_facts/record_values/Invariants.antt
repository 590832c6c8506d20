use Rattle.std.proofs.Common.{◌≡◌, map, take}
use Rattle.disk_commands.specs.FactViews.{values_of}
use Rattle.disk_commands.specs.rules.DiskFacts.{record_value}
use Rattle.disk_commands.proofs.inspecting.record_facts.record_values.Given as goal

-- the first records are there
abbrev pub invariant-loop-entry : goal.invariant-loop-entry
invariant-loop-entry l =
    values_of l.values.items ≡ map record_value (take l.entry-index l.records)
