use Rattle.std.proofs.Common.{◌≡◌, take}
use Rattle.disk_commands.specs.FactViews.{values_of}
use Rattle.disk_commands.specs.rules.DiskFacts.{descriptor_values}
use Rattle.disk_commands.proofs.inspecting.host_facts.descriptor_values.Given as goal

-- the first descriptors are there
abbrev pub invariant-loop-number : goal.invariant-loop-number
invariant-loop-number l =
    values_of l.values.items ≡ descriptor_values l.tree 0 (take l.number l.descriptors)
