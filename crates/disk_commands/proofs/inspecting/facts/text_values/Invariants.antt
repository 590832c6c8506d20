use Rattle.std.proofs.Common.{◌≡◌, map, take}
use Rattle.disk_commands.specs.FactViews.{values_of}
use Rattle.disk_commands.specs.rules.DiskFacts.{text_value}
use Rattle.disk_commands.proofs.inspecting.facts.text_values.Given as goal

-- the first texts are there
abbrev pub invariant-loop-text : goal.invariant-loop-text
invariant-loop-text l =
    values_of l.values.items ≡ map text_value (take l.text-index l.texts)
