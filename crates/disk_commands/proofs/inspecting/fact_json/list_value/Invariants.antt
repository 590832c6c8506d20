use Rattle.std.proofs.Common.{◌≡◌, map, take}
use Rattle.serde_json.specs.View.{view}
use Rattle.disk_commands.specs.FactViews.{values_of}
use Rattle.disk_commands.specs.rules.Facts.{value_data}
use Rattle.disk_commands.proofs.inspecting.fact_json.list_value.Given as goal

-- the first values are there
abbrev pub invariant-loop-value : goal.invariant-loop-value
invariant-loop-value l =
    map view l.list.items ≡ map value_data (values_of (take l.value-index l.values))
