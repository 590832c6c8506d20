use Rattle.std.proofs.Common.{[], map, take}
use Rattle.disk_commands.specs.FactViews.{field_of}
use Rattle.disk_commands.specs.Members.{Puts}
use Rattle.disk_commands.specs.rules.Facts.{field_member}
use Rattle.disk_commands.proofs.inspecting.fact_json.fields_value.Given as goal

-- the first scalars are put in
abbrev pub invariant-loop-field : goal.invariant-loop-field
invariant-loop-field l =
    Puts [] l.members.entries (map field_member (map field_of (take l.field-index l.fields)))
