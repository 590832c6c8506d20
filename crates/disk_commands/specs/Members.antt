-- Members that are put into a map.
use Rattle.std.specs.Prelude.{◌≡◌, List, String}
use Rattle.std.specs.declared.alloc.Global.{Global}
use Rattle.serde_json.specs.View.{members_view}
use Rattle.serde_json.specs.declared.value.Value.{Value}
use Rattle.disk_commands.specs.rules.Facts.{Member, put_all}

-- these members were put into a map
abbrev pub Puts : List (String Global × Value) → List (String Global × Value) → List Member
    → Type 0
Puts old new members = members_view new ≡ put_all members (members_view old)
