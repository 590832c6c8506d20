use Rattle.std.proofs.Common.{◌≡◌, map, take}
use Rattle.serde_json.specs.View.{view}
use Rattle.disk_commands.specs.rules.Facts.{number_data}
use Rattle.disk_commands.proofs.inspecting.fact_json.bytes_value.Given as goal

-- the first bytes are there
abbrev pub invariant-loop-byte : goal.invariant-loop-byte
invariant-loop-byte l = map view l.bytes.items ≡ map number_data (take l.byte-index l.text)
