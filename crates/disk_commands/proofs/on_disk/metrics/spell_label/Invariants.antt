use Rattle.std.proofs.Common.{◌≡◌, ◌++◌, codes, take}
use Rattle.std.specs.List.{flat_map}
use Rattle.disk_commands.specs.rules.Metrics.{escaped_byte}
use Rattle.disk_commands.proofs.on_disk.metrics.spell_label.Given as goal

-- the bytes so far are escaped
abbrev pub invariant-loop-byte : goal.invariant-loop-byte
invariant-loop-byte l =
    l.label.items ≡ codes "{disk=\"" ++ flat_map escaped_byte (take l.byte-index l.byte-items)
