use Rattle.std.proofs.Common.{◌≡◌, ◌≤◌, ◌+◌, ◌*◌, length, take}
use Rattle.std.specs.List.{flat_map}
use Rattle.disk_layout.specs.rules.Places.{short_text_bytes}
use Rattle.disk_layout.proofs.geometry.texts_len.Given as goal

abbrev pub invariant-loop-text : goal.invariant-loop-text
invariant-loop-text l = record {
  len : l.len ≡ 4 + length (flat_map short_text_bytes (take l.text-index l.texts));
  within : l.len ≤ 4 + 1026 * l.text-index;
}
