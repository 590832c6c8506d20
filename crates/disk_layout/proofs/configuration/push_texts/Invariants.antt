use Rattle.std.proofs.Common.{◌≡◌, ◌++◌, length, take}
use Rattle.std.specs.List.{flat_map}
use Rattle.wasi_abi.specs.rules.Layouts.{u32_bytes}
use Rattle.disk_layout.specs.rules.Places.{short_text_bytes}
use Rattle.disk_layout.proofs.configuration.push_texts.Given as goal

abbrev pub invariant-loop-text : goal.invariant-loop-text
invariant-loop-text l = record {
  so_far : l.bytes.items ≡ l.fn.bytes.items
      ++ (u32_bytes (length l.texts) ++ flat_map short_text_bytes (take l.text-index l.texts));
}
