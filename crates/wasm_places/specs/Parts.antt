-- Bytes as the code has them.
use Rattle.std.specs.Prelude.{List, ℕ, Option, Some, None}
use Rattle.wasm_places.specs.declared.reader.Part.{Part}

-- the bytes of a part
abbrev pub part_bytes : Option Part → Option (List ℕ)
part_bytes (Some part) = Some part.bytes.now
part_bytes None = None
