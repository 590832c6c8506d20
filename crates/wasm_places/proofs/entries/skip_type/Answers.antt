use Rattle.std.proofs.Common.{◌++◌, rules}
use Rattle.wasm_places.specs.Entries.{type_at}
use Rattle.wasm_places.proofs.entries.skip_type.Goals as goal

pub returns : goal.returns
unfolding type_at
returns c = (c.in_ok-bytes.field-0 ++ c.in_ok-bytes-2.field-0, search rules)
