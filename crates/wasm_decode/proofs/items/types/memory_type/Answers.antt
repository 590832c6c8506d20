use Rattle.std.proofs.Common.{rules}
use Rattle.wasm_decode.proofs.ItemLemmas.Bounded.{memory_by_limits}
use Rattle.wasm_decode.proofs.items.types.memory_type.Goals as goal

pub returns-in_err-limits : goal.returns-in_err-limits
returns-in_err-limits c = rw memory_by_limits (search rules)

pub returns : goal.returns
returns c = rw memory_by_limits (search rules)
