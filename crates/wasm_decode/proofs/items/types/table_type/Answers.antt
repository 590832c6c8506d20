use Rattle.std.proofs.Common.{rules}
use Rattle.wasm_decode.proofs.ItemLemmas.Bounded.{table_by_limits}
use Rattle.wasm_decode.proofs.items.types.table_type.Goals as goal

pub returns-in_err-expect_byte : goal.returns-in_err-expect_byte
returns-in_err-expect_byte c = rw table_by_limits (search rules)

pub returns-in_err-limits : goal.returns-in_err-limits
returns-in_err-limits c = rw table_by_limits (search rules)

pub returns : goal.returns
returns c = rw table_by_limits (search rules)
