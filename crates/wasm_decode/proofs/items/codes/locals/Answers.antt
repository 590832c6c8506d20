use Rattle.std.proofs.Common.{rules}
use Rattle.wasm_decode.proofs.ItemLemmas.Locals.{locals_by_runs}
use Rattle.wasm_decode.proofs.items.codes.locals.Goals as goal

pub returns-in_err-count : goal.returns-in_err-count
returns-in_err-count c = rw locals_by_runs (search rules)

pub returns : goal.returns
returns c = rw locals_by_runs (search rules)
