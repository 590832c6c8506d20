use Rattle.std.proofs.Common.{rules}
use Rattle.wasm_decode.proofs.ItemLemmas.Locals.{code_by_locals}
use Rattle.wasm_decode.proofs.items.codes.content.Goals as goal

pub returns-in_err-locals : goal.returns-in_err-locals
returns-in_err-locals c = rw code_by_locals (search rules)

pub returns-in_err-body : goal.returns-in_err-body
returns-in_err-body c = rw code_by_locals (search rules)

pub returns : goal.returns
returns c = rw code_by_locals (search rules)
