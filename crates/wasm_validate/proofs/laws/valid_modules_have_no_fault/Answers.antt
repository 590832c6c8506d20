use Rattle.wasm_validate.proofs.PartLemmas.NoFault.{no_fault}
use Rattle.wasm_validate.proofs.laws.valid_modules_have_no_fault.Goals as goal

pub returns : goal.returns
returns c = no_fault
