use Rattle.wasm_decode.proofs.CodeLemmas.{all_faults, some_faults}
use Rattle.wasm_decode.proofs.code_faults.faults_of.Goals as goal

pub returns-in-Ok : goal.returns-in-Ok
returns-in-Ok c =
    all_faults c.args.count c.args.decoder.now c.collect_faults.new.faults tt c.in-Ok.ensures

pub returns-in-Err : goal.returns-in-Err
returns-in-Err c =
    rw c.from.ensures (some_faults c.args.count c.args.decoder.now c.collect_faults.new.faults
    c.in-Err.fault c.in-Err.ensures)
