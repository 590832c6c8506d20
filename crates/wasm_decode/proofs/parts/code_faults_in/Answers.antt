use Rattle.std.proofs.lemmas.Result.{err_from_is_err_and}
use Rattle.wasm_decode.proofs.PartLemmas.{code_with_count, code_without_count}
use Rattle.wasm_decode.proofs.parts.code_faults_in.Goals as goal

pub returns-in_err-count : goal.returns-in_err-count
returns-in_err-count c =
    let p = err_from_is_err_and c.from_residual-in_err-count.result
    c.from_residual-in_err-count.ensures.1 in
    rw p.1 (code_without_count c.args.bytes.now c.in_ok-sections.sections.bodies
    c.in_ok-sections.ensures c.in-Some.decoder c.in-Some.ensures c.in_err-count.ensures)

pub returns : goal.returns
returns c =
    code_with_count c.args.bytes.now c.in_ok-sections.sections.bodies c.in_ok-sections.ensures
    c.in-Some.decoder c.in_ok-count.count c.u32.new.self c.faults_of.result c.in-Some.ensures
    c.in_ok-count.ensures c.faults_of.ensures
