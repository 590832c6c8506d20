use Rattle.std.proofs.lemmas.Result.{err_from_is_err_and}
use Rattle.wasm_decode.proofs.CodeLemmas.{ends_at_entry, ends_early, judged}
use Rattle.wasm_decode.proofs.code_faults.collect_faults.Goals as goal

pub returns-in_err-entry : goal.returns-in_err-entry
returns-in_err-entry c =
    let p = err_from_is_err_and c.from_residual.result c.from_residual.ensures.1 in
    rw (p.1, p.2) (ends_at_entry c.args.decoder.now c.loop-number.number c.loop-number.decoder
    c.loop-number.faults c.loop-number.invariant c.args.count c.in_err-entry.field-0.0
    c.loop-number-test.true c.in_err-entry.ensures)

pub returns-in_err-judge : goal.returns-in_err-judge
returns-in_err-judge c =
    let p = err_from_is_err_and c.from_residual-in_err-judge.result
    c.from_residual-in_err-judge.ensures.1 in
    rw (p.1, p.2) (ends_early c.args.decoder.now c.loop-number.number c.loop-number.decoder
    c.loop-number.faults c.loop-number.invariant c.args.count c.judge.new.faults
    c.in_err-judge.field-0.0 c.in_err-judge.ensures)

pub loop-number-preserved : goal.loop-number-preserved
loop-number-preserved c =
    judged c.args.decoder.now c.loop-number.number c.loop-number.decoder c.loop-number.faults
    c.loop-number.invariant c.in_ok-entry.entry c.take_sized.new.decoder c.in_ok-entry.ensures
    c.judge.new.faults tt c.in_ok-judge.ensures
