use Rattle.std.proofs.lemmas.Result.{err_from_is_err_and}
use Rattle.wasm_decode.proofs.PartLemmas.{no_header, split_fails, split_opens}
use Rattle.wasm_decode.proofs.parts.sections_in.Goals as goal

pub returns-in_err-header : goal.returns-in_err-header
returns-in_err-header c =
    let p = err_from_is_err_and c.from_residual.result c.from_residual.ensures.1 in
    rw p.1 (no_header c.args.bytes.now (rw c.new-decoder.ensures at c.in_err-header.ensures))

pub returns-in-None : goal.returns-in-None
returns-in-None c = (let header = rw c.new-decoder.ensures at c.in_ok-header.ensures in
    split_opens c.args.bytes.now c.header.new.decoder tt c.split-sections.result.bodies header
    c.split-sections.result.fault c.in-None.is c.split-sections.ensures)

pub returns-in-Some : goal.returns-in-Some
returns-in-Some c = (let header = rw c.new-decoder.ensures at c.in_ok-header.ensures in
    split_fails c.args.bytes.now c.header.new.decoder tt c.split-sections.result.bodies header
    c.split-sections.result.fault c.in-Some.refusal c.in-Some.is c.split-sections.ensures)
