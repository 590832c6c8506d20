use Rattle.std.proofs.lemmas.Result.{err_from_is_err_and}
use Rattle.wasm_decode.proofs.PartLemmas.{imports_fail, imports_found}
use Rattle.wasm_decode.proofs.parts.imports_in.Goals as goal

pub returns-in_err-imports : goal.returns-in_err-imports
returns-in_err-imports c =
    let p = err_from_is_err_and c.from_residual-in_err-imports.result
    c.from_residual-in_err-imports.ensures.1 in
    rw (p.1, p.2) (imports_fail c.args.bytes.now c.in_ok-sections.sections.bodies
    c.in_ok-sections.ensures c.in_err-imports.field-0.0 c.in_err-imports.ensures)

pub returns : goal.returns
returns c =
    imports_found c.args.bytes.now c.in_ok-sections.sections.bodies c.in_ok-sections.ensures
    c.in_ok-imports.imports c.in_ok-imports.ensures
