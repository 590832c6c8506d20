use Rattle.std.proofs.Common.{◌≡◌, None, rules}
use Rattle.wasm_places.specs.Around.{section_with}
use Rattle.wasm_places.proofs.FunctionNameLemmas.{in_section, match_map, not_in_section, not_named}
use Rattle.wasm_places.proofs.function_names.name_in_section.Goals as goal

pub returns-in_err-subsections : goal.returns-in_err-subsections
returns-in_err-subsections c =
    let none : c.from_residual.result ≡ None = search rules in
    rw none (not_named c.args.function (section_with c.args.id c.args.body)
    c.in_err-subsections.ensures)

pub returns : goal.returns
returns c =
    match_map c.name_in_subsections.result
    (not_in_section c.args.function (section_with c.args.id c.args.body)
    c.in_ok-subsections.subsections.bytes.now c.in_ok-subsections.ensures)
    (λ name h. in_section c.args.function (section_with c.args.id c.args.body)
    c.in_ok-subsections.subsections.bytes.now c.in_ok-subsections.ensures name.now h)
    c.name_in_subsections.ensures
