use Rattle.std.proofs.Common.{◌≡◌, None, refl, rules}
use Rattle.wasm_places.proofs.UseLemmas.{both_searched, no_imports, no_sections}
use Rattle.wasm_places.proofs.uses.search_all.Goals as goal

pub returns-in_err-sections : goal.returns-in_err-sections
returns-in_err-sections c =
    let none : c.from_residual.result ≡ None = search rules in
    rw none (no_sections c.args.module.now c.args.wanted c.in_err-sections.ensures)

pub returns-in_err-imported : goal.returns-in_err-imported
returns-in_err-imported c =
    let none : c.from_residual-in_err-imported.result ≡ None = search rules in
    rw none (no_imports c.args.module.now c.args.wanted c.in_ok-sections.sections
    c.in_ok-sections.ensures c.in_err-imported.ensures.searched)

pub returns : goal.returns
returns c =
    both_searched c.args.module.now c.args.wanted c.in_ok-sections.sections c.in_ok-sections.ensures
    (record { functions = 0; found = None }) c.in_ok-imported.imported c.search_in-2.result refl
    refl c.in_ok-imported.ensures.searched c.search_in-2.ensures.searched
