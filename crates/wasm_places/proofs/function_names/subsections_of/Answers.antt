use Rattle.std.proofs.Common.{◌≡◌, ◌∙◌, true, None, sym, rules}
use Rattle.wasm_places.proofs.FunctionNameLemmas.{is_names, no_name, other_name}
use Rattle.wasm_places.proofs.function_names.subsections_of.Goals as goal

pub returns-in_err-name : goal.returns-in_err-name
returns-in_err-name c =
    let none : c.from_residual.result ≡ None = search rules in
    rw none (no_name c.args.id c.args.body
    (rw (← c.of-rest.ensures) c.in_err-name.ensures))

pub returns-then-is_for_names : goal.returns-then-is_for_names
returns-then-is_for_names c =
    is_names c.args.id c.args.body c.in_ok-name.field-0 c.name.new.self
    (rw (← c.of-rest.ensures) c.in_ok-name.ensures)
    c.into_part-then-is_for_names.result (search rules) c.into_part-then-is_for_names.ensures
    (sym c.into_part.ensures ∙ c.is_for_names.ensures.0 c.if-is_for_names.true)

pub returns-else-is_for_names : goal.returns-else-is_for_names
returns-else-is_for_names c =
    other_name c.args.id c.args.body c.in_ok-name.field-0 c.name.new.self
    (rw (← c.of-rest.ensures) c.in_ok-name.ensures)
    (λ named. absurd (let is : c.is_for_names.result ≡ true =
    c.is_for_names.ensures.1 (c.into_part.ensures ∙ named) in
    let other = c.if-is_for_names.false in
    cc))
