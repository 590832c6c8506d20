use Rattle.std.proofs.Common.{◌≡◌, None, true, rules}
use Rattle.wasm_syntax.proofs.Grammar.Rising.{Reads-section_at, section_shorter}
use Rattle.wasm_places.specs.Around.{section_with}
use Rattle.wasm_places.proofs.AllSectionLemmas.{all_begin, all_go_on, all_read, bytes_left}
use Rattle.wasm_places.proofs.AllSectionLemmas.{lacks_header}
use Rattle.wasm_places.proofs.sections.function_sections.Goals as goal

pub returns-in_err-header : goal.returns-in_err-header
returns-in_err-header c =
    let none : c.from_residual.result ≡ None = search rules in
    rw none (lacks_header c.args.module.now (rw (← c.new-rest.ensures) c.in_err-header.ensures))

pub loop-rest-init : goal.loop-rest-init
loop-rest-init c =
    all_begin c.args.module.now c.header.new.reader
    (rw (← c.new-rest.ensures) c.in_ok-header.ensures)

pub returns-in_err-id : goal.returns-in_err-id
returns-in_err-id c =
    let none : c.from_residual-in_err-id.result ≡ None = search rules in
    rw none (bytes_left c.args.module.now c.loop-rest.imports c.loop-rest.function_types
    c.loop-rest.rest c.loop-rest.invariant c.in_err-id.ensures
    (λ ended. absurd (let is : c.is_empty.result ≡ true = c.is_empty.ensures.1 ended in
    let other = c.loop-rest-test.true in
    cc)))

pub loop-rest-smaller : goal.loop-rest-smaller
loop-rest-smaller c =
    section_shorter c.loop-rest.rest (section_with c.in_ok-id.id c.in_ok-id.body)
    c.section.new.reader
    (Reads-section_at.sound c.loop-rest.rest (section_with c.in_ok-id.id c.in_ok-id.body)
    c.section.new.reader c.in_ok-id.ensures)

pub loop-rest-preserved : goal.loop-rest-preserved
loop-rest-preserved c =
    rw (c.first_part-imports.ensures, c.first_part-function_types.ensures)
    (all_go_on c.args.module.now c.loop-rest.imports c.loop-rest.function_types c.loop-rest.rest
    c.loop-rest.invariant c.in_ok-id.id c.in_ok-id.body c.section.new.reader c.in_ok-id.ensures)

pub returns : goal.returns
returns c =
    all_read c.args.module.now c.loop-rest.imports c.loop-rest.function_types c.loop-rest.rest
    c.loop-rest.invariant (c.is_empty.ensures.0 c.loop-rest-test.false)
