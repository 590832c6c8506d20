use Rattle.std.proofs.Common.{◌≡◌, None, rules}
use Rattle.wasm_syntax.proofs.Grammar.Rising.{Reads-section_at, section_shorter}
use Rattle.wasm_places.specs.Around.{section_with}
use Rattle.wasm_places.specs.FunctionNames.{InSection}
use Rattle.wasm_places.proofs.FunctionNameLemmas.{lacks_header, module_lacks, module_names}
use Rattle.wasm_places.proofs.FunctionNameLemmas.{no_section_names, section_names}
use Rattle.wasm_places.proofs.FunctionNameLemmas.{sections_begin, sections_go_on}
use Rattle.wasm_places.proofs.function_names.name_of_function.Goals as goal

pub returns-in_err-header : goal.returns-in_err-header
returns-in_err-header c =
    let none : c.from_residual.result ≡ None = search rules in
    rw none (lacks_header c.args.module.now c.args.function
    (rw (← c.new-rest.ensures) c.in_err-header.ensures))

pub loop-id-init : goal.loop-id-init
loop-id-init c = (
  c.header.new.reader,
  rw (← c.new-rest.ensures) c.in_ok-header.ensures,
  sections_begin (λ name s. InSection c.args.function s name) c.header.new.reader,
)

pub returns-in-Some-name_in_section : goal.returns-in-Some-name_in_section
returns-in-Some-name_in_section c =
    let h = c.loop-id.invariant in
    module_names c.args.module.now c.args.function h.0 h.1
    c.in-Some-name_in_section.name.now
    (section_names (λ name s. InSection c.args.function s name) h.0 c.loop-id.rest h.2
    (section_with c.in-Some.id c.in-Some.body) c.section.new.reader
    c.in-Some-name_in_section.name.now c.in-Some.ensures c.in-Some-name_in_section.ensures)

pub loop-id-smaller : goal.loop-id-smaller
loop-id-smaller c =
    section_shorter c.loop-id.rest (section_with c.in-Some.id c.in-Some.body) c.section.new.reader
    (Reads-section_at.sound c.loop-id.rest (section_with c.in-Some.id c.in-Some.body)
    c.section.new.reader c.in-Some.ensures)

pub loop-id-preserved : goal.loop-id-preserved
loop-id-preserved c =
    let h = c.loop-id.invariant in (
      h.0,
      h.1,
      sections_go_on (λ name s. InSection c.args.function s name) h.0 c.loop-id.rest h.2
          (section_with c.in-Some.id c.in-Some.body) c.section.new.reader c.in-Some.ensures
          c.in_default-name_in_section.ensures,
    )

pub returns : goal.returns
returns c =
    let h = c.loop-id.invariant in
    module_lacks c.args.module.now c.args.function h.0 h.1
    (no_section_names (λ name s. InSection c.args.function s name) h.0 c.loop-id.rest h.2
    c.in_default.ensures)
