use Rattle.wasm_syntax.proofs.Grammar.Rising.{Reads-section_at, section_shorter}
use Rattle.wasm_places.specs.Around.{section_with}
use Rattle.wasm_places.specs.FunctionNames.{InSubsection}
use Rattle.wasm_places.proofs.FunctionNameLemmas.{no_section_names, section_names}
use Rattle.wasm_places.proofs.FunctionNameLemmas.{sections_begin, sections_go_on}
use Rattle.wasm_places.proofs.function_names.name_in_subsections.Goals as goal

pub loop-id-init : goal.loop-id-init
loop-id-init c =
    rw c.of-rest.ensures
    (sections_begin (λ name s. InSubsection c.args.function s name) c.args.subsections.bytes.now)

pub returns-in-Some-name_in_subsection : goal.returns-in-Some-name_in_subsection
returns-in-Some-name_in_subsection c =
    section_names (λ name s. InSubsection c.args.function s name) c.args.subsections.bytes.now
    c.loop-id.rest c.loop-id.invariant (section_with c.in-Some.id c.in-Some.map)
    c.section.new.reader c.in-Some-name_in_subsection.name.now c.in-Some.ensures
    c.in-Some-name_in_subsection.ensures

pub loop-id-smaller : goal.loop-id-smaller
loop-id-smaller c =
    section_shorter c.loop-id.rest (section_with c.in-Some.id c.in-Some.map) c.section.new.reader
    (Reads-section_at.sound c.loop-id.rest (section_with c.in-Some.id c.in-Some.map)
    c.section.new.reader c.in-Some.ensures)

pub loop-id-preserved : goal.loop-id-preserved
loop-id-preserved c =
    sections_go_on (λ name s. InSubsection c.args.function s name) c.args.subsections.bytes.now
    c.loop-id.rest c.loop-id.invariant (section_with c.in-Some.id c.in-Some.map)
    c.section.new.reader c.in-Some.ensures c.in_default-name_in_subsection.ensures

pub returns : goal.returns
returns c =
    no_section_names (λ name s. InSubsection c.args.function s name) c.args.subsections.bytes.now
    c.loop-id.rest c.loop-id.invariant c.in_default.ensures
