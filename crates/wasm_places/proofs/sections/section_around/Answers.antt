use Rattle.std.proofs.Common.{◌≡◌, ◌-◌, None, arith, rules}
use Rattle.wasm_syntax.proofs.Grammar.Rising.{Reads-section_at, section_shorter}
use Rattle.wasm_places.specs.Around.{section_with}
use Rattle.wasm_places.proofs.SectionLemmas.{in_header, no_header, no_section_left, section_found}
use Rattle.wasm_places.proofs.SectionLemmas.{sections_begin, sections_go_on}
use Rattle.wasm_places.proofs.sections.section_around.Goals as goal

pub returns-in_err-header : goal.returns-in_err-header
returns-in_err-header c =
    let none : c.from_residual.result ≡ None = search rules in
    rw none (no_header c.args.module.now c.args.at
    (rw (← c.new-rest.ensures) c.in_err-header.ensures))

pub returns-then-len-left : goal.returns-then-len-left
returns-then-len-left c =
    in_header c.args.module.now c.args.at c.header.new.reader c.in_ok-left.left
    (rw (← c.new-rest.ensures) c.in_ok-header.ensures)
    (omega (arith, c.in_ok-left.ensures.0, c.in_ok-left.ensures.1))
    (omega (arith, c.len.ensures, c.if-len-left.true))

pub loop-id-init : goal.loop-id-init
loop-id-init c =
    sections_begin c.args.module.now c.args.at c.header.new.reader c.in_ok-left.left
    (rw (← c.new-rest.ensures) c.in_ok-header.ensures)
    (omega (arith, c.in_ok-left.ensures.0, c.in_ok-left.ensures.1))
    (omega (arith, c.len.ensures, c.if-len-left.false))

pub returns-then-len-left-2 : goal.returns-then-len-left-2
returns-then-len-left-2 c =
    let first = c.len-in-Some.ensures in
    let second = c.len-then-len-left-2.ensures in
    section_found c.args.module.now c.args.at c.in_ok-left.left c.loop-id.imports c.loop-id.rest
    c.loop-id.invariant c.in-Some.id c.in-Some.body c.section.new.reader
    (c.in_ok-left.left - c.len-then-len-left-2.result) c.in-Some.ensures
    (omega (arith, first, c.if-len-left-2.true))
    (omega (arith, first, second, c.if-len-left-2.true))

pub loop-id-smaller : goal.loop-id-smaller
loop-id-smaller c =
    let read = Reads-section_at.sound c.loop-id.rest (section_with c.in-Some.id c.in-Some.body)
    c.section.new.reader c.in-Some.ensures in
    section_shorter c.loop-id.rest (section_with c.in-Some.id c.in-Some.body) c.section.new.reader
    read

pub loop-id-preserved : goal.loop-id-preserved
loop-id-preserved c =
    rw c.first_part-imports.ensures
    (sections_go_on c.args.module.now c.args.at c.in_ok-left.left c.loop-id.imports c.loop-id.rest
    c.loop-id.invariant c.in-Some.id c.in-Some.body c.section.new.reader c.in-Some.ensures
    (omega (arith, c.len-in-Some.ensures, c.if-len-left-2.false)))

pub returns : goal.returns
returns c =
    no_section_left c.args.module.now c.args.at c.in_ok-left.left c.loop-id.imports c.loop-id.rest
    c.loop-id.invariant c.in_default.ensures
