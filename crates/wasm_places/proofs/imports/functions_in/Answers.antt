use Rattle.std.proofs.Common.{◌≡◌, true, None, rules}
use Rattle.wasm_places.specs.Imported.{import_with}
use Rattle.wasm_places.proofs.ImportLemmas.{import_fails, imports_begin, imports_done}
use Rattle.wasm_places.proofs.ImportLemmas.{imports_go_on, imports_leave, no_count}
use Rattle.wasm_places.proofs.imports.functions_in.Goals as goal

pub returns-in_err-count : goal.returns-in_err-count
returns-in_err-count c =
    let none : c.from_residual.result ≡ None = search rules in
    rw none (no_count c.args.section.bytes.now (rw (← c.of-rest.ensures) c.in_err-count.ensures))

pub loop-init : goal.loop-init
loop-init c =
    imports_begin c.args.section.bytes.now c.in_ok-count.count c.u32.new.self
    (rw (← c.of-rest.ensures) c.in_ok-count.ensures)

pub returns-in_err-import : goal.returns-in_err-import
returns-in_err-import c =
    let none : c.from_residual-in_err-import.result ≡ None = search rules in
    rw none (import_fails c.args.section.bytes.now c.in_ok-count.count c.loop.counter
    c.loop.functions c.loop.rest c.loop.invariant c.loop-test.true c.in_err-import.ensures)

pub loop-preserved : goal.loop-preserved
loop-preserved c =
    rw c.with_import-functions.ensures
    (imports_go_on c.args.section.bytes.now c.in_ok-count.count c.loop.counter c.loop.functions
    c.loop.rest c.loop.invariant (import_with c.in_ok-import.import) c.import.new.reader
    c.loop-test.true c.in_ok-import.ensures)

pub returns-then-is_empty : goal.returns-then-is_empty
returns-then-is_empty c =
    imports_done c.args.section.bytes.now c.in_ok-count.count c.loop.counter c.loop.functions
    c.loop.rest c.loop.invariant c.loop-test.false (c.is_empty.ensures.0 c.if-is_empty.true)

pub returns-else-is_empty : goal.returns-else-is_empty
returns-else-is_empty c =
    imports_leave c.args.section.bytes.now c.in_ok-count.count c.loop.counter c.loop.functions
    c.loop.rest c.loop.invariant c.loop-test.false
    (λ ended. absurd (let is : c.is_empty.result ≡ true = c.is_empty.ensures.1 ended in cc))
