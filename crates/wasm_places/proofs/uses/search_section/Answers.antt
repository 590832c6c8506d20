use Rattle.std.proofs.Common.{◌≡◌, true, None, rules}
use Rattle.wasm_places.specs.Uses.{declared_in}
use Rattle.wasm_places.proofs.UseLemmas.{no_count, search_begins, search_done, search_fails}
use Rattle.wasm_places.proofs.UseLemmas.{search_goes_on, search_leaves}
use Rattle.wasm_places.proofs.uses.search_section.Goals as goal

pub returns-in_err-count-clause-searched : goal.returns-in_err-count-clause-searched
returns-in_err-count-clause-searched c =
    let none : c.from_residual.result ≡ None = search rules in
    rw none (no_count c.args.declaring c.args.section.bytes.now c.args.wanted c.args.before
    (rw (← c.of-rest.ensures) c.in_err-count.ensures))

pub loop-init : goal.loop-init
loop-init c =
    search_begins c.args.declaring c.args.section.bytes.now c.args.wanted c.args.before
    c.in_ok-count.count c.u32.new.self (rw (← c.of-rest.ensures) c.in_ok-count.ensures)

pub returns-in_err-function-clause-searched : goal.returns-in_err-function-clause-searched
returns-in_err-function-clause-searched c =
    let none : c.from_residual-in_err-function.result ≡ None = search rules in
    rw none (search_fails c.args.declaring c.args.section.bytes.now c.args.wanted c.args.before
    c.in_ok-count.count c.loop.counter c.loop.search c.loop.rest c.loop.invariant c.loop-test.true
    c.in_err-function.ensures)

pub loop-preserved : goal.loop-preserved
loop-preserved c =
    search_goes_on c.args.declaring c.args.section.bytes.now c.args.wanted c.args.before
    c.in_ok-count.count c.loop.counter c.loop.search c.loop.rest c.loop.invariant
    (declared_in c.in_ok-function.function) c.next_declared.new.reader c.search_on-search.result
    c.loop-test.true c.in_ok-function.ensures c.search_on-search.ensures.searched
    c.search_on-search.ensures.grows

pub returns-then-is_empty-clause-searched : goal.returns-then-is_empty-clause-searched
returns-then-is_empty-clause-searched c =
    search_done c.args.declaring c.args.section.bytes.now c.args.wanted c.args.before
    c.in_ok-count.count c.loop.counter c.loop.search c.loop.rest c.loop.invariant
    c.loop-test.false (c.is_empty.ensures.0 c.if-is_empty.true)

pub returns-else-is_empty-clause-searched : goal.returns-else-is_empty-clause-searched
returns-else-is_empty-clause-searched c =
    search_leaves c.args.declaring c.args.section.bytes.now c.args.wanted c.args.before
    c.in_ok-count.count c.loop.counter c.loop.search c.loop.rest c.loop.invariant
    c.loop-test.false
    (λ ended. absurd (let is : c.is_empty.result ≡ true = c.is_empty.ensures.1 ended in cc))
