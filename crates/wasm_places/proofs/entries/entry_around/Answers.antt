use Rattle.std.proofs.Common.{◌≡◌, None, arith, rules}
use Rattle.wasm_places.proofs.EntryLemmas.{before_entries, entries_begin, entries_go_on}
use Rattle.wasm_places.proofs.EntryLemmas.{entry_found, no_entry_counted, no_entry_left, no_count}
use Rattle.wasm_places.proofs.entries.entry_around.Goals as goal

pub returns-in_err-count : goal.returns-in_err-count
returns-in_err-count c =
    let none : c.from_residual.result ≡ None = search rules in
    rw none (no_count c.args.entries c.args.section.bytes.now c.args.left
    (rw (← c.of-rest.ensures) c.in_err-count.ensures))

pub returns-then-len-left : goal.returns-then-len-left
returns-then-len-left c =
    before_entries c.args.entries c.args.section.bytes.now c.args.left c.in_ok-count.count
    c.u32.new.self (rw (← c.of-rest.ensures) c.in_ok-count.ensures)
    (omega (arith, c.len.ensures, c.if-len-left.true))

pub loop-number-init : goal.loop-number-init
loop-number-init c =
    entries_begin c.args.entries c.args.section.bytes.now c.args.left c.in_ok-count.count
    c.u32.new.self (rw (← c.of-rest.ensures) c.in_ok-count.ensures)
    (omega (arith, c.len.ensures, c.if-len-left.false))

pub returns-in_err-skip_entry : goal.returns-in_err-skip_entry
returns-in_err-skip_entry c =
    let none : c.from_residual-in_err-skip_entry.result ≡ None = search rules in
    rw none (no_entry_left c.args.entries c.args.section.bytes.now c.args.left c.in_ok-count.count
    c.loop-number.number c.loop-number.rest c.loop-number.invariant c.in_err-skip_entry.ensures)

pub returns-then-len-left-2 : goal.returns-then-len-left-2
returns-then-len-left-2 c =
    entry_found c.args.entries c.args.section.bytes.now c.args.left c.in_ok-count.count
    c.loop-number.number c.loop-number.rest c.loop-number.invariant c.skip_entry.new.reader
    c.in_ok-skip_entry.ensures
    (omega (arith, c.len-in-loop-number.ensures, c.if-len-left-2.true)) c.loop-number-test.true

pub loop-number-preserved : goal.loop-number-preserved
loop-number-preserved c =
    entries_go_on c.args.entries c.args.section.bytes.now c.args.left c.in_ok-count.count
    c.loop-number.number c.loop-number.rest c.loop-number.invariant c.skip_entry.new.reader
    c.in_ok-skip_entry.ensures
    (omega (arith, c.len-in-loop-number.ensures, c.if-len-left-2.false))

pub returns : goal.returns
returns c =
    no_entry_counted c.args.entries c.args.section.bytes.now c.args.left c.in_ok-count.count
    c.loop-number.number c.loop-number.rest c.loop-number.invariant c.loop-number-test.false
