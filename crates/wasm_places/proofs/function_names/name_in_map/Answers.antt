use Rattle.std.proofs.Common.{◌≡◌, None, rules}
use Rattle.wasm_places.specs.FunctionNames.{function_name_with}
use Rattle.wasm_places.proofs.FunctionNameLemmas.{match_map, name_found, name_unread, names_begin}
use Rattle.wasm_places.proofs.FunctionNameLemmas.{names_go_on, no_count, no_name_here, no_name_left}
use Rattle.wasm_places.proofs.function_names.name_in_map.Goals as goal

pub returns-in_err-count : goal.returns-in_err-count
returns-in_err-count c =
    let none : c.from_residual.result ≡ None = search rules in
    rw none (no_count c.args.map.bytes.now c.args.function
    (rw (← c.of-rest.ensures) c.in_err-count.ensures))

pub loop-init : goal.loop-init
loop-init c =
    names_begin c.args.map.bytes.now c.args.function c.in_ok-count.count c.u32.new.self
    (rw (← c.of-rest.ensures) c.in_ok-count.ensures)

pub returns-in_err-entry : goal.returns-in_err-entry
returns-in_err-entry c =
    let none : c.from_residual-in_err-entry.result ≡ None = search rules in
    rw none (name_unread c.args.map.bytes.now c.args.function c.in_ok-count.count c.loop.counter
    c.loop.rest c.loop.invariant c.in_err-entry.ensures)

pub returns-then-entry-function : goal.returns-then-entry-function
returns-then-entry-function c =
    match_map c.name_in_entry.result
    (no_name_here c.args.map.bytes.now c.args.function c.in_ok-count.count c.loop.counter
    c.loop.rest c.loop.invariant (function_name_with c.in_ok-entry.entry) c.name_entry.new.reader
    c.in_ok-entry.ensures c.if-entry-function.true)
    (λ name h. name_found c.args.map.bytes.now c.args.function c.in_ok-count.count c.loop.counter
    c.loop.rest c.loop.invariant (function_name_with c.in_ok-entry.entry) c.name_entry.new.reader
    c.in_ok-entry.ensures h.0 c.loop-test.true name.now h.1 h.2)
    c.name_in_entry.ensures

pub loop-preserved : goal.loop-preserved
loop-preserved c =
    names_go_on c.args.map.bytes.now c.args.function c.in_ok-count.count c.loop.counter
    c.loop.rest c.loop.invariant (function_name_with c.in_ok-entry.entry) c.name_entry.new.reader
    c.in_ok-entry.ensures c.if-entry-function.false

pub returns : goal.returns
returns c =
    no_name_left c.args.map.bytes.now c.args.function c.in_ok-count.count c.loop.counter
    c.loop.rest c.loop.invariant c.loop-test.false
