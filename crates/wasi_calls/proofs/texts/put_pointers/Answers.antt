use Rattle.std.proofs.Common.{drop, arith}
use Rattle.std.proofs.lemmas.List.{drop_all}
use Rattle.wasi_calls.proofs.TextLemmas.{text_next, begins_before, pointer_put, all_pointers}
use Rattle.wasi_calls.proofs.texts.put_pointers.Goals as goal

pub overflow_cast-begin : goal.overflow_cast-begin
overflow_cast-begin c =
    let texts = c.args.texts.now in
    let i = c.loop-text.text-index in
    let split = text_next texts i c.text-item.result (omega (arith, c.loop-text-test.true))
    c.text-item.is in
    let before = begins_before texts c.args.array c.args.buffer c.args.memory.now
    c.loop-text.memory c.loop-text.offset c.loop-text.begin i c.text-item.result split
    c.requires.room c.loop-text.invariant in
    let inside = c.requires.inside in
    omega (arith, before, inside)

pub overflow_add-offset : goal.overflow_add-offset
overflow_add-offset c =
    let texts = c.args.texts.now in
    let i = c.loop-text.text-index in
    let split = text_next texts i c.text-item.result (omega (arith, c.loop-text-test.true))
    c.text-item.is in
    let place = c.loop-text.invariant.place in
    let few = c.requires.few in
    omega (arith, place, few)

pub loop-text-preserved : goal.loop-text-preserved
loop-text-preserved c =
    let texts = c.args.texts.now in
    let i = c.loop-text.text-index in
    let split = text_next texts i c.text-item.result (omega (arith, c.loop-text-test.true))
    c.text-item.is in
    rw c.len.ensures
    (pointer_put texts c.args.array c.args.buffer c.args.memory.now c.loop-text.memory
    c.loop-text.offset c.loop-text.begin i c.text-item.result split c.requires.room
    c.loop-text.invariant c.store_u32.new.self
    (rw c.unwrap.ensures at c.store_u32.ensures.stored))

pub returns-clause-put : goal.returns-clause-put
returns-clause-put c =
    all_pointers c.args.texts.now c.args.array c.args.buffer c.args.memory.now c.loop-text.memory
    (drop c.loop-text.text-index c.args.texts.now) c.loop-text.offset c.loop-text.begin
    (drop_all c.loop-text.text-index c.args.texts.now c.loop-text-test.false) c.requires.room
    c.loop-text.invariant
