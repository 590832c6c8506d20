use Rattle.std.proofs.Common.{drop, arith}
use Rattle.std.proofs.lemmas.List.{drop_all}
use Rattle.wasi_calls.proofs.TextLemmas.{text_next, text_fits, text_put, all_texts}
use Rattle.wasi_calls.proofs.texts.put_texts.Goals as goal

pub overflow_add-end : goal.overflow_add-end
overflow_add-end c =
    let texts = c.args.texts.now in
    let i = c.loop-text.text-index in
    let split = text_next texts i c.text-item.result (omega (arith, c.loop-text-test.true))
    c.text-item.is in
    let fits = text_fits texts c.args.buffer c.args.memory.now c.requires.room
    c.loop-text.memory c.loop-text.begin i c.text-item.result split c.loop-text.invariant in
    let inside = c.requires.inside in
    let size = c.loop-text.invariant.size in
    let len = c.len.ensures in
    omega (arith, fits, inside, size, len)

pub loop-text-preserved : goal.loop-text-preserved
loop-text-preserved c =
    let texts = c.args.texts.now in
    let i = c.loop-text.text-index in
    let split = text_next texts i c.text-item.result (omega (arith, c.loop-text-test.true))
    c.text-item.is in
    let put = (rw c.unwrap.ensures at c.write.ensures.written) in
    let closed = (rw c.unwrap-in-loop-text.ensures at c.write-in-loop-text.ensures.written) in
    rw c.len.ensures
    (text_put texts c.args.buffer c.args.memory.now c.requires.room c.loop-text.memory
    c.loop-text.begin i c.text-item.result split c.loop-text.invariant c.write.new.self
    c.write-in-loop-text.new.self (rw c.as_slice.ensures at put) (rw c.len.ensures at closed))

pub returns-clause-put : goal.returns-clause-put
returns-clause-put c =
    all_texts c.args.texts.now c.args.buffer c.args.memory.now c.requires.room c.loop-text.memory
    (drop c.loop-text.text-index c.args.texts.now) c.loop-text.begin
    (drop_all c.loop-text.text-index c.args.texts.now c.loop-text-test.false)
    c.loop-text.invariant
