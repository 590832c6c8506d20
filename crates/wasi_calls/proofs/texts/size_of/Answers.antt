use Rattle.std.proofs.Common.{◌+◌, List, length, drop, ap, ◌∙◌, arith}
use Rattle.wasi_calls_rules.specs.Checks.{Bytes}
use Rattle.wasi_calls_rules.specs.Small.{with_zeros}
use Rattle.wasi_calls.proofs.TextLemmas.{few_bytes, text_next, size_next}
use Rattle.wasi_calls.proofs.texts.size_of.Goals as goal

pub overflow_add-size-in-loop-text : goal.overflow_add-size-in-loop-text
overflow_add-size-in-loop-text c =
    let texts = c.args.texts.now in
    let i = c.loop-text.text-index in
    let split = text_next texts i c.text-item.result (omega (arith, c.loop-text-test.true))
    c.text-item.is in
    let rest = ap (λ (ts : List Bytes). length (with_zeros ts)) split
    ∙ size_next c.text-item.result (drop (i + 1) texts) in
    let few = few_bytes texts c.requires in
    let so_far = c.loop-text.invariant in
    let len = c.len.ensures in
    omega (arith, rest, few, so_far, len)
