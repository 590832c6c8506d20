use Rattle.std.proofs.Common.{◌≡◌, ◌+◌, ◌∙◌, drop, sym, ap}
use Rattle.guest_memory.specs.rules.Bytes.{part}
use Rattle.wasi_calls_rules.specs.Checks.{Bytes, gathered}
use Rattle.wasi_calls_rules.specs.Lines.{Cut, cut_all}
use Rattle.wasi_calls.proofs.Pieces.{next_one, next_inside, next_gathered, cut_both}
use Rattle.wasi_calls.proofs.cut.Cut.of.Goals as goal

pub loop-buffer-preserved : goal.loop-buffer-preserved
loop-buffer-preserved c =
    let m = c.args.memory.now.bytes in
    let items = c.as_slice-buffer-items.result.now in
    let b = c.buffer-item.result in
    let i = c.loop-buffer.buffer-index in
    let split = next_one items i b c.loop-buffer-test.true c.buffer-item.is in
    let rest : Bytes = gathered m (drop (i + 1) items) in
    let before = c.loop-buffer.cut in
    let is : c.put_all.new.self ≡ cut_all c.args.stream before (part m b.from b.len) =
    c.in_ok-put_all.ensures ∙ ap (cut_all c.args.stream before) c.bytes.ensures.bytes in (
      (next_inside m items i b split c.loop-buffer.invariant.0).1,
      ap (λ (x : Cut). cut_all c.args.stream x rest) is
          ∙ sym (cut_both c.args.stream before (part m b.from b.len) rest)
          ∙ ap (cut_all c.args.stream before) (sym (next_gathered m items i b split))
          ∙ c.loop-buffer.invariant.1,
    )
