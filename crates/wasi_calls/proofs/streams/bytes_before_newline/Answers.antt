use Rattle.std.proofs.Common.{◌≡◌, ◌+◌, ◌<◌, drop, length, ap, arith}
use Rattle.std.specs.List.{prefix_len}
use Rattle.std.proofs.lemmas.List.Sums.{prefix_len-le-length}
use Rattle.guest_memory.specs.rules.Bytes.{part}
use Rattle.wasi_calls_rules.specs.Checks.{Bytes, gathered}
use Rattle.wasi_calls.proofs.Endings.{is_text, goes_on, stops_within}
use Rattle.wasi_calls.proofs.Pieces.{next_one, next_inside, next_gathered, next_total}
use Rattle.wasi_calls.proofs.streams.bytes_before_newline.Goals as goal

pub overflow_add-before : goal.overflow_add-before
overflow_add-before c =
    let m = c.args.memory.now.bytes in
    let items = c.as_slice-buffer-items.result.now in
    let b = c.buffer-item.result in
    let i = c.loop-buffer.buffer-index in
    let split = next_one items i b c.loop-buffer-test.true c.buffer-item.is in
    omega (
      arith,
      next_total m items i b split,
      prefix_len-le-length is_text c.bytes-bytes.result.now,
      c.bytes-bytes.ensures.len,
      c.length_before_newline-own.ensures,
      c.loop-buffer.invariant.2,
    )

pub returns-then-own-bytes : goal.returns-then-own-bytes
returns-then-own-bytes c =
    let m = c.args.memory.now.bytes in
    let items = c.as_slice-buffer-items.result.now in
    let b = c.buffer-item.result in
    let i = c.loop-buffer.buffer-index in
    let split = next_one items i b c.loop-buffer-test.true c.buffer-item.is in
    let front : Bytes = part m b.from b.len in
    let rest : Bytes = gathered m (drop (i + 1) items) in
    let own : c.length_before_newline-own.result ≡ prefix_len is_text front =
    (rw c.bytes-bytes.ensures.bytes at c.length_before_newline-own.ensures) in
    let len : length front ≡ b.len = (rw c.bytes-bytes.ensures.bytes at c.bytes-bytes.ensures.len)
    in
    let all = ap (prefix_len is_text) (next_gathered m items i b split) in
    let few : prefix_len is_text front < length front =
    omega (arith, own, len, c.if-own-bytes.true, c.bytes-bytes.ensures.len) in
    omega (arith, own, all, stops_within front rest few, c.loop-buffer.invariant.1)

pub loop-buffer-preserved : goal.loop-buffer-preserved
loop-buffer-preserved c =
    let m = c.args.memory.now.bytes in
    let items = c.as_slice-buffer-items.result.now in
    let b = c.buffer-item.result in
    let i = c.loop-buffer.buffer-index in
    let split = next_one items i b c.loop-buffer-test.true c.buffer-item.is in
    let front : Bytes = part m b.from b.len in
    let rest : Bytes = gathered m (drop (i + 1) items) in
    let own : c.length_before_newline-own.result ≡ prefix_len is_text front =
    (rw c.bytes-bytes.ensures.bytes at c.length_before_newline-own.ensures) in
    let len : length front ≡ b.len = (rw c.bytes-bytes.ensures.bytes at c.bytes-bytes.ensures.len)
    in
    let all = ap (prefix_len is_text) (next_gathered m items i b split) in
    let most = prefix_len-le-length is_text front in
    let whole : prefix_len is_text front ≡ length front =
    omega (arith, own, len, most, c.if-own-bytes.false, c.bytes-bytes.ensures.len) in (
      (next_inside m items i b split c.loop-buffer.invariant.0).1,
      omega (arith, own, all, whole, goes_on front rest whole, c.loop-buffer.invariant.1),
      omega (arith, own, len, most, next_total m items i b split, c.loop-buffer.invariant.2),
    )
