use Rattle.std.proofs.Common.{◌≡◌, ◌∙◌, ◌+◌, ◌≤◌, [], length, arith}
use Rattle.std.specs.List.{prefix_len}
use Rattle.std.proofs.lemmas.List.Sums.{prefix_len-le-length}
use Rattle.wasi_calls_rules.specs.Checks.{gathered}
use Rattle.wasi_calls_rules.specs.Lines.{cut_all}
use Rattle.wasi_calls_rules.specs.declared.limits.TheConstants.{LINE_BYTES}
use Rattle.wasi_calls.proofs.Cuts.{written_cut, cut_onto, cut_at_end}
use Rattle.wasi_calls.proofs.Endings.{is_text, none_ends}
use Rattle.wasi_calls.proofs.Fronts.{length_gathered}
use Rattle.wasi_calls.proofs.streams.put.Goals as goal

pub ends_one_at_most-requires : goal.ends_one_at_most-requires
ends_one_at_most-requires c =
    let bs = c.args.buffers.now in
    let m = c.args.memory.now.bytes in
    omega (
      arith,
      c.bytes_before_newline-before.ensures,
      prefix_len-le-length is_text (gathered m bs),
      length_gathered m bs c.requires,
      c.len-2.ensures.value,
    )

pub returns-then-before-len-clause-written : goal.returns-then-before-len-clause-written
returns-then-before-len-clause-written c =
    let text = c.args.unfinished.now.items in
    let bs = c.args.buffers.now in
    let bytes = gathered c.args.memory.now.bytes bs in
    let size = length_gathered c.args.memory.now.bytes bs c.requires in
    let before : c.bytes_before_newline-before.result ≡ prefix_len is_text bytes =
    c.bytes_before_newline-before.ensures in
    let room = (c.ends_one_at_most.ensures c.if-ends_one_at_most.true).0 in
    let len : c.len.result ≡ length text = c.len.ensures ∙ c.args.unfinished.now.ok.0 in
    let all : prefix_len is_text bytes ≡ length bytes =
    omega (
      arith,
      before,
      size,
      c.if-before-len.true,
      c.len-then-ends_one_at_most.ensures.value,
    ) in
    rw (c.in_ok-reserve.ensures.items, c.in_ok-append.ensures.appended)
    (cut_onto c.args.stream c.args.waiting.now.items text bytes
    (omega (arith, room, before, len, all)) (none_ends bytes all))

pub returns-then-ends_one_at_most-clause-written :
    goal.returns-then-ends_one_at_most-clause-written
returns-then-ends_one_at_most-clause-written c =
    let text = c.args.unfinished.now.items in
    let bs = c.args.buffers.now in
    let bytes = gathered c.args.memory.now.bytes bs in
    let size = length_gathered c.args.memory.now.bytes bs c.requires in
    let most = prefix_len-le-length is_text bytes in
    let before : c.bytes_before_newline-before.result ≡ prefix_len is_text bytes =
    c.bytes_before_newline-before.ensures in
    let fits = c.ends_one_at_most.ensures c.if-ends_one_at_most.true in
    let len : c.len.result ≡ length text = c.len.ensures ∙ c.args.unfinished.now.ok.0 in
    let few : length text + prefix_len is_text bytes ≤ LINE_BYTES =
    omega (arith, fits.0, before, len) in
    let last : prefix_len is_text bytes + 1 ≡ length bytes =
    omega (
      arith,
      fits.1,
      before,
      size,
      most,
      c.len-2.ensures.value,
      c.if-before-len.false,
      c.len-then-ends_one_at_most.ensures.value,
    ) in
    rw (
      c.emit_unfinished.ensures.emitted,
      c.emit_unfinished.ensures.none,
      c.in_ok-reserve.ensures.items,
      c.in_ok-append.ensures.appended,
    )
    (cut_at_end c.args.stream c.args.waiting.now.items text bytes few last)

pub returns-clause-written : goal.returns-clause-written
returns-clause-written c =
    let before = c.args.waiting.now.items in
    let text = c.args.unfinished.now.items in
    let bytes = gathered c.args.memory.now.bytes c.args.buffers.now in
    let is : c.in_ok-of.field-0
    ≡ cut_all c.args.stream (record { lines = []; unfinished = text }) bytes =
    rw c.deref.ensures.value at c.in_ok-of.ensures in
    written_cut c.args.stream before c.into_parts-lines.result.0.items c.emit.new.waiting.items
    text c.into_parts-lines.result.1.items bytes c.in_ok-of.field-0 is
    c.into_parts-lines.ensures.lines c.into_parts-lines.ensures.rest c.in_ok-emit.ensures.emitted
