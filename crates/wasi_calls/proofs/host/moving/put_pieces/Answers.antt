use Rattle.std.proofs.Common.{◌≡◌, ◌+◌, [], drop, length, refl, arith}
use Rattle.std.proofs.lemmas.List.{drop_all}
use Rattle.wasi_calls.proofs.Pieces.{next_one, next_total}
use Rattle.wasi_calls.proofs.WrittenFiles.{put_next, put_all}
use Rattle.wasi_calls.proofs.host.moving.put_pieces.Goals as goal

pub overflow_add-place : goal.overflow_add-place
overflow_add-place c =
    let items = c.as_slice-buffer-items.result.now in
    let b = c.buffer-item.result in
    let split = next_one items c.loop-buffer.buffer-index b c.loop-buffer-test.true c.buffer-item.is
    in
    let within = c.loop-buffer.invariant.within in
    let total = next_total c.args.memory.now.bytes items c.loop-buffer.buffer-index b split in
    omega (
      arith,
      within,
      total,
      c.bytes-piece.ensures.len,
      c.loop-buffer.invariant.size,
      c.requires.small,
    )

pub loop-buffer-preserved : goal.loop-buffer-preserved
loop-buffer-preserved c =
    let items = c.as_slice-buffer-items.result.now in
    let b = c.buffer-item.result in
    let i = c.loop-buffer.buffer-index in
    let split = next_one items i b c.loop-buffer-test.true c.buffer-item.is in
    put_next c.args.memory.now.bytes c.args.buffers.now items c.args.node c.args.from
    c.loop-buffer.place i c.args.tree.now c.loop-buffer.tree b split c.bytes-piece.result.now
    c.write.new.self (c.loop-buffer.place + length c.bytes-piece.result.now)
    c.loop-buffer.invariant c.bytes-piece.ensures.bytes c.write.ensures refl

pub returns : goal.returns
returns c =
    let items = c.as_slice-buffer-items.result.now in
    let none : drop c.loop-buffer.buffer-index items ≡ [] =
    drop_all c.loop-buffer.buffer-index items c.loop-buffer-test.false in
    put_all c.args.memory.now.bytes c.args.buffers.now c.args.node c.args.from c.loop-buffer.place
    c.args.tree.now c.loop-buffer.tree (rw none at c.loop-buffer.invariant)
