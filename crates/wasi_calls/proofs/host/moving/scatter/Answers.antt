use Rattle.std.proofs.Common.{◌≡◌, [], drop}
use Rattle.std.proofs.lemmas.List.{drop_all}
use Rattle.wasi_calls_rules.specs.declared.limits.TheConstants.{MOVED_BYTES}
use Rattle.wasi_calls.specs.Moves.{total_len}
use Rattle.wasi_calls.proofs.Pieces.{moved_all, moved_few}
use Rattle.wasi_calls.proofs.host.moving.scatter.Goals as goal

pub returns-clause-put : goal.returns-clause-put
returns-clause-put c =
    let items = c.as_slice-buffer-items.result.now in
    let none : drop c.loop-buffer.buffer-index items ≡ [] =
    drop_all c.loop-buffer.buffer-index items c.loop-buffer-test.false in
    (moved_all c.args.memory.now.bytes c.loop-buffer.memory.bytes c.args.buffers.now
    c.args.bytes.now c.loop-buffer.moved (rw none at c.loop-buffer.invariant.0)).0

pub returns-clause-few : goal.returns-clause-few
returns-clause-few c =
    let items = c.as_slice-buffer-items.result.now in
    let none : drop c.loop-buffer.buffer-index items ≡ [] =
    drop_all c.loop-buffer.buffer-index items c.loop-buffer-test.false in
    let all = moved_all c.args.memory.now.bytes c.loop-buffer.memory.bytes c.args.buffers.now
    c.args.bytes.now c.loop-buffer.moved (rw none at c.loop-buffer.invariant.0) in
    moved_few c.loop-buffer.moved (total_len c.args.buffers.now) MOVED_BYTES c.args.bytes.now
    all.1 c.as_slice-buffer-items.ensures.few
