use Rattle.std.proofs.Common.{◌≡◌, ◌+◌, ◌++◌, ◌∙◌, [], drop, take, length, sym, ap, refl, arith}
use Rattle.std.proofs.Common.{length-take, length-drop}
use Rattle.std.proofs.lemmas.List.{drop_all, drop-drop}
use Rattle.guest_memory.specs.rules.Bytes.{part, with_part}
use Rattle.file_tree.specs.rules.Files.{bytes_of_node}
use Rattle.wasi_calls_rules.specs.Checks.{Bytes}
use Rattle.wasi_calls_rules.specs.declared.limits.TheConstants.{MOVED_BYTES}
use Rattle.wasi_calls.specs.Moves.{total_len}
use Rattle.wasi_calls.proofs.Pieces.{next_one, moved_inside, moved_next, moved_all, moved_few}
use Rattle.wasi_calls.proofs.Pieces.{lent_piece}
use Rattle.wasi_calls.proofs.host.moving.read_pieces.Goals as goal

pub loop-buffer-preserved : goal.loop-buffer-preserved
loop-buffer-preserved c =
    let m = c.args.memory.now.bytes in
    let now = c.loop-buffer.memory.bytes in
    let bs = c.args.buffers.now in
    let items = c.as_slice-buffer-items.result.now in
    let b = c.buffer-item.result in
    let i = c.loop-buffer.buffer-index in
    let split = next_one items i b c.loop-buffer-test.true c.buffer-item.is in
    let from = c.args.from in
    let file : Bytes = bytes_of_node c.args.tree.now c.args.node in
    let source : Bytes = drop from file in
    let moved = c.loop-buffer.moved in
    let so_far = c.loop-buffer.invariant.0 in
    let into = c.part_mut-into.result.now in
    let len : length into ≡ b.len = c.part_mut-into.ensures.len ∙ c.len.ensures in
    let piece : Bytes = take b.len (drop moved source) in
    let few = length-take b.len (drop moved source) in
    let got : take (length into) (drop (from + moved) file) ≡ piece =
    ap (λ n. take n (drop (from + moved) file)) len
    ∙ ap (take b.len) (sym (drop-drop moved from file)) in
    let count : c.read.result ≡ length piece = c.read.ensures.count ∙ ap length got in
    let was : into ≡ part now b.from b.len =
    c.part_mut-into.ensures.bytes ∙ ap (λ n. part now n c.len.result) c.from.ensures
    ∙ ap (part now b.from) c.len.ensures in
    let new : c.read.new.into ≡ piece ++ drop (length piece) (part now b.from b.len) =
    c.read.ensures.bytes ∙ ap (λ x. x ++ drop c.read.result into) got
    ∙ ap (λ n. piece ++ drop n into) count
    ∙ ap (λ x. piece ++ drop (length piece) x) was in
    let inside = moved_inside m now bs items source moved i b split so_far in
    let put : take (length now) (with_part now c.from.result c.read.new.into)
    ≡ with_part now b.from piece =
    ap (λ n. take (length now) (with_part now n c.read.new.into)) c.from.ensures
    ∙ ap (λ x. take (length now) (with_part now b.from x)) new
    ∙ lent_piece now b.from b.len piece inside (omega (arith, few)) in (
      moved_next m now bs items source moved i b split so_far piece
          (take (length now) (with_part now c.from.result c.read.new.into))
          (moved + c.read.result) refl put (ap (λ n. moved + n) count),
      c.loop-buffer.invariant.1,
      omega (arith, count, few, length-drop moved source, c.loop-buffer.invariant.2),
    )

pub returns-clause-read : goal.returns-clause-read
returns-clause-read c =
    let items = c.as_slice-buffer-items.result.now in
    let none : drop c.loop-buffer.buffer-index items ≡ [] =
    drop_all c.loop-buffer.buffer-index items c.loop-buffer-test.false in
    (moved_all c.args.memory.now.bytes c.loop-buffer.memory.bytes c.args.buffers.now
    (drop c.args.from (bytes_of_node c.args.tree.now c.args.node)) c.loop-buffer.moved
    (rw none at c.loop-buffer.invariant.0)).0

pub returns-clause-few : goal.returns-clause-few
returns-clause-few c =
    let items = c.as_slice-buffer-items.result.now in
    let source : Bytes = drop c.args.from (bytes_of_node c.args.tree.now c.args.node) in
    let none : drop c.loop-buffer.buffer-index items ≡ [] =
    drop_all c.loop-buffer.buffer-index items c.loop-buffer-test.false in
    let all = moved_all c.args.memory.now.bytes c.loop-buffer.memory.bytes c.args.buffers.now
    source c.loop-buffer.moved (rw none at c.loop-buffer.invariant.0) in
    moved_few c.loop-buffer.moved (total_len c.args.buffers.now) MOVED_BYTES source all.1
    c.as_slice-buffer-items.ensures.few
