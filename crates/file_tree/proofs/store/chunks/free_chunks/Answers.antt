use Rattle.std.proofs.Common.{suc, length, arith, ◌≡◌}
use Rattle.file_tree.specs.Store.Stored.{stored}
use Rattle.file_tree.proofs.StoreLemmas.SlabChunks.{rekeys_none, rekeys_join, all_left, one_less}
use Rattle.file_tree.proofs.store.chunks.free_chunks.Goals as goal

pub loop-chunks-init : goal.loop-chunks-init
loop-chunks-init c = (
  c.requires.fewer,
  omega arith,
  c.requires.full,
  all_left c.args.chunks.now c.args.keys.now.items c.requires.full,
  rekeys_none c.args.chunks.now c.args.keys.now.items,
)

pub loop-chunks-preserved : goal.loop-chunks-preserved
loop-chunks-preserved c =
    let l = c.loop-chunks in
    let h = l.invariant in
    let f = c.free_last in
    let less : length l.keys.items ≡ suc (length f.new.keys.items) =
    omega (arith, f.ensures.count) in (
      omega (arith, less, c.loop-chunks-test.true, c.as_slice.ensures.len),
      omega (arith, less, h.1),
      f.ensures.full,
      one_less (stored c.args.chunks.now c.args.keys.now.items) (stored l.chunks l.keys.items)
          (stored f.new.chunks f.new.keys.items) (length l.keys.items) (length f.new.keys.items)
          less h.3 f.ensures.kept,
      rekeys_join c.args.chunks.now l.chunks f.new.chunks c.args.keys.now.items l.keys.items
          f.new.keys.items h.4 f.ensures.others,
    )
