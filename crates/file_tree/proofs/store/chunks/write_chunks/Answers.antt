use Rattle.std.proofs.Common.{ℕ, List, ◌+◌, length, take, drop, refl, sym, ap, ◌∙◌, arith}
use Rattle.std.proofs.Common.{length-drop}
use Rattle.std.specs.List.{concat}
use Rattle.std.proofs.lemmas.List.{take_rest}
use Rattle.file_tree.specs.Store.Chunked.{overlaid}
use Rattle.file_tree.specs.Store.Stored.{stored}
use Rattle.file_tree.proofs.StoreLemmas.Overs.{over_none, over_two}
use Rattle.file_tree.proofs.StoreLemmas.SlabChunks.{rekeys_none, rekeys_join}
use Rattle.file_tree.proofs.store.chunks.write_chunks.Goals as goal

pub loop-done-init : goal.loop-done-init
loop-done-init c = (
  omega arith,
  c.requires.full,
  sym (over_none (concat (stored c.args.chunks.now c.args.keys.now)) c.args.from),
  rekeys_none c.args.chunks.now c.args.keys.now,
)

pub loop-done-preserved : goal.loop-done-preserved
loop-done-preserved c =
    let h = c.loop-done.invariant in
    let w = c.write_piece-done.ensures in
    let i = c.loop-done.done in
    let r = c.write_piece-done.result in
    let keys = c.args.keys.now in
    let all = concat (stored c.args.chunks.now keys) in
    let rest = take_rest c.args.bytes.now i in (
      omega (arith, h.0, w.most, ap length rest, length-drop i c.args.bytes.now),
      w.full,
      w.written
          ∙ ap (λ (xs : List ℕ). overlaid (concat (stored c.loop-done.chunks keys))
          (c.args.from + i) (take r xs)) rest
          ∙ ap (λ (xs : List ℕ). overlaid xs (c.args.from + i) (take r (drop i c.args.bytes.now)))
          h.2
          ∙ over_two all c.args.from c.args.bytes.now i r (i + r) (c.args.from + i) refl refl h.0,
      rekeys_join c.args.chunks.now c.loop-done.chunks c.write_piece-done.new.chunks keys keys keys
          h.3 w.others,
    )
