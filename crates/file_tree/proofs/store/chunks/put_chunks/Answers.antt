use Rattle.std.proofs.Common.{◌≡◌, suc, ℕ, List, [], ◌++◌, ◌∷◌, length, ap, sym, ◌∙◌, arith}
use Rattle.std.proofs.Common.{length-append}
use Rattle.std.specs.Prelude.{replicate}
use Rattle.file_tree.specs.declared.limits.TheConstants.{CHUNK_BYTES}
use Rattle.file_tree.specs.Store.Stored.{stored}
use Rattle.file_tree.proofs.StoreLemmas.SlabChunks.{rekeys_join, last_same, one_more}
use Rattle.file_tree.proofs.store.chunks.put_chunks.Goals as goal

pub loop-chunk-preserved : goal.loop-chunk-preserved
loop-chunk-preserved c =
    let l = c.loop-chunk in
    let h = l.invariant in
    let p = c.put_chunk in
    let chunks_left = c.pop.new.self.items in
    let z = replicate {A = ℕ} CHUNK_BYTES 0 in
    let popped : l.zeros.items ≡ chunks_left ++ c.in-Some.chunk ∷ [] = c.in-Some.ensures.items in
    let less : length l.zeros.items ≡ suc (length chunks_left) =
    omega (
      arith,
      ap (λ (xs : List (List ℕ)). length xs) popped,
      length-append chunks_left (c.in-Some.chunk ∷ []),
    ) in
    let same = last_same (length l.zeros.items) chunks_left c.in-Some.chunk z (sym h.0
    ∙ popped) in (
      same.1,
      omega (arith, less, h.1),
      p.ensures.full,
      one_more (stored c.args.chunks.now c.args.keys.now.items) (stored l.chunks l.keys.items)
          (stored p.new.chunks p.new.keys.items) z (length c.args.zeros.items)
          (length l.zeros.items) (length chunks_left) less h.1 h.3
          (p.ensures.put ∙ ap (λ (x : List ℕ). stored l.chunks l.keys.items ++ x ∷ []) same.0),
      rekeys_join c.args.chunks.now l.chunks p.new.chunks c.args.keys.now.items l.keys.items
          p.new.keys.items h.4 p.ensures.others,
      omega (arith, less, h.5, p.ensures.count, p.ensures.room),
      omega (arith, less, h.6, p.ensures.len, p.ensures.space),
    )
