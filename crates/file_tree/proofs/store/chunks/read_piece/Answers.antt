use Rattle.std.proofs.Common.{List, ℕ, ◌≡◌, ◌-◌, ◌+◌, ◌%◌, ◌++◌, ap, take, drop, arith, ◌∙◌}
use Rattle.file_tree.specs.declared.limits.TheConstants.{CHUNK_BYTES}
use Rattle.file_tree.proofs.StoreLemmas.SlabChunks.{chunk_there, chunk_read}
use Rattle.file_tree.proofs.store.chunks.read_piece.Goals as goal

pub index-requires : goal.index-requires
index-requires c =
    chunk_there c.args.chunks.now c.args.keys.now c.args.from c.requires.full
    (omega (arith, c.requires.some, c.requires.within))

pub returns-clause-bytes : goal.returns-clause-bytes
returns-clause-bytes c =
    let start = c.args.from % CHUNK_BYTES in
    let n = c.piece-count.result in
    let many : start + n - start ≡ n = omega arith in
    ap (λ (xs : List ℕ). xs ++ drop n c.args.into.now)
    (c.copy_from_slice.ensures.after
    ∙ ap (λ (k : ℕ). take k (drop start c.as_slice-bytes.result.now)) many
    ∙ ap (λ (xs : List ℕ). take n (drop start xs)) c.as_slice-bytes.ensures.bytes
    ∙ chunk_read c.args.chunks.now c.args.keys.now c.args.from c.requires.full (omega (
      arith,
      c.requires.some,
      c.requires.within,
    )) c.index.result.now c.index.ensures n c.piece-count.ensures.chunk)
