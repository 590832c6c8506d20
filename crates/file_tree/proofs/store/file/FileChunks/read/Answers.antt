use Rattle.std.proofs.Common.{ℕ, List, ◌≡◌, ◌++◌, length, take, drop, ap, ◌∙◌, arith, length-take}
use Rattle.std.specs.List.{concat}
use Rattle.file_tree.specs.Store.Stored.{stored}
use Rattle.file_tree.proofs.StoreLemmas.HeldFiles.{file_read, len_fits}
use Rattle.file_tree.proofs.store.file.FileChunks.read.Goals as goal

pub read_chunks-requires-clause-within : goal.read_chunks-requires-clause-within
read_chunks-requires-clause-within c =
    let n = c.count_from-count.result in
    omega (
      arith,
      length-take n c.args.into.now,
      c.count_from-count.ensures.count,
      c.if-count-gt0.true,
      ap length c.as_slice.ensures.value,
      len_fits c.args.chunks.now c.self.inside.keys.items c.self.inside.len c.args.self.now
          c.self.view_is c.requires,
    )

pub returns-then-count-gt0-clause-bytes : goal.returns-then-count-gt0-clause-bytes
returns-then-count-gt0-clause-bytes c =
    let n = c.count_from-count.result in
    let keys = c.self.inside.keys.items in
    let all = concat (stored c.args.chunks.now keys) in
    let many : length (take n c.args.into.now) ≡ n =
    omega (arith, length-take n c.args.into.now, c.count_from-count.ensures.count) in
    ap (λ (xs : List ℕ). xs ++ drop n c.args.into.now)
    (c.read_chunks.ensures
    ∙ ap (λ (ks : List ℕ). take (length (take n c.args.into.now)) (drop c.args.from
    (concat (stored c.args.chunks.now ks)))) c.as_slice.ensures.value
    ∙ ap (λ (k : ℕ). take k (drop c.args.from all)) many
    ∙ file_read c.args.chunks.now keys c.self.inside.len c.args.self.now c.self.view_is c.requires
    c.args.from (length c.args.into.now) n c.count_from-count.ensures.count)
