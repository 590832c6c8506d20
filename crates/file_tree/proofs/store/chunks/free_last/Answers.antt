use Rattle.std.proofs.Common.{◌≡◌, ◌-◌, suc, length, take, ap, ◌∙◌, arith}
use Rattle.file_tree.specs.Store.Stored.{stored}
use Rattle.file_tree.proofs.StoreLemmas.SlabChunks.{less_stored, less_full, less_rekeys}
use Rattle.file_tree.proofs.store.chunks.free_last.Goals as goal

pub returns-clause-full : goal.returns-clause-full
returns-clause-full c =
    let keys = c.args.keys.now.items in
    let last = length c.as_slice.result.now - 1 in
    let is_last : length keys ≡ suc last =
    omega (arith, ap length c.as_slice.ensures.value, c.requires.some) in
    rw c.remove-key.ensures.items
    (less_full c.args.chunks.now c.remove-chunk.new.self keys last c.remove-key.result
    c.requires.full is_last c.remove-key.ensures.value c.remove-chunk.ensures.updates)

pub returns-clause-kept : goal.returns-clause-kept
returns-clause-kept c =
    let keys = c.args.keys.now.items in
    let last = length c.as_slice.result.now - 1 in
    let is_last : length keys ≡ suc last =
    omega (arith, ap length c.as_slice.ensures.value, c.requires.some) in
    let same : last ≡ length keys - 1 = omega (arith, is_last) in
    rw c.remove-key.ensures.items
    (less_stored c.args.chunks.now c.remove-chunk.new.self keys last c.remove-key.result
    c.requires.full is_last c.remove-key.ensures.value c.remove-chunk.ensures.updates
    ∙ ap (λ n. take n (stored c.args.chunks.now keys)) same)

pub returns-clause-others : goal.returns-clause-others
returns-clause-others c =
    let keys = c.args.keys.now.items in
    let last = length c.as_slice.result.now - 1 in
    let is_last : length keys ≡ suc last =
    omega (arith, ap length c.as_slice.ensures.value, c.requires.some) in
    rw c.remove-key.ensures.items
    (less_rekeys c.args.chunks.now c.remove-chunk.new.self keys last c.remove-key.result
    c.requires.full is_last c.remove-key.ensures.value c.remove-chunk.ensures.updates
    c.remove-chunk.ensures.len)
