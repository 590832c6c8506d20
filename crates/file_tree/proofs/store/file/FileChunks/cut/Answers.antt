use Rattle.std.proofs.Common.{◌≡◌, ◌≤◌, ◌*◌, ◌-◌, ◌++◌, ℕ, List, length, take, ap, subst, ◌∙◌}
use Rattle.std.proofs.Common.{arith}
use Rattle.std.specs.Prelude.{replicate}
use Rattle.std.specs.List.{concat}
use Rattle.file_tree.specs.declared.limits.TheConstants.{CHUNK_BYTES}
use Rattle.file_tree.specs.Store.Bodies.{AreFullAt, Rekeys}
use Rattle.file_tree.specs.Store.Stored.{stored}
use Rattle.file_tree.proofs.StoreLemmas.Sized.{not_fewer}
use Rattle.file_tree.proofs.StoreLemmas.HeldFiles.{file_cut, count_keys, len_is}
use Rattle.file_tree.proofs.StoreLemmas.SlabChunks.{rekeys_join}
use Rattle.file_tree.proofs.store.file.FileChunks.cut.Goals as goal

pub free_chunks-requires-clause-fewer : goal.free_chunks-requires-clause-fewer
free_chunks-requires-clause-fewer c =
    let len = c.self.inside.len in
    let shorter : c.args.size ≤ len =
    omega (
      arith,
      c.requires.fewer,
      len_is c.args.chunks.now c.self.inside.keys.items len c.args.self.now c.self.view_is
          c.requires.held,
    ) in
    omega (
      arith,
      c.chunks_of_size.ensures,
      count_keys c.args.chunks.now c.self.inside.keys.items len c.args.self.now c.self.view_is
          c.requires.held,
      not_fewer c.args.size len shorter,
    )

pub returns : goal.returns
returns c =
    let old = c.args.chunks.now in
    let keys = c.self.inside.keys.items in
    let len = c.self.inside.len in
    let size = c.args.size in
    let shorter : size ≤ len =
    omega (
      arith,
      c.requires.fewer,
      len_is old keys len c.args.self.now c.self.view_is c.requires.held,
    ) in
    let between = c.free_chunks.new.chunks in
    let after = c.free_chunks.new.keys.items in
    let new = c.clear_chunk.new.chunks in
    let f = c.free_chunks.ensures in
    let z = c.clear_chunk.ensures in
    let same = c.as_slice.ensures.value in
    file_cut old keys len c.args.self.now c.self.view_is c.requires.held between new after size
    shorter f.full (subst (AreFullAt new) same z.full)
    (f.kept ∙ ap (λ (n : ℕ). take n (stored old keys)) c.chunks_of_size.ensures)
    (subst (λ (ks : List ℕ). concat (stored new ks) ≡ take size (concat (stored between ks))
    ++ replicate (length ks * CHUNK_BYTES - size) 0) same z.cleared)
    (rekeys_join old between new keys after after f.others
    (subst (λ (ks : List ℕ). Rekeys between new ks ks) same z.others))
