use Rattle.std.proofs.Common.{◌≡◌, ℕ, List, length, ap, subst, arith}
use Rattle.std.specs.List.{concat}
use Rattle.file_tree.specs.Store.Bodies.{AreFullAt, Rekeys}
use Rattle.file_tree.specs.Store.Chunked.{overlaid}
use Rattle.file_tree.specs.Store.Stored.{stored}
use Rattle.file_tree.proofs.StoreLemmas.HeldFiles.{file_written, len_fits, len_is}
use Rattle.file_tree.proofs.store.file.FileChunks.write.Goals as goal

pub write_chunks-requires-clause-fits : goal.write_chunks-requires-clause-fits
write_chunks-requires-clause-fits c =
    omega (
      arith,
      c.requires.within,
      c.self.invariant,
      len_is c.args.chunks.now c.self.inside.keys.items c.self.inside.len c.args.self.now
          c.self.view_is c.requires.held,
    )

pub write_chunks-requires-clause-within : goal.write_chunks-requires-clause-within
write_chunks-requires-clause-within c =
    omega (
      arith,
      c.requires.within,
      ap length c.as_slice.ensures.value,
      len_is c.args.chunks.now c.self.inside.keys.items c.self.inside.len c.args.self.now
          c.self.view_is c.requires.held,
      len_fits c.args.chunks.now c.self.inside.keys.items c.self.inside.len c.args.self.now
          c.self.view_is c.requires.held,
    )

pub returns : goal.returns
returns c =
    let w = c.write_chunks.ensures in
    let old = c.args.chunks.now in
    let new = c.write_chunks.new.chunks in
    let same = c.as_slice.ensures.value in
    file_written old c.self.inside.keys.items c.self.inside.len c.args.self.now c.self.view_is
    c.requires.held new c.args.from c.args.bytes.now c.requires.within
    (subst (AreFullAt new) same w.full)
    (subst (λ (ks : List ℕ). concat (stored new ks)
    ≡ overlaid (concat (stored old ks)) c.args.from c.args.bytes.now) same w.written)
    (subst (λ (ks : List ℕ). Rekeys old new ks ks) same w.others)
