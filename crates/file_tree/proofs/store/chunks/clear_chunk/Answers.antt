use Rattle.std.proofs.Common.{ℕ, ◌<◌, ◌≤◌, ◌*◌, ◌-◌, ◌%◌, length, arith}
use Rattle.std.specs.Prelude.{replicate}
use Rattle.std.proofs.lemmas.Nat.{div-add-mod', mod_below}
use Rattle.file_tree.specs.declared.limits.TheConstants.{CHUNK_BYTES}
use Rattle.file_tree.proofs.StoreLemmas.SlabChunks.{chunk_there, chunk_full, chunk_cleared}
use Rattle.file_tree.proofs.StoreLemmas.SlabChunks.{chunk_rekeys, rekeys_none, none_to_clear}
use Rattle.file_tree.proofs.store.chunks.clear_chunk.Goals as goal

within : (n at : ℕ) → 0 < at % CHUNK_BYTES → at ≤ n * CHUNK_BYTES → at < n * CHUNK_BYTES
within n at some le =
    omega (arith, div-add-mod' at CHUNK_BYTES, some, le, mod_below at CHUNK_BYTES (omega arith))

pub index_mut-requires : goal.index_mut-requires
index_mut-requires c =
    chunk_there c.args.chunks.now c.args.keys.now c.args.from c.requires.full
    (within (length c.args.keys.now) c.args.from c.if-start-gt0.true c.requires.within)

pub returns-then-start-gt0-clause-full : goal.returns-then-start-gt0-clause-full
returns-then-start-gt0-clause-full c =
    chunk_full c.args.chunks.now c.args.keys.now c.args.from c.requires.full
    (within (length c.args.keys.now) c.args.from c.if-start-gt0.true c.requires.within)
    c.index_mut.result.now c.index_mut.ensures.value c.clear.new.self
    (replicate (CHUNK_BYTES - c.args.from % CHUNK_BYTES) 0) c.clear.ensures

pub returns-then-start-gt0-clause-cleared : goal.returns-then-start-gt0-clause-cleared
returns-then-start-gt0-clause-cleared c =
    chunk_cleared c.args.chunks.now c.args.keys.now c.args.from c.requires.full
    (within (length c.args.keys.now) c.args.from c.if-start-gt0.true c.requires.within)
    c.index_mut.result.now c.index_mut.ensures.value c.clear.new.self c.clear.ensures
    c.requires.last

pub returns-then-start-gt0-clause-others : goal.returns-then-start-gt0-clause-others
returns-then-start-gt0-clause-others c =
    chunk_rekeys c.args.chunks.now c.args.keys.now c.args.from c.requires.full
    (within (length c.args.keys.now) c.args.from c.if-start-gt0.true c.requires.within)
    c.index_mut.result.now c.index_mut.ensures.value c.clear.new.self

pub returns-else-start-gt0-clause-cleared : goal.returns-else-start-gt0-clause-cleared
returns-else-start-gt0-clause-cleared c =
    none_to_clear c.args.chunks.now c.args.keys.now c.args.from c.requires.full (omega (
      arith,
      c.if-start-gt0.false,
    )) c.requires.within c.requires.last

pub returns-else-start-gt0-clause-others : goal.returns-else-start-gt0-clause-others
returns-else-start-gt0-clause-others c = rekeys_none c.args.chunks.now c.args.keys.now
