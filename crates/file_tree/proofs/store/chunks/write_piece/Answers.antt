use Rattle.std.proofs.Common.{take, arith, length-take}
use Rattle.file_tree.proofs.StoreLemmas.SlabChunks.{chunk_there, chunk_full, chunk_written}
use Rattle.file_tree.proofs.StoreLemmas.SlabChunks.{chunk_rekeys}
use Rattle.file_tree.proofs.store.chunks.write_piece.Goals as goal

pub index_mut-requires : goal.index_mut-requires
index_mut-requires c =
    chunk_there c.args.chunks.now c.args.keys.now c.args.from c.requires.full
    (omega (arith, c.requires.some, c.requires.within))

pub returns-clause-full : goal.returns-clause-full
returns-clause-full c =
    chunk_full c.args.chunks.now c.args.keys.now c.args.from c.requires.full
    (omega (arith, c.requires.some, c.requires.within)) c.index_mut.result.now
    c.index_mut.ensures.value c.write.new.self (take c.piece-count.result c.args.bytes.now)
    c.write.ensures

pub returns-clause-written : goal.returns-clause-written
returns-clause-written c =
    chunk_written c.args.chunks.now c.args.keys.now c.args.from
    c.requires.full (omega (arith, c.requires.some, c.requires.within))
    c.index_mut.result.now c.index_mut.ensures.value c.write.new.self
    (take c.piece-count.result c.args.bytes.now) c.write.ensures
    (omega (arith, c.piece-count.ensures.chunk, length-take c.piece-count.result c.args.bytes.now))

pub returns-clause-others : goal.returns-clause-others
returns-clause-others c =
    chunk_rekeys c.args.chunks.now c.args.keys.now c.args.from
    c.requires.full (omega (arith, c.requires.some, c.requires.within))
    c.index_mut.result.now c.index_mut.ensures.value c.write.new.self
