use Rattle.file_tree.proofs.StoreLemmas.Keys.{Adds}
use Rattle.file_tree.proofs.StoreLemmas.SlabChunks.{more_stored, more_full, more_rekeys}
use Rattle.file_tree.proofs.store.chunks.put_chunk.Goals as goal

pub returns-clause-full : goal.returns-clause-full
returns-clause-full c =
    let i = c.insert_reserved-key in
    let adds : Adds c.args.chunks.now i.new.self i.result c.args.chunk =
    record { was_vacant = i.ensures.was_vacant; updates = i.ensures.updates } in
    rw c.push_reserved.ensures.items
    (more_full c.args.chunks.now i.new.self i.result c.args.chunk c.args.keys.now.items adds
    c.requires.full c.requires.whole)

pub returns-clause-put : goal.returns-clause-put
returns-clause-put c =
    let i = c.insert_reserved-key in
    let adds : Adds c.args.chunks.now i.new.self i.result c.args.chunk =
    record { was_vacant = i.ensures.was_vacant; updates = i.ensures.updates } in
    rw c.push_reserved.ensures.items
    (more_stored c.args.chunks.now i.new.self i.result c.args.chunk c.args.keys.now.items adds
    c.requires.full)

pub returns-clause-others : goal.returns-clause-others
returns-clause-others c =
    let i = c.insert_reserved-key in
    let adds : Adds c.args.chunks.now i.new.self i.result c.args.chunk =
    record { was_vacant = i.ensures.was_vacant; updates = i.ensures.updates } in
    rw c.push_reserved.ensures.items
    (more_rekeys c.args.chunks.now i.new.self i.result c.args.chunk c.args.keys.now.items adds
    c.requires.full i.ensures.len)
