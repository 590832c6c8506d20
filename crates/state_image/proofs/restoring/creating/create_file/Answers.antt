use Rattle.std.proofs.Common.{length, [], arith}
use Rattle.state_image.proofs.RestoreLemmas.Made.{zeros, file_made, cut_made, size_made, fill_made}
use Rattle.state_image.proofs.restoring.creating.create_file.Goals as goal

pub resize-requires-clause-file : goal.resize-requires-clause-file
resize-requires-clause-file c =
    file_made c.args.tree.now c.create_removed.new.self c.args.number [] c.len-nodes.ensures.shape
    c.requires.next c.in_ok-create_removed.ensures.created

pub write-requires-clause-file : goal.write-requires-clause-file
write-requires-clause-file c =
    let size = length c.args.bytes.now in
    file_made c.args.tree.now c.resize.new.self c.args.number (zeros size)
    c.len-nodes.ensures.shape c.requires.next
    (cut_made c.args.tree.now c.create_removed.new.self c.resize.new.self c.args.number size
    c.len-nodes.ensures.shape c.requires.next c.in_ok-create_removed.ensures.created
    c.in_ok-resize.ensures.resized)

pub write-requires-clause-within : goal.write-requires-clause-within
write-requires-clause-within c =
    let size = length c.args.bytes.now in
    let has = size_made c.args.tree.now c.resize.new.self c.args.number size
    c.len-nodes.ensures.shape c.requires.next
    (cut_made c.args.tree.now c.create_removed.new.self c.resize.new.self c.args.number size
    c.len-nodes.ensures.shape c.requires.next c.in_ok-create_removed.ensures.created
    c.in_ok-resize.ensures.resized) in
    omega (arith, has)

pub returns : goal.returns
returns c =
    let size = length c.args.bytes.now in
    fill_made c.args.tree.now c.resize.new.self c.write.new.self c.args.number c.args.bytes.now
    c.len-nodes.ensures.shape c.requires.next
    (cut_made c.args.tree.now c.create_removed.new.self c.resize.new.self c.args.number size
    c.len-nodes.ensures.shape c.requires.next c.in_ok-create_removed.ensures.created
    c.in_ok-resize.ensures.resized) c.write.ensures
