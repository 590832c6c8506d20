use Rattle.std.proofs.Common.{Contains, subst, sym, ap, ◌∙◌, ◌+◌, ℕ}
use Rattle.file_listing.specs.rules.Listed.{listing_in}
use Rattle.disk_commands.specs.rules.ExtractedTrees.{IsMadeBelow}
use Rattle.disk_commands.proofs.ExtractedLemmas.{lies_in_made}
use Rattle.disk_commands.proofs.MadeLemmas.{done_more, have_after, have_more, stopped_at}
use Rattle.disk_commands.proofs.MadeLemmas.{taken_more}
use Rattle.disk_commands.proofs.on_disk.extracting.write_nodes.Goals as goal

pub write_node-requires-clause-listed : goal.write_node-requires-clause-listed
write_node-requires-clause-listed g c =
    subst (Contains (listing_in c.args.new.now.tree.now)) (sym c.node-item.is)
    (c.requires.listed c.loop-node.node-index c.node-item.result c.loop-node-test.true)

pub write_node-requires-clause-parent : goal.write_node-requires-clause-parent
write_node-requires-clause-parent g c =
    lies_in_made (g.R.NewTrees.trees c.args.files.now) c.args.new.now.path.now
    c.args.new.now.tree.now c.args.nodes.now c.loop-node.node-index c.node-item.result
    c.requires.folder c.requires.ordered c.loop-node-test.true c.node-item.is
    c.loop-node.invariant.0

pub returns-in-Err-clause-said : goal.returns-in-Err-clause-said
returns-in-Err-clause-said g c =
    let so_far = c.loop-node.invariant in
    stopped_at (g.R.NewTrees.trees c.args.files.now) c.args.new.now.path.now
    c.args.new.now.tree.now c.args.nodes.now c.loop-node.node-index c.node-item.result
    c.loop-node.made.items c.write_node.new.made.items c.args.err.now c.loop-node.err
    c.write_node.new.err c.in-Err.status c.loop-node-test.true c.node-item.is so_far.1 so_far.0
    so_far.2 c.in-Err.ensures.said

pub returns-in-Err-clause-have : goal.returns-in-Err-clause-have
returns-in-Err-clause-have g c =
    have_after (g.R.NewTrees.trees c.args.files.now) c.args.new.now.path.now c.node-item.result
    c.loop-node.made.items c.write_node.new.made.items c.loop-node.err c.write_node.new.err
    c.in-Err.status c.loop-node.invariant.3 c.in-Err.ensures.said

pub loop-node-preserved : goal.loop-node-preserved
loop-node-preserved g c =
    let trees = g.R.NewTrees.trees c.args.files.now in
    let folder = c.args.new.now.path.now in
    let so_far = c.loop-node.invariant in
    let node = c.node-item.result in
    let made = c.loop-node.made.items in
    let made' = c.write_node.new.made.items in
    let adds = c.in_default.ensures.added in (
      done_more (IsMadeBelow trees folder c.args.new.now.tree.now) c.args.nodes.now
          c.loop-node.node-index node c.loop-node-test.true c.node-item.is so_far.0
          c.in_default.ensures.whole,
      c.in_default.ensures.quiet ∙ so_far.1,
      taken_more trees folder c.args.new.now.tree.now c.args.nodes.now c.loop-node.node-index node
          made made' c.loop-node-test.true c.node-item.is so_far.2 adds,
      have_more trees folder node made made' so_far.3 adds,
      c.in_default.ensures.len ∙ ap (λ (n : ℕ). n + 1) so_far.4,
      c.in_default.ensures.capacity ∙ so_far.5,
    )
