use Rattle.std.proofs.lemmas.Result.{on_ok_weaker}
use Rattle.file_tree.proofs.StoreLemmas.JoinedNodes.{within_nodes}
use Rattle.file_tree.proofs.StoreLemmas.KeptChunks.{seen_file, held_at, resize_kept, resize_seen}
use Rattle.file_tree.proofs.StoreLemmas.KeptChunks.{same_seen}
use Rattle.file_tree.proofs.store.file_nodes.FileNodes.resize.Goals as goal

pub resize-requires-clause-file : goal.resize-requires-clause-file
resize-requires-clause-file c = λ n is.
    let lt = within_nodes c.self.inside.chunks c.self.inside.nodes c.args.place c.args.self.now
    c.self.view_is c.requires.place in
    seen_file c.self.inside.chunks c.self.inside.nodes c.args.place n c.args.self.now c.self.view_is
    lt is c.requires.file

pub resize-requires-clause-held : goal.resize-requires-clause-held
resize-requires-clause-held c = λ n is.
    let lt = within_nodes c.self.inside.chunks c.self.inside.nodes c.args.place c.args.self.now
    c.self.view_is c.requires.place in
    held_at c.self.inside.chunks c.self.inside.nodes c.args.place n c.self.invariant lt is

pub invariant_of-self : goal.invariant_of-self
invariant_of-self c =
    resize_kept c.self.inside.chunks c.resize.new.chunks c.self.inside.nodes c.resize.new.self
    c.args.place c.args.size c.args.self.now c.self.view_is c.self.invariant c.requires.place
    c.requires.file c.resize.result c.resize.ensures.resized c.resize.ensures.unchanged
    c.resize.ensures.kept

pub returns-clause-resized : goal.returns-clause-resized
returns-clause-resized c =
    on_ok_weaker c.resize.result (λ r.
    resize_seen c.self.inside.chunks c.resize.new.chunks c.self.inside.nodes c.resize.new.self
    c.args.place c.args.size c.args.self.now c.self.view_is c.self.invariant c.requires.place
    c.requires.file r) c.resize.ensures.resized

pub returns-clause-unchanged : goal.returns-clause-unchanged
returns-clause-unchanged c =
    same_seen c.self.inside.chunks c.resize.new.chunks c.self.inside.nodes c.resize.new.self
    c.args.self.now c.self.view_is c.self.invariant c.resize.result c.resize.ensures.unchanged
    c.resize.ensures.kept
