use Rattle.std.proofs.Common.{get_or, Some, ap, arith, sym, ◌∙◌}
use Rattle.file_tree.specs.declared.store.node.Node.{Node}
use Rattle.file_tree.specs.rules.Bytes.{resized}
use Rattle.file_tree.specs.rules.Files.{bytes_of_node}
use Rattle.file_tree.proofs.Lookups.{node_at_place}
use Rattle.file_tree.proofs.Sizes.{length-resized}
use Rattle.file_tree.proofs.Contents.{is_resized, no_bytes_changed, own_place, file_at}
use Rattle.file_tree.proofs.tree.Tree.resize.Goals as goal

pub returns-in_default-clause-resized : goal.returns-in_default-clause-resized
returns-in_default-clause-resized c =
    no_bytes_changed c.self.inside.nodes c.self.inside.next c.args.number
    (resized (bytes_of_node c.args.self.now c.args.number) c.args.size) c.args.self.now
    c.self.view_is c.in_default.ensures.nowhere

pub resize-requires-clause-file : goal.resize-requires-clause-file
resize-requires-clause-file c = λ n at.
    let ns = c.self.inside.nodes in
    file_at ns c.self.inside.next c.args.number n c.args.self.now c.self.view_is
    (node_at_place ns c.args.number c.in-Some.place n c.in-Some.ensures.there
    ∙ ap (λ (x : Node). Some x) (sym at)) c.requires.file

pub overflow_add-self : goal.overflow_add-self
overflow_add-self c =
    let ns = c.self.inside.nodes in
    let place = c.in-Some.place in
    let there = c.in-Some.ensures.there in
    let all = is_resized ns c.self.inside.next c.args.number place
    (get_or ns place c.get.result.now) c.args.size c.args.self.now c.self.view_is c.self.invariant.0
    there (own_place ns c.args.number place c.get.result.now there) c.requires.file c.requires.size
    in
    omega (
      arith,
      all.fits,
      c.self.invariant.1,
      c.size_held-bytes.ensures,
      c.get.ensures.size,
      length-resized (bytes_of_node c.args.self.now c.args.number) c.args.size,
    )

pub invariant_of-self-2 : goal.invariant_of-self-2
invariant_of-self-2 c =
    let ns = c.self.inside.nodes in
    let place = c.in-Some.place in
    let there = c.in-Some.ensures.there in
    let all = is_resized ns c.self.inside.next c.args.number place
    (get_or ns place c.get.result.now) c.args.size c.args.self.now c.self.view_is c.self.invariant.0
    there (own_place ns c.args.number place c.get.result.now there) c.requires.file c.requires.size
    in
    rw c.in_ok-resize.ensures.resized (
      all.nodes,
      omega (
        arith,
        all.used,
        c.self.invariant.1,
        c.size_held-bytes.ensures,
        c.get.ensures.size,
        length-resized (bytes_of_node c.args.self.now c.args.number) c.args.size,
      ),
    )

pub returns-clause-resized : goal.returns-clause-resized
returns-clause-resized c =
    let ns = c.self.inside.nodes in
    let place = c.in-Some.place in
    let there = c.in-Some.ensures.there in
    let all = is_resized ns c.self.inside.next c.args.number place
    (get_or ns place c.get.result.now) c.args.size c.args.self.now c.self.view_is c.self.invariant.0
    there (own_place ns c.args.number place c.get.result.now there) c.requires.file c.requires.size
    in
    rw c.in_ok-resize.ensures.resized all.files_are
