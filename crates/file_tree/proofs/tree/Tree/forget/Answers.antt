use Rattle.std.proofs.Common.{get_or, arith}
use Rattle.file_tree.proofs.Contents.{own_place}
use Rattle.file_tree.proofs.Forgets.{is_forgotten, none_forgotten}
use Rattle.file_tree.proofs.tree.Tree.forget.Goals as goal

pub invariant_of-self : goal.invariant_of-self
invariant_of-self c =
    let ns = c.self.inside.nodes in
    let place = c.in-Some.place in
    let there = c.in-Some.ensures.there in
    let own = own_place ns c.args.number place c.get.result.now there in
    let all = is_forgotten ns c.self.inside.next c.args.number place
    (get_or ns place c.get.result.now) c.args.self.now c.self.view_is c.self.invariant.0 there own
    c.requires in
    rw c.remove.ensures (
      all.nodes,
      omega (arith, all.used, c.self.invariant.1, c.size_held-bytes.ensures, c.get.ensures.size),
    )

pub returns-in-Some : goal.returns-in-Some
returns-in-Some c =
    let ns = c.self.inside.nodes in
    let place = c.in-Some.place in
    let there = c.in-Some.ensures.there in
    let own = own_place ns c.args.number place c.get.result.now there in
    let all = is_forgotten ns c.self.inside.next c.args.number place
    (get_or ns place c.get.result.now) c.args.self.now c.self.view_is c.self.invariant.0 there own
    c.requires in
    rw c.remove.ensures all.files_are

pub returns-in_default : goal.returns-in_default
returns-in_default c =
    none_forgotten c.self.inside.nodes c.self.inside.next c.args.number c.args.self.now
    c.self.view_is c.in_default.ensures.nowhere
