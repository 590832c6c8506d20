use Rattle.std.proofs.Common.{sym, ◌∙◌}
use Rattle.file_tree.proofs.Removes.{is_lost, none_lost}
use Rattle.file_tree.proofs.tree.Tree.remove.Goals as goal

pub invariant_of-self : goal.invariant_of-self
invariant_of-self c =
    let all = is_lost c.self.inside.nodes c.self.inside.next c.args.number c.in-Some.place
    c.args.self.now c.self.view_is c.self.invariant.0 c.in-Some.ensures.there c.requires in
    rw c.unhang.ensures (
      all.nodes,
      c.self.invariant.1 ∙ sym all.used,
    )

pub returns-in-Some : goal.returns-in-Some
returns-in-Some c =
    let all = is_lost c.self.inside.nodes c.self.inside.next c.args.number c.in-Some.place
    c.args.self.now c.self.view_is c.self.invariant.0 c.in-Some.ensures.there c.requires in
    rw c.unhang.ensures all.files_are

pub returns-in_default : goal.returns-in_default
returns-in_default c =
    none_lost c.self.inside.nodes c.self.inside.next c.args.number c.args.self.now c.self.view_is
    c.in_default.ensures.nowhere
