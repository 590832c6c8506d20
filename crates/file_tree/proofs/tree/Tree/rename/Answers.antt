use Rattle.std.proofs.Common.{sym, ◌∙◌}
use Rattle.file_tree.proofs.Moves.{is_moved, nothing_hangs, not_nowhere}
use Rattle.file_tree.proofs.tree.Tree.rename.Goals as goal

pub move_to-requires-clause-free : goal.move_to-requires-clause-free
move_to-requires-clause-free c =
    nothing_hangs c.self.inside.nodes c.self.inside.next c.args.directory c.args.name
    c.args.self.now c.self.view_is c.self.invariant.0 c.requires.free

pub invariant_of-self : goal.invariant_of-self
invariant_of-self c =
    let all = is_moved c.self.inside.nodes c.self.inside.next c.args.number c.in-Some.place
    c.args.directory c.args.name c.args.self.now c.self.view_is c.self.invariant.0
    c.in-Some.ensures.there c.requires in
    rw c.move_to.ensures (
      all.nodes,
      c.self.invariant.1 ∙ sym all.used,
    )

pub returns-in-Some : goal.returns-in-Some
returns-in-Some c =
    let all = is_moved c.self.inside.nodes c.self.inside.next c.args.number c.in-Some.place
    c.args.directory c.args.name c.args.self.now c.self.view_is c.self.invariant.0
    c.in-Some.ensures.there c.requires in
    rw c.move_to.ensures all.files_are

pub returns-in_default : goal.returns-in_default
returns-in_default c =
    absurd (not_nowhere c.self.inside.nodes c.self.inside.next c.args.number c.args.directory
    c.args.name c.args.self.now c.self.view_is c.requires c.in_default.ensures.nowhere)
