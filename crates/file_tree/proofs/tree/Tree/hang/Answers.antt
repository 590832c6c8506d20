use Rattle.std.proofs.Common.{sym, ◌∙◌, ◌++◌, ◌∷◌, []}
use Rattle.file_tree.specs.rules.Changes.{path_at}
use Rattle.file_tree.proofs.Moves.{nothing_hangs}
use Rattle.file_tree.proofs.Returns.{is_returned, none_returned}
use Rattle.file_tree.proofs.tree.Tree.hang.Goals as goal

pub move_to-requires-clause-free : goal.move_to-requires-clause-free
move_to-requires-clause-free c =
    nothing_hangs c.self.inside.nodes c.self.inside.next c.args.directory c.args.name
    c.args.self.now c.self.view_is c.self.invariant.0 c.requires.free

pub invariant_of-self : goal.invariant_of-self
invariant_of-self c =
    let all =
    is_returned c.self.inside.nodes c.self.inside.next c.args.number c.in-Some.at
    c.args.directory c.args.name c.args.self.now c.self.view_is c.self.invariant.0
    c.in-Some.ensures.there c.requires in
    rw c.move_to.ensures
    (all.nodes, c.self.invariant.1 ∙ sym all.used)

pub returns-in-Some : goal.returns-in-Some
returns-in-Some c =
    let all =
    is_returned c.self.inside.nodes c.self.inside.next c.args.number c.in-Some.at
    c.args.directory c.args.name c.args.self.now c.self.view_is c.self.invariant.0
    c.in-Some.ensures.there c.requires in
    rw c.move_to.ensures all.files_are

pub returns-in_default : goal.returns-in_default
returns-in_default c =
    none_returned c.self.inside.nodes c.self.inside.next c.args.number
    (path_at c.args.self.now c.args.directory ++ c.args.name ∷ []) c.args.self.now c.self.view_is
    c.in_default.ensures.nowhere
