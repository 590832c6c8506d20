use Rattle.std.proofs.Common.{◌≢◌, ℕ, Option, Some, ◌++◌, ◌∷◌, [], sym, ap, subst, ◌∙◌}
use Rattle.std.specs.Prelude.{IfSome, IfNone}
use Rattle.file_tree.specs.rules.Files.{Name, Path, Files, path_of, child}
use Rattle.file_tree.specs.rules.Changes.{IsParent}
use Rattle.file_tree.specs.Steps.{parent_in}
use Rattle.file_tree.proofs.Parents.{parent_above, none_above, parent_of_child}
use Rattle.file_tree.proofs.tree.Tree.parent.Goals as goal

pub returns-clause-above : goal.returns-clause-above
returns-clause-above c =
    subst (λ (o : Option ℕ). IfSome o (IsParent c.args.self.now c.args.number))
    (sym c.parent_of.ensures)
    (subst (λ (fs : Files). IfSome (parent_in c.self.inside.nodes c.args.number)
    (IsParent fs c.args.number)) c.self.view_is
    (parent_above c.self.inside.nodes c.self.inside.next c.args.number c.self.invariant.0))

pub returns-clause-none : goal.returns-clause-none
returns-clause-none c =
    subst (λ (o : Option ℕ). IfNone o ((path : Path) (name : Name)
    → path_of c.args.self.now c.args.number ≢ Some (path ++ name ∷ [])))
    (sym c.parent_of.ensures)
    (subst (λ (fs : Files). IfNone (parent_in c.self.inside.nodes c.args.number)
    ((path : Path) (name : Name)
    → path_of fs c.args.number ≢ Some (path ++ name ∷ []))) c.self.view_is
    (none_above c.self.inside.nodes c.self.inside.next c.args.number c.self.invariant.0))

pub returns-clause-of_child : goal.returns-clause-of_child
returns-clause-of_child c =
    λ d name e. c.parent_of.ensures
    ∙ parent_of_child c.self.inside.nodes c.self.inside.next c.args.number d name
    c.self.invariant.0 (ap (λ (fs : Files). child fs d name) c.self.view_is ∙ e)
