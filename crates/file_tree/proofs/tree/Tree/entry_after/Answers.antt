use Rattle.std.proofs.Common.{◌≡◌, ◌+◌, [], ap, subst, ◌∙◌}
use Rattle.file_tree.specs.rules.Files.{Files}
use Rattle.file_tree.specs.rules.Listings.{number_at_place, number_after, HasNameAtPlace}
use Rattle.file_tree.proofs.NearestNodes.{nearest_shown, behind_shown, first_shown}
use Rattle.file_tree.proofs.tree.Tree.entry_after.Goals as goal

pub returns-clause-after : goal.returns-clause-after
returns-clause-after c =
    c.number_held.ensures ∙ c.nearest_after.ensures
    ∙ nearest_shown c.self.inside.nodes c.self.inside.next c.args.directory c.args.name.now
    c.self.invariant.0
    ∙ ap (λ (fs : Files). number_after fs c.args.directory c.args.name.now) c.self.view_is

pub returns-clause-next : goal.returns-clause-next
returns-clause-next c = λ i named.
    returns-clause-after c
    ∙ subst (λ (fs : Files). HasNameAtPlace fs c.args.directory i c.args.name.now
    → number_after fs c.args.directory c.args.name.now
    ≡ number_at_place fs c.args.directory (i + 1)) c.self.view_is
    (behind_shown c.self.inside.nodes c.self.inside.next c.args.directory i c.args.name.now
    c.self.invariant.0) named

pub returns-clause-first : goal.returns-clause-first
returns-clause-first c = λ none.
    returns-clause-after c ∙ ap (number_after c.args.self.now c.args.directory) none
    ∙ subst (λ (fs : Files). number_after fs c.args.directory []
    ≡ number_at_place fs c.args.directory 0) c.self.view_is
    (first_shown c.self.inside.nodes c.self.inside.next c.args.directory c.self.invariant.0)
