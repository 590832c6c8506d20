use Rattle.std.proofs.Common.{ap, ◌∙◌}
use Rattle.file_tree.specs.rules.Files.{Files}
use Rattle.file_tree.specs.rules.Listings.{number_at_place}
use Rattle.file_tree.proofs.NearestNodes.{listed_shown}
use Rattle.file_tree.proofs.tree.Tree.entry.Goals as goal

pub returns : goal.returns
returns c =
    c.number_held.ensures ∙ c.entry.ensures
    ∙ listed_shown c.self.inside.nodes c.self.inside.next c.args.directory c.args.place
    c.self.invariant.0
    ∙ ap (λ (fs : Files). number_at_place fs c.args.directory c.args.place) c.self.view_is
