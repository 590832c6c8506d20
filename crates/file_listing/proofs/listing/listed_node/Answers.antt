use Rattle.file_listing.proofs.NodeLemmas.{unlisted}
use Rattle.file_listing.proofs.listing.listed_node.Goals as goal

pub returns-in_default : goal.returns-in_default
returns-in_default c = λ n found number.
    unlisted c.args.tree.now c.args.number n found c.in_default.ensures.none
