use Rattle.std.proofs.Common.{length}
use Rattle.file_tree.specs.rules.Changes.{path_at}
use Rattle.file_listing.proofs.listing.+spell_path.Given as goal

abbrev pub decreases-spell_path : goal.decreases-spell_path
decreases-spell_path l = length (path_at l.tree.now l.number)
