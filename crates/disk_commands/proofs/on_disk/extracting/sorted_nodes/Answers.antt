use Rattle.std.proofs.Common.{List, rules, subst}
use Rattle.std.specs.List.Sorted.{IsPermutation}
use Rattle.file_listing.specs.declared.listed.ListedNode.{ListedNode}
use Rattle.disk_commands.proofs.ExtractedLemmas.{are_of_tree}
use Rattle.disk_commands.proofs.NodeOrderLemmas.{parents_come_first, sorted_by_paths}
use Rattle.disk_commands.proofs.on_disk.extracting.sorted_nodes.Goals as goal

pub returns-clause-of_tree : goal.returns-clause-of_tree
returns-clause-of_tree c =
    let sorted = c.sort_unstable_by in
    let P : List ListedNode → Type 0 = λ nodes. IsPermutation nodes sorted.new.self.items in
    are_of_tree c.args.tree.now sorted.new.self.items
    (subst P c.in_ok-nodes.ensures.all sorted.ensures.permutation)

pub returns-clause-ordered : goal.returns-clause-ordered
returns-clause-ordered c =
    let sorted = c.sort_unstable_by in
    parents_come_first c.in_ok-nodes.nodes.items sorted.new.self.items c.in_ok-nodes.ensures.parents
    sorted.ensures.permutation
    (sorted_by_paths _ sorted.ensures.sorted (λ a r f call. search rules))
