use Rattle.std.proofs.Common.{ap, length, ◌∙◌}
use Rattle.file_tree.specs.rules.Files.{Files, entries_of}
use Rattle.file_tree.proofs.NearestNodes.{count_shown}
use Rattle.file_tree.proofs.tree.Tree.entry_count.Goals as goal

pub returns : goal.returns
returns c =
    count_shown c.self.inside.nodes c.self.inside.next c.args.directory c.count_in.result
    c.self.invariant.0 c.count_in.ensures
    ∙ ap (λ (fs : Files). length (entries_of fs c.args.directory)) c.self.view_is
