use Rattle.std.proofs.Common.{sym, ap, ◌∙◌}
use Rattle.file_tree.specs.rules.Files.{used}
use Rattle.file_tree.proofs.Lookups.{used_shown}
use Rattle.file_tree.proofs.tree.Tree.used_bytes.Goals as goal

pub returns : goal.returns
returns c = c.self.invariant.1 ∙ sym (used_shown c.self.inside.nodes c.self.inside.next)
    ∙ ap used c.self.view_is
