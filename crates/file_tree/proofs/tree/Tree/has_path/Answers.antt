use Rattle.std.proofs.Common.{sym, ap, ◌∙◌}
use Rattle.std.specs.Prelude.{is_some, option_copied}
use Rattle.file_tree.specs.rules.Files.{Files, path_of}
use Rattle.file_tree.specs.Links.{node_in, is_hung}
use Rattle.file_tree.proofs.Lookups.{hung_has_path}
use Rattle.file_tree.proofs.StoreLemmas.KeptAs.{hook_kept}
use Rattle.file_tree.proofs.tree.Tree.has_path.Goals as goal

pub returns : goal.returns
returns c =
    c.holds_path.ensures
    ∙ ap is_hung (hook_kept (option_copied c.node_of.result)
    (node_in c.self.inside.nodes c.args.number)
    c.node_of.ensures)
    ∙ sym (hung_has_path c.self.inside.nodes c.self.inside.next c.args.number c.self.invariant.0)
    ∙ ap (λ (fs : Files). is_some (path_of fs c.args.number)) c.self.view_is
