use Rattle.std.proofs.Common.{ap, ◌∙◌}
use Rattle.std.specs.Prelude.{option_copied}
use Rattle.file_tree.specs.Links.{node_in}
use Rattle.file_tree.specs.Steps.{step_of}
use Rattle.file_tree.proofs.StoreLemmas.KeptAs.{hook_kept}
use Rattle.file_tree.proofs.children.step_up.Goals as goal

pub returns : goal.returns
returns c =
    c.step_from.ensures
    ∙ ap step_of (hook_kept (option_copied c.node_of.result)
    (node_in c.args.nodes.now c.args.number) c.node_of.ensures)
