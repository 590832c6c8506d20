use Rattle.std.proofs.Common.{◌≡◌, Some, sym, ap, subst, ◌∙◌}
use Rattle.std.specs.Prelude.{option_copied}
use Rattle.file_tree.specs.rules.Files.{Files, path_of}
use Rattle.file_tree.specs.Links.{node_in, hook_of, name_of_hook}
use Rattle.file_tree.specs.rules.Listings.{number_at_place, HasNameAtPlace}
use Rattle.file_tree.proofs.NearestNodes.{name_at_place}
use Rattle.file_tree.proofs.Parents.{last_name, no_name}
use Rattle.file_tree.proofs.StoreLemmas.KeptAs.{hook_kept}
use Rattle.file_tree.proofs.tree.Tree.name.Goals as goal

pub returns-clause-last : goal.returns-clause-last
returns-clause-last c =
    λ p name e.
    c.name_held.ensures ∙ ap name_of_hook (hook_kept (option_copied c.node_of.result)
    (node_in c.self.inside.nodes c.args.number)
    c.node_of.ensures)
    ∙ last_name c.self.inside.nodes c.self.inside.next c.args.number c.self.invariant.0 p name
    (ap (λ (fs : Files). path_of fs c.args.number) c.self.view_is ∙ e)

pub returns-clause-none : goal.returns-clause-none
returns-clause-none c =
    λ never.
    c.name_held.ensures ∙ ap name_of_hook (hook_kept (option_copied c.node_of.result)
    (node_in c.self.inside.nodes c.args.number)
    c.node_of.ensures)
    ∙ no_name c.self.inside.nodes c.self.inside.next c.args.number c.self.invariant.0 (λ p name e.
    never p name (sym (ap (λ (fs : Files). path_of fs c.args.number) c.self.view_is) ∙ e))

pub returns-clause-of_entry : goal.returns-clause-of_entry
returns-clause-of_entry c =
    λ d i is.
    let held : name_of_hook (hook_of c.self.inside.nodes c.args.number) ≡ c.name_held.result.now =
    sym (c.name_held.ensures
    ∙ ap name_of_hook (hook_kept (option_copied c.node_of.result)
    (node_in c.self.inside.nodes c.args.number)
    c.node_of.ensures)) in
    subst (HasNameAtPlace c.args.self.now d i) held
    (subst (λ (fs : Files). number_at_place fs d i ≡ Some c.args.number
    → HasNameAtPlace fs d i (name_of_hook (hook_of c.self.inside.nodes c.args.number)))
    c.self.view_is
    (name_at_place c.self.inside.nodes c.self.inside.next d i c.args.number c.self.invariant.0) is)
