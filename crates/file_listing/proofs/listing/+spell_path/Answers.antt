use Rattle.std.proofs.Common.{List, ℕ, ◌++◌, ap, ◌∙◌}
use Rattle.std.proofs.lemmas.Result.{on_ok_weaker}
use Rattle.file_listing.proofs.PathLemmas.{spelled_top, spelled_below, put_behind}
use Rattle.file_tree.specs.rules.Changes.{path_at}
use Rattle.file_listing.specs.rules.Listed.{path_text}
use Rattle.file_listing.proofs.listing.+spell_path.Goals as goal

pub returns-in_default : goal.returns-in_default
returns-in_default t c =
    spelled_top c.args.tree.now c.args.number c.args.text.now.items c.in_default.ensures.none

pub returns : goal.returns
returns t c =
    let tree = c.args.tree.now in
    let name = c.name.result.now in
    let text = c.args.text.now.items in
    on_ok_weaker c.extend_from_slice-2.result (λ e. e
    ∙ ap (λ (t : List ℕ). t ++ name) c.in_ok-extend_from_slice.ensures.items
    ∙ ap (λ (t : List ℕ). (t ++ c.separator.result.now) ++ name) c.in_ok-spell_path.ensures
    ∙ ap (λ (t : List ℕ). ((text ++ path_text (path_at tree c.in-Some.directory)) ++ t) ++ name)
    c.separator.ensures
    ∙ spelled_below tree c.args.number c.in-Some.directory text name c.in-Some.ensures.above
    c.name.ensures.last)
    (put_behind c.extend_from_slice-2.result c.extend_from_slice.new.self.items name
    c.extend_from_slice-2.new.self.items c.extend_from_slice-2.ensures.items)
