use Rattle.std.proofs.Common.{List, Option, take, sym, ap, subst, arith, ◌++◌, ◌∙◌}
use Rattle.std.specs.Prelude.{option_to_list}
use Rattle.std.specs.List.{filter_map}
use Rattle.file_listing.specs.declared.listed.ListedNode.{ListedNode}
use Rattle.file_listing.specs.rules.Listed.{HaveNames, HaveParents, listed_of}
use Rattle.file_listing.proofs.NameLemmas.{have_names}
use Rattle.file_listing.proofs.NodeLemmas.{all_listed, place_found, listed_more}
use Rattle.file_listing.proofs.ParentLemmas.{have_parents}
use Rattle.file_listing.proofs.listing.list_nodes.Goals as goal

pub returns-clause-named : goal.returns-clause-named
returns-clause-named c =
    let tree = c.args.tree.now in
    let place = c.loop-place.place in
    let count = c.len-count.ensures.count in
    let over = c.loop-place-test.false in
    subst HaveNames (sym (all_listed tree c.loop-place.nodes.items place c.loop-place.invariant
    (omega (arith, count, over))))
    (have_names tree c.len-count.ensures.shape)

pub returns-clause-parents : goal.returns-clause-parents
returns-clause-parents c =
    let tree = c.args.tree.now in
    let place = c.loop-place.place in
    let count = c.len-count.ensures.count in
    let over = c.loop-place-test.false in
    subst HaveParents (sym (all_listed tree c.loop-place.nodes.items place c.loop-place.invariant
    (omega (arith, count, over))))
    (have_parents tree c.len-count.ensures.shape)

pub loop-place-preserved : goal.loop-place-preserved
loop-place-preserved c =
    let tree = c.args.tree.now in
    let n = place_found tree c.loop-place.place c.unwrap-number.result c.len-count.ensures.shape
    (sym c.number_at.ensures ∙ c.unwrap-number.ensures) in
    c.in_ok-push_some.ensures
    ∙ ap (λ (l : List ListedNode). l ++ option_to_list c.in_ok-node.node) c.loop-place.invariant
    ∙ ap (λ (o : Option ListedNode).
    filter_map listed_of (take c.loop-place.place tree.nodes) ++ option_to_list o)
    (c.in_ok-node.ensures n.0 n.2 n.3)
    ∙ listed_more tree.nodes c.loop-place.place n.0 n.1
