use Rattle.std.proofs.Common.{sym, ◌∙◌, arith}
use Rattle.file_tree.proofs.StoreLemmas.NamedLookups.{keys_in_order, listed_at, none_listed_at}
use Rattle.file_tree.proofs.store.nodes.Nodes.entry.Goals as goal

pub count_up_to-first-requires : goal.count_up_to-first-requires
count_up_to-first-requires c = keys_in_order c.self.invariant.0 c.as_slice-names.ensures.value

pub node_named-requires : goal.node_named-requires
node_named-requires c = keys_in_order c.self.invariant.0 c.as_slice-names.ensures.value

pub returns-then-place-names : goal.returns-then-place-names
returns-then-place-names c =
    sym (none_listed_at c.self.invariant.0 c.as_slice-names.ensures.value c.self.view_is
    c.args.directory c.count_up_to-first.result c.count_up_to-first.ensures.cut c.args.place
    c.count_up_to-first.ensures.within (omega (arith, c.if-place-names.true)))

pub returns : goal.returns
returns c =
    c.node_named.ensures
    ∙ sym (listed_at c.self.invariant.0 c.as_slice-names.ensures.value c.self.view_is
    c.args.directory c.count_up_to-first.result c.count_up_to-first.ensures.cut c.args.place)
