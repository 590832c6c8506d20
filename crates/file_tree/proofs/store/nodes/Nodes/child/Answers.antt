use Rattle.std.proofs.Common.{sym, ◌∙◌}
use Rattle.file_tree.proofs.StoreLemmas.NamedLookups.{keys_in_order, key_before, none_before}
use Rattle.file_tree.proofs.StoreLemmas.NamedLookups.{hooked_before, not_hooked_before}
use Rattle.file_tree.proofs.store.nodes.Nodes.child.Goals as goal

pub count_up_to-behind-requires : goal.count_up_to-behind-requires
count_up_to-behind-requires c = keys_in_order c.self.invariant.0 c.as_slice-names.ensures.value

pub returns-then-behind-eq0 : goal.returns-then-behind-eq0
returns-then-behind-eq0 c =
    sym (none_before c.self.invariant.0 c.as_slice-names.ensures.value c.self.view_is
    c.args.directory c.args.name.now c.count_up_to-behind.result c.count_up_to-behind.ensures.cut
    c.if-behind-eq0.true)

pub index-node-requires : goal.index-node-requires
index-node-requires c =
    key_before c.count_up_to-behind.result
    (keys_in_order c.self.invariant.0 c.as_slice-names.ensures.value)
    c.if-behind-eq0.false c.count_up_to-behind.ensures.within

pub returns-then-hangs_under : goal.returns-then-hangs_under
returns-then-hangs_under c =
    sym (hooked_before c.self.invariant.0 c.as_slice-names.ensures.value c.self.view_is
    c.args.directory c.args.name.now c.count_up_to-behind.result c.count_up_to-behind.ensures.cut
    c.if-behind-eq0.false c.count_up_to-behind.ensures.within
    c.index-node.result.now c.index-node.ensures (sym c.hangs_under.ensures
    ∙ c.if-hangs_under.true))

pub returns : goal.returns
returns c =
    sym (not_hooked_before c.self.invariant.0 c.as_slice-names.ensures.value c.self.view_is
    c.args.directory c.args.name.now c.count_up_to-behind.result c.count_up_to-behind.ensures.cut
    c.if-behind-eq0.false c.count_up_to-behind.ensures.within
    c.index-node.result.now c.index-node.ensures (sym c.hangs_under.ensures
    ∙ c.if-hangs_under.false))
