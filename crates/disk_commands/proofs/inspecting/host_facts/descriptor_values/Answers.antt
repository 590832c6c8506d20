use Rattle.disk_commands.specs.FactViews.{values_of}
use Rattle.disk_commands.proofs.OpenedLemmas.{one_more_opened}
use Rattle.disk_commands.proofs.inspecting.host_facts.descriptor_values.Goals as goal

pub loop-number-preserved : goal.loop-number-preserved
loop-number-preserved c =
    one_more_opened c.args.tree.now c.args.descriptors.now c.loop-number.number
    c.index-descriptors-number.result (values_of c.loop-number.values.items)
    (values_of c.push_opened.new.values.items) c.loop-number-test.true
    c.index-descriptors-number.is c.loop-number.invariant c.in_ok-push_opened.ensures
