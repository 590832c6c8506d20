use Rattle.std.proofs.Common.{length, ap, arith}
use Rattle.state_image.proofs.RestoreLemmas.OpenAgain.{no_descriptor, not_descriptor, one_opened}
use Rattle.state_image.proofs.restoring.descriptors.open_descriptor.Goals as goal

pub returns-in_default-clause-refused : goal.returns-in_default-clause-refused
returns-in_default-clause-refused c refused d rest can is =
    no_descriptor c.args.tree.now c.args.reader.now c.read_descriptor.new.reader
    c.in_default.ensures c.args.descriptors.now.items d rest can is

pub returns-in_default-descriptor_of-clause-refused :
    goal.returns-in_default-descriptor_of-clause-refused
returns-in_default-descriptor_of-clause-refused c refused d rest can is =
    not_descriptor c.args.tree.now c.in-Some.read c.args.reader.now c.read_descriptor.new.reader
    c.in-Some.ensures c.args.descriptors.now.items c.in_default-descriptor_of.ensures.none d rest
    can is

pub returns-clause-made : goal.returns-clause-made
returns-clause-made c =
    let next = c.is_next.ensures.0 c.if-not-is_next.false in
    one_opened c.args.tree.now c.in-Some.read c.in-Some-descriptor_of.descriptor
    c.args.descriptors.now.items c.open_under.new.descriptors.items c.args.reader.now
    c.read_descriptor.new.reader c.in-Some.ensures
    (omega (arith, next.0, ap length c.as_slice.ensures.value), next.1)
    c.in-Some-descriptor_of.ensures.made c.in_ok-open_under.ensures
