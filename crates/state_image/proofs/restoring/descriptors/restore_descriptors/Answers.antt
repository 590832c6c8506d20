use Rattle.state_image.proofs.RestoreLemmas.Lent.{fault_of}
use Rattle.state_image.proofs.RestoreLemmas.OpenAgain.{all_opened, no_count, so_many}
use Rattle.state_image.proofs.restoring.descriptors.restore_descriptors.Goals as goal

pub returns-in_default-clause-refused : goal.returns-in_default-clause-refused
returns-in_default-clause-refused c refused ds rest all is =
    no_count c.args.tree.now c.args.reader.now c.count.new.self c.in_default.ensures ds rest all is

pub returns-in_err-open_descriptors-clause-refused :
    goal.returns-in_err-open_descriptors-clause-refused
returns-in_err-open_descriptors-clause-refused c refused ds rest all is =
    let same = so_many c.args.tree.now c.in-Some.count c.args.reader.now c.count.new.self
    c.in-Some.ensures ds rest all is in
    c.in_err-open_descriptors.ensures.refused
    (fault_of c.from_residual.result _ c.from_residual.ensures.1 refused) ds rest all same.0 same.1

pub returns-clause-made : goal.returns-clause-made
returns-clause-made c =
    (all_opened c.args.tree.now c.in-Some.count c.open_descriptors.new.descriptors.items
    c.close_up_to.new.descriptors.items c.args.reader.now c.count.new.self
    c.open_descriptors.new.reader c.in-Some.ensures c.in_ok-open_descriptors.ensures.made
    c.in_ok-close_up_to.ensures).is

pub returns-clause-all : goal.returns-clause-all
returns-clause-all c =
    (all_opened c.args.tree.now c.in-Some.count c.open_descriptors.new.descriptors.items
    c.close_up_to.new.descriptors.items c.args.reader.now c.count.new.self
    c.open_descriptors.new.reader c.in-Some.ensures c.in_ok-open_descriptors.ensures.made
    c.in_ok-close_up_to.ensures).all
