use Rattle.state_image.specs.restoring.Descriptors.{AreOpened}
use Rattle.state_image.proofs.restoring.descriptors.open_descriptors.Given as goal

abbrev pub invariant-loop : goal.invariant-loop
invariant-loop l = AreOpened l.tree l.counter l.descriptors.items l.fn.reader l.reader
