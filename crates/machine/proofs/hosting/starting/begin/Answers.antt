use Rattle.machine.proofs.HostingLemmas.Begun.{begun}
use Rattle.machine.proofs.hosting.starting.begin.Goals as goal

pub returns-clause-begun : goal.returns-clause-begun
returns-clause-begun c =
    begun c.requires.pages c.in_ok-instance.ensures.linked c.in_ok-prepare.ensures
