use Rattle.std.proofs.Common.{sym, subst}
use Rattle.machine.specs.rules.Loading.{ShowsSome}
use Rattle.machine.proofs.LoadingLemmas.Fits.{machine_made}
use Rattle.machine.proofs.loading.loading.Loading.finish.Goals as goal

pub invariant_of-result : goal.invariant_of-result
invariant_of-result c =
    machine_made c.self.invariant (subst ShowsSome (sym c.self.view_is) c.in-Ok.ensures.shows)
