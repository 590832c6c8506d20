use Rattle.std.proofs.Common.{length}
use Rattle.host_tests.proofs.calls.+are_typed.Given as goal

abbrev pub decreases-are_typed : goal.decreases-are_typed
decreases-are_typed l = length l.types.now
