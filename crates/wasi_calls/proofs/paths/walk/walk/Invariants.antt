use Rattle.std.proofs.Common.{length}
use Rattle.wasi_calls.proofs.Walks.{Leads}
use Rattle.wasi_calls.proofs.paths.walk.walk.Given as goal

abbrev pub invariant-loop-name : goal.invariant-loop-name
invariant-loop-name l = Leads l.host.host.files l.start l.initial.names l.directory l.names

abbrev pub decreases-loop-name : goal.decreases-loop-name
decreases-loop-name l = length l.names
