use Rattle.wasi_calls.proofs.Restored.{MayBeOpenBefore}
use Rattle.wasi_calls.proofs.host.restoring.may_all_be_open.Given as goal

abbrev pub invariant-loop-number : goal.invariant-loop-number
invariant-loop-number l = MayBeOpenBefore l.tree l.descriptors l.number
