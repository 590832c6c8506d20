use Rattle.std.proofs.Common.{◌≡◌, drop}
use Rattle.wasi_calls_rules.specs.Entries.{free_from}
use Rattle.wasi_calls.proofs.host.opening.first_free.Given as goal

abbrev pub invariant-loop-place : goal.invariant-loop-place
invariant-loop-place l = free_from l.place (drop l.place l.descriptors) ≡ free_from 0 l.descriptors
