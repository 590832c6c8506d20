use Rattle.std.proofs.Common.{◌≡◌, length}
use Rattle.wasi_calls_rules.specs.Paths.{names_of}
use Rattle.wasi_calls.proofs.paths.form.PathNames.next.Given as goal

abbrev pub invariant-loop-self : goal.invariant-loop-self
invariant-loop-self l = names_of l.self-inside.rest.now ≡ names_of l.initial.self-inside.rest.now

abbrev pub decreases-loop-self : goal.decreases-loop-self
decreases-loop-self l = length l.self-inside.rest.now
