use Rattle.std.proofs.lemmas.Bool.{both_ways}
use Rattle.wasi_calls.proofs.host.WasiState.from_parts.Goals as goal

pub returns-then-not-is_host-clause-refused : goal.returns-then-not-is_host-clause-refused
returns-then-not-is_host-clause-refused c =
    λ _ host. both_ways _ c.if-not-is_host.true ((c.is_host.ensures c.args.version).1 host)

pub returns-in_err-streams-clause-is : goal.returns-in_err-streams-clause-is
returns-in_err-streams-clause-is c =
    λ _. (c.is_host.ensures c.args.version).0 c.if-not-is_host.false

pub invariant_of-result : goal.invariant_of-result
invariant_of-result c =
    rw c.in_ok-streams.ensures ((c.is_host.ensures c.args.version).0 c.if-not-is_host.false)

pub returns-clause-is : goal.returns-clause-is
returns-clause-is c = λ _. (c.is_host.ensures c.args.version).0 c.if-not-is_host.false
