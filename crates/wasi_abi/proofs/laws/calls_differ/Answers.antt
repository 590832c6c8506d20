use Rattle.std.proofs.Common.{refl}
use Rattle.wasi_abi.proofs.CallLemmas.{every_call, distinct_names, name_of-injective}
use Rattle.wasi_abi.proofs.laws.calls_differ.Goals as goal

pub returns-clause-calls : goal.returns-clause-calls
returns-clause-calls c = record {
  count = refl;
  every = every_call;
  distinct = distinct_names;
  names = name_of-injective;
}
