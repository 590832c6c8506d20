use Rattle.wasi_calls_rules.proofs.KeepsWasiStates.{small_file}
use Rattle.std.proofs.Common.{arith}
use Rattle.wasi_calls.proofs.host.WasiState.size.Goals as goal

pub returns-clause-limit : goal.returns-clause-limit
returns-clause-limit c =
    let few = (small_file c.self.inside.tree c.args.node c.self.invariant.files).0 in
    omega (arith, few, c.size.ensures)
