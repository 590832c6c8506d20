use Rattle.std.proofs.Common.{rules}
use Rattle.wasi_calls_rules.specs.Paths.{names_of}
use Rattle.wasi_calls.proofs.GivenPaths.{formed_walked}
use Rattle.wasi_calls.proofs.paths.form.PathNames.of.Goals as goal

pub returns-clause-walked : goal.returns-clause-walked
returns-clause-walked c =
    formed_walked c.args.bytes.now (names_of c.args.bytes.now) (search rules)
