use Rattle.std.proofs.Common.{◌*◌}
use Rattle.file_tree.specs.declared.limits.TheConstants.{UNIT_BYTES}
use Rattle.wasi_calls_rules.proofs.FirstWasiStates.{first_is_host}
use Rattle.wasi_calls.proofs.host.WasiState.new.Goals as goal

pub invariant_of-result : goal.invariant_of-result
invariant_of-result c =
    rw (c.in_ok-new.ensures, c.in_ok-begin.ensures, c.new-2.ensures.items, c.new-3.ensures)
    (first_is_host (c.args.config.files * UNIT_BYTES) c.args.version c.args.config.arguments
    c.args.config.environment)
