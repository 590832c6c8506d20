use Rattle.std.proofs.Common.{◌∙◌}
use Rattle.wasi_abi.proofs.LayoutLemmas.{fdstat_again}
use Rattle.wasi_abi.proofs.layout.Fdstat.read.Goals as goal

pub returns-clause-written : goal.returns-clause-written
returns-clause-written c s fits is =
    fdstat_again s c.args.bytes.now c.u16_from.result c.from_number.result.0
    c.from_number-2.result.0 fits is c.u16_from.ensures
    (c.from_number.ensures ∙ c.u64_from.ensures) (c.from_number-2.ensures ∙ c.u64_from-2.ensures)
