use Rattle.wasi_abi.proofs.LayoutLemmas.{filestat_again}
use Rattle.wasi_abi.proofs.layout.Filestat.read.Goals as goal

pub returns-clause-written : goal.returns-clause-written
returns-clause-written c s fits is =
    filestat_again s c.args.bytes.now c.u64_from.result c.u64_from-2.result c.u64_from-3.result fits
    is c.u64_from.ensures c.u64_from-2.ensures c.u64_from-3.ensures
