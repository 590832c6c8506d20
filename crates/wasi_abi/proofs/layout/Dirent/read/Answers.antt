use Rattle.wasi_abi.proofs.LayoutLemmas.{dirent_again}
use Rattle.wasi_abi.proofs.layout.Dirent.read.Goals as goal

pub returns-clause-written : goal.returns-clause-written
returns-clause-written c s fits is =
    dirent_again s c.args.bytes.now c.u64_from.result c.u64_from-2.result c.u32_from.result fits is
    c.u64_from.ensures c.u64_from-2.ensures c.u32_from.ensures
