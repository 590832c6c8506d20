use Rattle.wasi_abi.proofs.LayoutLemmas.{put_mid-with_part}
use Rattle.wasi_abi.proofs.layout.put_u32.Goals as goal

pub returns : goal.returns
returns c = put_mid-with_part c.args.at 4 c.args.number c.args.bytes.now c.write_u32.new.buf
    c.requires c.write_u32.ensures
