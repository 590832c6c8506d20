use Rattle.std.proofs.Common.{◌≤◌, sym, ◌∙◌, arith}
use Rattle.std.proofs.lemmas.Bool.{lt-ltb, le-leb}
use Rattle.wasm_decode.proofs.ItemLemmas.Powers.{byte_fits}
use Rattle.wasm_places.proofs.reader.is_below.Goals as goal

pub returns-then-bits-ge7 : goal.returns-then-bits-ge7
returns-then-bits-ge7 c =
    let wide : 7 ≤ c.args.bits = omega arith in
    le-leb _ _ wide ∙ sym (lt-ltb _ _ (byte_fits c.args.bits c.args.byte wide c.requires))
