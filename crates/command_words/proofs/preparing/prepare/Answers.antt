use Rattle.command_words.proofs.PreparingLemmas.{prepared_in_vain}
use Rattle.command_words.proofs.preparing.prepare.Goals as goal

pub returns-clause-refused : goal.returns-clause-refused
returns-clause-refused c =
    prepared_in_vain c.in-Ok.config _ c.args.wasm.now c.measure-measured.result
    c.with_sectors.result c.in-Ok.ensures.made c.with_sectors.ensures
    c.measure-measured.ensures.within c.measure-measured.ensures.refused
