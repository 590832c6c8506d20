use Rattle.wasm_validate.proofs.PartLemmas.Lookups.{first_within}
use Rattle.wasm_validate.proofs.parts.indices.is_table.Goals as goal

pub returns-then-x-eq0 : goal.returns-then-x-eq0
returns-then-x-eq0 c =
    λ t is few. first_within t.tables c.args.x c.has_table.result c.if-x-eq0.true
    (c.has_table.ensures t is)
