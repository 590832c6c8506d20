use Rattle.wasm_validate.proofs.PartLemmas.Lookups.{first_within}
use Rattle.wasm_validate.proofs.parts.indices.is_memory.Goals as goal

pub returns-then-x-eq0 : goal.returns-then-x-eq0
returns-then-x-eq0 c =
    λ t is few. first_within t.memories c.args.x c.has_memory.result c.if-x-eq0.true
    (c.has_memory.ensures t is)
