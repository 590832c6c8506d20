use Rattle.wasm_rules.specs.Steps.{IsEnded}
use Rattle.process.proofs.PartsTested.{tells_not}
use Rattle.process.proofs.restoring.is_open.Goals as goal

pub returns-in-None : goal.returns-in-None
returns-in-None c = λ program d shows.
    let it = tells_not c.has_ended.result (IsEnded d) (c.has_ended.ensures program d shows) in
    (λ told none. it.0 told, λ stays. it.1 (stays c.in-None.is))
