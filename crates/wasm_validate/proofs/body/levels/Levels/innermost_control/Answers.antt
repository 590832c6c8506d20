use Rattle.std.proofs.Common.{subst}
use Rattle.wasm_validate.specs.Body.Views.{IsInnermost}
use Rattle.wasm_validate.proofs.BodyLemmas.LevelViews.{innermost_is}
use Rattle.wasm_validate.proofs.body.levels.Levels.innermost_control.Goals as goal

pub returns : goal.returns
returns c =
    subst (λ z. IsInnermost c.get.result z) c.self.view_is
    (innermost_is c.get.result c.self.inside.controls c.self.inside.operands c.get.ensures)
