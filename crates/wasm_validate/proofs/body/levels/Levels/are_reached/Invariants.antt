use Rattle.std.proofs.Common.{◌≡◌, drop}
use Rattle.wasm_validate.proofs.BodyLemmas.ReachedViews.{controls_reached}
use Rattle.wasm_validate.proofs.body.levels.Levels.are_reached.Given as goal

abbrev pub invariant-loop-control : goal.invariant-loop-control
invariant-loop-control l =
    controls_reached l.control-items ≡ controls_reached (drop l.control-index l.control-items)
