use Rattle.std.proofs.Common.{◌≡◌, List, sym, ap, ◌∙◌}
use Rattle.std.specs.Prelude.{reverse}
use Rattle.std.proofs.lemmas.List.{at_drop_all}
use Rattle.wasm_validate.specs.declared.body.levels.Control.{Control}
use Rattle.wasm_validate.specs.laws.Checking.{Known, Level}
use Rattle.wasm_validate.specs.laws.Reached.{are_reached}
use Rattle.wasm_validate.specs.Body.Views.{levels_of}
use Rattle.wasm_validate.proofs.BodyLemmas.ReachedViews.{controls_reached, reached_view}
use Rattle.wasm_validate.proofs.BodyLemmas.ReachedViews.{reached_turned, one_unreached, one_reached}
use Rattle.wasm_validate.proofs.body.levels.Levels.are_reached.Goals as goal

-- what the loop goes over
all_of : (levels : List Level) (controls items : List Control) (operands : List Known)
    → levels_of controls operands ≡ levels → items ≡ reverse controls
    → are_reached levels ≡ controls_reached items
all_of levels controls items operands view is =
    ap are_reached (sym view) ∙ reached_view controls operands ∙ sym (reached_turned controls)
    ∙ ap controls_reached (sym is)

pub returns-then-not-control : goal.returns-then-not-control
returns-then-not-control c =
    let items = c.as_slice-control-items.result.now in
    sym
    (all_of c.args.self.now c.self.inside.controls items c.self.inside.operands c.self.view_is
    c.as_slice-control-items.ensures
    ∙ c.loop-control.invariant
    ∙ one_unreached items c.loop-control.control-index _ c.loop-control-test.true
    c.if-not-control.true)

pub loop-control-preserved : goal.loop-control-preserved
loop-control-preserved c =
    let items = c.as_slice-control-items.result.now in
    c.loop-control.invariant
    ∙ one_reached items c.loop-control.control-index _ c.loop-control-test.true
    c.if-not-control.false

pub returns : goal.returns
returns c =
    let items = c.as_slice-control-items.result.now in
    sym
    (all_of c.args.self.now c.self.inside.controls items c.self.inside.operands c.self.view_is
    c.as_slice-control-items.ensures
    ∙ c.loop-control.invariant
    ∙ at_drop_all controls_reached items c.loop-control.control-index c.loop-control-test.false)
