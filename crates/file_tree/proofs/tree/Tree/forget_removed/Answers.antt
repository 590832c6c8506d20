use Rattle.std.proofs.Common.{sym, ◌∙◌}
use Rattle.file_tree.proofs.RemovedNodes.{begins, passes_none, passes_named, passes_removed}
use Rattle.file_tree.proofs.tree.Tree.forget_removed.Goals as goal

pub loop-place-init : goal.loop-place-init
loop-place-init c = begins c.args.self.now c.len-place.result c.len-place.ensures.count

pub loop-place-preserved-in_default : goal.loop-place-preserved-in_default
loop-place-preserved-in_default c =
    passes_none c.args.self.now c.loop-place.self c.loop-place.place
    c.len-place.ensures.shape.rising c.loop-place-test.true c.loop-place.invariant
    (sym c.number_at.ensures ∙ c.in_default.is)

pub loop-place-preserved-then-not-has_path : goal.loop-place-preserved-then-not-has_path
loop-place-preserved-then-not-has_path c =
    passes_removed c.args.self.now c.loop-place.self c.loop-place.place
    c.len-place.ensures.shape.rising c.loop-place-test.true c.loop-place.invariant
    c.in-Some.number c.forget.new.self (sym c.number_at.ensures ∙ c.in-Some.is)
    (sym c.has_path.ensures ∙ c.if-not-has_path.true) c.forget.ensures

pub loop-place-preserved : goal.loop-place-preserved
loop-place-preserved c =
    passes_named c.args.self.now c.loop-place.self c.loop-place.place
    c.len-place.ensures.shape.rising c.loop-place-test.true c.loop-place.invariant
    c.in-Some.number (sym c.number_at.ensures ∙ c.in-Some.is)
    (sym c.has_path.ensures ∙ c.if-not-has_path.false)
