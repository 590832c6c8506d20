use Rattle.process.specs.rules.Values.{process_of}
use Rattle.process.proofs.Widening.{is_widened}
use Rattle.process.proofs.process.Process.widen.Goals as goal

pub invariant_of-self : goal.invariant_of-self
invariant_of-self c =
    let v = c.self.inside in
    let narrow = (rw (← c.self.view_is) at c.requires) in
    rw c.widen.ensures.changed
    (is_widened (process_of v.machine v.host v.steps v.answers v.requests v.ended) narrow
    c.self.invariant)
