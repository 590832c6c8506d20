use Rattle.std.proofs.Common.{◌∙◌, ◌≤◌, arith, ap, length, length-take, take}
use Rattle.std.proofs.lemmas.List.{length-reverse, take-take}
use Rattle.machine_slots.proofs.Falls.{falls_to}
use Rattle.machine_slots.proofs.slots.Slots.truncate.Goals as goal

pub returns : goal.returns
returns c = λ between under h e.
    let fits : c.args.height ≤ c.self.inside.height =
    omega (arith, simp (length-reverse, length-take) at (ap length c.self.view_is), c.requires)
    in
    rw (← take-take c.args.height c.self.inside.height c.self.inside.words.items fits) (falls_to
    (take c.self.inside.height c.self.inside.words.items) between under h (c.self.view_is ∙ e))
