use Rattle.std.proofs.Common.{arith, ◌≡◌, ◌+◌, ◌-◌, ◌≤◌, ◌∙◌, ap, length, get_or, length-take}
use Rattle.std.proofs.lemmas.List.{length-reverse, get_or_read}
use Rattle.machine_slots.proofs.Falls.{falls_all, falls_but_one}
use Rattle.machine_slots.proofs.slots.Slots.fall.Goals as goal

pub returns-then-keeps-eq0 : goal.returns-then-keeps-eq0
returns-then-keeps-eq0 c = λ kept between under k h e.
    let fits : c.args.keeps + c.args.height ≤ c.self.inside.height =
    omega (
      arith,
      simp (length-reverse, length-take) at (ap length c.self.view_is),
      c.requires.room,
    ) in
    falls_all _ kept between under _ c.if-keeps-eq0.true fits k h (c.self.view_is ∙ e)

pub returns-else-keeps-eq0 : goal.returns-else-keeps-eq0
returns-else-keeps-eq0 c = λ kept between under k h e.
    let fits : c.args.keeps + c.args.height ≤ c.self.inside.height =
    omega (
      arith,
      simp (length-reverse, length-take) at (ap length c.self.view_is),
      c.requires.room,
    ) in
    let same : c.index-kept.result.now
    ≡ get_or c.self.inside.words.items (c.self.inside.height
    - 1) 0 = get_or_read c.self.inside.words.items (c.self.inside.height - 1) _
    (omega arith) c.index-kept.ensures 0 in
    rw same (falls_but_one c.self.inside.words.items kept between under c.self.inside.height
    c.if-keeps-eq0.false c.requires.few fits (omega arith) k h (c.self.view_is ∙ e))
