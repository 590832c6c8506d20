use Rattle.std.proofs.Common.{◌+◌, ◌-◌, ◌≤◌, ◌++◌, length, length-take, ap, ◌∙◌, subst}
use Rattle.std.proofs.Common.{◌≡◌, arith, take}
use Rattle.std.specs.Prelude.{reverse}
use Rattle.std.proofs.lemmas.List.{length-reverse}
use Rattle.machine_slots.proofs.Falls.{rises}
use Rattle.machine_slots.proofs.slots.Slots.raise_to.Goals as goal

pub returns : goal.returns
returns c =
    let words = c.self.inside.words.items in
    let height = c.self.inside.height in
    let shown = simp (length-reverse, length-take) at (ap length c.self.view_is) in
    let all = c.self.invariant in let more = c.requires.more in let room = c.requires.room in
    let low : height ≤ c.args.height = omega (arith, shown, all, more) in
    let apart : height + (c.args.height - height) ≡ c.args.height = omega (arith, low) in
    let h = rises words height (c.args.height - height) (omega (arith, shown, all, more, room)) in (
      h.0,
      let count = h.1 in omega (arith, count, shown, all, low),
      subst (λ n. reverse (take n words) ≡ h.0 ++ reverse (take height words)) apart h.2
          ∙ ap (λ z. h.0 ++ z) c.self.view_is,
    )
