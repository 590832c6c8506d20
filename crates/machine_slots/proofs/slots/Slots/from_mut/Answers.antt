use Rattle.std.proofs.Common.{◌≡◌, ◌+◌, ◌-◌, ◌≤◌, List, ℕ, length, length-take, take, drop}
use Rattle.std.proofs.Common.{refl, sym, ap, ◌∙◌, arith}
use Rattle.std.specs.Prelude.{reverse}
use Rattle.std.proofs.lemmas.List.{length-reverse, reverse-reverse, drop-take}
use Rattle.std.specs.Vec.{with_items_from}
use Rattle.machine_slots.specs.Lends.{with_from}
use Rattle.machine_slots.proofs.Falls.{written_within}
use Rattle.machine_slots.proofs.slots.Slots.from_mut.Goals as goal

pub returns : goal.returns
returns c =
    let words = c.self.inside.words.items in
    let height = c.self.inside.height in
    let place = c.args.place in
    let within : height ≤ length words = let all = c.self.invariant in omega (arith, all) in
    let shown : length c.args.self.now ≡ height =
    let long = simp (length-reverse, length-take) at (ap length c.self.view_is) in
    omega (arith, long, within) in
    let low : place ≤ height = let most = c.requires in omega (arith, most, shown) in
    let up : take height words ≡ reverse c.args.self.now =
    sym (reverse-reverse (take height words)) ∙ ap reverse c.self.view_is in
    let apart : place + (height - place) ≡ height = omega (arith, low) in
    let lent : (w : List ℕ)
    → reverse (take height (with_items_from c.self.inside.words place w).items)
    ≡ reverse (take (length c.args.self.now) (with_from place w (reverse c.args.self.now))) =
    λ w.
    let same = c.self.inside.words.ok.0 in
    let all = c.self.invariant in
    ap reverse (written_within words w place height c.self.inside.words.len low
    (omega (arith, same, all)) (omega (arith, same))
    ∙ ap (λ z. take height (with_from place w z)) up
    ∙ ap (λ n. take n (with_from place w (reverse c.args.self.now))) (sym shown)) in (
      (refl, lent),
      record {
        writes_back = tt;
        words = c.slice_mut.ensures.value
            ∙ sym (drop-take place (height - place) words)
            ∙ ap (λ z. drop place (take z words)) apart ∙ ap (drop place) up;
      },
    )
