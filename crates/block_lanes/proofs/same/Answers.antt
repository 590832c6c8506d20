use Rattle.std.proofs.Common.{◌≡◌, length, ap, ◌∙◌, inl, inr, eq-eqb}
use Rattle.std.proofs.lemmas.Bool.{eqb-true}
use Rattle.block_lanes.proofs.Lanes.{begins, goes_on, ends}
use Rattle.block_lanes.proofs.same.Goals as goal

pub loop-x-init : goal.loop-x-init
loop-x-init c =
    let made = c.into_iter-x-iterator.ensures.into_iter_gives in
    let first = c.zip-x-items.ensures.first in
    let second = c.zip-x-items.ensures.second.0 in
    begins c.args.a.now c.args.b.now _ _
    (record {
      len = c.told-a;
      bytes = c.fits-a;
      lanes = ap (λ z. z.a.rest.now) made
          ∙ (ap (λ z. z.rest.now) first ∙ (c.iter.ensures.rest ∙ c.as_chunks.ensures.front));
    })
    (record {
      len = c.told-b;
      bytes = c.fits-b;
      lanes = ap (λ z. z.b.rest.now) made
          ∙ (second ∙ c.as_chunks-2.ensures.front);
    })

pub loop-x-preserved : goal.loop-x-preserved
loop-x-preserved c =
    let steps = c.in-Some.ensures.steps in
    goes_on c.args.a.now c.args.b.now _ _ _ _ _ _ c.loop-x.differing _ _ c.loop-x.invariant steps.0
    steps.1 c.from_ne_bytes.ensures c.from_ne_bytes-in-loop-x.ensures

pub returns : goal.returns
returns c =
    let compared = c.loop-x.invariant in
    let none : length c.loop-x.x-iterator.a.rest.now ≡ 0 =
    elim c.in-None.ensures.steps [ inl x ↦ x.1.0 | inr y ↦ compared.as_many ∙ y.1.0 ] in
    let both = ends c.args.a.now c.args.b.now _ _ c.loop-x.differing compared none in
    (λ t. both.0 (eqb-true c.loop-x.differing 0 t), λ e. eq-eqb c.loop-x.differing 0 (both.1 e))
