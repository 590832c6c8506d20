use Rattle.std.proofs.Common.{◌≡◌, ℕ, false, Option, refl, sym, ap, ◌∙◌, arith}
use Rattle.file_tree.specs.rules.Listings.{number_at}
use Rattle.wasi_calls.specs.Restoring.{is_kept}
use Rattle.wasi_calls.proofs.Restored.{all_kept, one_lost}
use Rattle.wasi_calls.proofs.host.restoring.are_removed_named.Goals as goal

pub returns-then-not-is_kept : goal.returns-then-not-is_kept
returns-then-not-is_kept c =
    let fs = c.args.tree.now in
    let ds = c.args.descriptors.now in
    let lost : is_kept fs ds (number_at fs c.loop-place.place) ≡ false =
    sym (ap (λ (o : Option ℕ). is_kept fs ds o) c.number_at.ensures) ∙ sym c.is_kept.ensures
    ∙ c.if-not-is_kept.true in
    (λ e. absurd (cc), λ named. absurd (one_lost fs ds c.loop-place.place lost named))

pub returns : goal.returns
returns c =
    let all = all_kept c.args.tree.now c.args.descriptors.now
    (λ i less. c.loop-place.invariant i (omega (arith, less))) in
    (λ _. all, λ _. refl)
