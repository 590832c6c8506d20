use Rattle.std.proofs.Common.{◌≡◌, ◌<◌, ◌+◌, ℕ, Bool, true, false, List, length, drop, get_or, Some}
use Rattle.std.proofs.Common.{None, refl, sym, ap, ◌∙◌}
use Rattle.std.specs.Prelude.{slice_get, ◌&&◌}
use Rattle.std.proofs.lemmas.List.{at_drop_more, at_drop_all}
use Rattle.std.proofs.lemmas.Result.{err_from_is_err_and}
use Rattle.wasm_syntax.specs.declared.types.ValueType.{ValueType}
use Rattle.wasm_rules.specs.Types.{results_of, are_same_types}
use Rattle.wasm_validate.specs.declared.parts.fault.ValidFault.TheVariants.{Typing, Index}
use Rattle.wasm_validate.specs.laws.Checking.{labels_of, is_label, are_labels}
use Rattle.wasm_validate.specs.laws.FirstFault.{fault_at, fault_unless, labels_fault}
use Rattle.wasm_validate.proofs.body.levels.Levels.expect_labels.Goals as goal

module _ (labels : List (List ValueType)) (ts : List ValueType) (ls : List ℕ) (n : ℕ) (h : n
    < length ls) where
  next_label : are_labels labels ts (drop n ls) ≡ (is_label labels ts (get_or ls n 0)
      && are_labels labels ts (drop (n + 1) ls))
  next_label = at_drop_more (λ z. are_labels labels ts z) ls n 0 h

  no_label : slice_get labels (get_or ls n 0) ≡ None → are_labels labels ts (drop n ls) ≡ false
  no_label e =
      let is : is_label labels ts (get_or ls n 0) ≡ false = rw e refl in
      next_label ∙ ap (λ z. z && are_labels labels ts (drop (n + 1) ls)) is

  this_label : (us : List ValueType) → slice_get labels (get_or ls n 0) ≡ Some us
      → are_labels labels ts (drop n ls) ≡ (are_same_types us ts
      && are_labels labels ts (drop (n + 1) ls))
  this_label us e =
      let is : is_label labels ts (get_or ls n 0) ≡ are_same_types us ts = rw e refl in
      next_label ∙ ap (λ z. z && are_labels labels ts (drop (n + 1) ls)) is

  next_fault : labels_fault labels ts (drop n ls)
      ≡ fault_at (slice_get labels (get_or ls n 0))
      (λ us. fault_unless (are_same_types us ts) Typing (labels_fault labels ts (drop (n + 1) ls)))
  next_fault = at_drop_more (λ z. labels_fault labels ts z) ls n 0 h

  no_label_fault : slice_get labels (get_or ls n 0) ≡ None
      → labels_fault labels ts (drop n ls) ≡ Index
  no_label_fault e =
      next_fault ∙ ap (λ z. fault_at z
      (λ us. fault_unless (are_same_types us ts) Typing
      (labels_fault labels ts (drop (n + 1) ls)))) e

  this_fault : (us : List ValueType) (b : Bool) → slice_get labels (get_or ls n 0) ≡ Some us
      → are_same_types us ts ≡ b
      → labels_fault labels ts (drop n ls)
      ≡ fault_unless b Typing (labels_fault labels ts (drop (n + 1) ls))
  this_fault us b e s =
      next_fault
      ∙ ap (λ z. fault_at z (λ us. fault_unless (are_same_types us ts) Typing
      (labels_fault labels ts (drop (n + 1) ls)))) e
      ∙ ap (λ z. fault_unless z Typing (labels_fault labels ts (drop (n + 1) ls))) s

pub returns-in_err-label : goal.returns-in_err-label
returns-in_err-label c =
    let p = err_from_is_err_and c.from_residual.result c.from_residual.ensures.1 in
    let labels = labels_of c.args.self.now in
    let ts = results_of c.args.takes in
    let none = c.in_err-label.ensures.1 in
    rw (p.1, p.2) (
      c.loop-label.invariant.test
          ∙ no_label labels ts c.args.labels.now c.loop-label.label-index c.loop-label-test.true
          none,
      c.in_err-label.ensures.0 ∙ sym
          (c.loop-label.invariant.fault
          ∙ no_label_fault labels ts c.args.labels.now c.loop-label.label-index
          c.loop-label-test.true none),
    )

pub returns-then-not-is_same : goal.returns-then-not-is_same
returns-then-not-is_same c =
    let labels = labels_of c.args.self.now in
    let ts = results_of c.args.takes in
    let us = results_of c.in_ok-label.field-0 in
    let other : are_same_types us ts ≡ false = sym c.is_same.ensures ∙ c.if-not-is_same.true in (
      c.loop-label.invariant.test
          ∙ this_label labels ts c.args.labels.now c.loop-label.label-index c.loop-label-test.true
          us c.in_ok-label.ensures
          ∙ ap (λ z. z && are_labels labels ts
          (drop (c.loop-label.label-index + 1) c.args.labels.now)) other,
      sym (c.loop-label.invariant.fault
          ∙ this_fault labels ts c.args.labels.now c.loop-label.label-index c.loop-label-test.true
          us false c.in_ok-label.ensures other),
    )

pub loop-label-preserved : goal.loop-label-preserved
loop-label-preserved c =
    let labels = labels_of c.args.self.now in
    let ts = results_of c.args.takes in
    let us = results_of c.in_ok-label.field-0 in
    let same : are_same_types us ts ≡ true = sym c.is_same.ensures ∙ c.if-not-is_same.false in
    record {
      test = c.loop-label.invariant.test
          ∙ this_label labels ts c.args.labels.now c.loop-label.label-index c.loop-label-test.true
          us c.in_ok-label.ensures
          ∙ ap (λ z. z && are_labels labels ts
          (drop (c.loop-label.label-index + 1) c.args.labels.now)) same;
      fault =
          c.loop-label.invariant.fault
          ∙ this_fault labels ts c.args.labels.now c.loop-label.label-index c.loop-label-test.true
          us true c.in_ok-label.ensures same;
    }

pub returns : goal.returns
returns c =
    c.loop-label.invariant.test
    ∙ at_drop_all (λ z. are_labels (labels_of c.args.self.now)
    (results_of c.args.takes) z) c.args.labels.now c.loop-label.label-index c.loop-label-test.false
