use Rattle.std.proofs.Common.{sym, ◌∙◌, length}
use Rattle.std.proofs.lemmas.Bool.{both_ways, eqb-true}
use Rattle.wasi_calls.proofs.host.restoring.is_table.Goals as goal
use Rattle.wasi_calls.proofs.host.restoring.is_table.Goals.{then-descriptors-eq-DESCRIPTORS}
use Rattle.wasi_calls.proofs.host.restoring.is_table.Goals.{else-descriptors-eq-DESCRIPTORS}
use Rattle.wasi_calls.proofs.host.restoring.is_table.Goals.{then-may_all_be_open}
use Rattle.wasi_calls.proofs.host.restoring.is_table.Goals.{else-may_all_be_open}

pub returns-then-has_root : goal.returns-then-has_root
returns-then-has_root c =
    elim c.if-may_all_be_open.branch [
      | then-may_all_be_open v ↦ elim c.if-descriptors-eq-DESCRIPTORS.branch [
        | then-descriptors-eq-DESCRIPTORS w ↦ (
          λ named. record {
            places = w.if-descriptors-eq-DESCRIPTORS.true;
            open_ones = w.may_all_be_open.ensures.0 (sym w.value-is ∙ v.if-may_all_be_open.true);
            root = v.has_root.ensures.0 (sym v.value-is ∙ c.if-has_root.true);
            removed = c.are_removed_named.ensures.0 named;
          },
          λ is. c.are_removed_named.ensures.1 is.removed,
        )
        | else-descriptors-eq-DESCRIPTORS w ↦ absurd
            (w.if-descriptors-eq-DESCRIPTORS.false
            (eqb-true (length c.args.descriptors.now) 64
            (sym w.value-is ∙ v.if-may_all_be_open.true)))
      ]
      | else-may_all_be_open v ↦ absurd (both_ways _ (v.value-is ∙ v.if-may_all_be_open.false)
          c.if-has_root.true)
    ]
