use Rattle.std.proofs.Common.{◌≡◌, ◌+◌, ℕ, drop, not, List, Bor, sym, ◌∙◌, subst}
use Rattle.std.specs.BTreeSet.{insert_key}
use Rattle.wasm_syntax.specs.declared.module.Export.{Export}
use Rattle.wasm_rules.specs.Validity.{IsExportItemValid}
use Rattle.wasm_validate.proofs.PartLemmas.Loops.{passes, next}
use Rattle.wasm_validate.proofs.PartLemmas.Names.{AreNewNames, IsNewName, has_name, name_cmp}
use Rattle.wasm_validate.proofs.PartLemmas.Names.{not_false, not_true, new_from_absent}
use Rattle.wasm_validate.proofs.PartLemmas.Names.{present_from_found, one_more_name}
use Rattle.wasm_validate.proofs.parts.exports.check_exports.Goals as goal

pub returns-then-not-is_new : goal.returns-then-not-is_new
returns-then-not-is_new c = λ m functions s distinct.
    let e = c.export-item.result in
    let keys = c.loop-export.names.keys in
    let remaining =
    next c.args.exports.now c.loop-export.export-index e c.loop-export-test.true
    c.export-item.is in
    let P : List Export → Type 0 = AreNewNames keys in
    let N : List ℕ → Type 0 = IsNewName keys in
    let new = (subst P remaining (c.loop-export.invariant.names.0 distinct)).0.0 in
    let added : c.in_ok-is_new.is_new ≡ not (has_name keys c.as_slice.result) =
    c.in_ok-is_new.ensures.added in
    present_from_found keys c.as_slice.result (not_false _ (sym added
    ∙ c.if-not-is_new.true)) (subst N (sym c.as_slice.ensures) new)

pub loop-export-preserved : goal.loop-export-preserved
loop-export-preserved c =
    let e = c.export-item.result in
    let keys = c.loop-export.names.keys in
    let i = c.loop-export.export-index in
    let exports_left = drop (i + 1) c.args.exports.now in
    let remaining = next c.args.exports.now i e c.loop-export-test.true c.export-item.is in
    let P : List Export → Type 0 = AreNewNames keys in
    let K : List (Bor (List ℕ)) → Type 0 = λ ks. AreNewNames ks exports_left in
    let added : c.in_ok-is_new.is_new ≡ not (has_name keys c.as_slice.result) =
    c.in_ok-is_new.ensures.added in
    let put : c.insert.new.self.keys ≡ insert_key name_cmp keys c.as_slice.result =
    c.in_ok-is_new.ensures.keys in
    let new = new_from_absent keys c.as_slice.result (not_true _ (sym added
    ∙ c.if-not-is_new.false)) in
    let one = one_more_name keys c.as_slice.result e exports_left c.as_slice.ensures new in
    let names = c.loop-export.invariant.names in
    record {
      items = λ m functions s.
          passes (λ (e : Export). IsExportItemValid m functions e.item) c.args.exports.now i e
          c.loop-export-test.true c.export-item.is
          ((c.exists.ensures m functions s).0 c.if-not-exists.false)
          (c.loop-export.invariant.items m functions s);
      names = (
        λ h. subst K (sym put) (one.0 (subst P remaining (names.0 h))),
        λ h. names.1 (subst P (sym remaining) (one.1 (subst K put h))),
      );
    }
