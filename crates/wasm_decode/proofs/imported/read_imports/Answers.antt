use Rattle.std.proofs.Common.{ℕ, List, Option, refl, ap, ◌∙◌, rules}
use Rattle.std.proofs.lemmas.Result.{err_from_is_err_and}
use Rattle.wasm_syntax.specs.declared.module.Import.{Import}
use Rattle.wasm_syntax.specs.laws.ReadingItems.{◌>>=◌, items_at}
use Rattle.wasm_syntax.specs.laws.ReadingWithin.{import_within_at}
use Rattle.wasm_syntax.proofs.Grammar.Loops.{items_go_on, items_are_done}
use Rattle.wasm_decode.specs.Items.Entries.{import_up_to_at}
use Rattle.wasm_decode.proofs.ItemLemmas.Fails.{fails_as}
use Rattle.wasm_decode.specs.Contents.{imports_at}
use Rattle.wasm_decode.proofs.Imports.{few, few_are, one_more, still_few, import_alone}
use Rattle.wasm_decode.proofs.Imports.{imports_fail, imports_behind_count, imports_without_count}
use Rattle.wasm_decode.proofs.imported.read_imports.Goals as goal

pub returns-in_err-count : goal.returns-in_err-count
returns-in_err-count c = (let none = imports_without_count c.args.decoder.now c.in_err-count.ensures
    in rw none (search rules))

pub returns-in_err-item : goal.returns-in_err-item
returns-in_err-item c =
    let p = err_from_is_err_and c.from_residual-in_err-item.result
    c.from_residual-in_err-item.ensures.1 in
    let count = c.in_ok-count.count in
    let total = items_at import_within_at count c.u32.new.self in
    let is = imports_behind_count c.args.decoder.now count c.u32.new.self c.in_ok-count.ensures in
    rw (p.1, p.2) (fails_as c.in_err-item.field-0.0
    (import_up_to_at c.loop.functions c.loop.decoder) (imports_at c.args.decoder.now) (λ h. is
    ∙ imports_fail c.loop.items count c.loop.counter c.loop.functions c.loop.decoder total
    c.loop-test.true c.loop.invariant.counted h c.loop.invariant.all) c.in_err-item.ensures)

pub loop-preserved : goal.loop-preserved
loop-preserved c =
    let item = c.in_ok-item.item in
    let one = import_alone c.loop.functions c.loop.decoder item c.import.new.decoder
    c.in_ok-item.ensures in
    record {
      all = rw c.in_ok-push.ensures.pushed
          (items_go_on import_within_at c.loop.items c.in_ok-count.count c.loop.counter
          c.loop.decoder (items_at import_within_at c.in_ok-count.count c.u32.new.self) item
          c.import.new.decoder c.loop-test.true one.0 c.loop.invariant.all);
      counted = rw (
        c.in_ok-push.ensures.pushed,
        one_more c.loop.items item,
        c.with_import-functions.ensures,
        c.loop.invariant.counted,
      ) refl;
      few = rw c.with_import-functions.ensures
          (still_few c.loop.functions item.item c.loop.invariant.few one.1);
    }

pub returns : goal.returns
returns c =
    let count = c.in_ok-count.count in
    let total = items_at import_within_at count c.u32.new.self in
    imports_behind_count c.args.decoder.now count c.u32.new.self c.in_ok-count.ensures
    ∙ ap (λ (t : Option (List Import × List ℕ)). t
    >>= few) (items_are_done import_within_at c.loop.items count c.loop.counter c.loop.decoder
    total c.loop-test.false c.loop.invariant.all)
    ∙ few_are c.loop.items c.loop.decoder c.loop.functions c.loop.invariant.counted
    c.loop.invariant.few
