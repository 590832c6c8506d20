use Rattle.std.proofs.lemmas.Result.{err_from_is_err_and}
use Rattle.wasm_rules.specs.Types.{results_of}
use Rattle.wasm_validate.specs.laws.Checking.{labels_of}
use Rattle.wasm_validate.proofs.BodyLemmas.Tables.{label_fails, number_fails, operands_fail}
use Rattle.wasm_validate.proofs.body.levels.Levels.branch_table.Goals as goal

pub returns-in_err-expect_labels : goal.returns-in_err-expect_labels
returns-in_err-expect_labels c = λ c'.
    let p = err_from_is_err_and c.from_residual-in_err-expect_labels.result
    c.from_residual-in_err-expect_labels.ensures.1 in
    let tests = rw c.as_slice.ensures at c.in_err-expect_labels.ensures in
    rw (p.1, p.2)
    (label_fails c' (labels_of c.args.self.now) c.args.labels.now c.args.default
    (results_of c.in_ok-takes.takes) c.args.self.now c.in_ok-takes.ensures
    c.in_err-expect_labels.field-0.0 tests.0 tests.1)

pub returns-in_err-expect : goal.returns-in_err-expect
returns-in_err-expect c = λ c'.
    let p = err_from_is_err_and c.from_residual-in_err-expect.result
    c.from_residual-in_err-expect.ensures.1 in
    let tests = rw c.as_slice.ensures at c.in_ok-expect_labels.ensures in
    rw (p.1, p.2)
    (number_fails c' (labels_of c.args.self.now) c.args.labels.now c.args.default
    (results_of c.in_ok-takes.takes) c.args.self.now c.in_ok-takes.ensures c.in_err-expect.field-0.0
    tests c.in_err-expect.ensures)

pub returns-in_err-expect_results : goal.returns-in_err-expect_results
returns-in_err-expect_results c = λ c'.
    let p = err_from_is_err_and c.from_residual-in_err-expect_results.result
    c.from_residual-in_err-expect_results.ensures.1 in
    let tests = rw c.as_slice.ensures at c.in_ok-expect_labels.ensures in
    rw (p.1, p.2)
    (operands_fail c' (labels_of c.args.self.now) c.args.labels.now c.args.default
    (results_of c.in_ok-takes.takes) c.args.self.now c.in_ok-takes.ensures
    c.in_err-expect_results.field-0.0 c.expect.new.self tests c.in_ok-expect.ensures
    c.in_err-expect_results.ensures)
