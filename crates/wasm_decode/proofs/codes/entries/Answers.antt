use Rattle.std.proofs.Common.{◌+◌, [], drop, get_or}
use Rattle.std.proofs.lemmas.Result.{err_from_is_err_and}
use Rattle.wasm_syntax.specs.laws.ReadingItems.{sized_at}
use Rattle.wasm_syntax.specs.laws.ReadingWithin.{code_within_at}
use Rattle.wasm_decode.proofs.ItemLemmas.Fails.{fails_as}
use Rattle.wasm_decode.specs.Contents.{functions_onto_at}
use Rattle.wasm_decode.proofs.Functions.{functions_go_on, functions_fail, functions_are_done}
use Rattle.wasm_decode.proofs.Functions.{first_left, none_left}
use Rattle.wasm_decode.proofs.codes.entries.Goals as goal

pub returns-in_err-code : goal.returns-in_err-code
returns-in_err-code c =
    let p = err_from_is_err_and c.from_residual.result c.from_residual.ensures.1 in
    let types = c.args.types.now in
    let i = c.loop-function_type.function_type-index in
    let total = functions_onto_at types [] c.args.decoder.now in
    let so_far =
    rw (first_left types i c.loop-function_type-test.true) at c.loop-function_type.invariant in
    rw (p.1, p.2) (fails_as c.in_err-code.field-0.0
    (sized_at code_within_at c.loop-function_type.decoder) total (λ h.
    functions_fail (get_or types i 0) (drop (i + 1) types) c.loop-function_type.functions
    c.loop-function_type.decoder total h so_far) c.in_err-code.ensures)

pub loop-function_type-preserved : goal.loop-function_type-preserved
loop-function_type-preserved c =
    let types = c.args.types.now in
    let i = c.loop-function_type.function_type-index in
    let so_far =
    rw (first_left types i c.loop-function_type-test.true) at c.loop-function_type.invariant in
    rw c.in_ok-push.ensures.pushed (functions_go_on (get_or types i 0)
    (drop (i + 1) types) c.loop-function_type.functions c.loop-function_type.decoder
    c.in_ok-code.code c.code.new.decoder (functions_onto_at types [] c.args.decoder.now)
    c.in_ok-code.ensures so_far)

pub returns : goal.returns
returns c =
    let so_far =
    rw (none_left c.args.types.now c.loop-function_type.function_type-index
    c.loop-function_type-test.false) at c.loop-function_type.invariant in
    functions_are_done c.loop-function_type.functions c.loop-function_type.decoder
    (functions_onto_at c.args.types.now [] c.args.decoder.now) so_far
