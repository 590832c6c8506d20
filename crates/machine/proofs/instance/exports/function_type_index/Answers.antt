use Rattle.std.proofs.Common.{◌≤◌, ◌∙◌, ap, sym, length}
use Rattle.std.specs.Option.{option_map}
use Rattle.wasm_syntax.specs.rules.Modules.{function_type_of}
use Rattle.machine.proofs.InstanceLemmas.FunctionTypes.{own_type}
use Rattle.machine.proofs.instance.exports.function_type_index.Goals as goal

pub returns-in_err-own : goal.returns-in_err-own
returns-in_err-own c =
    let m = c.args.module.now in
    let past : length m.imports ≤ c.loop-import.import-index =
    rw c.as_slice-import-items.ensures at c.loop-import-test.false in
    rw c.from_residual.ensures (ap (option_map function_type_of) c.in_err-own.ensures
    ∙ sym (own_type m.imports m.functions c.loop-import.import-index c.loop-import.index_left
    c.args.function past c.loop-import.invariant))

pub returns : goal.returns
returns c =
    let m = c.args.module.now in
    let past : length m.imports ≤ c.loop-import.import-index =
    rw c.as_slice-import-items.ensures at c.loop-import-test.false in
    ap (option_map function_type_of) c.in_ok-own.ensures
    ∙ sym (own_type m.imports m.functions c.loop-import.import-index c.loop-import.index_left
    c.args.function past c.loop-import.invariant)
