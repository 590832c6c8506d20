use Rattle.std.proofs.Common.{◌∙◌, ap, sym}
use Rattle.std.specs.Prelude.{slice_get}
use Rattle.std.specs.Option.{option_and_then}
use Rattle.wasm_validate.proofs.PartLemmas.Lookups.{slice_get-types}
use Rattle.machine.proofs.InstanceLemmas.FunctionTypes.{all_types}
use Rattle.machine.proofs.instance.exports.function_type.Goals as goal

pub returns-in_err-index : goal.returns-in_err-index
returns-in_err-index c = λ functions are.
    let m = c.args.module.now in
    rw c.from_residual.ensures (ap (option_and_then (slice_get m.types)) c.in_err-index.ensures
    ∙ sym (slice_get-types m.types (all_types m.imports m.functions) functions c.args.function
    are))

pub returns : goal.returns
returns c = λ functions are.
    let m = c.args.module.now in
    c.get.ensures ∙ (ap (option_and_then (slice_get m.types)) c.in_ok-index.ensures
    ∙ sym (slice_get-types m.types (all_types m.imports m.functions) functions c.args.function
    are))
