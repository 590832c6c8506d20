use Rattle.std.proofs.Common.{sym, subst, Option}
use Rattle.std.specs.Prelude.{IsSome}
use Rattle.wasi_abi.specs.declared.call.Call.{Call}
use Rattle.wasm_rules.specs.Linking.{IsOffered}
use Rattle.wasm_validate.proofs.PartLemmas.Loops.{of_all}
use Rattle.machine.specs.rules.Offers.{offer}
use Rattle.machine.proofs.InstanceLemmas.Offered.{has_call}
use Rattle.machine.proofs.instance.calls.imported_calls.Goals as goal

pub unwrap-requires : goal.unwrap-requires
unwrap-requires c =
    let i = c.import-item.result in
    let types = c.requires.0 in
    let P : Option Call → Type 0 = IsSome in
    subst P (sym c.call_of.ensures)
    (has_call types i
    (of_all (IsOffered offer types) c.args.imports.now c.loop-import.import-index i
    c.loop-import-test.true c.import-item.is c.requires.1))
