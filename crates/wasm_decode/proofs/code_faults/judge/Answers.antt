use Rattle.std.proofs.Common.{inl, refl}
use Rattle.wasm_decode.proofs.CodeLemmas.{is_code, keeps_fault}
use Rattle.wasm_decode.proofs.code_faults.judge.Goals as goal

pub returns-in-Ok : goal.returns-in-Ok
returns-in-Ok c = inl (is_code c.args.entry c.in-Ok.code c.in-Ok.ensures, refl)

pub returns-in_ok-push-in-Err-Refused : goal.returns-in_ok-push-in-Err-Refused
returns-in_ok-push-in-Err-Refused c =
    (let none = rw c.in-Err-Refused.field-0-is at c.in-Err-Refused.ensures in
    keeps_fault c.args.number c.args.entry c.args.faults.now _ (record {
      number = c.args.number;
      why = c.from-why.result;
    }) c.in-Err-Refused.refusal tt none c.in_ok-push-in-Err-Refused.ensures.pushed refl
    c.from-why.ensures)
