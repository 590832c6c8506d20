use Rattle.std.proofs.Common.{ap, sym, ◌∙◌}
use Rattle.std.proofs.lemmas.Result.{IfOk-weaker}
use Rattle.serde_json.specs.Data.{string}
use Rattle.disk_commands.proofs.JsonLemmas.{other_text, utf8_text}
use Rattle.disk_commands.proofs.inspecting.fact_json.text_value.Goals as goal

pub returns-in-Ok : goal.returns-in-Ok
returns-in-Ok c =
    let read = c.in-Ok.ensures.cases in
    IfOk-weaker c.try_from_str.result _ _ (λ value seen.
    seen ∙ ap string read.0 ∙ sym (utf8_text c.args.text.now read.1)) c.try_from_str.ensures

pub returns-in-Err : goal.returns-in-Err
returns-in-Err c =
    let refused = c.in-Err.ensures.cases in
    IfOk-weaker c.bytes_value.result _ _ (λ value seen.
    seen ∙ sym (other_text c.args.text.now refused.0)) c.bytes_value.ensures
