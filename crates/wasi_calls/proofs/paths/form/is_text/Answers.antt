use Rattle.std.proofs.Common.{◌≡◌}
use Rattle.std.specs.Str.{IsValidUpTo, valid_up_to}
use Rattle.wasi_calls.proofs.GivenPaths.{text_tested}
use Rattle.wasi_calls.proofs.paths.form.is_text.Goals as goal

pub returns : goal.returns
returns c =
    text_tested c.from_utf8.result (λ s. s.now ≡ c.args.bytes.now)
    (λ e. IsValidUpTo c.args.bytes.now (valid_up_to e)) c.args.bytes.now c.is_ok.result
    c.from_utf8.ensures.cases c.is_ok.ensures.value
