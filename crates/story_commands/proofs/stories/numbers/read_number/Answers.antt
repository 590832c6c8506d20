use Rattle.std.proofs.Common.{sym, ◌∙◌, subst}
use Rattle.std.proofs.lemmas.Str.{IsUtf8-from_ascii}
use Rattle.std.specs.Str.Parse.{ParsesUnsigned}
use Rattle.story_commands.proofs.ScriptLemmas.Numbers.{number_read, same_digits, ascii_digits}
use Rattle.story_commands.proofs.stories.numbers.read_number.Goals as goal

pub returns-in-Ok : goal.returns-in-Ok
returns-in-Ok c =
    let digits = sym (same_digits c.args.digits.now) ∙ sym c.all_digits.ensures
    ∙ c.if-not-all_digits.false in
    let parsed = subst (λ t. ParsesUnsigned 64 10 t c.parse.result) c.in-Ok.ensures.cases.0
    c.parse.ensures.value.0 in
    c.ok.ensures.value ∙ number_read c.args.digits.now c.parse.result parsed digits

pub returns-in-Err : goal.returns-in-Err
returns-in-Err c =
    let digits = sym (same_digits c.args.digits.now) ∙ sym c.all_digits.ensures
    ∙ c.if-not-all_digits.false in
    absurd (c.in-Err.ensures.cases.0 (IsUtf8-from_ascii c.args.digits.now
    (ascii_digits c.args.digits.now digits)))
