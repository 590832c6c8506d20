use Rattle.std.proofs.Common.{◌∷◌, ◌++◌}
use Rattle.std.specs.Fmt.{decimal}
use Rattle.std.proofs.lemmas.Option.{none-some}
use Rattle.command_words.proofs.LineLemmas.Requests.{digits_alone}
use Rattle.disk_commands.proofs.StatusLineLemmas.{number_spelled}
use Rattle.disk_commands.proofs.on_disk.status_line.behind_number.Goals as goal

pub returns-in_err-digits-clause-found : goal.returns-in_err-digits-clause-found
returns-in_err-digits-clause-found c = λ n back is.
    let rest = c.in_ok-behind.ensures.found (decimal n ++ 32 ∷ back) is.1 in
    absurd (c.in_err-digits.ensures.found (decimal n) back rest (digits_alone n is.0))

pub returns-in_err-read_decimal-clause-found : goal.returns-in_err-read_decimal-clause-found
returns-in_err-read_decimal-clause-found c = λ n back is.
    let rest = c.in_ok-behind.ensures.found (decimal n ++ 32 ∷ back) is.1 in
    let parts = c.in_ok-digits.ensures.found (decimal n) back rest (digits_alone n is.0) in
    absurd (none-some _ (c.in_err-read_decimal.ensures.found n is.0 parts.0))

pub returns-clause-spelled : goal.returns-clause-spelled
returns-clause-spelled c = (
  _,
  number_spelled c.args.bytes.now c.args.name.now _ _ _ _ c.in_ok-behind.ensures.spelled
      c.in_ok-digits.ensures.parts c.in_ok-read_decimal.ensures.spelled
      c.in_ok-read_decimal.ensures.bound,
)

pub returns-clause-found : goal.returns-clause-found
returns-clause-found c = λ n back is.
    let rest = c.in_ok-behind.ensures.found (decimal n ++ 32 ∷ back) is.1 in
    let parts = c.in_ok-digits.ensures.found (decimal n) back rest (digits_alone n is.0) in
    parts.1
