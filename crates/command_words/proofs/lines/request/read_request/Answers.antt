use Rattle.std.specs.Fmt.{decimal}
use Rattle.std.proofs.lemmas.Option.{none-some}
use Rattle.command_words.proofs.LineLemmas.Requests.{has_parts, is_read}
use Rattle.command_words.proofs.lines.request.read_request.Goals as goal

pub returns-in_err-digits-clause-found : goal.returns-in_err-digits-clause-found
returns-in_err-digits-clause-found c = λ line.
    let p = has_parts c.args.limit _ line in
    absurd (c.in_err-digits.ensures.found (decimal p.number) p.back p.whole p.no_space)

pub returns-in_err-number-clause-found : goal.returns-in_err-number-clause-found
returns-in_err-number-clause-found c = λ line.
    let p = has_parts c.args.limit _ line in
    let found = c.in_ok-digits.ensures.found (decimal p.number) p.back p.whole p.no_space in
    absurd (none-some _ (c.in_err-number.ensures.found p.number p.positive p.small found.0))

pub returns-clause-found : goal.returns-clause-found
returns-clause-found c = λ line.
    let p = has_parts c.args.limit _ line in
    let found = c.in_ok-digits.ensures.found (decimal p.number) p.back p.whole p.no_space in
    is_read p.said found.1 c.read_said.ensures.text c.read_said.ensures.end
