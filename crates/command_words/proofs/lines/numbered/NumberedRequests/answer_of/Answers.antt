use Rattle.std.proofs.Common.{rules}
use Rattle.command_words.proofs.LineLemmas.Fitting.{told_fits}
use Rattle.command_words.proofs.lines.numbered.NumberedRequests.answer_of.Goals as goal

pub returns-clause-fits : goal.returns-clause-fits
returns-clause-fits g c = λ limit short free.
    told_fits limit c.args.request c.text_answer.result (search rules) (search rules) short free
