use Rattle.std.proofs.Common.{◌∙◌, sym}
use Rattle.command_words.proofs.Told.{refused_by}
use Rattle.command_words.proofs.VerdictLemmas.{shown_accepted, told_why}
use Rattle.command_words.proofs.check.check_bytes.Goals as goal

pub returns-in-Ok-clause-printed : goal.returns-in-Ok-clause-printed
returns-in-Ok-clause-printed g c = λ e.
    shown_accepted c.args.wasm.now c.args.pages c.args.out.now c.print_verdict.new.out
    c.verdict_on-verdict.result c.verdict_on-verdict.ensures.right c.in-Ok.ensures.accepted
    (sym c.status_of.ensures ∙ e)

pub returns-in-Ok-clause-refused : goal.returns-in-Ok-clause-refused
returns-in-Ok-clause-refused g c = λ e.
    refused_by c.args.pages c.args.wasm.now c.verdict_on-verdict.result
    c.verdict_on-verdict.ensures.right
    (sym c.status_of.ensures ∙ e)

pub returns-in-Ok-clause-more : goal.returns-in-Ok-clause-more
returns-in-Ok-clause-more g c = λ e.
    told_why c.args.wasm.now c.args.lists_all c.args.pages c.print_verdict.new.out
    c.verdict_on-verdict.result c.verdict_on-verdict.ensures.reported c.in-Ok.ensures.more
    (sym c.status_of.ensures ∙ e)
