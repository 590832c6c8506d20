use Rattle.std.proofs.Common.{sym}
use Rattle.std.specs.Prelude.{OnOk, codes}
use Rattle.machine.specs.rules.Acceptance.{passed_in}
use Rattle.command_words.specs.rules.ModuleLimits.{TellsLimit}
use Rattle.command_words.proofs.VerdictLemmas.{ends_plainly, ends_with, of_limit}
use Rattle.command_words.proofs.check.print_refusal.Goals as goal

pub returns-in-Some-clause-limit : goal.returns-in-Some-clause-limit
returns-in-Some-clause-limit g c = λ passed is.
    of_limit (λ p. OnOk c.print_limit.result (TellsLimit c.args.wasm.now (codes "refused") p
    c.args.out.now c.print_limit.new.out)) c.in-Some.passed passed (passed_in c.args.fault)
    c.in-Some.ensures is c.print_limit.ensures.told

pub returns-in-Some-clause-more : goal.returns-in-Some-clause-more
returns-in-Some-clause-more g c =
    ends_plainly c.args.wasm.now c.print_limit.result c.args.fault c.in-Some.passed
    c.print_limit.new.out (sym c.in-Some.ensures)

pub returns-clause-more : goal.returns-clause-more
returns-clause-more g c =
    ends_with c.args.wasm.now c.print_more.result c.args.fault c.print_fault.new.out
    c.print_more.new.out c.print_more.ensures.more
