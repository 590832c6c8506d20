use Rattle.std.proofs.Common.{sym}
use Rattle.std.specs.Prelude.{codes}
use Rattle.machine.specs.rules.Acceptance.{passed_in}
use Rattle.command_words.specs.rules.ModuleLimits.{SaysLimit}
use Rattle.command_words.specs.declared.status.Status.TheVariants as exit
use Rattle.command_words.proofs.VerdictLemmas.{of_limit, says_plainly}
use Rattle.command_words.proofs.preparing.say_refusal.Goals as goal

pub returns-in-Some-clause-limit : goal.returns-in-Some-clause-limit
returns-in-Some-clause-limit g c = λ passed is.
    of_limit (λ p. SaysLimit c.args.wasm.now (codes "failed") p exit.Refused c.args.err.now
    c.say_limit.result c.say_limit.new.err) c.in-Some.passed passed (passed_in c.args.why)
    c.in-Some.ensures is c.say_limit.ensures

pub returns-in-Some-clause-more : goal.returns-in-Some-clause-more
returns-in-Some-clause-more g c =
    says_plainly c.args.wasm.now c.args.why c.in-Some.passed c.say_limit.new.err
    (sym c.in-Some.ensures)
