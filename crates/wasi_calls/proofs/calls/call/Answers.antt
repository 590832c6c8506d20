use Rattle.std.specs.Prelude.{option_copied}
use Rattle.wasi_calls_rules.specs.CallRules.{call_rule}
use Rattle.wasi_calls_rules.proofs.Halting.{exit_alone_ends}
use Rattle.wasi_calls.specs.rules.Calls.{ending_of_call}
use Rattle.wasi_calls.proofs.LinesInFront.{shown_of}
use Rattle.wasi_calls.proofs.CallRulesInFront.{call_rule_behind}
use Rattle.wasi_calls.proofs.calls.call.Goals as goal

pub returns-clause-shown : goal.returns-clause-shown
returns-clause-shown c =
    let given = option_copied c.args.answer in
    let m = c.args.memory.now.bytes in
    let numbers = c.args.arguments.now in
    λ h s.
    shown_of (call_rule c.args.call numbers given m)
    (λ before g. call_rule_behind before c.args.call numbers given m g) c.perform.new.memory.bytes m
    c.perform.new.host c.args.host.now c.perform.ensures.released h s
    (ending_of_call c.perform.result) c.perform.ensures.told

pub returns-clause-wants : goal.returns-clause-wants
returns-clause-wants c =
    λ is given m h code ends.
    c.perform.ensures.wants is (exit_alone_ends c.args.call c.args.arguments.now given
    m h code ends)
