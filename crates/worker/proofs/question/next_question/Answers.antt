use Rattle.std.proofs.Common.{List, Option, ℕ, None, sym, subst, ap, ◌∙◌}
use Rattle.guest_memory.specs.rules.Memories.{LinearMemory}
use Rattle.wasi_abi.specs.rules.Calls.{parameters_of}
use Rattle.wasi_calls_rules.specs.CallRules.{call_rule}
use Rattle.wasi_calls.specs.rules.Calls.{AreArguments, question_of}
use Rattle.machine.specs.declared.execution.pause.HostCall.{HostCall}
use Rattle.machine.specs.rules.Runs.{TellsCall}
use Rattle.process.specs.Parts.{IsAtCall}
use Rattle.process.proofs.Waiting.{at_call, are_typed, nothing_wanted}
use Rattle.worker.proofs.QuestionLemmas.{call_asks}
use Rattle.worker.proofs.question.next_question.Goals as goal

pub returns-in_default : goal.returns-in_default
returns-in_default c = λ guest p shows running ended.
    let P : Option HostCall → Type 0 =
    λ o. TellsCall c.args.machine.now.guest guest.program p.configuration o in
    nothing_wanted guest p (subst P c.in_default.is
    (c.waits.ensures guest.program p.configuration shows.configuration))

pub wanted_answer-requires : goal.wanted_answer-requires
wanted_answer-requires c =
    let r = c.requires.runs in
    let T : Option HostCall → Type 0 =
    λ o. TellsCall c.args.machine.now.guest r.guest.program r.process.configuration o in
    let asks = subst T c.in-Some.is
    (c.waits.ensures r.guest.program r.process.configuration r.shows.configuration) in
    let P : List ℕ → Type 0 = λ ns. AreArguments (parameters_of c.in-Some.asked.call) ns in
    record {
      typed = subst P (sym c.as_slice.ensures)
          (are_typed c.args.machine.now r.guest r.shows.calls r.process.configuration
          c.in-Some.asked.call c.in-Some.asked.arguments asks);
    }

pub returns : goal.returns
returns c = λ guest p shows running.
    let T : Option HostCall → Type 0 =
    λ o. TellsCall c.args.machine.now.guest guest.program p.configuration o in
    let asks = subst T c.in-Some.is
    (c.waits.ensures guest.program p.configuration shows.configuration) in
    let P : List ℕ → Type 0 =
    λ ns. IsAtCall guest p.configuration c.in-Some.asked.call ns in
    let at = subst P (sym c.as_slice.ensures)
    (at_call c.args.machine.now guest shows.calls p.configuration c.in-Some.asked.call
    c.in-Some.asked.arguments asks) in
    call_asks c.args.machine.now c.args.host.now guest p c.in-Some.asked.call
    c.as_slice.result.now at shows running c.wanted_answer.result
    (λ h shown. c.wanted_answer.ensures h shown
    ∙ ap (λ (m : LinearMemory).
    question_of (call_rule c.in-Some.asked.call c.as_slice.result.now None m.bytes h))
    c.memory.ensures)
