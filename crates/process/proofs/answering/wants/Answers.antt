use Rattle.std.proofs.Common.{◌≡◌, None, Some, sym, ap, ◌∙◌}
use Rattle.guest_memory.specs.rules.Memories.{LinearMemory}
use Rattle.wasi_abi.specs.rules.Versions.{text_limit}
use Rattle.wasi_calls_rules.specs.WasiStates.{WasiState}
use Rattle.wasi_calls_rules.specs.CallRules.{call_rule}
use Rattle.wasi_calls.specs.rules.Held.{ShowsWasiState}
use Rattle.wasi_calls.specs.rules.Calls.{question_of}
use Rattle.process.proofs.Waiting.{wants_that, wants_no_answer}
use Rattle.process.proofs.answering.wants.Goals as goal

pub returns-in-Some : goal.returns-in-Some
returns-in-Some c = λ guest p shows at.
    let told : (h : WasiState) → ShowsWasiState c.args.host.now h → Some c.in-Some.question
    ≡ question_of (call_rule c.args.call c.args.arguments.now None
    c.args.machine.now.state.memory h) = λ h s. sym c.in-Some.is ∙ c.wanted_answer.ensures h s
    ∙ ap (λ (m : LinearMemory). question_of (call_rule c.args.call c.args.arguments.now
    None m.bytes h)) c.memory.ensures in
    wants_that guest p c.args.call c.args.arguments.now at c.args.machine.now c.args.host.now shows
    c.in-Some.question told c.args.answer.now c.text_limit.result
    (c.text_limit.ensures ∙ ap text_limit c.version.ensures) c.fits.result
    c.fits.ensures

pub returns-in-None : goal.returns-in-None
returns-in-None c = λ guest p shows at.
    let told : (h : WasiState) → ShowsWasiState c.args.host.now h → None
    ≡ question_of (call_rule c.args.call c.args.arguments.now None
    c.args.machine.now.state.memory h) = λ h s. sym c.in-None.is ∙ c.wanted_answer.ensures h s
    ∙ ap (λ (m : LinearMemory). question_of (call_rule c.args.call c.args.arguments.now
    None m.bytes h)) c.memory.ensures in (
      λ never. absurd (cc),
      λ wanted. absurd (wants_no_answer guest p c.args.call c.args.arguments.now at
          c.args.machine.now c.args.host.now shows told c.args.answer.now wanted),
    )
