use Rattle.std.proofs.Common.{◌≡◌, ℕ, List, Option, Some, refl, sym, subst}
use Rattle.std.specs.Prelude.{Ok}
use Rattle.std.proofs.lemmas.Result.{err_from_is_err_and}
use Rattle.wasm_rules.specs.Configuration.{Configuration}
use Rattle.machine.specs.declared.execution.pause.HostCall.{HostCall}
use Rattle.machine.specs.rules.Runs.{TellsCall}
use Rattle.machine.specs.rules.Values.{MachineValue}
use Rattle.process_rules.specs.Processes.{Guest, AreCalls}
use Rattle.process.specs.declared.calling.Called.{Called}
use Rattle.wasi_calls.specs.rules.Calls.{AreArguments}
use Rattle.wasi_abi.specs.rules.Calls.{parameters_of}
use Rattle.process.specs.Parts.{IsAtCall}
use Rattle.process.specs.Callings.{PerformsCall}
use Rattle.process.proofs.Waiting.{at_call, are_typed, wants_once, nothing_wanted}
use Rattle.process.proofs.Giving.{not_performed, is_performed}
use Rattle.process.proofs.answering.answer_call.Goals as goal

-- the call that the machine tells of, with the arguments that are read off it
asked_at : (machine : MachineValue) (guest : Guest)
    → AreCalls machine.guest.imports guest.calls → (d : Configuration) (asked : HostCall)
    {told : Option HostCall} {ns : List ℕ} → TellsCall machine.guest guest.program d told
    → told ≡ Some asked → ns ≡ asked.arguments
    → IsAtCall guest d asked.call ns × AreArguments (parameters_of asked.call) ns
asked_at machine guest calls d asked tells is same =
    let T : Option HostCall → Type 0 = λ o. TellsCall machine.guest guest.program d o in
    let asks = subst T is tells in
    let P : List ℕ → Type 0 =
    λ ns. IsAtCall guest d asked.call ns × AreArguments (parameters_of asked.call) ns in
    subst P (sym same) (
      at_call machine guest calls d asked.call asked.arguments asks,
      are_typed machine guest calls d asked.call asked.arguments asks,
    )

pub returns-in_default-clause-answers : goal.returns-in_default-clause-answers
returns-in_default-clause-answers c = λ guest p shows running.
    let P : Option HostCall → Type 0 =
    λ o. TellsCall c.args.machine.now.guest guest.program p.configuration o in
    let none = subst P c.in_default.is
    (c.waits.ensures guest.program p.configuration shows.configuration) in
    (refl, refl, nothing_wanted guest p none c.args.answer.now)

pub wants-requires : goal.wants-requires
wants-requires c =
    let r = c.requires.runs in
    record {
      typed = (asked_at c.args.machine.now r.guest r.shows.calls r.process.configuration
          c.in-Some.asked
          (c.waits.ensures r.guest.program r.process.configuration r.shows.configuration)
          c.in-Some.is c.as_slice-arguments.ensures).1;
    }

pub returns-then-not-wants-clause-answers : goal.returns-then-not-wants-clause-answers
returns-then-not-wants-clause-answers c = λ guest p shows running.
    let at = (asked_at c.args.machine.now guest shows.calls p.configuration c.in-Some.asked
    (c.waits.ensures guest.program p.configuration shows.configuration) c.in-Some.is
    c.as_slice-arguments.ensures).0 in (
      refl,
      refl,
      λ wanted.
          let is = (c.wants.ensures guest p shows at).1 wanted in
          let not = c.if-not-wants.true in
          absurd (cc),
    )

pub perform-requires-clause-typed : goal.perform-requires-clause-typed
perform-requires-clause-typed c =
    let r = c.requires.runs in
    (asked_at c.args.machine.now r.guest r.shows.calls r.process.configuration c.in-Some.asked
    (c.waits.ensures r.guest.program r.process.configuration r.shows.configuration) c.in-Some.is
    c.as_slice-arguments.ensures).1

pub perform-requires-clause-waits : goal.perform-requires-clause-waits
perform-requires-clause-waits c = let r = c.requires.runs in record {
  guest = r.guest;
  process = r.process;
  shows = r.shows;
  running = r.running;
  at = (asked_at c.args.machine.now r.guest r.shows.calls r.process.configuration c.in-Some.asked
      (c.waits.ensures r.guest.program r.process.configuration r.shows.configuration) c.in-Some.is
      c.as_slice-arguments.ensures).0;
}

pub returns-in_err-ended-clause-answers : goal.returns-in_err-ended-clause-answers
returns-in_err-ended-clause-answers c = λ guest p shows running.
    let at = (asked_at c.args.machine.now guest shows.calls p.configuration c.in-Some.asked
    (c.waits.ensures guest.program p.configuration shows.configuration) c.in-Some.is
    c.as_slice-arguments.ensures).0 in
    let q = err_from_is_err_and c.from_residual.result c.from_residual.ensures.1 in
    rw (q.1, q.2)
    (not_performed c.args.machine.now c.perform.new.machine c.args.host.now c.perform.new.host
    c.in-Some.asked.call c.as_slice-arguments.result.now c.args.answer.now guest p shows running at
    c.in_err-ended.field-0.0 c.in_err-ended.ensures.calls)

pub unreachable-requires : goal.unreachable-requires
unreachable-requires c =
    let r = c.requires.runs in
    let at = (asked_at c.args.machine.now r.guest r.shows.calls r.process.configuration
    c.in-Some.asked
    (c.waits.ensures r.guest.program r.process.configuration r.shows.configuration) c.in-Some.is
    c.as_slice-arguments.ensures).0 in
    let wanted = (c.wants.ensures r.guest r.process r.shows at).0 c.if-not-wants.false in
    let M : Called → Type 0 =
    λ k. PerformsCall c.args.machine.now c.args.host.now c.in-Some.asked.call
    c.as_slice-arguments.result.now (Some c.args.answer.now) (Ok k) c.perform.new.machine
    c.perform.new.host in
    let made = subst M c.in-Asks.is c.in_ok-ended.ensures.calls r.guest r.process r.shows r.running
    at in
    wants_once r.guest r.process c.in-Some.asked.call c.as_slice-arguments.result.now at
    c.args.answer.now c.in-Asks.field-0 wanted made.2

pub returns-clause-answers : goal.returns-clause-answers
returns-clause-answers c = λ guest p shows running.
    let at = (asked_at c.args.machine.now guest shows.calls p.configuration c.in-Some.asked
    (c.waits.ensures guest.program p.configuration shows.configuration) c.in-Some.is
    c.as_slice-arguments.ensures).0 in
    let M : Called → Type 0 =
    λ k. PerformsCall c.args.machine.now c.args.host.now c.in-Some.asked.call
    c.as_slice-arguments.result.now (Some c.args.answer.now) (Ok k) c.perform.new.machine
    c.perform.new.host in
    is_performed c.args.machine.now c.perform.new.machine c.args.host.now c.perform.new.host
    c.in-Some.asked.call c.as_slice-arguments.result.now c.args.answer.now guest p shows running at
    c.in-Performed.synced c.in-Performed.ended (subst M c.in-Performed.is
    c.in_ok-ended.ensures.calls) ((c.wants.ensures guest p shows at).0 c.if-not-wants.false)
