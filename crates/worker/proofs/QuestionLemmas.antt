-- What the next step of a process wants.
use Rattle.std.proofs.Common.{◌≡◌, ℕ, List, Option, Some, None, ap, subst}
use Rattle.std.specs.Prelude.{Ok, Err}
use Rattle.wasi_abi.specs.declared.answer.Question.{Question}
use Rattle.wasi_abi.specs.declared.call.Call.{Call}
use Rattle.wasi_calls_rules.specs.WasiStates.{WasiState}
use Rattle.wasi_calls_rules.specs.Checks.{Bytes, Ruling, Refuses, Ends, Asks as Inquires}
use Rattle.wasi_calls_rules.specs.CallRules.{call_rule}
use Rattle.wasi_calls.specs.rules.Held.{HeldWasiState, ShowsWasiState}
use Rattle.wasi_calls.specs.rules.Calls.{question_of}
use Rattle.machine.specs.rules.Values.{MachineValue}
use Rattle.process_rules.specs.Processes.{ProcessState, Guest}
use Rattle.process.specs.Parts.{ShowsParts, IsAtCall}
use Rattle.process.proofs.Performing.{next_is}
use Rattle.process.proofs.Waiting.{wants_no_answer}
use Rattle.worker.specs.rules.Questions.{HasQuestion}

-- a call's rule that asks for an answer
asking : (question : Question) (r : Ruling) → Some question ≡ question_of r → r
    ≡ Err (Inquires question)
asking question (Err (Inquires other)) e =
    let same : other ≡ question = cc in ap (λ (k : Question). Err (Inquires k)) same
asking question (Err (Refuses why)) e = absurd cc
asking question (Err (Ends code)) e = absurd cc
asking question (Ok done) e = absurd cc

module _ (m : MachineValue) (held : HeldWasiState) (guest : Guest) (p : ProcessState) (c : Call)
    (arguments : List ℕ) (at : IsAtCall guest p.configuration c arguments)
    (shows : ShowsParts m held guest p) (running : p.ended ≡ None) where
  -- the call that waits wants what its call's rule asks for
  pub call_asks : (question : Option Question)
      → ((h : WasiState) → ShowsWasiState held h → question
      ≡ question_of (call_rule c arguments None m.state.memory h))
      → HasQuestion guest p question
  call_asks None told = λ ended a wanted.
      wants_no_answer guest p c arguments at m held shows told a wanted
  call_asks (Some question) told =
      let P : Bytes → Type 0 = λ z. Some question ≡ question_of
      (call_rule c arguments None z p.host) in
      let here = subst P shows.configuration.shows.memory (told p.host shows.host) in (
        running,
        next_is guest p c arguments at None (Err (Inquires question))
            (asking question (call_rule c arguments None p.configuration.store.memory p.host) here),
      )
