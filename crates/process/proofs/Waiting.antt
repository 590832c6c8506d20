-- A call of the host that waits, and what it wants.
use Rattle.std.proofs.Common.{◌≡◌, ℕ, List, Bool, Option, Some, None, refl, sym, ap, ◌∙◌, subst}
use Rattle.std.specs.Prelude.{◌↔◌, IsTrue, Ok, Err, slice_get}
use Rattle.wasm_syntax.specs.declared.value.Value.{Value}
use Rattle.wasm_rules.specs.Configuration.{Configuration, Thread, Outcome, Goes, Traps, Asks, Stuck}
use Rattle.wasm_rules.specs.Steps.{counted_step}
use Rattle.wasi_abi.specs.declared.answer.Answer.{Answer}
use Rattle.wasi_abi.specs.declared.answer.Question.{Question}
use Rattle.wasi_abi.specs.declared.call.Call.{Call}
use Rattle.wasi_abi.specs.rules.Answers.{Fits}
use Rattle.wasi_abi.specs.rules.Calls.{parameters_of}
use Rattle.wasi_abi.specs.rules.Versions.{text_limit}
use Rattle.wasi_calls_rules.specs.WasiStates.{WasiState}
use Rattle.wasi_calls_rules.specs.Checks.{Bytes, Ruling, Refuses, Ends, Asks as Inquires}
use Rattle.wasi_calls_rules.specs.CallRules.{call_rule}
use Rattle.wasi_calls_rules.proofs.AskingOnce.{call_rules_ask_once}
use Rattle.wasi_calls.specs.rules.Held.{HeldWasiState, ShowsWasiState}
use Rattle.wasi_calls.specs.rules.Calls.{AreArguments, question_of}
use Rattle.machine.specs.rules.Values.{MachineValue}
use Rattle.machine.specs.rules.Runs.{AsksFor, AsksNothing}
use Rattle.process_rules.specs.Processes.{ProcessState, Guest, AreCalls}
use Rattle.process_rules.specs.Runs.{Wants, after_call_rule, after_counted_step, next_of, IsWanted}
use Rattle.process.specs.Parts.{ShowsParts, IsAtCall}
use Rattle.process.proofs.Named.{same_calls, arguments_typed}
use Rattle.process.proofs.Performing.{next_is}

-- ---- what the machine tells of it

module _ (m : MachineValue) (guest : Guest) (calls : AreCalls m.guest.imports guest.calls)
    (d : Configuration) (c : Call) (arguments : List ℕ)
    (asks : AsksFor m.guest guest.program d c arguments) where
  pub at_call : IsAtCall guest d c arguments
  at_call =
      let same_list : asks.calls ≡ guest.calls =
      same_calls m.guest.imports asks.calls guest.calls asks.are_calls calls in
      record {
        function = asks.function;
        operands = asks.operands;
        waits = asks.waits;
        asks = asks.asks;
        is_call = ap (λ (cs : List Call). slice_get cs asks.function) (sym same_list)
            ∙ asks.is_call;
        is_imported = asks.is_imported;
        are = asks.are;
      }

  pub are_typed : AreArguments (parameters_of c) arguments
  are_typed =
      let P : List ℕ → Type 0 = λ ns. AreArguments (parameters_of c) ns in
      subst P (sym asks.are) (arguments_typed c asks.operands asks.typed)

-- ---- what it wants

call_rule_wants : (c : Call) (r : Ruling) (d : Configuration) (h : WasiState) (waits : Thread)
    (question : Question) → after_call_rule c r d h waits ≡ Wants question → r
    ≡ Err (Inquires question)
call_rule_wants c (Ok done) d h waits question e = absurd (cc)
call_rule_wants c (Err (Refuses why)) d h waits question e = absurd (cc)
call_rule_wants c (Err (Ends code)) d h waits question e = absurd (cc)
call_rule_wants c (Err (Inquires other)) d h waits question e =
    let same : other ≡ question = cc in ap (λ k. Err (Inquires k)) same

call_rule_asks : (r : Ruling) (question : Question) → Some question ≡ question_of r → r
    ≡ Err (Inquires question)
call_rule_asks (Ok done) question e = absurd (cc)
call_rule_asks (Err (Refuses why)) question e = absurd (cc)
call_rule_asks (Err (Ends code)) question e = absurd (cc)
call_rule_asks (Err (Inquires other)) question e =
    let same : other ≡ question = cc in ap (λ k. Err (Inquires k)) same

module _ (guest : Guest) (p : ProcessState) (c : Call) (arguments : List ℕ)
    (at : IsAtCall guest p.configuration c arguments) where
  abbrev here : Option Answer → Ruling
  here given = call_rule c arguments given p.configuration.store.memory p.host

  -- it wants what its call's rule asks for
  wants_by_call_rule : (given : Option Answer) (question : Question) → next_of guest p given
      ≡ Wants question → here given ≡ Err (Inquires question)
  wants_by_call_rule given question e =
      call_rule_wants c (here given) p.configuration p.host at.waits question
      (sym (next_is guest p c arguments at given (here given) refl) ∙ e)

  -- with an answer that it wants it wants none
  pub wants_once : (a : Answer) (question : Question) → IsWanted guest p (Some a)
      → next_of guest p (Some a) ≡ Wants question → ⊥
  wants_once a question wanted e =
      call_rules_ask_once c arguments p.configuration.store.memory p.host wanted.0 question a
      (wants_by_call_rule None wanted.0 wanted.1) wanted.2 (wants_by_call_rule (Some a) question e)

  module _ (m : MachineValue) (held : HeldWasiState) (shows : ShowsParts m held guest p) where
    told_here : (question : Option Question)
        → ((h : WasiState) → ShowsWasiState held h → question
        ≡ question_of (call_rule c arguments None m.state.memory h))
        → question ≡ question_of (here None)
    told_here question told =
        let P : Bytes → Type 0 = λ z. question ≡ question_of
        (call_rule c arguments None z p.host) in subst P shows.configuration.shows.memory
        (told p.host shows.host)

    pub wants_no_answer : ((h : WasiState) → ShowsWasiState held h
        → None ≡ question_of (call_rule c arguments None m.state.memory h))
        → (a : Answer) → IsWanted guest p (Some a) → ⊥
    wants_no_answer told a wanted =
        let none = told_here None told in
        let asks = ap question_of (wants_by_call_rule None wanted.0 wanted.1) in
        cc

    same_limit : text_limit p.host.version ≡ text_limit held.host.version
    same_limit = ap (λ (h : WasiState). text_limit h.version) shows.host.is

    pub wants_that : (question : Question)
        → ((h : WasiState) → ShowsWasiState held h
        → Some question ≡ question_of (call_rule c arguments None m.state.memory h))
        → (a : Answer) (limit : ℕ) → limit ≡ text_limit held.host.version → (b : Bool)
        → IsTrue b ↔ Fits limit question a → IsTrue b ↔ IsWanted guest p (Some a)
    wants_that question told a limit is b fits =
        let asks = call_rule_asks (here None) question (told_here (Some question) told) in
        let same : limit ≡ text_limit p.host.version = is ∙ sym same_limit in
        let P : ℕ → Type 0 = λ n. Fits n question a in
        let Q : ℕ → Type 0 = λ n. Fits n question a in (
          λ t. (
            question,
            next_is guest p c arguments at None (Err (Inquires question)) asks,
            subst P same (fits.0 t),
          ),
          λ w.
              let found = wants_by_call_rule None w.0 w.1 in
              let one : w.0 ≡ question = cc in
              let R : Question → Type 0 = λ k. Fits (text_limit p.host.version) k a in
              fits.1 (subst Q (sym same) (subst R one w.2)),
        )

-- ---- no call waits

nothing_after : (guest : Guest) (o : Outcome) (d : Configuration) (h : WasiState)
    (question : Question) → ((f : ℕ) (operands : List Value) (waits : Thread) → o
    ≡ Asks f operands waits → ⊥) → after_counted_step guest o None d h ≡ Wants question → ⊥
nothing_after guest (Goes next) d h question none e = absurd (cc)
nothing_after guest (Traps why) d h question none e = absurd (cc)
nothing_after guest Stuck d h question none e = absurd (cc)
nothing_after guest (Asks f operands waits) d h question none e = none f operands waits refl

pub nothing_wanted : (guest : Guest) (p : ProcessState)
    → AsksNothing guest.program p.configuration → (a : Answer) → IsWanted guest p (Some a) → ⊥
nothing_wanted guest p none a wanted =
    nothing_after guest (counted_step guest.program p.configuration) p.configuration
    p.host wanted.0 none wanted.1
