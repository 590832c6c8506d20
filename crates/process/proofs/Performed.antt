-- A call that the host has performed, and what the process is then.
use Rattle.std.proofs.Common.{◌≡◌, ℕ, Bool, false, List, Option, Some, None, sym, ap, ◌∙◌, subst}
use Rattle.std.specs.Prelude.{Ok, Err, ◌↔◌, IsTrue}
use Rattle.std.specs.Option.{option_map}
use Rattle.wasm_syntax.specs.declared.module.Module.{Module}
use Rattle.wasm_rules.specs.Configuration.{Configuration}
use Rattle.wasm_rules.specs.Steps.{answered}
use Rattle.wasi_abi.specs.declared.answer.Answer.{Answer}
use Rattle.wasi_abi.specs.declared.answer.Question.{Question}
use Rattle.wasi_abi.specs.declared.call.Call.{Call}
use Rattle.wasi_abi.specs.declared.errno.Errno.{Errno}
use Rattle.wasi_abi.specs.rules.Calls.{parameters_of, call_type_of}
use Rattle.wasi_calls_rules.specs.WasiStates.{WasiState}
use Rattle.wasi_calls_rules.specs.Checks.{Bytes, Refuses, Ends, Asks as Inquires}
use Rattle.wasi_calls_rules.specs.Lines.{lines_ended}
use Rattle.wasi_calls_rules.specs.CallRules.{call_rule, IsSync}
use Rattle.wasi_calls.specs.declared.outcome.CallOutcome.{CallOutcome}
use Rattle.wasi_calls.specs.declared.outcome.CallOutcome.TheVariants as outcome
use Rattle.wasi_calls.specs.rules.Held.{HeldWasiState, ShowsWasiState, held_ended}
use Rattle.wasi_calls.specs.rules.Calls.{AreArguments, ShowsCallRule, ending_of_call}
use Rattle.machine.specs.rules.Answers.{call_results}
use Rattle.machine.specs.rules.Values.{MachineValue, ShowsIn, IsSameMachine}
use Rattle.machine.specs.rules.Runs.{Stops, WaitsFor}
use Rattle.machine.specs.laws.Laws.{with_memory_bytes}
use Rattle.machine.proofs.AskingAgain.{asks_again}
use Rattle.process_rules.specs.Processes.{Exited, ProcessState, Guest, AreCalls}
use Rattle.process_rules.specs.Runs.{Wants, next_of}
use Rattle.process.specs.declared.stop.ProcessEnd.{ProcessEnd}
use Rattle.process.specs.rules.Values.{ending_of}
use Rattle.process.specs.Parts.{ShowsParts, IsAtCall, WaitsAtCall, HasFewLines}
use Rattle.process.specs.Callings.{LeadsToProcess, Tells, FinishesAt, HasFinished, HasCalled}
use Rattle.process.specs.Callings.{HasNumbers}
use Rattle.process.proofs.Lines.{few_shown}
use Rattle.process.proofs.Performing.{GivesErrno, GoesOnGiven, goes_on, number_small, next_is}
use Rattle.process.proofs.Performing.{leads_on, leads_out, IsSynced, is_synced, syncs_when, written}
use Rattle.process.proofs.Performing.{unchanged, same_guest}

module _ (old mid : MachineValue) (old_held mid_held : HeldWasiState) (c : Call)
    (arguments : List ℕ) (given : Option Answer) where
  -- what is told of each process that is shown
  told_at : (o : CallOutcome) → HasCalled old old_held c arguments given o mid mid_held
      → (guest : Guest) (p : ProcessState) → ShowsParts old old_held guest p
      → ShowsCallRule (ending_of_call o) mid.state.memory mid_held
      p.configuration.store.memory old_held (call_rule c arguments given
      p.configuration.store.memory p.host)
  told_at o called guest p shows =
      let P : Bytes → Type 0 =
      λ z. ShowsCallRule (ending_of_call o) mid.state.memory mid_held z old_held
      (call_rule c arguments given z p.host) in
      subst P shows.configuration.shows.memory (called.shown p.host shows.host)

  still_calls : (o : CallOutcome) → HasCalled old old_held c arguments given o mid mid_held
      → (new : MachineValue) → IsSameMachine mid new → (guest : Guest) (p : ProcessState)
      → ShowsParts old old_held guest p → AreCalls new.guest.imports guest.calls
  still_calls o called new same guest p shows =
      let P : Module → Type 0 = λ m. AreCalls m.imports guest.calls in
      subst P (sym (same.guest
      ∙ same_guest old mid old_held mid_held c arguments given o called)) shows.calls

  -- ---- a call that is done or refused

  module _ (typed : AreArguments (parameters_of c) arguments) (o : CallOutcome) (n : ℕ)
      (is : GivesErrno o n)
      (called : HasCalled old old_held c arguments given o mid mid_held) where
    goes : (guest : Guest) (p : ProcessState) → ShowsParts old old_held guest p
        → (at : IsAtCall guest p.configuration c arguments)
        → GoesOnGiven guest p c arguments at given mid.state.memory mid_held n
    goes guest p shows at =
        goes_on guest p c arguments at given typed o n is mid.state.memory mid_held old_held
        shows.host (told_at o called guest p shows)

    pub waits_for : WaitsAtCall old old_held c arguments → WaitsFor (call_results (Some n)) mid
    waits_for w =
        let on = goes w.guest w.process w.shows w.at in
        record {
          program = w.guest.program;
          configuration = with_memory_bytes w.process.configuration mid.state.memory;
          shows = written old mid old_held mid_held c arguments given o called w.guest.program
              w.process.configuration w.shows.configuration;
          function = w.at.function;
          arguments = w.at.operands;
          waits = w.at.waits;
          signature = call_type_of c;
          asks = asks_again w.at.function w.at.operands w.at.waits w.guest.program
              w.process.configuration mid.state.memory w.at.asks;
          is_imported = w.at.is_imported;
          gives = on.gives.typed n (number_small o n is);
        }

    pub over_leads : (new : MachineValue) (held : HeldWasiState) (ended : Option ProcessEnd)
        → HasFinished mid mid_held n ended new held → IsSameMachine mid new → (guest : Guest)
        (p : ProcessState) → ShowsParts old old_held guest p
        → IsAtCall guest p.configuration c arguments
        → LeadsToProcess new held guest p given (option_map ending_of ended)
    over_leads new held ended finished same guest p shows at =
        let on = goes guest p shows at in
        let d : Configuration = p.configuration in
        let fin : FinishesAt new held guest.program
        (answered d mid.state.memory (call_results (Some n)) at.waits) on.host ended =
        finished guest.program (with_memory_bytes d mid.state.memory) at.function at.operands
        at.waits (call_type_of c) on.host
        (written old mid old_held mid_held c arguments given o called guest.program d
        shows.configuration)
        (asks_again at.function at.operands at.waits guest.program d mid.state.memory at.asks)
        at.is_imported (on.gives.typed n (number_small o n is)) on.shows in
        leads_on guest p c arguments at given new held
        (answered d mid.state.memory (call_results (Some n)) at.waits) on.host fin.configuration
        ended (still_calls o called new same guest p shows) on.next fin.reduces fin.shows fin.ends

  pub few_done : HasCalled old old_held c arguments given outcome.Done mid mid_held
      → HasNumbers old old_held c arguments → WaitsAtCall old old_held c arguments
      → HasFewLines mid_held
  few_done called numbers w =
      let told = called.shown w.process.host w.shows.host in
      few_shown mid_held told.0.host told.3
      (numbers given w.process.host told.0 w.shows.host told.1)

  pub few_refused : (e : Errno)
      → HasCalled old old_held c arguments given (outcome.Refused e) mid mid_held
      → HasFewLines old_held → WaitsAtCall old old_held c arguments → HasFewLines mid_held
  few_refused e called few w =
      let told = called.shown w.process.host w.shows.host in
      subst HasFewLines (sym told.2) few

  -- ---- syncs

  -- a call that is done is a sync of the guest where it is one of these calls
  pub tells_done : (b : Bool) → (IsTrue b ↔ IsSync c)
      → HasCalled old old_held c arguments given outcome.Done mid mid_held
      → (guest : Guest) (p : ProcessState) → ShowsParts old old_held guest p → p.ended ≡ None
      → IsAtCall guest p.configuration c arguments → Tells b guest p given
  tells_done b sync called guest p shows running at none =
      let told = told_at outcome.Done called guest p shows in
      let done : call_rule c arguments None p.configuration.store.memory p.host ≡ Ok told.0 =
      ap (λ (a : Option Answer). call_rule c arguments a p.configuration.store.memory p.host)
      (sym none) ∙ told.1 in (
        λ t. syncs_when guest p c arguments at given (sync.0 t) running told.0 done,
        λ s. sync.1 (is_synced guest p c arguments at given s).is_sync,
      )

  sync_refused : (e : Errno)
      → HasCalled old old_held c arguments given (outcome.Refused e) mid mid_held
      → (guest : Guest) (p : ProcessState) → ShowsParts old old_held guest p
      → (at : IsAtCall guest p.configuration c arguments)
      → given ≡ None → IsSynced guest p c arguments at given → ⊥
  sync_refused e called guest p shows at none s =
      let told = told_at (outcome.Refused e) called guest p shows in
      let refused : call_rule c arguments None p.configuration.store.memory p.host
      ≡ Err (Refuses e) = ap (λ (a : Option Answer). call_rule c arguments a
      p.configuration.store.memory p.host) (sym none) ∙ told.0 in
      let done = s.is_done in
      cc

  -- a call that is refused is none
  pub tells_refused : (e : Errno)
      → HasCalled old old_held c arguments given (outcome.Refused e) mid mid_held
      → (guest : Guest) (p : ProcessState) → ShowsParts old old_held guest p
      → IsAtCall guest p.configuration c arguments → Tells false guest p given
  tells_refused e called guest p shows at none = (
    λ t. absurd (cc),
    λ s. absurd (sync_refused e called guest p shows at none
        (is_synced guest p c arguments at given s)),
  )

  -- ---- a call that ends the process, wants an answer, or lacks memory

  pub exit_leads : (code : ℕ)
      → HasCalled old old_held c arguments given (outcome.Exit code) mid mid_held
      → (new : MachineValue) (held : HeldWasiState) → Stops mid new → IsSameMachine mid new
      → held ≡ held_ended mid_held
      → ((h : WasiState) → ShowsWasiState mid_held h → ShowsWasiState held (lines_ended h))
      → (guest : Guest) (p : ProcessState) → ShowsParts old old_held guest p
      → IsAtCall guest p.configuration c arguments
      → LeadsToProcess new held guest p given (Some (Exited code))
  exit_leads code called new held stops same ended shown guest p shows at =
      let told = told_at (outcome.Exit code) called guest p shows in
      let memory : mid.state.memory ≡ old.state.memory =
      told.1 ∙ sym shows.configuration.shows.memory in
      let P : MachineValue → Type 0 = λ v. ShowsIn v guest.program p.configuration in
      let Q : HeldWasiState → Type 0 = λ z. ShowsWasiState z p.host in
      let there = subst P
      (sym (unchanged old mid old_held mid_held c arguments given
      (outcome.Exit code) called memory)) shows.configuration in
      leads_out guest p c arguments at given new held code
      (still_calls (outcome.Exit code) called new same guest p shows)
      (next_is guest p c arguments at given (Err (Ends code)) told.0)
      (stops guest.program p.configuration there) (shown p.host (subst Q (sym told.2) shows.host))

  pub exit_tells : (code : ℕ)
      → HasCalled old old_held c arguments given (outcome.Exit code) mid mid_held
      → (guest : Guest) (p : ProcessState) → ShowsParts old old_held guest p
      → IsAtCall guest p.configuration c arguments → Tells false guest p given
  exit_tells code called guest p shows at none =
      let told = told_at (outcome.Exit code) called guest p shows in
      let ends : call_rule c arguments None p.configuration.store.memory p.host ≡ Err (Ends code) =
      ap (λ (a : Option Answer). call_rule c arguments a p.configuration.store.memory p.host)
      (sym none) ∙ told.0 in (
        λ t. absurd (cc),
        λ s. let synced = is_synced guest p c arguments at given s in
            let done = synced.is_done in absurd (cc),
      )

  pub memory_kept : HasCalled old old_held c arguments given outcome.Memory mid mid_held
      → WaitsAtCall old old_held c arguments → (mid ≡ old) × (mid_held ≡ old_held)
  memory_kept called w =
      let told = called.shown w.process.host w.shows.host in
      (unchanged old mid old_held mid_held c arguments given outcome.Memory called told.1, told.2)

  pub asks_kept : (question : Question)
      → HasCalled old old_held c arguments given (outcome.Ask question) mid mid_held
      → WaitsAtCall old old_held c arguments → (mid ≡ old) × (mid_held ≡ old_held)
  asks_kept question called w =
      let told = called.shown w.process.host w.shows.host in (
        unchanged old mid old_held mid_held c arguments given (outcome.Ask question) called told.1,
        told.2,
      )

  pub asks_wants : (question : Question)
      → HasCalled old old_held c arguments given (outcome.Ask question) mid mid_held
      → (guest : Guest) (p : ProcessState) → ShowsParts old old_held guest p
      → IsAtCall guest p.configuration c arguments → next_of guest p given ≡ Wants question
  asks_wants question called guest p shows at =
      next_is guest p c arguments at given (Err (Inquires question))
      (told_at (outcome.Ask question) called guest p shows).0
