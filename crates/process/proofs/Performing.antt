-- What a call of the guest comes to.
use Rattle.std.proofs.Common.{◌≡◌, ◌≢◌, ℕ, ◌<◌, ◌^◌, List, [], ◌∷◌, Option, Some, None, refl, sym}
use Rattle.std.proofs.Common.{ap, ◌∙◌, subst, arith}
use Rattle.std.specs.Prelude.{Ok, Err, slice_get, map, reverse}
use Rattle.std.specs.Option.{option_map}
use Rattle.wasm_syntax.specs.declared.value.Value.{Value}
use Rattle.wasm_syntax.specs.declared.value.Value.TheVariants as value
use Rattle.wasm_rules.specs.Types.{AreOf, gives_of, number_in}
use Rattle.wasm_rules.specs.Configuration.{Program, Thread, Configuration, Outcome as Result}
use Rattle.wasm_rules.specs.Steps.{answered, stopped, IsEnded, ReducesTo}
use Rattle.wasi_abi.specs.declared.answer.Answer.{Answer}
use Rattle.wasi_abi.specs.declared.call.Call.{Call}
use Rattle.wasi_abi.specs.declared.call.Call.TheVariants as call
use Rattle.wasi_abi.specs.declared.errno.Errno.{Errno}
use Rattle.wasi_abi.specs.rules.Calls.{parameters_of, call_type_of}
use Rattle.wasi_abi.specs.rules.Numbers.{errno_number}
use Rattle.wasi_calls_rules.specs.WasiStates.{WasiState}
use Rattle.wasi_calls_rules.specs.Checks.{Bytes, Done, Ruling, Refuses, Ends, Asks as Inquires}
use Rattle.wasi_calls_rules.specs.Lines.{lines_ended}
use Rattle.wasi_calls_rules.specs.CallRules.{call_rule, IsSync}
use Rattle.wasi_calls.specs.declared.outcome.CallOutcome.{CallOutcome}
use Rattle.wasi_calls.specs.declared.outcome.CallOutcome.TheVariants as outcome
use Rattle.wasi_calls.specs.rules.Held.{HeldWasiState, ShowsWasiState}
use Rattle.wasi_calls.specs.rules.Calls.{AreArguments, ShowsCallRule, EndsNothing, ending_of_call}
use Rattle.machine.specs.rules.Answers.{call_results}
use Rattle.machine.specs.rules.Values.{MachineValue, ShowsIn, memory_of, with_memory}
use Rattle.machine.specs.laws.Laws.{with_memory_bytes}
use Rattle.machine.proofs.Written.{shows_what_is_written}
use Rattle.process_rules.specs.Processes.{Ending, Exited, ProcessState, Guest, AreCalls, over}
use Rattle.process_rules.specs.Processes.{closed}
use Rattle.process_rules.specs.Runs.{Next, On, Over, given_by, after_call_rule, after_call}
use Rattle.process_rules.specs.Runs.{after_counted_step, next_of, stepped, LeadsTo}
use Rattle.process_rules.specs.Behind.{Syncs}
use Rattle.process_rules.proofs.Quiet.{open_still}
use Rattle.process_rules.proofs.ReachedTyped.{errno_small}
use Rattle.process.specs.declared.stop.ProcessEnd.{ProcessEnd}
use Rattle.process.specs.rules.Values.{ending_of}
use Rattle.process.specs.Parts.{IsAtCall}
use Rattle.process.specs.rules.Stops.{EndsNot}
use Rattle.process.specs.Callings.{LeadsToProcess, EndsAt, HasCalled}

-- ---- what is given

-- the guest is given this number by a call that is done or refused
abbrev pub GivesErrno : CallOutcome → ℕ → Type 0
GivesErrno outcome.Done n = n ≡ 0
GivesErrno (outcome.Refused e) n = n ≡ errno_number e
GivesErrno _ n = ⊥

pub number_small : (o : CallOutcome) (n : ℕ) → GivesErrno o n → n < 2 ^ 32
number_small outcome.Done n is = omega (arith, is)
number_small (outcome.Refused e) n is = subst (λ (k : ℕ). k < 2 ^ 32) (sym is) (errno_small e)
number_small (outcome.Ask asked) n is = absurd is
number_small (outcome.Exit code) n is = absurd is
number_small outcome.Memory n is = absurd is

-- the call gives its number, and that is all
pub record GivesNumber (c : Call) : Type 0 where
  pub gives : (n : ℕ) → given_by c n ≡ value.I32 n ∷ []
  pub typed : (n : ℕ) → n < 2 ^ 32 → AreOf (gives_of (call_type_of c)) (value.I32 n ∷ [])

-- the call is over, and the process goes on
abbrev pub IsOver : Ruling → Type 0
IsOver (Ok done) = Unit {0}
IsOver (Err (Refuses e)) = Unit {0}
IsOver (Err (Ends code)) = ⊥
IsOver (Err (Inquires question)) = ⊥

-- every call but the end of the process gives one
pub gives_number : (c : Call) → c ≢ call.ProcExit → GivesNumber c
gives_number call.ProcExit other = absurd (other refl)
gives_number _ other = record { gives = λ n. refl; typed = λ n small. (small, tt) }

-- with its one argument the end of the process is never over
exit_not_over : (arguments : List ℕ) → AreArguments (parameters_of call.ProcExit) arguments
    → (given : Option Answer) (m : Bytes) (h : WasiState) (r : Ruling)
    → call_rule call.ProcExit arguments given m h ≡ r → IsOver r → ⊥
exit_not_over [] typed given m h r e over = typed
exit_not_over (code ∷ []) typed given m h (Ok done) e over = absurd (cc)
exit_not_over (code ∷ []) typed given m h (Err (Refuses f)) e over = absurd (cc)
exit_not_over (code ∷ []) typed given m h (Err (Ends c)) e over = over
exit_not_over (code ∷ []) typed given m h (Err (Inquires question)) e over = over
exit_not_over (code ∷ n ∷ rest) typed given m h r e over = typed.1

-- so a call that is over gives its number
over_gives : (c : Call) (arguments : List ℕ) → AreArguments (parameters_of c) arguments
    → (given : Option Answer) (m : Bytes) (h : WasiState) (r : Ruling)
    → call_rule c arguments given m h ≡ r → IsOver r → GivesNumber c
over_gives c arguments typed given m h r e over = gives_number c (λ is. not_exit c is typed e)
  where
    not_exit : (d : Call) → d ≡ call.ProcExit → AreArguments (parameters_of d) arguments
        → call_rule d arguments given m h ≡ r → ⊥
    not_exit d is typed_d e_d =
        let P : Call → Type 0 = λ z. AreArguments (parameters_of z) arguments in
        let Q : Call → Type 0 = λ z. call_rule z arguments given m h ≡ r in
        exit_not_over arguments (subst P is typed_d) given m h r (subst Q is e_d) over

-- ---- at a call

pub closed_over : (q : ProcessState) → IsEnded q.configuration → closed q ≡ over (Exited 0) q
closed_over q ends = rw (ends.returned, ends.nothing_later) refl

module _ (guest : Guest) (p : ProcessState) (c : Call) (arguments : List ℕ)
    (at : IsAtCall guest p.configuration c arguments) (given : Option Answer) where
  pub next_is : (r : Ruling) → call_rule c arguments given p.configuration.store.memory p.host ≡ r
      → next_of guest p given ≡ after_call_rule c r p.configuration p.host at.waits
  next_is r e =
      ap (λ (o : Result). after_counted_step guest o given p.configuration p.host) at.asks
      ∙ ap (λ (o : Option Call). after_call o at.operands given p.configuration p.host at.waits)
      at.is_call
      ∙ ap (λ (ns : List ℕ).
      after_call_rule c (call_rule c ns given p.configuration.store.memory p.host)
      p.configuration p.host at.waits) (sym at.are)
      ∙ ap (λ (r : Ruling). after_call_rule c r p.configuration p.host at.waits) e

  -- the process goes on with what the call gives
  pub record GoesOnGiven (m : Bytes) (held : HeldWasiState) (n : ℕ) : Type 0 where
    pub host : WasiState
    pub next : next_of guest p given
        ≡ On (answered p.configuration m (call_results (Some n)) at.waits) host
    pub shows : ShowsWasiState held host
    pub gives : GivesNumber c

  module _ (typed : AreArguments (parameters_of c) arguments) where
    goes_on_done : (m : Bytes) (held old : HeldWasiState)
        → ShowsCallRule (ending_of_call outcome.Done) m held p.configuration.store.memory old
        (call_rule c arguments given p.configuration.store.memory p.host) → GoesOnGiven m held 0
    goes_on_done m held old told =
        let number =
        over_gives c arguments typed given p.configuration.store.memory p.host
        (Ok told.0) told.1 tt in
        record {
          host = told.0.host;
          next = next_is (Ok told.0) told.1
              ∙ ap (λ (z : Bytes).
              On (answered p.configuration z (given_by c 0) at.waits) told.0.host) (sym told.2)
              ∙ ap (λ (z : List Value). On (answered p.configuration m z at.waits) told.0.host)
              (number.gives 0);
          shows = told.3;
          gives = number;
        }

    goes_on_refused : (e : Errno) (m : Bytes) (held old : HeldWasiState) → ShowsWasiState old p.host
        → ShowsCallRule (ending_of_call (outcome.Refused e)) m held p.configuration.store.memory old
        (call_rule c arguments given p.configuration.store.memory p.host)
        → GoesOnGiven m held (errno_number e)
    goes_on_refused e m held old shows told =
        let number =
        over_gives c arguments typed given p.configuration.store.memory p.host
        (Err (Refuses e)) told.0 tt in
        record {
          host = p.host;
          next = next_is (Err (Refuses e)) told.0
              ∙ ap (λ (z : Bytes).
              On (answered p.configuration z (given_by c (errno_number e)) at.waits) p.host)
              (sym told.1)
              ∙ ap (λ (z : List Value). On (answered p.configuration m z at.waits) p.host)
              (number.gives (errno_number e));
          shows = (let P : HeldWasiState → Type 0 = λ z. ShowsWasiState z p.host in
              subst P (sym told.2) shows);
          gives = number;
        }

    pub goes_on : (o : CallOutcome) (n : ℕ) → GivesErrno o n
        → (m : Bytes) (held old : HeldWasiState) → ShowsWasiState old p.host
        → ShowsCallRule (ending_of_call o) m held p.configuration.store.memory old
        (call_rule c arguments given p.configuration.store.memory p.host) → GoesOnGiven m held n
    goes_on outcome.Done n is m held old shows told =
        let P : ℕ → Type 0 = λ k. GoesOnGiven m held k in
        subst P (sym is) (goes_on_done m held old told)
    goes_on (outcome.Refused e) n is m held old shows told =
        let P : ℕ → Type 0 = λ k. GoesOnGiven m held k in
        subst P (sym is) (goes_on_refused e m held old shows told)
    goes_on (outcome.Ask asked) n is m held old shows told = absurd is
    goes_on (outcome.Exit code) n is m held old shows told = absurd is
    goes_on outcome.Memory n is m held old shows told = absurd is

  -- ---- where it leads

  pub leads_on : (new : MachineValue) (held : HeldWasiState) (c' : Configuration) (h : WasiState)
      (e : Configuration) (ended : Option ProcessEnd) → AreCalls new.guest.imports guest.calls
      → next_of guest p given ≡ On c' h → ReducesTo guest.program c' e → ShowsIn new guest.program e
      → EndsAt e held h ended → LeadsToProcess new held guest p given (option_map ending_of ended)
  leads_on new held c' h e None calls next reduces shows ends =
      let q : ProcessState = stepped given e h p in
      let P : Next → Type 0 = λ z. LeadsTo guest z given p q in
      record {
        process = q;
        leads = subst P (sym next) (
          e,
          reduces,
          sym (open_still e.thread e.later q (λ a b. ends.0 (record {
            returned = a;
            nothing_later = b;
          }))),
        );
        shows = record {
          calls = calls;
          configuration = shows;
          host = ends.1;
          closed = λ _. ends.0;
        };
        ended = refl;
      }
  leads_on new held c' h e (Some how) calls next reduces shows ends =
      let q : ProcessState = over (Exited 0) (stepped given e h p) in
      let P : Next → Type 0 = λ z. LeadsTo guest z given p q in
      record {
        process = q;
        leads = subst P (sym next) (e, reduces, sym (closed_over (stepped given e h p) ends.0));
        shows = record {
          calls = calls;
          configuration = shows;
          host = ends.2;
          closed = λ k. absurd (cc);
        };
        ended = (let same = ends.1 in cc);
      }

  pub leads_out : (new : MachineValue) (held : HeldWasiState) (code : ℕ)
      → AreCalls new.guest.imports guest.calls
      → next_of guest p given ≡ Over (Exited code) (stopped p.configuration) p.host
      → ShowsIn new guest.program (stopped p.configuration)
      → ShowsWasiState held (lines_ended p.host) → LeadsToProcess new held guest p given
      (Some (Exited code))
  leads_out new held code calls next shows host =
      let q : ProcessState = over (Exited code) (stepped given (stopped p.configuration) p.host p)
      in
      let P : Next → Type 0 = λ z. LeadsTo guest z given p q in
      record {
        process = q;
        leads = subst P (sym next) refl;
        shows = record {
          calls = calls;
          configuration = shows;
          host = host;
          closed = λ k. absurd (cc);
        };
        ended = refl;
      }

  -- ---- syncs

  pub syncs_when : IsSync c → p.ended ≡ None → (done : Done)
      → call_rule c arguments None p.configuration.store.memory p.host ≡ Ok done → Syncs guest p
  syncs_when sync running done e = record {
    function = at.function;
    arguments = at.operands;
    waits = at.waits;
    call = c;
    done = done;
    running = running;
    asks = at.asks;
    is_call = at.is_call;
    is_sync = sync;
    answers_zero =
        ap (λ (ns : List ℕ). call_rule c ns None p.configuration.store.memory p.host)
        (sym at.are) ∙ e;
  }

  -- a sync of the guest is of this call, and done
  pub record IsSynced : Type 0 where
    pub is_sync : IsSync c
    pub done : Done
    pub is_done : call_rule c arguments None p.configuration.store.memory p.host ≡ Ok done

  pub is_synced : Syncs guest p → IsSynced
  is_synced s =
      let asks = at.asks in
      let asked = s.asks in
      let is = at.is_call in
      let was = s.is_call in
      let functions : s.function ≡ at.function = cc in
      let operands : s.arguments ≡ at.operands = cc in
      let found : slice_get guest.calls at.function ≡ Some s.call =
      ap (slice_get guest.calls) (sym functions) ∙ was in
      let same : s.call ≡ c = cc in
      record {
        is_sync = subst IsSync same s.is_sync;
        done = s.done;
        is_done = ap (λ (ns : List ℕ). call_rule c ns None p.configuration.store.memory
            p.host) (at.are ∙ ap (λ (vs : List Value). reverse (map number_in vs)) (sym operands))
            ∙ ap (λ (d : Call).
            call_rule d (reverse (map number_in s.arguments)) None p.configuration.store.memory
            p.host) (sym same)
            ∙ s.answers_zero;
      }

-- ---- a call that doesn't end the process

ends_not_after : (c : Call) (r : Ruling) (before : Configuration) (g : WasiState) (waits : Thread)
    (why : Ending) (d : Configuration) (h : WasiState) → ((code : ℕ) → r ≢ Err (Ends code))
    → after_call_rule c r before g waits ≢ Over why d h
ends_not_after c (Ok done) before g waits why d h nothing e = absurd (cc)
ends_not_after c (Err (Refuses f)) before g waits why d h nothing e = absurd (cc)
ends_not_after c (Err (Inquires question)) before g waits why d h nothing e = absurd (cc)
ends_not_after c (Err (Ends code)) before g waits why d h nothing e = nothing code refl

pub ends_not : (guest : Guest) (p : ProcessState) (c : Call) (arguments : List ℕ)
    → IsAtCall guest p.configuration c arguments → EndsNothing c arguments → EndsNot guest p
ends_not guest p c arguments at nothing given why d h e =
    let r : Ruling = call_rule c arguments given p.configuration.store.memory p.host in
    ends_not_after c r p.configuration p.host at.waits why d h
    (nothing given p.configuration.store.memory p.host)
    (sym (next_is guest p c arguments at given r refl) ∙ e)

-- ---- the host has performed it

module _ (old mid : MachineValue) (old_held mid_held : HeldWasiState) (c : Call)
    (arguments : List ℕ) (given : Option Answer) where
  pub written : (o : CallOutcome) → HasCalled old old_held c arguments given o mid mid_held
      → (program : Program) (d : Configuration) → ShowsIn old program d
      → ShowsIn mid program (with_memory_bytes d mid.state.memory)
  written o called program d shows =
      let P : MachineValue → Type 0 = λ v. ShowsIn v program (with_memory_bytes d mid.state.memory)
      in
      subst P (sym called.is) (shows_what_is_written old (memory_of mid) program d called.large.size
      called.bytes called.large.limit shows)

  pub unchanged : (o : CallOutcome) → HasCalled old old_held c arguments given o mid mid_held
      → mid.state.memory ≡ old.state.memory → mid ≡ old
  unchanged o called e =
      called.is ∙ ap (λ (m : List ℕ). with_memory old (record { bytes = m; limit = mid.limit })) e
      ∙ ap (λ (n : ℕ). with_memory old (record {
        bytes = old.state.memory;
        limit = n;
      })) called.large.limit

  pub same_guest : (o : CallOutcome) → HasCalled old old_held c arguments given o mid mid_held
      → mid.guest ≡ old.guest
  same_guest o called = ap (λ (v : MachineValue). v.guest) called.is
