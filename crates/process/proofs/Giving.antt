-- An answer that is given to the call that waits.
use Rattle.std.proofs.Common.{◌≡◌, inr, ℕ, ◌+◌, ◌<◌, ◌≤◌, ◌^◌, Bool, false, List, [], Option, Some}
use Rattle.std.proofs.Common.{None, refl, sym, ap, ◌∙◌, arith}
use Rattle.std.specs.Prelude.{is_some, Ok, Err}
use Rattle.std.specs.Option.{option_map}
use Rattle.wasi_abi.specs.declared.answer.Answer.{Answer}
use Rattle.wasi_abi.specs.declared.call.Call.{Call}
use Rattle.wasi_calls.specs.rules.Held.{HeldWasiState}
use Rattle.machine.specs.rules.Values.{MachineValue}
use Rattle.process_rules.specs.Processes.{ProcessState, Guest}
use Rattle.process_rules.specs.Runs.{request_taken, Moves, IsWanted}
use Rattle.wasi_abi.specs.rules.Versions.{widenings}
use Rattle.process_rules.proofs.Counted.{one_request}
use Rattle.process_rules.proofs.ReachedStates.{move_version}
use Rattle.process.specs.declared.calling.Called.TheVariants as called
use Rattle.process.specs.declared.fault.ProcessFault.{ProcessFault}
use Rattle.process.specs.declared.fault.ProcessFault.TheVariants as fault
use Rattle.process.specs.declared.stop.ProcessEnd.{ProcessEnd}
use Rattle.process.specs.rules.Values.{ProcessValue, ShowsProcess, IsProcess, process_of, ending_of}
use Rattle.process.specs.rules.Values.{waiting_in}
use Rattle.process.specs.rules.Stops.{CallsHost, EndsNot, TakesAnswer, GivesFor}
use Rattle.process.specs.Parts.{ShowsParts, IsAtCall, HasFewLines}
use Rattle.process.specs.Callings.{PerformsCall, AnswersFor}
use Rattle.process.proofs.Counting.{counted_by, shown_version}

calls_host : (guest : Guest) (p : ProcessState) (c : Call) (arguments : List ℕ)
    → IsAtCall guest p.configuration c arguments → EndsNot guest p → CallsHost guest p
calls_host guest p c arguments at ends_not = record {
  function = at.function;
  operands = at.operands;
  waits = at.waits;
  asks = at.asks;
  ends_not = ends_not;
}

module _ (old new : MachineValue) (old_held held : HeldWasiState) (c : Call) (arguments : List ℕ)
    (answer : Answer) (guest : Guest) (p : ProcessState) (shows : ShowsParts old old_held guest p)
    (running : p.ended ≡ None) (at : IsAtCall guest p.configuration c arguments) where
  -- a call that isn't performed leaves all as it was
  pub not_performed : (f : ProcessFault)
      → PerformsCall old old_held c arguments (Some answer) (Err f) new held
      → AnswersFor old old_held new held guest p answer (Err f)
  not_performed fault.WrongAnswer calls = absurd (calls guest p shows running at)
  not_performed fault.Memory calls =
      let made = calls guest p shows running at in
      (made.0, made.1, calls_host guest p c arguments at made.2)
  not_performed fault.StepsSpent calls = calls guest p shows running at

  pub is_performed : (synced : Bool) (ended : Option ProcessEnd)
      → PerformsCall old old_held c arguments (Some answer)
      (Ok (called.Performed synced ended)) new held → IsWanted guest p (Some answer)
      → AnswersFor old old_held new held guest p answer (Ok ended)
  is_performed synced ended calls wanted = (wanted, (calls guest p shows running at).0)

-- ---- the process then

pub running_when : (ended : Option ProcessEnd) → is_some ended ≡ false
    → option_map ending_of ended ≡ None
running_when None e = refl
running_when (Some how) e = absurd (cc)

module _ (m new : MachineValue) (h held : HeldWasiState) (steps answers requests : ℕ)
    (ended : Option ProcessEnd) (answer : Answer) (guest : Guest) (p : ProcessState) where
  abbrev old : ProcessValue
  old = process_of m h steps answers requests ended

  abbrev kept : ProcessValue
  kept = process_of new held steps answers requests ended

  both_kept : (f : ProcessFault) → AnswersFor m h new held guest p answer (Err f)
      → (new ≡ m) × (held ≡ h)
  both_kept fault.WrongAnswer made = (made.0, made.1)
  both_kept fault.Memory made = (made.0, made.1)
  both_kept fault.StepsSpent made = (made.0, made.1)

  pub is_kept : (f : ProcessFault) → AnswersFor m h new held guest p answer (Err f) → kept ≡ old
  is_kept f made =
      let both = both_kept f made in
      ap (λ v. process_of v held steps answers requests ended) both.0
      ∙ ap (λ v. process_of m v steps answers requests ended) both.1

  pub not_given : (f : ProcessFault) → AnswersFor m h new held guest p answer (Err f)
      → waiting_in old ≡ [] → p.ended ≡ None → GivesFor old kept guest p answer (Err f)
  not_given fault.WrongAnswer made none_waits running =
      (is_kept fault.WrongAnswer made, λ _ _. made.2)
  not_given fault.Memory made none_waits running =
      (is_kept fault.Memory made, none_waits, running, made.2)
  not_given fault.StepsSpent made none_waits running =
      (is_kept fault.StepsSpent made, none_waits, running, inr made.2)

  module _ (how : Option ProcessEnd) (shows : ShowsProcess old guest p) (running : p.ended ≡ None)
      (r : ℕ) (counts : r ≡ request_taken (Some answer))
      (made : AnswersFor m h new held guest p answer (Ok how)) where
    abbrev given : ProcessValue
    given = process_of new held (steps + 1) (answers + 1) (requests + r) how

    pub takes_answer : TakesAnswer given guest p answer
    takes_answer =
        let l = made.1 in
        let moves : Moves guest p (Some answer) l.process =
        record { running = running; wanted = made.0; leads = l.leads } in
        let counted = counted_by guest (Some answer) p l.process moves in
        let s = counted.steps in
        let a = counted.answers in
        let q = counted.requests in
        let s_was = shows.steps in
        let a_was = shows.answers in
        let q_was = shows.requests in
        record {
          process = l.process;
          moves = moves;
          shows = record {
            calls = l.shows.calls;
            configuration = l.shows.configuration;
            host = l.shows.host;
            steps = omega (arith, s, s_was);
            answers = omega (arith, a, a_was);
            requests = omega (arith, q, q_was, counts);
            ended = sym l.ended;
            closed = l.shows.closed;
          };
        }

    pub is_process_given : steps + 1 < 2 ^ 63
        → answers ≤ steps + widenings h.host.version → requests ≤ answers → HasFewLines held
        → IsProcess given
    is_process_given few_steps few_answers few_requests few_lines =
        let t = takes_answer in
        let one : request_taken (Some answer) ≤ 1 = one_request answer in
        let same = ap widenings
        (shown_version h held p t.process shows.host t.shows.host
        (move_version guest p t.process (Some answer) t.moves)) in
        record {
          guest = guest;
          process = t.process;
          shows = t.shows;
          few_steps = few_steps;
          few_answers = omega (arith, few_answers, same);
          few_requests = omega (arith, few_requests, counts, one);
          few_lines = few_lines;
        }
