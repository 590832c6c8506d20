-- Worked examples of a worker that goes on from what another one has left.
use Rattle.std.specs.Prelude.{◌≡◌, ℕ, true, List, [], ◌∷◌, codes, Some, None}
use Rattle.wasi_abi.specs.declared.answer.Answer.TheVariants as answer
use Rattle.wasi_abi.specs.declared.answer.Question.TheVariants as question
use Rattle.wasi_abi.specs.declared.version.Version.TheVariants.{One, Two}
use Rattle.wasi_calls_rules.specs.declared.output_stream.OutputStream.TheVariants.{Stdout}
use Rattle.process_rules.specs.Processes.{ProcessState, Guest, Exited}
use Rattle.process_rules.specs.Origins.{Origin}
use Rattle.process_rules.specs.Runs.{Given, Wider, Succeeds, Wants, Nowhere, next_of}
use Rattle.worker_store.specs.restart_theorem.Lives.{Release}
use Rattle.worker_store.specs.restart_theorem.Promises.{Promise, nothing_yet}
use Rattle.worker_store.specs.restart_theorem.Successions.{promised_by_all, promised_from, IsAtRest}
use Rattle.worker_store.specs.restart_theorem.Successions.{SucceedNone, HasNumber, IsFirstNumber}
use Rattle.worker_store.specs.restart_theorem.Successions.{LeaveNoneOut, IsOneHistory}
use Rattle.worker_store.specs.restart_theorem.laws.Examples.{first_life, second_life, hello_line}

-- ---- what is promised

-- the line of this number, with this text
abbrev pub numbered_line : ℕ → List ℕ → Release
numbered_line number text =
    record { number = number; line = record { stream = Stdout; text = text } }

abbrev pub letter_line : ℕ → Release
letter_line number = numbered_line number (codes "a")

-- after 21 steps, two requests and two lines
abbrev pub some_origin : Origin
some_origin = record {
  files = record { nodes = []; next = 2 };
  lines = hello_line.line ∷ (letter_line 2).line ∷ [];
  steps = 21;
  answers = 3;
  requests = 2;
  last_monotonic = 7;
}

-- what has been promised once an outlet has taken so many lines
abbrev pub heard_so_far : ℕ → Promise
heard_so_far heard = record nothing_yet { begun = heard; heard = heard }

-- lines 1 and 2, of which a restart has told the first one again
abbrev pub two_lines : List Release
two_lines = letter_line 1 ∷ letter_line 1 ∷ letter_line 2 ∷ []

pub record SuccessionExamples : Type 0 where
  -- its lines were told, heard and passed, and it has taken what it goes on from
  pub promised_in_one : promised_from One some_origin ≡ record {
    kept = Succeeds some_origin ∷ [];
    answers = 1;
    steps = 21;
    passed = 2;
    begun = 2;
    heard = 2;
    synced = 21;
    was_created = true;
    has_opened = true;
    events = 1;
  }
  -- in version 2 it was widened there
  pub promised_in_two : promised_from Two some_origin ≡ record (promised_from One some_origin) {
    kept = Succeeds some_origin ∷ Wider 21 ∷ [];
    answers = 2;
  }
  -- two lives, one after the other
  pub through_lives : promised_by_all nothing_yet (first_life ∷ second_life ∷ []) ≡ record {
    kept = Given (answer.Request (codes "hello")) ∷ [];
    answers = 1;
    steps = 6;
    passed = 0;
    begun = 1;
    heard = 1;
    synced = 20;
    was_created = true;
    has_opened = true;
    events = 9;
  }
  pub none_succeeds : SucceedNone (Given (answer.Realtime 7) ∷ Wider 20 ∷ [])
  pub one_succeeds : SucceedNone (Wider 20 ∷ Succeeds some_origin ∷ []) → ⊥

-- A process is at rest where it has ended, or waits for a request, and nowhere else.
pub record RestExamples (guest : Guest) (p : ProcessState) : Type 0 where
  pub over : p.ended ≡ Some (Exited 7) → IsAtRest guest p
  pub waits_for_a_request : next_of guest p None ≡ Wants question.Request → IsAtRest guest p
  pub waits_for_a_time : p.ended ≡ None → next_of guest p None ≡ Wants question.Realtime
      → IsAtRest guest p → ⊥
  pub goes_nowhere : p.ended ≡ None → next_of guest p None ≡ Nowhere → IsAtRest guest p → ⊥

-- Two lines of the first worker, and then those of the second one.
pub record HistoryExamples : Type 0 where
  pub has_its_numbers : HasNumber 2 two_lines
  pub has_no_other : HasNumber 3 two_lines → ⊥
  pub first_number : IsFirstNumber 3 (letter_line 3 ∷ letter_line 4 ∷ [])
  pub other_first_number : IsFirstNumber 3 (letter_line 4 ∷ letter_line 3 ∷ []) → ⊥
  pub leaves_none_out : LeaveNoneOut 0 two_lines
  pub leaves_one_out : LeaveNoneOut 0 (letter_line 1 ∷ letter_line 3 ∷ []) → ⊥
  pub one_before_them : LeaveNoneOut 1 (letter_line 2 ∷ [])
  -- two workers
  pub goes_on : IsOneHistory nothing_yet (heard_so_far 2) 2 two_lines (letter_line 3 ∷ [])
  pub says_nothing : IsOneHistory nothing_yet (heard_so_far 2) 2 two_lines []
  pub tells_again : IsOneHistory nothing_yet (heard_so_far 2) 2 two_lines (letter_line 2 ∷ []) → ⊥
  pub comes_back : IsOneHistory nothing_yet (heard_so_far 2) 2 two_lines
      (letter_line 3 ∷ letter_line 1 ∷ []) → ⊥
  pub skips_a_line : IsOneHistory nothing_yet (heard_so_far 2) 2 two_lines (letter_line 4 ∷ []) → ⊥
  pub skips_one_later : IsOneHistory nothing_yet (heard_so_far 2) 2 two_lines
      (letter_line 3 ∷ letter_line 5 ∷ []) → ⊥
  pub was_ahead : IsOneHistory nothing_yet (heard_so_far 2) 1 two_lines (letter_line 2 ∷ []) → ⊥
  pub was_behind : IsOneHistory nothing_yet (heard_so_far 3) 3 two_lines (letter_line 4 ∷ []) → ⊥
  pub was_unheard : IsOneHistory nothing_yet (heard_so_far 1) 2 two_lines (letter_line 3 ∷ []) → ⊥
  pub takes_lines_back : IsOneHistory (record nothing_yet { passed = 3 }) (heard_so_far 2) 2
      two_lines (letter_line 3 ∷ []) → ⊥
  pub changes_a_line : IsOneHistory nothing_yet (heard_so_far 1) 1
      (letter_line 1 ∷ numbered_line 1 (codes "b") ∷ []) [] → ⊥
