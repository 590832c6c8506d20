-- Answers on record, and where they lead (this project's own).
use Rattle.std.specs.Prelude.{ℕ, List, [], ◌∷◌, Some}
use Rattle.wasi_abi.specs.declared.answer.Answer.{Answer}
use Rattle.disk_layout.specs.declared.record.Record.{Record}
use Rattle.process_rules.specs.Processes.{ProcessState, Guest}
use Rattle.process_rules.specs.Runs.{Kept, Given, Moves, Runs}

-- From one process to another by steps of which each that takes an answer is on record, in order,
-- with its count.
pub data Recorded (guest : Guest) : ProcessState → List Record → ProcessState → Type 0 where
  none : {p : ProcessState} → Recorded guest p [] p
  more : {p q r s : ProcessState} {a : Answer} {n : ℕ} {records : List Record}
      → Runs guest p [] n q → Moves guest q (Some a) r → Recorded guest r records s
      → Recorded guest p (record { step = r.steps; answer = a } ∷ records) s

-- the answer of a record, as it is kept
abbrev pub given_in : Record → Kept
given_in r = Given r.answer
