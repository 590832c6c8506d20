-- What a process waits for (this project's own).
use Rattle.std.specs.Prelude.{◌≡◌, Option, Some, None}
use Rattle.wasi_abi.specs.declared.answer.Answer.{Answer}
use Rattle.wasi_abi.specs.declared.answer.Question.{Question}
use Rattle.process_rules.specs.Processes.{ProcessState, Guest}
use Rattle.process_rules.specs.Runs.{Wants, next_of, IsWanted}
use Rattle.process.specs.rules.Values.{ProcessValue, ShowsProcess}

-- It has not ended, and its next step wants an answer to this question. Or it takes none.
abbrev pub HasQuestion : Guest → ProcessState → Option Question → Type 0
HasQuestion guest p (Some question) = (p.ended ≡ None) × (next_of guest p None ≡ Wants question)
HasQuestion guest p None = p.ended ≡ None → (a : Answer) → IsWanted guest p (Some a) → ⊥

-- whichever process of the rules is shown
abbrev pub TellsQuestion : ProcessValue → Option Question → Type 0
TellsQuestion v question =
    (guest : Guest) (p : ProcessState) → ShowsProcess v guest p → HasQuestion guest p question
