-- What the exit status of a run says of its outlet (this project's own).
use Rattle.std.specs.Prelude.{◌≡◌, ◌⊎◌, true}
use Rattle.record_replay.specs.rules.Calls.{Taking}
use Rattle.worker.specs.rules.Outlets.{TakesEach, RefusesLast}
use Rattle.command_words.specs.rules.Printers.{PrinterState}
use Rattle.command_words.specs.declared.status.Status.{Status}
use Rattle.command_words.specs.declared.status.Status.TheVariants as exit

-- It took each line that was released, and the status is `Unwritten` only where a write of the
-- error output has failed. Or it answered a fault to the last one, and the status is `Unwritten`.
abbrev pub HeedsRefusal : {O : Type 0} → Taking O → O → O → PrinterState → Status → Type 0
HeedsRefusal takes outlet outlet' err' status =
    (TakesEach takes outlet outlet' × (status ≡ exit.Unwritten → err'.failed ≡ true))
    ⊎ (RefusesLast takes outlet outlet' × (status ≡ exit.Unwritten))
