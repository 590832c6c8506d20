-- Where a worker is, for whoever watches a run (this project's own).
use Rattle.std.specs.Prelude.{◌≡◌, ◌≢◌, ◌<◌, ◌^◌, ℕ, Bool, IsTrue, List, ◌++◌}
use Rattle.std.specs.Prelude.{Option, None, Some, IfSome, codes}
use Rattle.process.specs.declared.stop.ProcessEnd.TheVariants as end
use Rattle.process.specs.rules.Values.{ending_of}
use Rattle.record_replay.specs.declared.slices.now.Now.{Now}
use Rattle.record_replay.specs.declared.slices.now.Now.TheVariants as now
use Rattle.worker.specs.declared.position.Position.{Position}
use Rattle.worker.specs.rules.DurableValues.{DurableValue}
use Rattle.worker.specs.rules.Positions.{position_of}
use Rattle.command_words.specs.rules.Printers.{PrinterState}
use Rattle.command_words.specs.rules.Texts.{named_number}
use Rattle.command_words.specs.declared.status.Status.{Status}
use Rattle.command_words.specs.declared.status.Status.TheVariants as exit
use Rattle.disk_commands.specs.declared.on_disk.sighting.Sighting.{Sighting}
use Rattle.disk_commands.specs.declared.on_disk.sighting.WatchedState.{WatchedState}
use Rattle.disk_commands.specs.declared.on_disk.sighting.WatchedState.TheVariants as state
use Rattle.disk_commands.specs.rules.LastWords.{SaysOver, ended_by, last_words}

-- ---- where it is

-- what a worker is whose slice has answered this
abbrev pub state_after : Now → WatchedState
state_after now.Spent = state.Running
state_after now.Waiting = state.Parked
state_after (now.Ended how) = state.Ended how

-- these numbers, and what it is
abbrev pub sighting : Position → WatchedState → Sighting
sighting position is = record { position = position; state = is }

-- A worker whose last slice has answered this. Its numbers are those of the process as it is then,
-- saved or not.
abbrev pub sighting_of : DurableValue → Now → Sighting
sighting_of w said = sighting (position_of w) (state_after said)

-- ---- its line

-- a worker that runs on or waits, or the last words of one that is over
abbrev pub watch_words : WatchedState → List ℕ
watch_words state.Running = codes "running\n"
watch_words state.Waiting = codes "waits for a request\n"
watch_words state.Parked = last_words None
watch_words (state.Ended how) = last_words (Some (ending_of how))

-- how many sectors of its journal are left, and these words; old programs leave the number out
abbrev pub left_words : Option ℕ → WatchedState → List ℕ
left_words (Some left) is =
    named_number (codes "journal_left ") left ++ codes " " ++ watch_words is
left_words None is = watch_words is

-- how many requests it has taken, and those words; older programs leave out this number, too
abbrev pub state_words : Option ℕ → Option ℕ → WatchedState → List ℕ
state_words (Some requests) left is =
    named_number (codes "requests ") requests ++ codes " " ++ left_words left is
state_words None left is = watch_words is

-- the line over its numbers, and what the worker is
abbrev pub status_line : ℕ → ℕ → ℕ → ℕ → Option ℕ → Option ℕ → WatchedState → List ℕ
status_line generation steps answers lines requests left is =
    named_number (codes "generation ") generation ++ named_number (codes " steps ") steps
    ++ named_number (codes " answers ") answers ++ named_number (codes " lines ") lines
    ++ codes " " ++ state_words requests left is

-- the line of a worker that was seen so
abbrev pub watch_line : Sighting → List ℕ
watch_line seen = status_line seen.position.generation seen.position.steps seen.position.answers
    seen.position.lines (Some seen.position.requests) (Some seen.position.journal_left) seen.state

-- an exit code has 32 bits
abbrev pub HasCodeInRange : WatchedState → Type 0
HasCodeInRange state.Running = Unit {0}
HasCodeInRange state.Waiting = Unit {0}
HasCodeInRange state.Parked = Unit {0}
HasCodeInRange (state.Ended (end.Exited code)) = code < 2 ^ 32
HasCodeInRange (state.Ended (end.Trapped why)) = Unit {0}

-- The bytes are the line of some numbers of 64 bits, of a worker that runs on, waits or is over.
pub record IsStatusLine (bytes : List ℕ) : Type 0 where
  pub generation : ℕ
  pub steps : ℕ
  pub answers : ℕ
  pub lines : ℕ
  pub requests : Option ℕ
  pub left : Option ℕ
  pub is : WatchedState
  pub numbers_fit : (generation < 2 ^ 64) × (steps < 2 ^ 64) × (answers < 2 ^ 64) × (lines < 2 ^ 64)
  pub requests_fit : IfSome requests (λ n. n < 2 ^ 64)
  pub left_fits : IfSome left (λ n. n < 2 ^ 64)
  pub code_fits : HasCodeInRange is
  pub spelled : bytes ≡ status_line generation steps answers lines requests left is

-- ---- at the end

-- Where the status is `Done`, a worker that is over was told to the watcher. The last words are of
-- the same end.
abbrev pub WatchesEnd : (DurableValue → Now → Bool) → PrinterState → Status → Type 0
WatchesEnd is_notified err' status = status ≡ exit.Done
    → (w : DurableValue) × (said : Now) × (between : PrinterState) × (heard : Bool) × (taken : ℕ)
    × (bytes : Option (List ℕ)) × (said ≢ now.Spent) × IsTrue (is_notified w said)
    × SaysOver bytes heard (ended_by said) taken between status err'
