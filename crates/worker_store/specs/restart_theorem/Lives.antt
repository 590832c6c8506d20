-- The lives of a worker: what is put into each, and what then happens, in order (this project's
-- own).
use Rattle.std.specs.Prelude.{ℕ, Bool, true, false, List, [], ◌∷◌, ◌++◌, take}
use Rattle.std.specs.Prelude.{Option, Some, None, Result, Ok, Err}
use Rattle.wasi_abi.specs.declared.answer.Question.{Question}
use Rattle.wasi_abi.specs.declared.answer.Answer.{Answer}
use Rattle.wasi_abi.specs.declared.version.Version.{Version}
use Rattle.wasi_abi.specs.declared.version.Version.TheVariants.{One, Two}
use Rattle.wasi_calls_rules.specs.WasiStates.{Line}
use Rattle.process_rules.specs.Processes.{Ending}
use Rattle.process_rules.specs.Runs.{Kept, Given, Wider, version_after}
use Rattle.record_replay.specs.declared.fault.SourceFault.{SourceFault}
use Rattle.state_image.specs.rules.ProcessImage.{Saved}

-- ---- what is put into a life

-- The calls of a worker that is open. A batch is a slice in which fewer than `most` lines may wait
-- while it goes on. An upgrade saves the worker as one of version 2.
pub data Act : Type 0 where
  Slice : (fuel : ℕ) → Act
  Batch : (fuel most : ℕ) → Act
  Checkpoint : Act
  Upgrade : Act

-- what a source says to a question: an answer, that it has none now, or a fault
abbrev pub SourceSaid : Type 0
SourceSaid = Result (Option Answer) SourceFault

-- Any source and any outlet are covered: what they did in one life is such a list.
pub record Inputs : Type 0 where
  -- what the source says to the questions, one after another; from then on it has none
  pub says : List SourceSaid
  -- whether the outlet takes each release; from then on it takes all
  pub takes : List Bool
  -- what the worker is told to do
  pub acts : List Act
  -- the call of the disk, from 1 on, at which the power is cut
  pub stop : Option ℕ
  -- the first call of the disk, from 1 on, that answers an error while there is power
  pub fails : Option ℕ

-- ---- what happens in a life

-- a line that was released, or whose release was begun, with its number from 1 on
pub record Release : Type 0 where
  pub number : ℕ
  pub line : Line

-- why a call of a life answers an error
pub data Cause : Type 0 where
  OfDisk : Cause
  OfSource : Cause
  -- the source handed over an answer that doesn't fit
  OfAnswer : Cause
  OfOutlet : Cause
  OfMemory : Cause
  -- a number would reach its end
  OfBounds : Cause
  -- the journal can't take each record of version 2
  OfJournal : Cause
  -- lines beyond the process may have been told
  OfLines : Cause

-- What a call answers. A slice or a batch says that its steps are taken, that an answer isn't
-- there, or that the process has ended. A checkpoint and an upgrade say that they are done.
pub data Reply : Type 0 where
  Spent : Reply
  Waits : Reply
  Over : (why : Ending) → Reply
  Done : Reply
  Fails : (cause : Cause) → Reply

-- What happens in a life, in order. In `held` is how many of the kept answers the process shown
-- has taken.
pub data Event : Type 0 where
  -- a release was begun, and whether the outlet took it
  Told : (release : Release) (is_taken : Bool) → Event
  -- a process of so many steps has asked, and what the source said: an answer fits or it doesn't
  Asked : (steps : ℕ) (question : Question) (said : SourceSaid) (fits : Bool) → Event
  -- the life opened with this process
  Opened : (held : ℕ) (shown : Saved) → Event
  -- a call ended, by Ok or not, with this process
  Ended : (act : Act) (reply : Reply) (held : ℕ) (shown : Saved) → Event

-- how a life begins: by a recovery, or, where that found no worker, by a creation
pub data Beginning : Type 0 where
  Recovers : Beginning
  Creates : Beginning

-- How a life ends. All that it was told to do is done, and then the power is cut. Or the stop that
-- was put into it came. Or a call answered another error.
pub data End : Type 0 where
  Finished : End
  Stopped : End
  Failed : (cause : Cause) → End

-- a life, with the number of calls of the disk that were begun in it
pub record Life : Type 0 where
  pub begins : Beginning
  pub events : List Event
  pub calls : ℕ
  pub ends : End

-- ---- what is read off events

-- the events of all lives, in order
abbrev pub events_of : List Life → List Event
events_of [] = []
events_of (life ∷ lives) = life.events ++ events_of lives

-- what a question adds to what is kept: an answer that fits
abbrev pub kept_of_said : SourceSaid → Bool → List Kept
kept_of_said (Ok (Some a)) true = Given a ∷ []
kept_of_said (Ok (Some a)) false = []
kept_of_said (Ok None) fits = []
kept_of_said (Err e) fits = []

-- what is kept once a process of the one version is shown in the other, after so many steps
abbrev pub kept_by_widening : Version → Version → ℕ → List Kept → List Kept
kept_by_widening One Two steps kept = kept ++ Wider steps ∷ []
kept_by_widening before now steps kept = kept

-- What is kept once a call has ended. Only an upgrade adds to it: that the process which it shows
-- was widened, whether or not the call failed then.
abbrev pub kept_by_end : Act → Saved → List Kept → List Kept
kept_by_end Upgrade shown kept =
    kept_by_widening (version_after kept) shown.version shown.steps kept
kept_by_end act shown kept = kept

-- what is kept after these events; a life that opens goes on from those that it holds
abbrev pub kept_after : List Kept → List Event → List Kept
kept_after kept [] = kept
kept_after kept (Told r is_taken ∷ events) = kept_after kept events
kept_after kept (Asked steps question said fits ∷ events) =
    kept_after (kept ++ kept_of_said said fits) events
kept_after kept (Opened held shown ∷ events) = kept_after (take held kept) events
kept_after kept (Ended act reply held shown ∷ events) =
    kept_after (kept_by_end act shown kept) events

-- the kept answers: those that the lives so far build on
abbrev pub kept_answers : List Life → List Kept
kept_answers lives = kept_after [] (events_of lives)

-- the releases among the events
abbrev pub told_in : List Event → List Release
told_in [] = []
told_in (Told r is_taken ∷ events) = r ∷ told_in events
told_in (Asked steps question said fits ∷ events) = told_in events
told_in (Opened held shown ∷ events) = told_in events
told_in (Ended act reply held shown ∷ events) = told_in events

-- all lines that were told, over all lives
abbrev pub told_lines : List Life → List Release
told_lines lives = told_in (events_of lives)
