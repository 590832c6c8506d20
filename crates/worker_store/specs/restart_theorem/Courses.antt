-- Where a life is between two events, and how it may end (this project's own).
use Rattle.std.specs.Prelude.{◌≡◌, ◌⊎◌, ℕ, ◌+◌, ◌-◌, ◌<◌, ◌≤◌, Bool, true, false, ◌||◌, List, []}
use Rattle.std.specs.Prelude.{◌∷◌, Option, Some, None, is_some, Ok, Err}
use Rattle.wasi_abi.specs.declared.numbers.TheConstants.{NUMBERS_END}
use Rattle.worker_store.specs.restart_theorem.Lives.{Act, Slice, Batch, Checkpoint, Upgrade}
use Rattle.worker_store.specs.restart_theorem.Lives.{SourceSaid, Inputs, Cause, OfDisk, OfSource}
use Rattle.worker_store.specs.restart_theorem.Lives.{OfAnswer, OfOutlet, OfMemory, OfBounds, Reply}
use Rattle.worker_store.specs.restart_theorem.Lives.{Over, Fails, Event, Told, Asked, Opened, Ended}
use Rattle.worker_store.specs.restart_theorem.Lives.{Beginning, Recovers, Creates, End, Finished}
use Rattle.worker_store.specs.restart_theorem.Lives.{Stopped, Failed}

-- what a life is doing
pub data Phase : Type 0 where
  -- it hasn't opened
  Shut : Phase
  -- it hasn't opened, and the outlet has refused a line of its recovery
  Unheard : Phase
  Open : Phase
  -- the process of so many steps has asked, and the source had none
  NoneThere : (steps : ℕ) → Phase
  -- source or outlet has failed the call
  Broken : (cause : Cause) → Phase
  -- a call has answered an error
  Closed : (cause : Cause) → Phase

-- where a life is
pub record Stage : Type 0 where
  pub phase : Phase
  -- what the source is still to say, the outlet to take, and the worker to do
  pub says : List SourceSaid
  pub takes : List Bool
  pub acts : List Act
  -- the step at which it opened, or the last call ended
  pub step : ℕ
  -- the number of the last line told in this life, or with which it opened
  pub line : Option ℕ
  -- whether it began by a creation, has asked, or its process has ended: then an upgrade may not
  -- refuse for lines that earlier lives may have told
  pub is_abreast : Bool

-- where a life begins by a recovery
abbrev pub at_first : Inputs → Stage
at_first inputs = record {
  phase = Shut;
  says = inputs.says;
  takes = inputs.takes;
  acts = inputs.acts;
  step = 0;
  line = None;
  is_abreast = false;
}

-- whether no earlier life can have told a line beyond what a life opens with: none had a worker
-- before a creation
abbrev pub abreast_from : Beginning → Bool
abreast_from Creates = true
abreast_from Recovers = false

-- where a life begins
abbrev pub at_beginning : Beginning → Inputs → Stage
at_beginning begins inputs = record (at_first inputs) { is_abreast = abreast_from begins }

-- ---- one event

-- a list without its first item
abbrev pub without_first : {X : Type 0} → List X → List X
without_first [] = []
without_first (x ∷ xs) = xs

-- what the source says next
abbrev pub first_said : List SourceSaid → SourceSaid
first_said [] = Ok None
first_said (said ∷ says) = said

-- whether the outlet takes the next line
abbrev pub first_taken : List Bool → Bool
first_taken [] = true
first_taken (is_taken ∷ takes) = is_taken

-- after a line that the outlet refused
abbrev pub phase_refused : Phase → Phase
phase_refused Shut = Unheard
phase_refused _ = Broken OfOutlet

-- after a release
abbrev pub phase_told : Phase → Bool → Phase
phase_told phase true = phase
phase_told phase false = phase_refused phase

-- after a question of a process of so many steps
abbrev pub phase_asked : ℕ → SourceSaid → Bool → Phase
phase_asked steps (Ok (Some a)) true = Open
phase_asked steps (Ok (Some a)) false = Broken OfAnswer
phase_asked steps (Ok None) fits = NoneThere steps
phase_asked steps (Err e) fits = Broken OfSource

-- after the end of a call
abbrev pub phase_ended : Reply → Phase
phase_ended (Fails cause) = Closed cause
phase_ended _ = Open

-- whether a life is abreast of earlier ones after a call that has answered so
abbrev pub abreast_by : Reply → Bool → Bool
abreast_by (Over why) is_abreast = true
abreast_by _ is_abreast = is_abreast

-- where a life is after an event
abbrev pub next_stage : Stage → Event → Stage
next_stage stage (Told r is_taken) = record stage {
  phase = phase_told stage.phase is_taken;
  takes = without_first stage.takes;
  line = Some r.number;
}
next_stage stage (Asked steps question said fits) = record stage {
  phase = phase_asked steps said fits;
  says = without_first stage.says;
  is_abreast = true;
}
next_stage stage (Opened held shown) = record stage {
  phase = Open;
  step = shown.steps;
  line = Some shown.lines;
  is_abreast = is_some shown.ended || stage.is_abreast;
}
next_stage stage (Ended act reply held shown) = record stage {
  phase = phase_ended reply;
  acts = without_first stage.acts;
  step = shown.steps;
  is_abreast = abreast_by reply stage.is_abreast;
}

-- where it is after these
abbrev pub stage_after : Stage → List Event → Stage
stage_after stage [] = stage
stage_after stage (e ∷ events) = stage_after (next_stage stage e) events

-- ---- what may come next

-- so many steps are within the slice or the batch that is under way
abbrev pub IsWithinSlice : List Act → ℕ → ℕ → Type 0
IsWithinSlice (Slice fuel ∷ acts) step steps = (step ≤ steps) × (steps ≤ step + fuel)
IsWithinSlice (Batch fuel most ∷ acts) step steps = (step ≤ steps) × (steps ≤ step + fuel)
IsWithinSlice (Checkpoint ∷ acts) step steps = ⊥
IsWithinSlice (Upgrade ∷ acts) step steps = ⊥
IsWithinSlice [] step steps = ⊥

-- The last question has ended the call: the source had none, failed, or gave what doesn't fit.
abbrev pub HasLastAsked : Phase → Type 0
HasLastAsked (NoneThere steps) = Unit {0}
HasLastAsked (Broken OfSource) = Unit {0}
HasLastAsked (Broken OfAnswer) = Unit {0}
HasLastAsked _ = ⊥

-- a batch is under way
abbrev pub IsInBatch : List Act → Type 0
IsInBatch (Batch fuel most ∷ acts) = Unit {0}
IsInBatch _ = ⊥

-- A line is told in a recovery, or in a slice that has come to its step. In a batch, and nowhere
-- else, those that wait are told also after its last question, unless the outlet has refused one.
abbrev pub IsToldIn : Phase → List Act → ℕ → ℕ → Type 0
IsToldIn Shut acts step steps = Unit {0}
IsToldIn Open acts step steps = IsWithinSlice acts step steps
IsToldIn phase acts step steps =
    HasLastAsked phase × IsInBatch acts × IsWithinSlice acts step steps

-- All lines of a process that asks were told. In a batch fewer than `most` of them may wait.
abbrev pub AreToldBy : List Act → Option ℕ → ℕ → Type 0
AreToldBy (Batch fuel most ∷ acts) (Some told) lines = (told ≤ lines) × (lines ≤ told + (most - 1))
AreToldBy acts line lines = line ≡ Some lines

-- A question is asked in a slice or a batch, with fuel for one more step.
abbrev pub IsAskedIn : Phase → List Act → ℕ → ℕ → Type 0
IsAskedIn Open acts step steps =
    IsWithinSlice acts step steps × IsWithinSlice acts step (steps + 1)
IsAskedIn _ acts step steps = ⊥

-- the number after the last one of this life; the first one of a recovery may be any
abbrev pub ComesAfter : Option ℕ → ℕ → Type 0
ComesAfter None number = Unit {0}
ComesAfter (Some last) number = number ≡ last + 1

-- the last line told in this life, if there is one, is of this number
abbrev pub IsLast : Option ℕ → ℕ → Type 0
IsLast None number = Unit {0}
IsLast (Some last) number = last ≡ number

-- what the worker is to do next
abbrev pub IsNextAct : Act → List Act → Type 0
IsNextAct act [] = ⊥
IsNextAct act (first ∷ acts) = act ≡ first

-- ---- errors, and ends

-- What an error of the call that is under way may come from. If a source or an outlet failed it, it
-- is from that and from nothing else. Or it is from the disk, memory, or a number at its end.
abbrev pub MayFail : Phase → Cause → Type 0
MayFail (Broken why) cause = cause ≡ why
MayFail Open OfDisk = Unit {0}
MayFail Open OfMemory = Unit {0}
MayFail Open OfBounds = Unit {0}
MayFail _ cause = ⊥

-- What an error of a batch may come from. The disk may fail it also behind its last question,
-- before the lines that wait are told.
abbrev pub MayFailBatch : Phase → Cause → Type 0
MayFailBatch phase OfDisk = MayFail phase OfDisk ⊎ HasLastAsked phase
MayFailBatch phase cause = MayFail phase cause

-- How a life ends by an error: that of its last call, or one of its recovery or creation. A
-- generation is at its end only where so much has happened.
abbrev pub HasFailed : ℕ → Phase → Cause → Type 0
HasFailed events (Closed why) cause = cause ≡ why
HasFailed events Unheard OfOutlet = Unit {0}
HasFailed events Shut OfDisk = Unit {0}
HasFailed events Shut OfMemory = Unit {0}
HasFailed events Shut OfBounds = NUMBERS_END ≤ events + 1
HasFailed events _ cause = ⊥

-- an error of the disk comes from a call that was to fail, and was begun
abbrev pub HasDiskFault : Option ℕ → Cause → ℕ → Type 0
HasDiskFault (Some k) OfDisk calls = k ≤ calls
HasDiskFault None OfDisk calls = ⊥
HasDiskFault fails _ calls = Unit {0}

-- the call at which the power is cut was begun
abbrev pub HasStopped : Option ℕ → ℕ → Type 0
HasStopped None calls = ⊥
HasStopped (Some stop) calls = stop ≤ calls

-- it was not
abbrev pub HasNotStopped : Option ℕ → ℕ → Type 0
HasNotStopped None calls = Unit {0}
HasNotStopped (Some stop) calls = calls < stop

-- a worker that sees the stop at all sees a fault of the disk
abbrev pub IsCutIn : Phase → Type 0
IsCutIn (Closed cause) = cause ≡ OfDisk
IsCutIn _ = Unit {0}

-- A life ends when all is done, when its stop has come, or by an error that has a cause.
abbrev pub MayEnd : Inputs → ℕ → ℕ → Stage → End → Type 0
MayEnd inputs events calls stage Finished =
    (stage.phase ≡ Open) × (stage.acts ≡ []) × HasNotStopped inputs.stop calls
MayEnd inputs events calls stage Stopped =
    IsCutIn stage.phase × HasStopped inputs.stop calls
MayEnd inputs events calls stage (Failed cause) = HasFailed events stage.phase cause
    × HasDiskFault inputs.fails cause calls × HasNotStopped inputs.stop calls
