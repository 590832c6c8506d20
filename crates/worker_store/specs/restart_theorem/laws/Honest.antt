-- Honest stories, of which the restart theorem holds. A worker tells two requests again. Whatever
-- the module, it reads the first request when it has come to step 5, and tells its line. It reads
-- the second at 27, and tells that one's line by step 42.
use Rattle.std.specs.Prelude.{◌≡◌, ◌≤◌, ℕ, true, false, List, [], ◌∷◌, length, Some, None}
use Rattle.std.specs.Prelude.{Ok, slice_get}
use Rattle.wasm_syntax.specs.declared.module.Module.{Module}
use Rattle.wasi_abi.specs.declared.answer.Question.{Question}
use Rattle.wasi_abi.specs.declared.answer.Answer.{Answer}
use Rattle.wasi_abi.specs.rules.Answers.{Fits}
use Rattle.wasi_abi.specs.rules.Configs.{Settings}
use Rattle.wasi_abi.specs.declared.version.Version.TheVariants.{Two}
use Rattle.wasi_abi.specs.rules.Versions.{text_limit}
use Rattle.wasi_calls_rules.specs.WasiStates.{Line}
use Rattle.process_rules.specs.Processes.{ProcessState}
use Rattle.process_rules.specs.Runs.{Kept, Given, Wider, Wants, next_of, Reaches}
use Rattle.disk_layout.specs.rules.Journal.{TakesRecords}
use Rattle.state_image.specs.rules.ProcessImage.{Saved}
use Rattle.worker_store.specs.restart_theorem.Lives.{Slice, Checkpoint, Upgrade, SourceSaid, Inputs}
use Rattle.worker_store.specs.restart_theorem.Lives.{Release, OfDisk, OfOutlet, OfMemory, Spent}
use Rattle.worker_store.specs.restart_theorem.Lives.{Waits, Done, Fails, Event, Told, Asked, Opened}
use Rattle.worker_store.specs.restart_theorem.Lives.{Ended, Finished, Stopped, Failed, Life}
use Rattle.worker_store.specs.restart_theorem.Promises.{IsAt, GoesOn}
use Rattle.worker_store.specs.restart_theorem.laws.Refused.{in_peace, created_life, recovered_life}

-- ---- a module that tells two requests again

-- a process that has told so many lines asks for this answer
pub record AsksThis (m : Module) (config : Settings) (kept : List Kept) (steps : ℕ)
    (question : Question) (answer : Answer) (lines : ℕ) : Type 0 where
  pub process : ProcessState
  pub reached : Reaches m config kept steps process
  pub running : process.ended ≡ None
  pub wants : next_of reached.guest process None ≡ Wants question
  pub fits : Fits (text_limit process.host.version) question answer
  pub told : length process.host.lines ≡ lines

-- by some step within these it has emitted this line, at this place
pub record HasLine (m : Module) (config : Settings) (kept : List Kept) (place from to : ℕ)
    (line : Line) : Type 0 where
  pub steps : ℕ
  pub late : from ≤ steps
  pub early : steps ≤ to
  pub process : ProcessState
  pub reached : Reaches m config kept steps process
  pub is : slice_get process.host.lines place ≡ Some line

-- what the worker shows after so many steps, which have emitted so many lines
pub record ShowsAt (m : Module) (config : Settings) (kept : List Kept) (steps lines : ℕ)
    : Type 0 where
  pub saved : Saved
  pub at : IsAt m config kept saved.steps saved
  pub counted : saved.steps ≡ steps
  pub lines_are : saved.lines ≡ lines
  pub running : saved.ended ≡ None

-- what such a module comes to
pub record Teller (m : Module) (config : Settings) : Type 0 where
  pub question : Question
  pub hello : Answer
  pub world : Answer
  pub first : Line
  pub second : Line
  pub fresh : ShowsAt m config [] 0 0
  pub asks_first : AsksThis m config [] 5 question hello 0
  -- after the first answer; behind its line; and where it asks again
  pub answered : ShowsAt m config (Given hello ∷ []) 6 0
  pub has_first : HasLine m config (Given hello ∷ []) 0 6 27 first
  pub emitted : ShowsAt m config (Given hello ∷ []) 17 1
  pub asks_second : AsksThis m config (Given hello ∷ []) 27 question world 1
  pub asking : ShowsAt m config (Given hello ∷ []) 27 1
  -- after the second answer, and behind its line
  pub replayed : ShowsAt m config (Given hello ∷ Given world ∷ []) 28 1
  pub has_second : HasLine m config (Given hello ∷ Given world ∷ []) 1 28 42 second
  pub later : ShowsAt m config (Given hello ∷ Given world ∷ []) 42 2

-- ---- its lives

module _ {m : Module} {config : Settings} (t : Teller m config) where
  abbrev pub line_one : Release
  line_one = record { number = 1; line = t.first }

  abbrev pub line_two : Release
  line_two = record { number = 2; line = t.second }

  abbrev pub both_requests : List SourceSaid
  both_requests = Ok (Some t.hello) ∷ Ok (Some t.world) ∷ []

  abbrev pub asked_first : Event
  asked_first = Asked 5 t.question (Ok (Some t.hello)) true

  abbrev pub asked_second : Event
  asked_second = Asked 27 t.question (Ok (Some t.world)) true

  -- both requests in one slice of 42 steps, and what comes then
  abbrev pub both_told : List Event → List Event
  both_told more = Opened 0 t.fresh.saved ∷ asked_first ∷ Told line_one true ∷ asked_second
      ∷ Told line_two true ∷ Ended (Slice 42) Spent 2 t.later.saved ∷ more

  abbrev pub begin_life : Life
  begin_life = created_life (both_told []) 40 Finished

  -- A restart from the journal: the first line is told again, and the life opens where the second
  -- answer was taken.
  abbrev pub replaying_life : Life
  replaying_life = recovered_life (Told line_one true ∷ Opened 2 t.replayed.saved ∷ []) 30 Finished

  -- the next one finds what that opened with, and tells nothing
  abbrev pub quiet_life : Life
  quiet_life = recovered_life (Opened 2 t.replayed.saved ∷ []) 30 Finished

  -- the power is cut in the recovery, behind the line
  abbrev pub cut_recovery : Life
  cut_recovery = recovered_life (Told line_one true ∷ []) 20 Stopped

  -- the recovery finds no memory, before it tells anything
  abbrev pub poor_recovery : Life
  poor_recovery = recovered_life [] 12 (Failed OfMemory)

  -- with a checkpoint before the cut, after which a restart tells nothing
  abbrev pub saving_life : Life
  saving_life = created_life (both_told (Ended Checkpoint Done 2 t.later.saved ∷ [])) 60 Finished

  abbrev pub later_life : Life
  later_life = recovered_life (Opened 2 t.later.saved ∷ []) 30 Finished

  -- an outlet that refuses the first line, and the life after it, which tells it again
  abbrev pub refused_life : Life
  refused_life = created_life (Opened 0 t.fresh.saved ∷ asked_first ∷ Told line_one false
      ∷ Ended (Slice 42) (Fails OfOutlet) 1 t.emitted.saved ∷ []) 40 (Failed OfOutlet)

  abbrev pub telling_life : Life
  telling_life = recovered_life (Opened 1 t.answered.saved ∷ Told line_one true
      ∷ Asked 27 t.question (Ok None) true ∷ Ended (Slice 22) Waits 1 t.asking.saved
      ∷ []) 30 Finished

  abbrev pub nothing_to_do : Inputs
  nothing_to_do = in_peace [] []

  abbrev pub slice_42 : Inputs
  slice_42 = in_peace both_requests (Slice 42 ∷ [])

  pub record HonestStories : Type 0 where
    -- two requests, a cut, and two restarts
    pub replayed : GoesOn m config (slice_42 ∷ nothing_to_do ∷ nothing_to_do ∷ [])
        (begin_life ∷ replaying_life ∷ quiet_life ∷ [])
    -- with a checkpoint
    pub saved : GoesOn m config
        (in_peace both_requests (Slice 42 ∷ Checkpoint ∷ []) ∷ nothing_to_do ∷ [])
        (saving_life ∷ later_life ∷ [])
    -- one life is cut inside its recovery, the next finds no memory, the third opens
    pub in_the_end : GoesOn m config
        (slice_42 ∷ record nothing_to_do { stop = Some 20 } ∷ nothing_to_do ∷ nothing_to_do ∷ [])
        (begin_life ∷ cut_recovery ∷ poor_recovery ∷ replaying_life ∷ [])
    -- the refused line is told again
    pub told_again : GoesOn m config
        (record slice_42 { takes = false ∷ [] } ∷ in_peace [] (Slice 22 ∷ []) ∷ [])
        (refused_life ∷ telling_life ∷ [])

-- ---- upgrades

-- what it shows in version 2, after 20 steps and one line
abbrev pub as_upgraded : Saved → Saved
as_upgraded s = record s { version = Two; steps = 20; lines = 1 }

-- Such a module may be upgraded after 20 steps, which have emitted its first line. Its journal
-- takes each record of version 2.
pub record Upgraded {m : Module} {config : Settings} (t : Teller m config) : Type 0 where
  pub resting : ShowsAt m config (Given t.hello ∷ []) 20 1
  pub told : t.has_first.steps ≤ 20
  pub wide : Saved
  pub at : IsAt m config (Given t.hello ∷ Wider 20 ∷ []) 20 (as_upgraded wide)
  pub room : TakesRecords Two config.journal

module _ {m : Module} {config : Settings} (t : Teller m config) (u : Upgraded t) where
  -- a slice of 20 steps, and what comes then
  abbrev pub one_told : List Event → List Event
  one_told more = Opened 0 t.fresh.saved ∷ asked_first t ∷ Told (line_one t) true
      ∷ Ended (Slice 20) Spent 1 u.resting.saved ∷ more

  -- it is upgraded then
  abbrev pub upgraded_life : Life
  upgraded_life =
      created_life (one_told (Ended Upgrade Done 2 (as_upgraded u.wide) ∷ [])) 60 Finished

  -- the power is cut in the upgrade
  abbrev pub cut_upgrade : Life
  cut_upgrade =
      created_life (one_told (Ended Upgrade (Fails OfDisk) 2 (as_upgraded u.wide) ∷ [])) 50 Stopped

  -- A restart finds it in version 2, with the widening among the answers.
  abbrev pub wide_life : Life
  wide_life = recovered_life (Opened 2 (as_upgraded u.wide) ∷ []) 30 Finished

  -- One that finds nothing of the upgrade opens where the answer was taken.
  abbrev pub narrow_life : Life
  narrow_life = recovered_life (Opened 1 t.answered.saved ∷ []) 30 Finished

  abbrev pub upgrade_at_20 : Inputs
  upgrade_at_20 = in_peace (Ok (Some t.hello) ∷ []) (Slice 20 ∷ Upgrade ∷ [])

  pub record HonestUpgrades : Type 0 where
    -- an upgrade, a cut, and two restarts in version 2
    pub done : GoesOn m config (upgrade_at_20 ∷ nothing_to_do t ∷ nothing_to_do t ∷ [])
        (upgraded_life ∷ wide_life ∷ wide_life ∷ [])
    -- a cut in the upgrade, before its head is on the disk or after it
    pub not_begun : GoesOn m config
        (record upgrade_at_20 { stop = Some 50 } ∷ nothing_to_do t ∷ [])
        (cut_upgrade ∷ narrow_life ∷ [])
    pub begun : GoesOn m config
        (record upgrade_at_20 { stop = Some 50 } ∷ nothing_to_do t ∷ nothing_to_do t ∷ [])
        (cut_upgrade ∷ wide_life ∷ wide_life ∷ [])
