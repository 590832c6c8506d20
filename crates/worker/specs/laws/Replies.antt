-- What the last slice or batch of a life has answered, among what happened in it (this project's
-- own).
use Rattle.std.specs.Prelude.{◌≡◌, ◌⊎◌, ℕ, ◌≤◌, List, [], ◌∷◌, ◌++◌, length, Ok}
use Rattle.wasm_syntax.specs.declared.module.Module.{Module}
use Rattle.wasm_rules.specs.Acceptance.{IsAccepted}
use Rattle.wasi_abi.specs.rules.Configs.{Settings}
use Rattle.machine.specs.rules.Offers.{offer}
use Rattle.process.specs.rules.Values.{ending_of}
use Rattle.state_image.specs.rules.ProcessImage.{Saved}
use Rattle.sector_disk.specs.rules.Medium.{Medium}
use Rattle.disk_layout.specs.rules.Places.{geometry_of, total_sectors}
use Rattle.disk_layout.specs.rules.Unsynced.{most_unsynced}
use Rattle.record_replay.specs.rules.Calls.{Giving, Taking, Exchange, Exchanges}
use Rattle.worker_store.specs.restart_theorem.Lives.{Act, Slice, Batch, Checkpoint, Upgrade, Reply}
use Rattle.worker_store.specs.restart_theorem.Lives.{Spent, Waits, Over, Event, Told, Asked, Opened}
use Rattle.worker_store.specs.restart_theorem.Lives.{Ended, told_in, Beginning, Inputs}
use Rattle.worker_store.specs.restart_theorem.Courses.{at_beginning, stage_after}
use Rattle.worker_store.specs.restart_theorem.Promises.{Promise, as_begun, promised, AreKept}
use Rattle.worker_store.specs.restart_theorem.Promises.{IsEnding}
use Rattle.worker_store.specs.restart_theorem.Holds.{KeepsPromise, KeepsBounds}
use Rattle.worker_store.specs.laws.Acts.{TakesSteps}
use Rattle.record_replay.specs.declared.slices.now.Now.{Now}
use Rattle.record_replay.specs.declared.slices.now.Now.TheVariants as now
use Rattle.worker.specs.rules.OneLife.{recipe, OneLife, IsOneLife}
use Rattle.worker.specs.rules.Scenes.{Surroundings}
use Rattle.worker.specs.laws.OneLife.{released_in}
use Rattle.worker.specs.laws.Uncut.{uncut}
use Rattle.worker.specs.rules.Outcomes.{life_outcome}

-- what a slice has answered, in the words of a life
abbrev pub reply_of : Now → Reply
reply_of now.Spent = Spent
reply_of now.Waiting = Waits
reply_of (now.Ended how) = Over (ending_of how)

-- What the last slice or batch that ends among these events has answered; where there is none,
-- what was answered before them.
abbrev pub reply_after : Reply → List Event → Reply
reply_after before [] = before
reply_after before (Told r is_taken ∷ events) = reply_after before events
reply_after before (Asked steps question said fits ∷ events) = reply_after before events
reply_after before (Opened held shown ∷ events) = reply_after before events
reply_after before (Ended (Slice fuel) reply held shown ∷ events) = reply_after reply events
reply_after before (Ended (Batch fuel most) reply held shown ∷ events) = reply_after reply events
reply_after before (Ended Checkpoint reply held shown ∷ events) = reply_after before events
reply_after before (Ended Upgrade reply held shown ∷ events) = reply_after before events

-- The last slice or batch among these events ends so, after others. It keeps what was promised
-- then: the process that it shows is one that all kept answers lead to.
pub record LastSliceEnds (m : Module) (config : Settings) (so_far : Promise) (begins : Beginning)
    (inputs : Inputs) (events : List Event) (reply : Reply) : Type 0 where
  pub front : List Event
  pub back : List Event
  pub act : Act
  pub takes_steps : TakesSteps act
  pub held : ℕ
  pub shown : Saved
  pub is : events ≡ front ++ (Ended act reply held shown ∷ back)
  pub none_later : (before : Reply) → reply_after before back ≡ before
  pub ends : IsEnding m config (promised so_far front)
      (stage_after (at_beginning begins inputs) front)
      (record { act = act; reply = reply; held = held; shown = shown })

-- The events of a life that begins so, with these exchanges. The power isn't cut in it. They keep
-- what was promised. Either its outcome is that the worker goes on, of which no more is said. Or
-- its last slice or batch has answered this outcome.
pub record EndsAsSaid (m : Module) (config : Settings) (so_far : Promise) (begins : Beginning)
    (acts : List Act) (exchanges : List Exchange) (outcome : Now) : Type 0 where
  pub events : List Event
  pub kept : AreKept m config (as_begun begins so_far)
      (at_beginning begins (uncut acts exchanges)) events
  pub told : told_in events ≡ released_in exchanges
  pub answered : (outcome ≡ now.Spent)
      ⊎ LastSliceEnds m config (as_begun begins so_far) begins (uncut acts exchanges) events
      (reply_of outcome)

-- so it is of each life without an error, on a disk with room for the worker
abbrev pub LivesEndAsSaid : {D S O : Type 0} → (D → Medium) → Giving S → Taking O → Type 0
LivesEndAsSaid {D} {S} {O} medium gives takes =
    (m : Module) (config : Settings) (bytes : List ℕ) (so_far : Promise) (acts : List Act)
    (found : Surroundings D S O) (one : OneLife D S O) → IsAccepted offer config.pages bytes m
    → (calls : IsOneLife medium gives takes (recipe bytes config) acts found one)
    → one.undone ≡ Ok []
    → total_sectors (geometry_of config (length bytes)) ≤ (medium found.disk).sectors
    → most_unsynced (geometry_of config (length bytes)) ≤ (medium found.disk).room
    → KeepsPromise m config so_far (medium found.disk)
    → KeepsBounds so_far.events (medium found.disk)
    → (exchanges : List Exchange)
    × Exchanges gives takes found.source found.outlet exchanges one.last.source one.last.outlet
    × EndsAsSaid m config so_far one.begins acts exchanges (life_outcome calls)
