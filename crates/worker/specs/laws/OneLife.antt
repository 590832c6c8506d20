-- The life that the calls of one life make, whatever was put into it (this project's own).
use Rattle.std.specs.Prelude.{◌≡◌, ◌⊎◌, ℕ, Bool, ◌+◌, ◌<◌, ◌≤◌, List, [], ◌∷◌, length, Option}
use Rattle.std.specs.Prelude.{Result, Ok, Err}
use Rattle.wasm_syntax.specs.declared.module.Module.{Module}
use Rattle.wasm_rules.specs.Acceptance.{IsAccepted}
use Rattle.wasi_abi.specs.rules.Configs.{Settings}
use Rattle.machine.specs.rules.Offers.{offer}
use Rattle.sector_disk.specs.rules.Medium.{Medium}
use Rattle.disk_layout.specs.rules.Places.{geometry_of, total_sectors}
use Rattle.disk_layout.specs.rules.Unsynced.{most_unsynced}
use Rattle.record_replay.specs.rules.Calls.{Giving, Taking, Exchange, Asks, Tells, Exchanges}
use Rattle.worker_store.specs.restart_theorem.Lives.{Act, SourceSaid, Inputs, Release, OfDisk}
use Rattle.worker_store.specs.restart_theorem.Lives.{told_in, Beginning, End, Finished, Stopped}
use Rattle.worker_store.specs.restart_theorem.Lives.{Failed, Life}
use Rattle.worker_store.specs.restart_theorem.Courses.{HasDiskFault, HasStopped, HasNotStopped}
use Rattle.worker_store.specs.restart_theorem.Promises.{Promise}
use Rattle.worker_store.specs.restart_theorem.Holds.{KeepsPromise, KeepsBounds}
use Rattle.worker_store.specs.restart_theorem.Between.{IsLivedOn}
use Rattle.worker_store.specs.restart_theorem.Exchanges.{was_taken, release_of}
use Rattle.worker_store.specs.rules.BetweenCalls.{Foretell}
use Rattle.worker.specs.declared.recover_fault.RecoverFault.{RecoverFault}
use Rattle.worker.specs.rules.CallCounts.{CallsForEvents}
use Rattle.worker.specs.rules.DurableValues.{DurableValue}
use Rattle.worker.specs.rules.OneLife.{recipe, OneLife, IsOneLife, opened_in, shown_first}
use Rattle.worker.specs.rules.OneLife.{IsCauseOf}
use Rattle.worker.specs.rules.Scenes.{Surroundings}

-- ---- what was put into it

-- a life that is not over has been stopped
abbrev pub IsLifeOver : Inputs → ℕ → Result (List Act) RecoverFault → Type 0
IsLifeOver inputs calls (Ok (act ∷ acts)) = HasStopped inputs.stop calls
IsLifeOver inputs calls _ = Unit {0}

-- the same disk later
pub record IsLater (old new : Medium) : Type 0 where
  pub sectors : new.sectors ≡ old.sectors
  pub fault_plan : new.fault_plan ≡ old.fault_plan
  pub room : new.room ≡ old.room
  pub faults : old.faults ≤ new.faults

-- What was put into a life came true: source and outlet said and took what they were to. The disk
-- has room for the worker of these bytes. So many of its calls were begun, and it has failed only
-- where one of them was to fail or to stop.
pub record CameTrue (bytes : List ℕ) (config : Settings) (inputs : Inputs)
    (exchanges : List Exchange) (undone : Result (List Act) RecoverFault) (calls : ℕ)
    (found last : Medium) : Type 0 where
  pub foretold : Foretell inputs.says inputs.takes exchanges
  pub sectors : total_sectors (geometry_of config (length bytes)) ≤ found.sectors
  pub room : most_unsynced (geometry_of config (length bytes)) ≤ found.room
  pub faults : IsLater found last → found.faults < last.faults
      → HasDiskFault inputs.fails OfDisk calls ⊎ HasStopped inputs.stop calls
  pub over : IsLifeOver inputs calls undone

-- ---- what is read off the life

-- the releases among the exchanges
abbrev pub released_in : List Exchange → List Release
released_in [] = []
released_in (Tells begun ∷ exchanges) = release_of begun ∷ released_in exchanges
released_in (Asks ask ∷ exchanges) = released_in exchanges

-- All was done, or the stop came, or an error ended it.
abbrev pub EndsBy : Inputs → ℕ → Result (List Act) RecoverFault → End → Type 0
EndsBy inputs calls undone Finished = (undone ≡ Ok []) × HasNotStopped inputs.stop calls
EndsBy inputs calls undone Stopped = HasStopped inputs.stop calls
EndsBy inputs calls undone (Failed cause) = (why : RecoverFault) × (undone ≡ Err why)
    × IsCauseOf why cause × HasNotStopped inputs.stop calls

-- the life that these calls make
pub record IsLifeOf (inputs : Inputs) (begins : Beginning) (exchanges : List Exchange)
    (worker : Option DurableValue) (undone : Result (List Act) RecoverFault) (calls : ℕ)
    (life : Life) : Type 0 where
  pub begins_so : life.begins ≡ begins
  pub told : told_in life.events ≡ released_in exchanges
  pub shown : opened_in life.events ≡ shown_first worker
  pub counted : life.calls ≡ calls
  pub ends : EndsBy inputs calls undone life.ends

-- ---- the law

-- Take the calls of one life, each as its clause says, on a disk that keeps what was promised. They
-- exchange something with source and outlet. Whatever was put in that this makes true, they are a
-- life that goes on from all that was promised. It leaves a disk that keeps what is promised then.
-- Few calls of the disk are begun before each of its events, and after the last one.
abbrev pub CallsMakeLives : {D S O : Type 0} → (D → Medium) → Giving S → Taking O → Type 0
CallsMakeLives {D} {S} {O} medium gives takes =
    (m : Module) (config : Settings) (bytes : List ℕ) (so_far : Promise) (acts : List Act)
    (found : Surroundings D S O) (one : OneLife D S O) → IsAccepted offer config.pages bytes m
    → IsOneLife medium gives takes (recipe bytes config) acts found one
    → KeepsPromise m config so_far (medium found.disk)
    → KeepsBounds so_far.events (medium found.disk)
    → (exchanges : List Exchange)
    × Exchanges gives takes found.source found.outlet exchanges one.last.source one.last.outlet
    × ((inputs : Inputs) (calls : ℕ) → inputs.acts ≡ acts
    → CameTrue bytes config inputs exchanges one.undone calls (medium found.disk)
    (medium one.last.disk)
    → (life : Life) × IsLifeOf inputs one.begins exchanges one.worker one.undone calls life
    × IsLivedOn m config so_far inputs life (medium found.disk) (medium one.last.disk)
    × IsLater (medium found.disk) (medium one.last.disk)
    × CallsForEvents (length life.events + 1) (medium found.disk) (medium one.last.disk))

-- what the source said, and what the outlet took
abbrev pub said_in : List Exchange → List SourceSaid
said_in [] = []
said_in (Asks ask ∷ exchanges) = ask.said ∷ said_in exchanges
said_in (Tells begun ∷ exchanges) = said_in exchanges

abbrev pub taken_in : List Exchange → List Bool
taken_in [] = []
taken_in (Tells begun ∷ exchanges) = was_taken begun.said ∷ taken_in exchanges
taken_in (Asks ask ∷ exchanges) = taken_in exchanges

-- Whatever source and outlet did in a life may have been put into it.
abbrev pub AnythingComesTrue : Type 0
AnythingComesTrue = (exchanges : List Exchange)
    → Foretell (said_in exchanges) (taken_in exchanges) exchanges
