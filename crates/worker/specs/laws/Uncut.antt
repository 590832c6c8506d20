-- What the calls of one life come to where the power isn't cut in it (this project's own).
use Rattle.std.specs.Prelude.{◌≡◌, ◌⊎◌, ℕ, ◌≤◌, Bool, true, false, List, [], ◌∷◌, length}
use Rattle.std.specs.Prelude.{Some, None, Result}
use Rattle.wasm_syntax.specs.declared.module.Module.{Module}
use Rattle.wasm_rules.specs.Acceptance.{IsAccepted}
use Rattle.wasi_abi.specs.rules.Configs.{Settings}
use Rattle.machine.specs.rules.Offers.{offer}
use Rattle.sector_disk.specs.rules.Medium.{Medium}
use Rattle.disk_layout.specs.rules.Places.{geometry_of, total_sectors}
use Rattle.disk_layout.specs.rules.Unsynced.{most_unsynced}
use Rattle.record_replay.specs.rules.Calls.{Giving, Taking, Exchange, Exchanges}
use Rattle.worker_store.specs.restart_theorem.Lives.{Act, Inputs, OfOutlet, told_in, Beginning}
use Rattle.worker_store.specs.restart_theorem.Lives.{Failed, Life}
use Rattle.worker_store.specs.restart_theorem.Promises.{Promise, promised_by, IsLived}
use Rattle.worker_store.specs.restart_theorem.Holds.{KeepsPromise, KeepsBounds}
use Rattle.worker.specs.declared.recover_fault.RecoverFault.{RecoverFault}
use Rattle.worker.specs.rules.OneLife.{recipe, OneLife, IsOneLife}
use Rattle.worker.specs.rules.Scenes.{Surroundings}
use Rattle.worker.specs.laws.OneLife.{IsLifeOver, EndsBy, released_in, said_in, taken_in}

-- each of these is true
abbrev pub AreTrue : List Bool → Type 0
AreTrue [] = Unit {0}
AreTrue (true ∷ bs) = AreTrue bs
AreTrue (false ∷ bs) = ⊥

-- What was put into a life with these exchanges: what its source said, and what its outlet took.
-- The power isn't cut, and the disk may fail from its first call on.
abbrev pub uncut : List Act → List Exchange → Inputs
uncut acts exchanges = record {
  says = said_in exchanges;
  takes = taken_in exchanges;
  acts = acts;
  stop = None;
  fails = Some 1;
}

-- Calls with these exchanges are a life that goes on from all that was promised, and leave a disk
-- that keeps what is promised then. The lines told in it are those that were released. The outlet
-- has taken each of them, or the life ended by one that it refused. It ends as its last call says.
pub record GoesOnUncut (m : Module) (config : Settings) (so_far : Promise) (acts : List Act)
    (exchanges : List Exchange) (begins : Beginning) (undone : Result (List Act) RecoverFault)
    (last : Medium) : Type 0 where
  pub life : Life
  pub begins_so : life.begins ≡ begins
  pub lived : IsLived m config so_far (uncut acts exchanges) life
  pub told : told_in life.events ≡ released_in exchanges
  pub heard : AreTrue (taken_in exchanges) ⊎ (life.ends ≡ Failed OfOutlet)
  pub ends : EndsBy (uncut acts exchanges) life.calls undone life.ends
  pub keeps : KeepsPromise m config (promised_by so_far life) last
  pub bounded : KeepsBounds (promised_by so_far life).events last

-- so it is whatever was promised, on a disk with room for the worker
abbrev pub LivesGoOnUncut : {D S O : Type 0} → (D → Medium) → Giving S → Taking O → Type 0
LivesGoOnUncut {D} {S} {O} medium gives takes =
    (m : Module) (config : Settings) (bytes : List ℕ) (so_far : Promise) (acts : List Act)
    (found : Surroundings D S O) (one : OneLife D S O) → IsAccepted offer config.pages bytes m
    → IsOneLife medium gives takes (recipe bytes config) acts found one
    → IsLifeOver (uncut acts []) 1 one.undone
    → total_sectors (geometry_of config (length bytes)) ≤ (medium found.disk).sectors
    → most_unsynced (geometry_of config (length bytes)) ≤ (medium found.disk).room
    → KeepsPromise m config so_far (medium found.disk)
    → KeepsBounds so_far.events (medium found.disk)
    → (exchanges : List Exchange)
    × Exchanges gives takes found.source found.outlet exchanges one.last.source one.last.outlet
    × GoesOnUncut m config so_far acts exchanges one.begins one.undone (medium one.last.disk)
