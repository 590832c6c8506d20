-- A worker with all that a call of it is handed (this project's own).
use Rattle.record_replay.specs.rules.Calls.{Ports, ports}
use Rattle.worker.specs.rules.DurableValues.{DurableValue}

-- a worker of this form between two calls, with its disk, its source and its outlet
pub record SceneOf (W D S O : Type 0) : Type 0 where
  pub worker : W
  pub disk : D
  pub source : S
  pub outlet : O

-- the scene of a worker that is open on its disk
abbrev pub Scene : Type 0 → Type 0 → Type 0 → Type 0
Scene D S O = SceneOf DurableValue D S O

-- of these
abbrev pub scene : {W D S O : Type 0} → W → D → S → O → SceneOf W D S O
scene worker disk source outlet = record {
  worker = worker;
  disk = disk;
  source = source;
  outlet = outlet;
}

-- its source and its outlet
abbrev pub ports_of : {W D S O : Type 0} → SceneOf W D S O → Ports S O
ports_of at = ports at.source at.outlet

-- the same without a worker: where a life begins, and what it leaves
pub record Surroundings (D S O : Type 0) : Type 0 where
  pub disk : D
  pub source : S
  pub outlet : O

-- of these
abbrev pub surroundings : {D S O : Type 0} → D → S → O → Surroundings D S O
surroundings disk source outlet = record { disk = disk; source = source; outlet = outlet }

-- those of a scene whose worker is gone
abbrev pub surroundings_of : {W D S O : Type 0} → SceneOf W D S O → Surroundings D S O
surroundings_of at = surroundings at.disk at.source at.outlet

-- where a worker is opened: a disk, and an outlet that may hear some lines again
pub record Site (D O : Type 0) : Type 0 where
  pub disk : D
  pub outlet : O

-- of these
abbrev pub site : {D O : Type 0} → D → O → Site D O
site disk outlet = record { disk = disk; outlet = outlet }
