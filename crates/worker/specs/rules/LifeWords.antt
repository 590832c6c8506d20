-- The words of lives that a caller of a worker on its disk names (this project's own). They are
-- defined in `worker_store`.
use Rattle.worker_store.specs.restart_theorem.Lives.Beginning.{Recovers}
pub use Rattle.worker_store.specs.restart_theorem.Lives.{Act, Slice, Batch, Checkpoint, Upgrade}
pub use Rattle.worker_store.specs.restart_theorem.Lives.{Beginning, Release}
pub use Rattle.worker_store.specs.restart_theorem.Promises.{fuel_of}

-- a life that begins by a recovery
abbrev pub by_recovery : Beginning
by_recovery = Recovers
