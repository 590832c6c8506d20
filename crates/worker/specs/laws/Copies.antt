-- The words of laws on copies of a worker's disk: what an image stands for, whether it has no
-- worker, and whether two images stand for the same.
pub use Rattle.worker_store.specs.restart_theorem.Stands.{IsBlank, StandsFor}
pub use Rattle.worker_store.specs.restart_theorem.laws.Copies.{StandForTheSame}
