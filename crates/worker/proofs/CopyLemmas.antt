-- What proofs on copies of a worker's disk go by.
pub use Rattle.worker_store.proofs.RestartLemmas.Copies.{first_sectors_decide}
pub use Rattle.worker_store.proofs.RestartLemmas.Disks.{stands_by_its_contents}
pub use Rattle.worker_store.proofs.RestartLemmas.FileLives.{opened_is_fresh}
