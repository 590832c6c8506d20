use Rattle.std.proofs.Common.{refl, ap}
use Rattle.worker_store.specs.declared.store.WorkerStore.{WorkerStore}
use Rattle.worker.proofs.recovering.open_again.Goals as goal

pub returns-in-Ok : goal.returns-in-Ok
returns-in-Ok g c =
    let opens = c.in-Ok.ensures in (
      record {
        process = refl;
        replayed = refl;
        unfailed = ap (λ (s : WorkerStore). s.journal.has_failed) opens.begun;
        abreast = c.has_ended-is_abreast.ensures;
      },
      opens,
    )
