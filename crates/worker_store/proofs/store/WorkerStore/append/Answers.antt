use Rattle.std.proofs.Common.{ap}
use Rattle.journal.specs.rules.State.{JournalState}
use Rattle.worker_store.specs.declared.store.WorkerStore.{WorkerStore}
use Rattle.worker_store.proofs.AppendLemmas.{append_fails, store_refuses}
use Rattle.worker_store.proofs.store.WorkerStore.append.Goals as goal

pub returns-in-Err-clause-cause : goal.returns-in-Err-clause-cause
returns-in-Err-clause-cause c =
    append_fails c.args.self.now c.args.entry.now c.in-Err.fault c.from.result c.from.ensures
    c.in-Err.ensures.failed c.in-Err.ensures.too_long c.in-Err.ensures.full
    c.in-Err.ensures.no_disk

pub returns-in-Err-clause-refused : goal.returns-in-Err-clause-refused
returns-in-Err-clause-refused c failed =
    let before : WorkerStore = c.args.self.now in
    let refused = c.in-Err.ensures.refused failed in (
      store_refuses c.in-Err.fault c.from.result c.from.ensures refused.0,
      ap (λ (j : JournalState). record before { journal = j }) refused.1,
    )

pub returns-clause-refused : goal.returns-clause-refused
returns-clause-refused c failed =
    let refused = c.in_default.ensures.refused failed in
    let no = refused.0 in
    absurd (cc)
