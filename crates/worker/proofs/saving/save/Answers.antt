use Rattle.std.proofs.Common.{◌+◌, ap, ◌∙◌}
use Rattle.std.proofs.lemmas.Result.{on_err_weaker, on_ok_weaker}
use Rattle.sector_disk.proofs.Moments.{goes_on}
use Rattle.worker_store.specs.declared.store.WorkerStore.{WorkerStore}
use Rattle.worker.proofs.SavingLemmas.{barrier_saves, commit_saves, commit_saved}
use Rattle.worker.proofs.SavingLemmas.{barrier_calls_begun, commit_calls_behind, still_room}
use Rattle.worker.proofs.StoreTurnLemmas.{barrier_went, barrier_failed, commit_runs, saves_join}
use Rattle.worker.proofs.StoreTurnLemmas.{barrier_save_cause, commit_save_cause}
use Rattle.worker.proofs.saving.save.Goals as goal

pub returns-in-Err-clause-any_moment : goal.returns-in-Err-clause-any_moment
returns-in-Err-clause-any_moment g c =
    barrier_saves g.D.Disk.medium c.args.store.now c.args.process.now c.args.disk.now
    c.barrier.new.disk c.in-Err.ensures.stores.any_moment

pub returns-in-Err-clause-calls : goal.returns-in-Err-clause-calls
returns-in-Err-clause-calls g c =
    let made = c.in-Err.ensures.stores.calls in
    barrier_calls_begun c.args.store.now c.args.process.now c.in-Err.fault
    (g.D.Disk.medium c.args.disk.now) (g.D.Disk.medium c.barrier.new.disk) made.begun

pub returns-clause-any_moment : goal.returns-clause-any_moment
returns-clause-any_moment g c =
    commit_saves g.D.Disk.medium c.args.store.now c.args.process.now c.args.disk.now
    c.barrier.new.disk c.in_default.ensures.stores.any_moment c.barrier.new.self c.commit.new.disk
    c.in_default.ensures.stores.durable c.commit.ensures.commits.any_moment

pub returns-clause-durable : goal.returns-clause-durable
returns-clause-durable g c =
    on_ok_weaker c.commit.result
    (commit_saved g.D.Disk.medium c.args.store.now c.args.process.now c.args.disk.now
    c.barrier.new.disk c.in_default.ensures.stores.any_moment c.barrier.new.self c.commit.new.disk
    c.in_default.ensures.stores.durable c.commit.new.self) c.commit.ensures.commits.durable

pub returns-clause-numbered : goal.returns-clause-numbered
returns-clause-numbered g c =
    let stays = c.in_default.ensures.stores.stays in
    on_ok_weaker c.commit.result (λ next. next ∙ ap (λ n. n + 1) stays.generation)
    c.commit.ensures.commits.numbered

pub returns-clause-calls : goal.returns-clause-calls
returns-clause-calls g c =
    let made = c.in_default.ensures.stores.calls in
    commit_calls_behind c.args.store.now c.barrier.new.self c.args.process.now c.commit.result
    (g.D.Disk.medium c.args.disk.now) (g.D.Disk.medium c.barrier.new.disk)
    (g.D.Disk.medium c.commit.new.disk) c.in_default.ensures.stores.stays made.all
    c.commit.ensures.commits.calls

pub returns-clause-stays : goal.returns-clause-stays
returns-clause-stays g c =
    let stays = c.in_default.ensures.stores.stays in c.commit.ensures.commits.stays ∙ stays.geometry

pub returns-clause-passes : goal.returns-clause-passes
returns-clause-passes g c =
    goes_on (g.D.Disk.medium c.args.disk.now) (g.D.Disk.medium c.barrier.new.disk)
    (g.D.Disk.medium c.commit.new.disk) (λ image. Unit {0}) (λ image. Unit {0})
    c.in_default.ensures.stores.passes c.commit.ensures.commits.passes (λ image at. tt)

pub returns-in-Err-clause-runs : goal.returns-in-Err-clause-runs
returns-in-Err-clause-runs g c =
    let failed = c.in-Err.ensures in
    barrier_failed g.D.Disk.medium c.args.store.now c.barrier.new.self c.args.disk.now
    c.barrier.new.disk c.in-Err.fault failed.stores failed.full c.requires

pub returns-in-Err-clause-on_any_disk : goal.returns-in-Err-clause-on_any_disk
returns-in-Err-clause-on_any_disk g c =
    barrier_save_cause c.args.store.now c.args.process.now (g.D.Disk.medium c.args.disk.now)
    (g.D.Disk.medium c.barrier.new.disk) c.in-Err.fault c.requires
    c.in-Err.ensures.stores.cause

pub returns-clause-unnumbered : goal.returns-clause-unnumbered
returns-clause-unnumbered g c =
    let stays = c.in_default.ensures.stores.stays in
    on_err_weaker c.commit.result
    (λ same. ap (λ (s : WorkerStore). s.journal.generation) same ∙ stays.generation)
    c.commit.ensures.commits.unchanged

pub returns-clause-runs : goal.returns-clause-runs
returns-clause-runs g c =
    let old = c.args.store.now in
    let mid = g.D.Disk.medium c.barrier.new.disk in
    let done = c.in_default.ensures in
    let enough = still_room old c.barrier.new.self (g.D.Disk.medium c.args.disk.now) mid
    done.stores.stays done.stores.passes c.requires in
    saves_join old c.barrier.new.self c.commit.new.self (g.D.Disk.medium c.args.disk.now)
    mid (g.D.Disk.medium c.commit.new.disk) c.commit.result
    (barrier_went g.D.Disk.medium old c.barrier.new.self c.args.disk.now c.barrier.new.disk
    tt done.stores done.full done.quiet)
    (commit_runs c.barrier.new.self c.commit.new.self c.args.process.now mid
    (g.D.Disk.medium c.commit.new.disk) c.commit.result enough c.commit.ensures.commits)

pub returns-clause-on_any_disk : goal.returns-clause-on_any_disk
returns-clause-on_any_disk g c =
    let old = c.args.store.now in
    let mid = g.D.Disk.medium c.barrier.new.disk in
    let done = c.in_default.ensures in
    let enough = still_room old c.barrier.new.self (g.D.Disk.medium c.args.disk.now) mid
    done.stores.stays done.stores.passes c.requires in
    commit_save_cause old c.barrier.new.self c.args.process.now (g.D.Disk.medium c.args.disk.now)
    mid (g.D.Disk.medium c.commit.new.disk)
    (barrier_went g.D.Disk.medium old c.barrier.new.self c.args.disk.now c.barrier.new.disk
    tt done.stores done.full done.quiet)
    done.stores.stays enough c.commit.result c.commit.ensures.commits.cause
