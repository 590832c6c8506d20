use Rattle.std.proofs.Common.{◌+◌, ◌<◌, sym, ap, ◌∙◌, subst, inl}
use Rattle.std.specs.Prelude.{IfErr}
use Rattle.std.proofs.lemmas.Result.{on_err_weaker, on_ok_weaker}
use Rattle.wasi_abi.specs.declared.numbers.TheConstants.{NUMBERS_END}
use Rattle.sector_disk.proofs.Moments.{goes_on}
use Rattle.worker_store.specs.declared.store.WorkerStore.{WorkerStore}
use Rattle.process.specs.rules.Values.{ProcessValue, IsProcess}
use Rattle.worker.specs.Savings.{SaveCalls, HasSaveCause}
use Rattle.worker.specs.rules.Upgrades.{upgraded}
use Rattle.worker.specs.Upgrading.{AfterFault}
use Rattle.worker.proofs.SavingLemmas.{barrier_saves, commit_saves, commit_saved}
use Rattle.worker.proofs.SavingLemmas.{barrier_calls_begun, commit_calls_behind, still_room}
use Rattle.worker.proofs.SavingInTwoLemmas.{fault_same, fault_of_commit, late_cause}
use Rattle.worker.proofs.SavingInTwoLemmas.{late_runs, bars_and_commits}
use Rattle.worker.proofs.StoreTurnLemmas.{barrier_went, barrier_failed, commit_runs, saves_join}
use Rattle.worker.proofs.StoreTurnLemmas.{barrier_save_cause, commit_save_cause}
use Rattle.worker.proofs.WideningLemmas.{is_upgraded}
use Rattle.worker.proofs.widening.save_in_two.Goals as goal

-- ---- the barrier fails

pub returns-in-Err-clause-after_fault : goal.returns-in-Err-clause-after_fault
returns-in-Err-clause-after_fault g c = fault_same c.in-Err.fault c.args.store.now
    c.args.process.now

pub returns-in-Err-clause-any_moment : goal.returns-in-Err-clause-any_moment
returns-in-Err-clause-any_moment g c =
    barrier_saves g.D.Disk.medium c.args.store.now c.args.process.now c.args.disk.now
    c.barrier.new.disk c.in-Err.ensures.stores.any_moment

pub returns-in-Err-clause-bars : goal.returns-in-Err-clause-bars
returns-in-Err-clause-bars g c = inl c.in-Err.ensures.stores.any_moment

pub returns-in-Err-clause-calls : goal.returns-in-Err-clause-calls
returns-in-Err-clause-calls g c =
    let made = c.in-Err.ensures.stores.calls in
    barrier_calls_begun c.args.store.now (upgraded c.args.process.now) c.in-Err.fault
    (g.D.Disk.medium c.args.disk.now) (g.D.Disk.medium c.barrier.new.disk) made.begun

pub returns-in-Err-clause-runs : goal.returns-in-Err-clause-runs
returns-in-Err-clause-runs g c =
    let failed = c.in-Err.ensures in
    barrier_failed g.D.Disk.medium c.args.store.now c.barrier.new.self c.args.disk.now
    c.barrier.new.disk c.in-Err.fault failed.stores failed.full c.requires

pub returns-in-Err-clause-on_any_disk : goal.returns-in-Err-clause-on_any_disk
returns-in-Err-clause-on_any_disk g c =
    barrier_save_cause c.args.store.now (upgraded c.args.process.now)
    (g.D.Disk.medium c.args.disk.now) (g.D.Disk.medium c.barrier.new.disk) c.in-Err.fault
    c.requires c.in-Err.ensures.stores.cause

-- ---- the next generation has no number

pub returns-in-Err-widen-clause-after_fault : goal.returns-in-Err-widen-clause-after_fault
returns-in-Err-widen-clause-after_fault g c =
    subst (λ (w : ProcessValue). AfterFault c.in-Err-widen.fault c.args.store.now
    c.args.process.now w) (sym c.in-Err-widen.ensures.same)
    (fault_same c.in-Err-widen.fault c.args.store.now c.args.process.now)

pub returns-in-Err-widen-clause-shows : goal.returns-in-Err-widen-clause-shows
returns-in-Err-widen-clause-shows g c =
    λ is. subst IsProcess (sym c.in-Err-widen.ensures.same) is

pub returns-in-Err-widen-clause-any_moment : goal.returns-in-Err-widen-clause-any_moment
returns-in-Err-widen-clause-any_moment g c =
    barrier_saves g.D.Disk.medium c.args.store.now c.widen.new.process c.args.disk.now
    c.barrier.new.disk c.in_default.ensures.stores.any_moment

pub returns-in-Err-widen-clause-bars : goal.returns-in-Err-widen-clause-bars
returns-in-Err-widen-clause-bars g c = inl c.in_default.ensures.stores.any_moment

pub returns-in-Err-widen-clause-calls : goal.returns-in-Err-widen-clause-calls
returns-in-Err-widen-clause-calls g c =
    let made = c.in_default.ensures.stores.calls in
    barrier_calls_begun c.args.store.now (upgraded c.args.process.now) c.in-Err-widen.fault
    (g.D.Disk.medium c.args.disk.now) (g.D.Disk.medium c.barrier.new.disk) made.begun

pub returns-in-Err-widen-clause-runs : goal.returns-in-Err-widen-clause-runs
returns-in-Err-widen-clause-runs g c =
    let done = c.in_default.ensures in
    late_runs c.args.store.now c.barrier.new.self (g.D.Disk.medium c.args.disk.now)
    (g.D.Disk.medium c.barrier.new.disk)
    (barrier_went g.D.Disk.medium c.args.store.now c.barrier.new.self c.args.disk.now
    c.barrier.new.disk tt done.stores done.full done.quiet) c.in-Err-widen.fault
    c.in-Err-widen.ensures.fails

pub returns-in-Err-widen-clause-on_any_disk : goal.returns-in-Err-widen-clause-on_any_disk
returns-in-Err-widen-clause-on_any_disk g c =
    late_cause c.args.store.now c.barrier.new.self (upgraded c.args.process.now)
    (g.D.Disk.medium c.args.disk.now) (g.D.Disk.medium c.barrier.new.disk) c.generation.result
    c.generation.ensures c.in_default.ensures.stores.stays c.in-Err-widen.ensures.late
    c.in-Err-widen.fault
    c.in-Err-widen.ensures.fails

-- ---- the commit

pub returns-clause-done : goal.returns-clause-done
returns-clause-done g c =
    on_ok_weaker c.commit.result (λ done. c.in_default-widen.ensures.done)
    c.commit.ensures.commits.durable

pub returns-clause-after_fault : goal.returns-clause-after_fault
returns-clause-after_fault g c =
    fault_of_commit c.args.store.now c.barrier.new.self c.args.process.now c.widen.new.process
    (g.D.Disk.medium c.barrier.new.disk) (g.D.Disk.medium c.commit.new.disk)
    c.in_default.ensures.stores.stays c.in_default-widen.ensures.done
    (subst (λ n. n + 1 < NUMBERS_END) c.generation.ensures c.in_default-widen.ensures.counted)
    c.commit.result c.commit.ensures.commits.cause

pub returns-clause-shows : goal.returns-clause-shows
returns-clause-shows g c =
    λ is. subst IsProcess (sym c.in_default-widen.ensures.done) (is_upgraded c.args.process.now is)

pub returns-clause-any_moment : goal.returns-clause-any_moment
returns-clause-any_moment g c =
    commit_saves g.D.Disk.medium c.args.store.now c.widen.new.process c.args.disk.now
    c.barrier.new.disk c.in_default.ensures.stores.any_moment c.barrier.new.self c.commit.new.disk
    c.in_default.ensures.stores.durable c.commit.ensures.commits.any_moment

pub returns-clause-bars : goal.returns-clause-bars
returns-clause-bars g c =
    let made = c.in_default.ensures.stores.calls in
    bars_and_commits g.D.Disk.medium c.args.store.now c.barrier.new.self c.args.process.now
    c.widen.new.process c.args.disk.now c.barrier.new.disk c.commit.new.disk made.all
    c.in_default.ensures.stores.any_moment c.in_default.ensures.stores.durable
    c.in_default-widen.ensures.done c.commit.ensures.commits.any_moment

pub returns-clause-durable : goal.returns-clause-durable
returns-clause-durable g c =
    on_ok_weaker c.commit.result
    (commit_saved g.D.Disk.medium c.args.store.now c.widen.new.process c.args.disk.now
    c.barrier.new.disk c.in_default.ensures.stores.any_moment c.barrier.new.self c.commit.new.disk
    c.in_default.ensures.stores.durable c.commit.new.self) c.commit.ensures.commits.durable

pub returns-clause-numbered : goal.returns-clause-numbered
returns-clause-numbered g c =
    let stays = c.in_default.ensures.stores.stays in
    on_ok_weaker c.commit.result (λ next. next ∙ ap (λ n. n + 1) stays.generation)
    c.commit.ensures.commits.numbered

pub returns-clause-unnumbered : goal.returns-clause-unnumbered
returns-clause-unnumbered g c =
    let stays = c.in_default.ensures.stores.stays in
    on_err_weaker c.commit.result
    (λ same. ap (λ (s : WorkerStore). s.journal.generation) same ∙ stays.generation)
    c.commit.ensures.commits.unchanged

pub returns-clause-calls : goal.returns-clause-calls
returns-clause-calls g c =
    let made = c.in_default.ensures.stores.calls in
    subst (λ (v : ProcessValue). SaveCalls c.args.store.now v c.commit.result
    (g.D.Disk.medium c.args.disk.now) (g.D.Disk.medium c.commit.new.disk))
    c.in_default-widen.ensures.done
    (commit_calls_behind c.args.store.now c.barrier.new.self c.widen.new.process
    c.commit.result (g.D.Disk.medium c.args.disk.now) (g.D.Disk.medium c.barrier.new.disk)
    (g.D.Disk.medium c.commit.new.disk) c.in_default.ensures.stores.stays made.all
    c.commit.ensures.commits.calls)

pub returns-clause-runs : goal.returns-clause-runs
returns-clause-runs g c =
    let old = c.args.store.now in
    let mid = g.D.Disk.medium c.barrier.new.disk in
    let done = c.in_default.ensures in
    let enough = still_room old c.barrier.new.self (g.D.Disk.medium c.args.disk.now) mid
    done.stores.stays done.stores.passes c.requires in
    saves_join old c.barrier.new.self c.commit.new.self (g.D.Disk.medium c.args.disk.now)
    mid (g.D.Disk.medium c.commit.new.disk) c.commit.result
    (barrier_went g.D.Disk.medium old c.barrier.new.self c.args.disk.now c.barrier.new.disk
    tt done.stores done.full done.quiet)
    (commit_runs c.barrier.new.self c.commit.new.self c.widen.new.process mid
    (g.D.Disk.medium c.commit.new.disk) c.commit.result enough c.commit.ensures.commits)

pub returns-clause-on_any_disk : goal.returns-clause-on_any_disk
returns-clause-on_any_disk g c =
    let old = c.args.store.now in
    let mid = g.D.Disk.medium c.barrier.new.disk in
    let done = c.in_default.ensures in
    let enough = still_room old c.barrier.new.self (g.D.Disk.medium c.args.disk.now) mid
    done.stores.stays done.stores.passes c.requires in
    subst (λ (v : ProcessValue). IfErr c.commit.result (λ e. HasSaveCause old v
    (g.D.Disk.medium c.args.disk.now) (g.D.Disk.medium c.commit.new.disk) e))
    c.in_default-widen.ensures.done
    (commit_save_cause old c.barrier.new.self c.widen.new.process
    (g.D.Disk.medium c.args.disk.now) mid (g.D.Disk.medium c.commit.new.disk)
    (barrier_went g.D.Disk.medium old c.barrier.new.self c.args.disk.now c.barrier.new.disk
    tt done.stores done.full done.quiet)
    done.stores.stays enough c.commit.result c.commit.ensures.commits.cause)

pub returns-clause-stays : goal.returns-clause-stays
returns-clause-stays g c =
    let stays = c.in_default.ensures.stores.stays in c.commit.ensures.commits.stays ∙ stays.geometry

pub returns-clause-passes : goal.returns-clause-passes
returns-clause-passes g c =
    goes_on (g.D.Disk.medium c.args.disk.now) (g.D.Disk.medium c.barrier.new.disk)
    (g.D.Disk.medium c.commit.new.disk) (λ image. Unit {0}) (λ image. Unit {0})
    c.in_default.ensures.stores.passes c.commit.ensures.commits.passes (λ image at. tt)
