use Rattle.std.proofs.Common.{ℕ, ◌+◌, max, refl, arith}
use Rattle.std.proofs.lemmas.Result.{on_ok_weaker}
use Rattle.sector_disk.proofs.CountLemmas.{counts_more, counts_then}
use Rattle.worker_store.specs.rules.Creations.{contents_calls}
use Rattle.worker_store.specs.Filling.{behind_sectors}
use Rattle.worker_store.proofs.CreationLemmas.{zeros_leave_blank, zeros_leave_none, blank_on}
use Rattle.worker_store.proofs.CreationLemmas.{both_leave_none, none_crashed, synced_none}
use Rattle.worker_store.proofs.CreationLemmas.{synced_awaits, err_calls, contents_first}
use Rattle.worker_store.proofs.CreationLemmas.{contents_second, contents_all, cause_behind}
use Rattle.worker_store.proofs.UnsyncedLemmas.{synced_then}
use Rattle.worker_store.proofs.contents.lay_contents.Goals as goal

pub returns-in_err-store_run-clause-blank : goal.returns-in_err-store_run-clause-blank
returns-in_err-store_run-clause-blank g c all =
    zeros_leave_blank (g.D.Disk.medium c.args.disk.now) (g.D.Disk.medium c.store_run.new.disk) all
    c.store_run.ensures.any_moment

pub returns-in_err-store_run-clause-calls : goal.returns-in_err-store_run-clause-calls
returns-in_err-store_run-clause-calls g c =
    let old = g.D.Disk.medium c.args.disk.now in
    let mid = g.D.Disk.medium c.store_run.new.disk in
    err_calls (contents_calls c.args.geometry.now) c.from_residual.result old mid
    c.from_residual.ensures.0
    (contents_first c.args.geometry.now old mid c.store_run.ensures.calls.begun)

pub returns-in_err-write_behind-clause-blank : goal.returns-in_err-write_behind-clause-blank
returns-in_err-write_behind-clause-blank g c all =
    let old = g.D.Disk.medium c.args.disk.now in
    let mid = g.D.Disk.medium c.store_run.new.disk in
    let next = g.D.Disk.medium c.write_behind.new.disk in
    blank_on old mid next (zeros_leave_blank old mid all c.store_run.ensures.any_moment)
    (c.write_behind.ensures.none (zeros_leave_none old mid c.in_ok-store_run.ensures.stored))

pub returns-in_err-write_behind-clause-calls : goal.returns-in_err-write_behind-clause-calls
returns-in_err-write_behind-clause-calls g c =
    let old = g.D.Disk.medium c.args.disk.now in
    let mid = g.D.Disk.medium c.store_run.new.disk in
    let next = g.D.Disk.medium c.write_behind.new.disk in
    err_calls (contents_calls c.args.geometry.now) c.from_residual-in_err-write_behind.result old
    next c.from_residual-in_err-write_behind.ensures.0
    (contents_second c.args.geometry.now old mid next c.in_ok-store_run.ensures.calls.all
    c.write_behind.ensures.calls.begun)

pub returns-in_err-write_behind-clause-cause : goal.returns-in_err-write_behind-clause-cause
returns-in_err-write_behind-clause-cause g c is_err =
    let leaves = c.store_run.ensures.any_moment in
    let p = leaves.passes in
    cause_behind (behind_sectors c.args.geometry.now) (g.D.Disk.medium c.args.disk.now)
    (g.D.Disk.medium c.store_run.new.disk) (g.D.Disk.medium c.write_behind.new.disk)
    c.in_ok-store_run.ensures.all_synced p.room p.faults (c.in_err-write_behind.ensures.cause refl)

pub returns-clause-blank : goal.returns-clause-blank
returns-clause-blank g c all =
    let old = g.D.Disk.medium c.args.disk.now in
    let mid = g.D.Disk.medium c.store_run.new.disk in
    let next = g.D.Disk.medium c.write_behind.new.disk in
    let new = g.D.Disk.medium c.sync.new.self in
    let behind = c.write_behind.ensures.none
    (zeros_leave_none old mid c.in_ok-store_run.ensures.stored) in
    blank_on old mid new (zeros_leave_blank old mid all c.store_run.ensures.any_moment)
    (both_leave_none mid next new behind
    (synced_none next new (none_crashed mid next behind) c.sync.ensures.stays
    c.sync.ensures.passes))

pub returns-clause-awaits : goal.returns-clause-awaits
returns-clause-awaits g c settings spelled placed =
    let old = g.D.Disk.medium c.args.disk.now in
    let mid = g.D.Disk.medium c.store_run.new.disk in
    let next = g.D.Disk.medium c.write_behind.new.disk in
    let new = g.D.Disk.medium c.sync.new.self in
    on_ok_weaker c.sync.result
    (λ all_synced. synced_awaits settings c.args.wasm.now next new
    (c.in_ok-write_behind.ensures.awaits settings spelled placed
    (zeros_leave_none old mid c.in_ok-store_run.ensures.stored)) c.sync.ensures.stays all_synced)
    c.sync.ensures.all_synced

pub returns-clause-none : goal.returns-clause-none
returns-clause-none g c =
    let old = g.D.Disk.medium c.args.disk.now in
    let mid = g.D.Disk.medium c.store_run.new.disk in
    let next = g.D.Disk.medium c.write_behind.new.disk in
    let new = g.D.Disk.medium c.sync.new.self in
    let behind = c.write_behind.ensures.none
    (zeros_leave_none old mid c.in_ok-store_run.ensures.stored) in
    on_ok_weaker c.sync.result
    (λ all_synced. none_crashed next new
    (synced_none next new (none_crashed mid next behind) c.sync.ensures.stays
    c.sync.ensures.passes)) c.sync.ensures.all_synced

pub returns-clause-calls : goal.returns-clause-calls
returns-clause-calls g c =
    contents_all c.args.geometry.now c.sync.result (g.D.Disk.medium c.args.disk.now)
    (g.D.Disk.medium c.store_run.new.disk) (g.D.Disk.medium c.write_behind.new.disk)
    (g.D.Disk.medium c.sync.new.self) c.in_ok-store_run.ensures.calls.all
    c.in_ok-write_behind.ensures.calls.all c.sync.ensures.calls

pub returns-in_err-store_run-clause-counts : goal.returns-in_err-store_run-clause-counts
returns-in_err-store_run-clause-counts g c =
    let old = g.D.Disk.medium c.args.disk.now in
    let many : ℕ = behind_sectors c.args.geometry.now in
    counts_more (old.unsynced + 1) (max (old.unsynced + 1) many) old
    (g.D.Disk.medium c.store_run.new.disk) (omega arith) c.store_run.ensures.counts

pub returns-in_err-write_behind-clause-counts : goal.returns-in_err-write_behind-clause-counts
returns-in_err-write_behind-clause-counts g c =
    let old = g.D.Disk.medium c.args.disk.now in
    let many : ℕ = behind_sectors c.args.geometry.now in
    let leaves = c.store_run.ensures.any_moment in
    let p = leaves.passes in
    synced_then (old.unsynced + 1) many (max (old.unsynced + 1) many) old
    (g.D.Disk.medium c.store_run.new.disk) (g.D.Disk.medium c.write_behind.new.disk)
    c.in_ok-store_run.ensures.all_synced (omega arith) (omega arith) p.later
    c.store_run.ensures.counts c.write_behind.ensures.counts

pub returns-clause-counts : goal.returns-clause-counts
returns-clause-counts g c =
    let old = g.D.Disk.medium c.args.disk.now in
    let mid = g.D.Disk.medium c.store_run.new.disk in
    let next = g.D.Disk.medium c.write_behind.new.disk in
    let new = g.D.Disk.medium c.sync.new.self in
    let many : ℕ = behind_sectors c.args.geometry.now in
    let leaves = c.store_run.ensures.any_moment in
    let p = leaves.passes in
    let q = c.write_behind.ensures.passes in
    let most : ℕ = max (old.unsynced + 1) many in
    let all_synced = c.in_ok-store_run.ensures.all_synced in
    let none = all_synced.unsynced in
    let few = c.in_ok-write_behind.ensures.unsynced in
    counts_then most next.unsynced most old next new (omega arith) (omega (arith, none, few))
    (omega (arith, p.later, q.later))
    (synced_then (old.unsynced + 1) many most old mid next all_synced (omega arith) (omega arith)
    p.later c.store_run.ensures.counts c.write_behind.ensures.counts) c.sync.ensures.counts
