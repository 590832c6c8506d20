use Rattle.std.proofs.Common.{◌+◌, max, length, arith}
use Rattle.sector_disk.proofs.CountLemmas.{counts_more}
use Rattle.wasi_abi.specs.rules.Versions.{version_number}
use Rattle.state_image.specs.rules.ProcessImage.{process_image}
use Rattle.state_image.specs.rules.Saving.{saved_of}
use Rattle.disk_layout.specs.rules.Unsynced.{most_unsynced}
use Rattle.worker_store.specs.rules.Creations.{creation_calls}
use Rattle.snapshot.specs.declared.writing.Writing.TheVariants.{Whole}
use Rattle.worker_store.specs.Filling.{behind_sectors, snapshot_of}
use Rattle.worker_store.proofs.CreationLemmas.{blank_on, err_calls}
use Rattle.worker_store.proofs.FirstLemmas.{commit_leaves_none, blank_or_first, super_leaves}
use Rattle.worker_store.proofs.FirstLemmas.{super_stands, creation_first, creation_second}
use Rattle.worker_store.proofs.FirstLemmas.{creation_third, creation_all}
use Rattle.worker_store.proofs.LayingCounts.{process_image_counts_behind, super_counts_behind}
use Rattle.worker_store.proofs.SavingLemmas.{area_counts}
use Rattle.worker_store.proofs.creation.lay_worker.Goals as goal

pub returns-in_err-lay_contents-clause-any_moment :
    goal.returns-in_err-lay_contents-clause-any_moment
returns-in_err-lay_contents-clause-any_moment g c settings spelled placed =
    blank_or_first settings c.args.wasm.now c.args.process.now (g.D.Disk.medium c.args.disk.now)
    (g.D.Disk.medium c.lay_contents.new.disk) c.lay_contents.ensures.blank

pub returns-in_err-lay_contents-clause-calls : goal.returns-in_err-lay_contents-clause-calls
returns-in_err-lay_contents-clause-calls g c =
    let old = g.D.Disk.medium c.args.disk.now in
    let mid = g.D.Disk.medium c.lay_contents.new.disk in
    let count = length (process_image (saved_of c.args.process.now)) in
    err_calls (creation_calls c.args.geometry.now count) c.from_residual.result old mid
    c.from_residual.ensures.0
    (creation_first c.args.geometry.now count old mid c.lay_contents.ensures.calls.begun)

pub returns-in_err-write_snapshot-clause-any_moment :
    goal.returns-in_err-write_snapshot-clause-any_moment
returns-in_err-write_snapshot-clause-any_moment g c settings spelled placed =
    let old = g.D.Disk.medium c.args.disk.now in
    let mid = g.D.Disk.medium c.lay_contents.new.disk in
    let next = g.D.Disk.medium c.write_snapshot.new.disk in
    blank_or_first settings c.args.wasm.now c.args.process.now old next
    (λ all. blank_on old mid next (c.lay_contents.ensures.blank all)
    (commit_leaves_none c.args.geometry.now (version_number (saved_of c.args.process.now).version)
    (process_image (saved_of c.args.process.now)) mid
    next c.in_ok-lay_contents.ensures.none c.write_snapshot.ensures.writes.any_moment))

pub returns-in_err-write_snapshot-clause-calls : goal.returns-in_err-write_snapshot-clause-calls
returns-in_err-write_snapshot-clause-calls g c =
    let old = g.D.Disk.medium c.args.disk.now in
    let mid = g.D.Disk.medium c.lay_contents.new.disk in
    let next = g.D.Disk.medium c.write_snapshot.new.disk in
    let count = length (process_image (saved_of c.args.process.now)) in
    err_calls (creation_calls c.args.geometry.now count)
    c.from_residual-in_err-write_snapshot.result
    old next c.from_residual-in_err-write_snapshot.ensures.0
    (creation_second c.args.geometry.now count c.write_snapshot.result old mid next
    c.in_ok-lay_contents.ensures.calls.all c.write_snapshot.ensures.writes.calls)

pub returns-in_err-write_super-clause-any_moment : goal.returns-in_err-write_super-clause-any_moment
returns-in_err-write_super-clause-any_moment g c settings spelled placed m point first =
    let old = g.D.Disk.medium c.args.disk.now in
    let mid = g.D.Disk.medium c.lay_contents.new.disk in
    let next = g.D.Disk.medium c.write_snapshot.new.disk in
    let new = g.D.Disk.medium c.write_super.new.disk in
    super_leaves m settings point c.args.config.now c.args.wasm.now c.args.process.now
    c.args.geometry.now c.digest_of-digest.result first spelled placed old mid next new
    c.digest_of-digest.ensures
    (λ all. blank_on old mid next (c.lay_contents.ensures.blank all)
    (commit_leaves_none c.args.geometry.now (version_number (saved_of c.args.process.now).version)
    (process_image (saved_of c.args.process.now)) mid
    next c.in_ok-lay_contents.ensures.none c.write_snapshot.ensures.writes.any_moment))
    (c.in_ok-lay_contents.ensures.awaits settings spelled placed)
    c.in_ok-write_snapshot.ensures.writes.done c.write_super.ensures.any_moment

pub returns-in_err-write_super-clause-calls : goal.returns-in_err-write_super-clause-calls
returns-in_err-write_super-clause-calls g c =
    let old = g.D.Disk.medium c.args.disk.now in
    let mid = g.D.Disk.medium c.lay_contents.new.disk in
    let next = g.D.Disk.medium c.write_snapshot.new.disk in
    let new = g.D.Disk.medium c.write_super.new.disk in
    let count = length (process_image (saved_of c.args.process.now)) in
    let made = c.in_ok-write_snapshot.ensures.writes.calls in
    err_calls (creation_calls c.args.geometry.now count) c.from_residual-in_err-write_super.result
    old new c.from_residual-in_err-write_super.ensures.0
    (creation_third c.args.geometry.now count old mid next new
    c.in_ok-lay_contents.ensures.calls.all made.0 made.1 made.2.all
    c.write_super.ensures.calls.begun)

pub returns-clause-any_moment : goal.returns-clause-any_moment
returns-clause-any_moment g c settings spelled placed m point first =
    let old = g.D.Disk.medium c.args.disk.now in
    let mid = g.D.Disk.medium c.lay_contents.new.disk in
    let next = g.D.Disk.medium c.write_snapshot.new.disk in
    let new = g.D.Disk.medium c.write_super.new.disk in
    super_leaves m settings point c.args.config.now c.args.wasm.now c.args.process.now
    c.args.geometry.now c.digest_of-digest.result first spelled placed old mid next new
    c.digest_of-digest.ensures
    (λ all. blank_on old mid next (c.lay_contents.ensures.blank all)
    (commit_leaves_none c.args.geometry.now (version_number (saved_of c.args.process.now).version)
    (process_image (saved_of c.args.process.now)) mid
    next c.in_ok-lay_contents.ensures.none c.write_snapshot.ensures.writes.any_moment))
    (c.in_ok-lay_contents.ensures.awaits settings spelled placed)
    c.in_ok-write_snapshot.ensures.writes.done c.write_super.ensures.any_moment

pub returns-clause-done : goal.returns-clause-done
returns-clause-done g c settings spelled placed m point first =
    super_stands m settings point c.args.config.now c.args.wasm.now c.args.process.now
    c.args.geometry.now c.digest_of-digest.result first spelled placed
    (g.D.Disk.medium c.lay_contents.new.disk) (g.D.Disk.medium c.write_snapshot.new.disk)
    (g.D.Disk.medium c.write_super.new.disk) c.digest_of-digest.ensures
    (c.in_ok-lay_contents.ensures.awaits settings spelled placed)
    c.in_ok-write_snapshot.ensures.writes.done c.in_ok-write_super.ensures.stored

pub returns-clause-calls : goal.returns-clause-calls
returns-clause-calls g c =
    let old = g.D.Disk.medium c.args.disk.now in
    let mid = g.D.Disk.medium c.lay_contents.new.disk in
    let next = g.D.Disk.medium c.write_snapshot.new.disk in
    let new = g.D.Disk.medium c.write_super.new.disk in
    let count = length (process_image (saved_of c.args.process.now)) in
    let made = c.in_ok-write_snapshot.ensures.writes.calls in
    let all = creation_all c.args.geometry.now count old mid next new
    c.in_ok-lay_contents.ensures.calls.all made.0 made.1 made.2.all
    c.in_ok-write_super.ensures.calls.all in
    record { all = all; begun = (0, all) }

pub returns-in_err-lay_contents-clause-counts : goal.returns-in_err-lay_contents-clause-counts
returns-in_err-lay_contents-clause-counts g c =
    let old = g.D.Disk.medium c.args.disk.now in
    let geometry = c.args.geometry.now in
    counts_more (max (old.unsynced + 1) (behind_sectors geometry))
    (max (old.unsynced + 1) (most_unsynced geometry)) old
    (g.D.Disk.medium c.lay_contents.new.disk) (omega arith) c.lay_contents.ensures.counts

pub returns-in_err-write_snapshot-clause-counts : goal.returns-in_err-write_snapshot-clause-counts
returns-in_err-write_snapshot-clause-counts g c =
    process_image_counts_behind c.args.geometry.now (g.D.Disk.medium c.args.disk.now)
    (g.D.Disk.medium c.lay_contents.new.disk) (g.D.Disk.medium c.write_snapshot.new.disk)
    c.in_ok-lay_contents.ensures.all_synced c.lay_contents.ensures.passes
    c.lay_contents.ensures.counts
    (area_counts c.args.geometry.now (snapshot_of 1 Whole c.args.process.now)
    c.write_snapshot.result (g.D.Disk.medium c.lay_contents.new.disk)
    (g.D.Disk.medium c.write_snapshot.new.disk) c.write_snapshot.ensures.writes)

pub returns-in_err-write_super-clause-counts : goal.returns-in_err-write_super-clause-counts
returns-in_err-write_super-clause-counts g c =
    let leaves = c.write_snapshot.ensures.writes.any_moment in
    super_counts_behind c.args.geometry.now (g.D.Disk.medium c.args.disk.now)
    (g.D.Disk.medium c.lay_contents.new.disk) (g.D.Disk.medium c.write_snapshot.new.disk)
    c.in_ok-lay_contents.ensures.all_synced c.lay_contents.ensures.passes
    c.lay_contents.ensures.counts
    (area_counts c.args.geometry.now (snapshot_of 1 Whole c.args.process.now)
    c.write_snapshot.result (g.D.Disk.medium c.lay_contents.new.disk)
    (g.D.Disk.medium c.write_snapshot.new.disk) c.write_snapshot.ensures.writes)
    (g.D.Disk.medium c.write_super.new.disk) c.in_ok-write_snapshot.ensures.writes.all_synced
    (let p = leaves.passes in p.later)
    c.write_super.ensures.counts

pub returns-clause-counts : goal.returns-clause-counts
returns-clause-counts g c =
    let leaves = c.write_snapshot.ensures.writes.any_moment in
    super_counts_behind c.args.geometry.now (g.D.Disk.medium c.args.disk.now)
    (g.D.Disk.medium c.lay_contents.new.disk) (g.D.Disk.medium c.write_snapshot.new.disk)
    c.in_ok-lay_contents.ensures.all_synced c.lay_contents.ensures.passes
    c.lay_contents.ensures.counts
    (area_counts c.args.geometry.now (snapshot_of 1 Whole c.args.process.now)
    c.write_snapshot.result (g.D.Disk.medium c.lay_contents.new.disk)
    (g.D.Disk.medium c.write_snapshot.new.disk) c.write_snapshot.ensures.writes)
    (g.D.Disk.medium c.write_super.new.disk) c.in_ok-write_snapshot.ensures.writes.all_synced
    (let p = leaves.passes in p.later)
    c.write_super.ensures.counts
