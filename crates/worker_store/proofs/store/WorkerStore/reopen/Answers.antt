use Rattle.std.proofs.Common.{◌<◌, ◌∙◌, [], refl, ap, inl, arith, false, rules, length}
use Rattle.std.proofs.lemmas.Grind.{common_steps}
use Rattle.std.specs.Prelude.{Result, Err}
use Rattle.wasi_abi.specs.rules.Versions.{version_number}
use Rattle.sector_disk.proofs.Moments.{started}
use Rattle.disk_layout.specs.rules.Places.{area_place, rounded_up, total_sectors}
use Rattle.journal.specs.rules.State.{JournalState, state}
use Rattle.snapshot.specs.declared.fault.SnapshotFault.{SnapshotFault}
use Rattle.snapshot.specs.declared.writing.Writing.TheVariants.{Changes}
use Rattle.snapshot.proofs.SnapshotLemmas.{none_commits}
use Rattle.state_image.specs.rules.ProcessImage.{process_image}
use Rattle.state_image.specs.rules.Saving.{saved_of}
use Rattle.worker_store.proofs.LawLemmas.Passing.{crashed_in_the_end}
use Rattle.worker_store.specs.declared.fault.StoreFault.{StoreFault}
use Rattle.worker_store.specs.declared.fault.StoreFault.TheVariants.{Disk}
use Rattle.worker_store.proofs.SavingLemmas.{none_performed, stored_err, stored_ok, area_counts}
use Rattle.worker_store.proofs.SavingLemmas.{goes}
use Rattle.worker_store.specs.Filling.{snapshot_of}
use Rattle.worker_store.specs.declared.store.WorkerStore.{WorkerStore}
use Rattle.worker_store.proofs.StoreLemmas.{reopening_leaves, reopening_leaves_point}
use Rattle.worker_store.proofs.StoreLemmas.{reopening_stores}
use Rattle.worker_store.proofs.store.WorkerStore.reopen.Goals as goal

pub returns-in-Err-clause-reopens : goal.returns-in-Err-clause-reopens
returns-in-Err-clause-reopens g c =
    let m = g.D.Disk.medium c.args.disk.now in
    let image = process_image (saved_of c.args.process.now) in
    let version = version_number (saved_of c.args.process.now).version in
    let few : m.sectors < total_sectors c.args.geometry.now = let f = c.in-Err.ensures.too_few.1 in
    let n = c.total_sectors.ensures in omega (arith, f, n) in
    let leaves = none_commits c.args.geometry.now c.args.generation version image m in
    record {
      any_moment = reopening_leaves g.D.Disk.medium c.args.geometry.now c.args.generation
          c.args.process.now c.args.disk.now c.args.disk.now leaves;
      point_or_next = reopening_leaves_point g.D.Disk.medium c.args.geometry.now c.args.generation
          c.args.process.now c.args.disk.now c.args.disk.now leaves;
      some = λ image crashed. (image, crashed);
      durable = tt;
      begun = tt;
      numbered = tt;
      placed = tt;
      passes = started m (λ image. Unit {0});
      calls = let r : Result WorkerStore StoreFault = Err (Disk c.in-Err.fault) in
          none_performed Changes (area_place c.args.geometry.now c.args.generation)
          (rounded_up (length image)) c.args.generation r m refl;
      cause = inl few;
      asks = omega arith;
      counts = first_of (search rules, grind (arith, common_steps));
    }

pub returns-in-Err-written-clause-reopens : goal.returns-in-Err-written-clause-reopens
returns-in-Err-written-clause-reopens g c =
    record {
      any_moment = reopening_leaves g.D.Disk.medium c.args.geometry.now c.args.generation
          c.args.process.now
          c.args.disk.now c.write_snapshot-written.new.disk
          c.write_snapshot-written.ensures.writes.any_moment;
      point_or_next = reopening_leaves_point g.D.Disk.medium c.args.geometry.now c.args.generation
          c.args.process.now c.args.disk.now c.write_snapshot-written.new.disk
          c.write_snapshot-written.ensures.writes.any_moment;
      some = λ image crashed. let before = crashed_in_the_end (g.D.Disk.medium c.args.disk.now)
          (g.D.Disk.medium c.write_snapshot-written.new.disk) _
          c.write_snapshot-written.ensures.writes.any_moment image crashed in
          (before.0, before.1);
      durable = first_of (search rules, grind (arith, common_steps));
      begun = first_of (search rules, grind (arith, common_steps));
      numbered = search rules;
      placed = search rules;
      passes = goes c.write_snapshot-written.ensures.writes.any_moment;
      calls = let r : Result WorkerStore StoreFault = Err c.from.result in
          stored_err c.args.geometry.now Changes
          (rounded_up (length (process_image (saved_of c.args.process.now)))) c.args.generation
          c.args.generation
          (g.D.Disk.medium c.args.disk.now) (g.D.Disk.medium c.write_snapshot-written.new.disk) refl
          c.write_snapshot-written.result r refl c.write_snapshot-written.ensures.writes.calls;
      cause = first_of (search rules, grind (arith, common_steps));
      asks = first_of (search rules, grind (arith, common_steps));
      counts = area_counts c.args.geometry.now
          (snapshot_of c.args.generation Changes c.args.process.now)
          c.write_snapshot-written.result (g.D.Disk.medium c.args.disk.now)
          (g.D.Disk.medium c.write_snapshot-written.new.disk)
          c.write_snapshot-written.ensures.writes;
    }

pub returns-clause-reopens : goal.returns-clause-reopens
returns-clause-reopens g c =
    record {
      any_moment = reopening_leaves g.D.Disk.medium c.args.geometry.now c.args.generation
          c.args.process.now
          c.args.disk.now c.write_snapshot-written.new.disk
          c.write_snapshot-written.ensures.writes.any_moment;
      point_or_next = reopening_leaves_point g.D.Disk.medium c.args.geometry.now c.args.generation
          c.args.process.now c.args.disk.now c.write_snapshot-written.new.disk
          c.write_snapshot-written.ensures.writes.any_moment;
      some = λ image crashed. let before = crashed_in_the_end (g.D.Disk.medium c.args.disk.now)
          (g.D.Disk.medium c.write_snapshot-written.new.disk) _
          c.write_snapshot-written.ensures.writes.any_moment image crashed in
          (before.0, before.1);
      durable = let store : WorkerStore = record {
        geometry = c.args.geometry.now;
        journal = c.fresh.result;
      } in
          let leaves = c.write_snapshot-written.ensures.writes.any_moment in
          let p = leaves.passes in
          let ok = c.in_default-written.ensures in
          reopening_stores g.D.Disk.medium c.args.geometry.now c.args.generation c.args.process.now
          c.args.disk.now c.write_snapshot-written.new.disk store
          (c.fresh.ensures ∙ ap (λ v. state v c.args.generation 0 [] false) c.version.ensures) refl
          (let r = c.in_default.ensures.enough in let n = c.total_sectors.ensures in
          omega (arith, r, n, p.sectors)) ok.writes.done ok.writes.all_synced
          (let early = ok.early in omega (arith, early));
      begun = first_of (search rules, grind (arith, common_steps));
      numbered = ap (λ (j : JournalState). j.generation) c.fresh.ensures;
      placed = search rules;
      passes = goes c.write_snapshot-written.ensures.writes.any_moment;
      calls = let store : WorkerStore = record {
        geometry = c.args.geometry.now;
        journal = c.fresh.result;
      } in
          stored_ok {U = Unit {0}} {E = StoreFault} {F = SnapshotFault} c.args.geometry.now Changes
          (rounded_up (length (process_image (saved_of c.args.process.now)))) c.args.generation
          c.args.generation
          (g.D.Disk.medium c.args.disk.now) (g.D.Disk.medium c.write_snapshot-written.new.disk) refl
          store tt c.in_default-written.ensures.writes.calls;
      cause = first_of (search rules, grind (arith, common_steps));
      asks = first_of (search rules, grind (arith, common_steps));
      counts = area_counts c.args.geometry.now
          (snapshot_of c.args.generation Changes c.args.process.now)
          c.write_snapshot-written.result (g.D.Disk.medium c.args.disk.now)
          (g.D.Disk.medium c.write_snapshot-written.new.disk)
          c.write_snapshot-written.ensures.writes;
    }
