use Rattle.std.proofs.Common.{◌≡◌, ◌+◌, ◌<◌, ◌≤◌, ◌∙◌, [], length, refl, sym, ap, arith, true}
use Rattle.std.proofs.Common.{false, inl, ⊎_elim, rules}
use Rattle.std.proofs.lemmas.Grind.{common_steps}
use Rattle.std.proofs.lemmas.Bool.{cases_lt}
use Rattle.std.specs.Prelude.{Result, Err}
use Rattle.wasi_abi.specs.declared.numbers.TheConstants.{NUMBERS_END}
use Rattle.wasi_abi.specs.rules.Versions.{version_number}
use Rattle.sector_disk.proofs.Moments.{started}
use Rattle.disk_layout.specs.rules.Places.{area_place, rounded_up, total_sectors}
use Rattle.journal.specs.rules.State.{JournalState, state}
use Rattle.snapshot.specs.declared.fault.SnapshotFault.{SnapshotFault}
use Rattle.snapshot.specs.declared.writing.Writing.TheVariants.{Changes}
use Rattle.snapshot.proofs.SnapshotLemmas.{none_commits}
use Rattle.state_image.specs.rules.ProcessImage.{process_image}
use Rattle.state_image.specs.rules.Saving.{saved_of}
use Rattle.worker_store.specs.declared.fault.StoreFault.{StoreFault}
use Rattle.worker_store.specs.declared.fault.StoreFault.TheVariants.{Disk, Failed}
use Rattle.worker_store.proofs.SavingLemmas.{none_performed, none_performed_still, stored_err}
use Rattle.worker_store.proofs.SavingLemmas.{stored_ok, area_counts, goes}
use Rattle.worker_store.specs.Filling.{snapshot_of}
use Rattle.worker_store.specs.declared.store.WorkerStore.{WorkerStore}
use Rattle.worker_store.proofs.StoreLemmas.{commit_leaves, commit_stores, failed_before}
use Rattle.worker_store.proofs.store.WorkerStore.commit.Goals as goal

pub returns-in-Err-clause-commits : goal.returns-in-Err-clause-commits
returns-in-Err-clause-commits g c =
    let m = g.D.Disk.medium c.args.disk.now in
    let s = c.args.self.now in
    let image = process_image (saved_of c.args.process.now) in
    let version = version_number (saved_of c.args.process.now).version in
    let next = s.journal.generation + 1 in
    let few : m.sectors < total_sectors s.geometry = let f = c.in-Err.ensures.too_few.1 in
    let n = c.total_sectors.ensures in omega (arith, f, n) in
    record {
      any_moment = commit_leaves g.D.Disk.medium s c.args.process.now c.args.disk.now
          c.args.disk.now next (λ below. refl) (none_commits s.geometry next version image m);
      durable = tt;
      calls = let r : Result (Unit {0}) StoreFault = Err (Disk c.in-Err.fault) in
          none_performed Changes (area_place s.geometry next) (rounded_up (length image)) next r m
          refl;
      cause = inl few;
      fails = ap (λ (s : WorkerStore). s.journal.has_failed) c.fail.ensures;
      unchanged = c.fail.ensures;
      stays = ap (λ (s : WorkerStore). s.geometry) c.fail.ensures;
      numbered = tt;
      fresh = tt;
      begun = tt;
      all_synced = tt;
      passes = started m (λ image. Unit {0});
      asks = omega arith;
      counts = first_of (search rules, grind (arith, common_steps));
    }

pub returns-in-Err-written-clause-commits : goal.returns-in-Err-written-clause-commits
returns-in-Err-written-clause-commits g c =
    record {
      any_moment = commit_leaves g.D.Disk.medium c.args.self.now c.args.process.now c.args.disk.now
          c.write_snapshot-written.new.disk c.saturating_add-next.result
          (λ below. let e = c.saturating_add-next.ensures in let s = c.generation.ensures in
          omega (arith, below, e, s))
          c.write_snapshot-written.ensures.writes.any_moment;
      durable = first_of (search rules, grind (arith, common_steps));
      calls = let s = c.args.self.now in
          let r : Result (Unit {0}) StoreFault = Err c.from.result in
          let count = rounded_up (length (process_image (saved_of c.args.process.now))) in
          ⊎_elim
          (λ (early : s.journal.generation < NUMBERS_END).
          stored_err s.geometry Changes count c.saturating_add-next.result
          (s.journal.generation + 1)
          (g.D.Disk.medium c.args.disk.now) (g.D.Disk.medium c.write_snapshot-written.new.disk)
          (let e = c.saturating_add-next.ensures in let s = c.generation.ensures in
          omega (arith, early, e, s)) c.write_snapshot-written.result r refl
          c.write_snapshot-written.ensures.writes.calls)
          (λ (late : NUMBERS_END ≤ s.journal.generation).
          none_performed_still g.D.Disk.medium Changes (area_place s.geometry
          (s.journal.generation + 1)) count (s.journal.generation
          + 1) r c.args.disk.now c.write_snapshot-written.new.disk
          (c.write_snapshot-written.ensures.late (let e = c.saturating_add-next.ensures in
          let s = c.generation.ensures in omega (arith, late, e, s))) refl)
          (cases_lt s.journal.generation NUMBERS_END);
      cause = first_of (search rules, grind (arith, common_steps));
      fails = ap (λ (s : WorkerStore). s.journal.has_failed) c.fail-in-Err-written.ensures;
      unchanged = c.fail-in-Err-written.ensures;
      stays = ap (λ (s : WorkerStore). s.geometry) c.fail-in-Err-written.ensures;
      numbered = search rules;
      fresh = first_of (search rules, grind (arith, common_steps));
      begun = first_of (search rules, grind (arith, common_steps));
      all_synced = search rules;
      passes = goes c.write_snapshot-written.ensures.writes.any_moment;
      asks = first_of (search rules, grind (arith, common_steps));
      counts = area_counts c.args.self.now.geometry
          (snapshot_of c.saturating_add-next.result Changes c.args.process.now)
          c.write_snapshot-written.result (g.D.Disk.medium c.args.disk.now)
          (g.D.Disk.medium c.write_snapshot-written.new.disk)
          c.write_snapshot-written.ensures.writes;
    }

pub returns-clause-commits : goal.returns-clause-commits
returns-clause-commits g c =
    record {
      any_moment = commit_leaves g.D.Disk.medium c.args.self.now c.args.process.now c.args.disk.now
          c.write_snapshot-written.new.disk c.saturating_add-next.result
          (λ below. let e = c.saturating_add-next.ensures in let s = c.generation.ensures in
          omega (arith, below, e, s))
          c.write_snapshot-written.ensures.writes.any_moment;
      durable = let before = c.args.self.now in
          let after : WorkerStore = record {
            geometry = before.geometry;
            journal = c.fresh.result;
          } in
          let leaves = c.write_snapshot-written.ensures.writes.any_moment in
          let p = leaves.passes in
          let ok = c.in_default-written.ensures in
          commit_stores g.D.Disk.medium before c.args.process.now c.args.disk.now
          c.write_snapshot-written.new.disk c.saturating_add-next.result
          (λ below. let e = c.saturating_add-next.ensures in let s = c.generation.ensures in
          omega (arith, below, e, s))
          after (c.fresh.ensures ∙ ap (λ v. state v c.saturating_add-next.result 0 [] false)
          c.version.ensures) refl p.sectors ok.writes.done ok.writes.all_synced
          (let early = ok.early in omega (arith, early));
      calls = let s = c.args.self.now in
          stored_ok {E = StoreFault} {F = SnapshotFault} s.geometry Changes
          (rounded_up (length (process_image (saved_of c.args.process.now))))
          c.saturating_add-next.result (s.journal.generation + 1) (g.D.Disk.medium c.args.disk.now)
          (g.D.Disk.medium c.write_snapshot-written.new.disk)
          (let early = c.in_default-written.ensures.early in
          let e = c.saturating_add-next.ensures in
          let s = c.generation.ensures in omega (arith, early, e, s)) tt tt
          c.in_default-written.ensures.writes.calls;
      cause = first_of (search rules, grind (arith, common_steps));
      fails = search rules;
      unchanged = search rules;
      stays = search rules;
      numbered = let fresh = ap (λ (j : JournalState). j.generation) c.fresh.ensures in
          let early = c.in_default-written.ensures.early in
          let next = c.saturating_add-next.ensures in
          let now = c.generation.ensures in
          omega (arith, fresh, early, next, now);
      fresh = first_of (search rules, grind (arith, common_steps));
      begun = first_of (search rules, grind (arith, common_steps));
      all_synced = let ok = c.in_default-written.ensures in ok.writes.all_synced;
      passes = goes c.write_snapshot-written.ensures.writes.any_moment;
      asks = first_of (search rules, grind (arith, common_steps));
      counts = area_counts c.args.self.now.geometry
          (snapshot_of c.saturating_add-next.result Changes c.args.process.now)
          c.write_snapshot-written.result (g.D.Disk.medium c.args.disk.now)
          (g.D.Disk.medium c.write_snapshot-written.new.disk)
          c.write_snapshot-written.ensures.writes;
    }

pub returns-then-has_failed-clause-commits : goal.returns-then-has_failed-clause-commits
returns-then-has_failed-clause-commits g c =
    let failed : c.args.self.now.journal.has_failed ≡ true =
    sym c.has_failed.ensures ∙ c.if-has_failed.true in
    record {
      any_moment = λ m config point next records pending last now is is_next saved.
          (let works = is.works in absurd (cc));
      durable = first_of (search rules, grind (arith, common_steps));
      calls = let s = c.args.self.now in
          let r : Result (Unit {0}) StoreFault = Err Failed in
          none_performed Changes (area_place s.geometry (s.journal.generation + 1))
          (rounded_up (length (process_image (saved_of c.args.process.now))))
          (s.journal.generation + 1) r (g.D.Disk.medium c.args.disk.now) refl;
      cause = failed;
      fails = failed;
      unchanged = failed_before c.args.self.now failed;
      stays = search rules;
      numbered = search rules;
      fresh = first_of (search rules, grind (arith, common_steps));
      begun = first_of (search rules, grind (arith, common_steps));
      all_synced = search rules;
      passes = started (g.D.Disk.medium c.args.disk.now) (λ image. Unit {0});
      asks = first_of (search rules, grind (arith, common_steps));
      counts = first_of (search rules, grind (arith, common_steps));
    }

pub returns-in-Err-written-clause-refused : goal.returns-in-Err-written-clause-refused
returns-in-Err-written-clause-refused g c failed =
    let asked = c.has_failed.ensures in
    let works = c.if-has_failed.false in
    absurd (cc)

pub returns-clause-refused : goal.returns-clause-refused
returns-clause-refused g c failed =
    let asked = c.has_failed.ensures in
    let works = c.if-has_failed.false in
    absurd (cc)
