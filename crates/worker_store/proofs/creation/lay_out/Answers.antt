use Rattle.std.proofs.Common.{◌∙◌, [], length, ap, arith, false, inl, rules}
use Rattle.std.proofs.lemmas.Grind.{common_steps}
use Rattle.sector_disk.proofs.CallLemmas.{no_calls}
use Rattle.sector_disk.proofs.Moments.{started, leaves_only}
use Rattle.disk_layout.specs.rules.Places.{geometry_of}
use Rattle.journal.specs.rules.State.{state}
use Rattle.state_image.specs.rules.ProcessImage.{process_image}
use Rattle.state_image.specs.rules.Saving.{saved_of}
use Rattle.worker_store.specs.declared.store.WorkerStore.{WorkerStore}
use Rattle.worker_store.specs.rules.Creations.{creation_calls}
use Rattle.worker_store.proofs.CreationLemmas.{err_calls}
use Rattle.worker_store.proofs.FirstLemmas.{first_stored}
use Rattle.worker_store.proofs.creation.lay_out.Goals as goal

pub returns-then-sectors-total_sectors-clause-lays_out :
    goal.returns-then-sectors-total_sectors-clause-lays_out
returns-then-sectors-total_sectors-clause-lays_out g c =
    record {
      any_moment = λ m point first blank.
          (let disk = g.D.Disk.medium c.args.disk.now in
          leaves_only disk disk _ (started disk _) (λ image crashed. inl (blank image crashed)));
      durable = first_of (search rules, grind (arith, common_steps));
      begun = first_of (search rules, grind (arith, common_steps));
      calls = let calls = creation_calls (geometry_of c.args.config.now (length c.args.wasm.now))
          (length (process_image (saved_of c.args.process.now))) in
          record { all = tt; begun = no_calls calls (g.D.Disk.medium c.args.disk.now) };
      cause = first_of (search rules, grind (arith, common_steps));
      asks = first_of (search rules, grind (arith, common_steps));
      counts = first_of (search rules, grind (arith, common_steps));
    }

pub returns-in_err-config-clause-lays_out : goal.returns-in_err-config-clause-lays_out
returns-in_err-config-clause-lays_out g c =
    record {
      any_moment = λ m point first blank.
          (let disk = g.D.Disk.medium c.args.disk.now in
          leaves_only disk disk _ (started disk _) (λ image crashed. inl (blank image crashed)));
      durable = first_of (search rules, grind (arith, common_steps));
      begun = first_of (search rules, grind (arith, common_steps));
      calls = let m = g.D.Disk.medium c.args.disk.now in
          let calls = creation_calls (geometry_of c.args.config.now (length c.args.wasm.now))
          (length (process_image (saved_of c.args.process.now))) in
          err_calls calls c.from_residual.result m m c.from_residual.ensures.0 (no_calls calls m);
      cause = first_of (search rules, grind (arith, common_steps));
      asks = first_of (search rules, grind (arith, common_steps));
      counts = first_of (search rules, grind (arith, common_steps));
    }

pub returns-in_err-lay_worker-clause-lays_out : goal.returns-in_err-lay_worker-clause-lays_out
returns-in_err-lay_worker-clause-lays_out g c =
    record {
      any_moment = c.lay_worker.ensures.any_moment c.args.config.now
          (c.as_slice.ensures.value ∙ c.in_ok-config.ensures) c.of-geometry.ensures;
      durable = first_of (search rules, grind (arith, common_steps));
      begun = first_of (search rules, grind (arith, common_steps));
      calls = search rules;
      cause = first_of (search rules, grind (arith, common_steps));
      asks = first_of (search rules, grind (arith, common_steps));
      counts = first_of (search rules, grind (arith, common_steps));
    }

pub returns-clause-lays_out : goal.returns-clause-lays_out
returns-clause-lays_out g c =
    record {
      any_moment = c.lay_worker.ensures.any_moment c.args.config.now
          (c.as_slice.ensures.value ∙ c.in_ok-config.ensures) c.of-geometry.ensures;
      durable = let store : WorkerStore = record {
        geometry = c.of-geometry.result;
        journal = c.fresh.result;
      } in
          let p = c.lay_worker.ensures.passes in
          let ok = c.in_ok-lay_worker.ensures in
          first_stored g.D.Disk.medium c.args.config.now c.args.wasm.now c.args.process.now store
          c.lay_worker.new.disk c.of-geometry.ensures
          (c.fresh.ensures ∙ ap (λ v. state v 1 0 [] false) c.version.ensures)
          (let t = c.if-sectors-total_sectors.false in let s = c.sectors.ensures in
          let all = c.total_sectors.ensures in
          omega (arith, t, s, all, p.sectors)) ok.all_synced
          (ok.done c.args.config.now (c.as_slice.ensures.value ∙ c.in_ok-config.ensures)
          c.of-geometry.ensures);
      begun = first_of (search rules, grind (arith, common_steps));
      calls = search rules;
      cause = first_of (search rules, grind (arith, common_steps));
      asks = first_of (search rules, grind (arith, common_steps));
      counts = first_of (search rules, grind (arith, common_steps));
    }
