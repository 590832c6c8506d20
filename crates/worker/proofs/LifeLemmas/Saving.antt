-- What a call that has failed keeps.
use Rattle.std.proofs.Common.{◌≡◌, List, [], ap, refl, subst, sym, ◌∙◌}
use Rattle.wasm_syntax.specs.declared.module.Module.{Module}
use Rattle.wasi_abi.specs.rules.Configs.{Settings}
use Rattle.process_rules.specs.Processes.{ProcessState, Guest}
use Rattle.sector_disk.specs.rules.Medium.{Medium}
use Rattle.record_replay.specs.rules.Calls.{Exchange}
use Rattle.process.specs.rules.Values.{ProcessValue}
use Rattle.state_image.specs.rules.Saving.{saved_of}
use Rattle.worker_store.specs.restart_theorem.Lives.{Act, Slice, Batch, Checkpoint, Cause}
use Rattle.worker_store.specs.restart_theorem.Lives.{OfDisk, Event, kept_by_end}
use Rattle.worker_store.specs.restart_theorem.Lives.Act.{Upgrade as upgrading}
use Rattle.worker_store.specs.restart_theorem.Exchanges.{AreEvents, none}
use Rattle.worker_store.specs.restart_theorem.Courses.{Stage}
use Rattle.worker_store.specs.restart_theorem.Promises.{Promise, promised}
use Rattle.worker_store.specs.laws.Laws.{ProcessImagesFitAreas}
use Rattle.worker.specs.declared.fault.WorkFault.{WorkFault}
use Rattle.worker.specs.declared.fault.WorkFault.TheVariants.{Work, Disk, Store, Upgrade}
use Rattle.worker.specs.laws.Causes.{LeavesOpenProcess}
use Rattle.worker.specs.rules.DurableValues.{DurableValue}
use Rattle.worker.specs.rules.OpenWorkers.{IsOpenOn}
use Rattle.worker.specs.rules.DurableCalls.{ComesOf, MayExchange}
use Rattle.worker.specs.rules.OneLife.{FailsBy}
use Rattle.worker.proofs.CauseLemmas.{leaves_open}
use Rattle.worker.proofs.UpgradeLemmas.{kept_version, same_kept}

module _ {D : Type 0} (medium : D → Medium) (m : Module) (config : Settings) (guest : Guest)
    (promise : Promise) (stage : Stage) (p : ProcessState) (w w' : DurableValue) (why : WorkFault)
    (cause : Cause) (old new : D) (open_on : IsOpenOn m config guest promise stage p w (medium old))
    (comes : ComesOf why cause) (fit : ProcessImagesFitAreas) where
  -- An error of an upgrade that isn't the disk's has widened nothing.
  none_is_widened : LeavesOpenProcess why w.process w'.process → (events : List Event)
      → AreEvents [] events → (cause ≡ OfDisk → ⊥)
      → kept_by_end upgrading (saved_of w'.process) (promised promise events).kept
      ≡ (promised promise events).kept
  none_is_widened leaves events none other = by why comes leaves
    where
      same : w'.process ≡ w.process
          → kept_by_end upgrading (saved_of w'.process) promise.kept ≡ promise.kept
      same is =
          same_kept promise.kept (saved_of w'.process)
          (kept_version m config guest promise stage p w (medium old) open_on
          ∙ ap (λ (v : ProcessValue). v.host.host.version) (sym is))

      by : (why : WorkFault) → ComesOf why cause → LeavesOpenProcess why w.process w'.process
          → kept_by_end upgrading (saved_of w'.process) promise.kept ≡ promise.kept
      by (Disk fault) comes leaves = absurd (other comes)
      by (Work fault) comes leaves = same leaves
      by (Store fault) comes leaves = same leaves
      by (Upgrade fault) comes leaves = same leaves

  -- so it is with each act
  pub call_widens_none : (act : Act) → FailsBy act w why w' (medium old) (medium new)
      → (exchanges : List Exchange) → MayExchange act exchanges → (events : List Event)
      → AreEvents exchanges events → (cause ≡ OfDisk → ⊥)
      → kept_by_end act (saved_of w'.process) (promised promise events).kept
      ≡ (promised promise events).kept
  call_widens_none (Slice fuel) fails exchanges may events are other = refl
  call_widens_none (Batch fuel most) fails exchanges may events are other = refl
  call_widens_none Checkpoint fails exchanges may events are other = refl
  call_widens_none upgrading fails exchanges may events are other =
      let cause = fails.cause in
      none_is_widened (leaves_open medium m config guest promise stage p w old new open_on fit
      (fails.shows open_on.works) why w'.process cause.1) events
      (subst (λ l. AreEvents l events) may are) other
