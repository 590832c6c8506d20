-- Lines of a queue that are told or not, for terms that are equal.
use Rattle.std.proofs.Common.{◌≡◌, ℕ, List, [], refl, ap, subst, inl, inr}
use Rattle.process.specs.rules.Values.{waiting_in}
use Rattle.sector_disk.specs.rules.Medium.{Medium}
use Rattle.record_replay.specs.declared.line_list.NumberedLine.{NumberedLine}
use Rattle.record_replay.specs.rules.Calls.{Taking}
use Rattle.worker.specs.declared.fault.WorkFault.{WorkFault}
use Rattle.worker.specs.declared.running_worker.RunningWorker.{RunningWorker}
use Rattle.worker.specs.rules.Scenes.{SceneOf}
use Rattle.worker.specs.DurableTurns.{telling_scene}
use Rattle.worker.specs.BatchTurns.{held_as_begun, FailsQueue, FlushesAll, FreesOrTells}
use Rattle.worker.specs.BatchTurns.{HoldsOrTells, TellsAll, TellsQueue, Holding, holding}
use Rattle.worker.proofs.DurableLemmas.InBatch.{nothing_released}

module _ {D O : Type 0} (medium : D → Medium) (takes : Taking O) where
  -- it fails
  pub fails_held : (w v : RunningWorker) (lines held : List NumberedLine) (why : WorkFault)
      (new : RunningWorker) (disk disk' : D) (outlet outlet' : O) → v ≡ w → held ≡ lines
      → FailsQueue medium takes (telling_scene (holding v held) disk outlet) why
      (telling_scene new disk' outlet')
      → FailsQueue medium takes (telling_scene (holding w lines) disk outlet) why
      (telling_scene new disk' outlet')
  fails_held w v lines held why new disk disk' outlet outlet' same are fails =
      subst (λ (k : RunningWorker). FailsQueue medium takes
      (telling_scene (holding k lines) disk outlet) why (telling_scene new disk' outlet')) same
      (subst (λ z. FailsQueue medium takes (telling_scene (holding v z) disk outlet) why
      (telling_scene new disk' outlet')) are fails)

  -- all are told
  pub tells_held : (w : RunningWorker) (lines held : List NumberedLine) (new : RunningWorker)
      (disk disk' : D) (outlet outlet' : O) → held ≡ lines
      → TellsAll takes (held_as_begun held) w.process new.process outlet outlet'
      → FlushesAll (held_as_begun held) w new (medium disk) (medium disk')
      → TellsQueue medium takes (telling_scene (holding w lines) disk outlet)
      (telling_scene (holding new []) disk' outlet')
  tells_held w lines held new disk disk' outlet outlet' are tells flushes =
      subst (λ z. TellsQueue medium takes (telling_scene (holding w z) disk outlet)
      (telling_scene (holding new []) disk' outlet')) are (refl, tells, flushes)

  -- as many may wait
  pub as_many : (m n : ℕ) (w : RunningWorker) (lines : List NumberedLine) (w' : RunningWorker)
      (lines' : List NumberedLine) (disk disk' : D) (outlet outlet' : O) → m ≡ n
      → HoldsOrTells medium takes m (telling_scene (holding w lines) disk outlet)
      (telling_scene (holding w' lines') disk' outlet')
      → HoldsOrTells medium takes n (telling_scene (holding w lines) disk outlet)
      (telling_scene (holding w' lines') disk' outlet')
  as_many m n w lines w' lines' disk disk' outlet outlet' same h =
      subst (λ k. HoldsOrTells medium takes k (telling_scene (holding w lines) disk outlet)
      (telling_scene (holding w' lines') disk' outlet')) same h

  -- the process is as it was, where none waits
  pub freed_same : (w w' : RunningWorker) (lines lines' : List NumberedLine) (disk disk' : D)
      (outlet outlet' : O) → waiting_in w.process ≡ []
      → FreesOrTells medium takes (telling_scene (holding w lines) disk outlet)
      (telling_scene (holding w' lines') disk' outlet')
      → w'.process ≡ w.process
  freed_same w w' lines lines' disk disk' outlet outlet' empty (inl h) =
      ap (λ (k : SceneOf Holding D (Unit {0}) O). k.worker.running.process) h.1
  freed_same w w' lines lines' disk disk' outlet outlet' empty (inr h) =
      let behind = h.1.2 in nothing_released w.process w'.process empty behind.released
