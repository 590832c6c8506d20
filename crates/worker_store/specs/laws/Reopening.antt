-- A worker that is recovered or created, as events of a life: the lines that are told again, and
-- the opening.
use Rattle.std.specs.Prelude.{◌≡◌, ◌⊎◌, ℕ, ◌+◌, ◌≤◌, true, List, ◌∷◌, ◌++◌, None}
use Rattle.std.specs.Prelude.{length, map, drop, take}
use Rattle.wasm_syntax.specs.declared.module.Module.{Module}
use Rattle.wasi_abi.specs.rules.Configs.{Settings}
use Rattle.wasi_calls_rules.specs.WasiStates.{Line}
use Rattle.process_rules.specs.Processes.{ProcessState, Guest, IsStart}
use Rattle.process_rules.specs.Behind.{IsNarrowTo}
use Rattle.process_rules.specs.Runs.{Runs}
use Rattle.record_replay.specs.rules.Calls.{Tells, all_taken, last_refused}
use Rattle.state_image.specs.rules.ProcessImage.{Saved}
use Rattle.worker_store.specs.restart_theorem.Lives.{Inputs, Opened, Creates}
use Rattle.worker_store.specs.restart_theorem.Courses.{Stage, Shut, Unheard, at_beginning}
use Rattle.worker_store.specs.restart_theorem.Courses.{next_stage, IsLast}
use Rattle.worker_store.specs.restart_theorem.Promises.{Promise, after, HoldsAll, TakesLast}
use Rattle.worker_store.specs.restart_theorem.Promises.{IsOpening}
use Rattle.worker_store.specs.restart_theorem.Holds.{IsNothingYet}
use Rattle.worker_store.specs.rules.BetweenCalls.{IsForetold, IsBetween}
use Rattle.worker_store.specs.laws.Telling.{ArePerformed}
use Rattle.worker_store.specs.laws.CallEnds.{IsSavedAs}

module _ (m : Module) (config : Settings) (guest : Guest) where
  -- A life that hasn't opened has come to this process, on so many of the kept answers. So many of
  -- its lines are told.
  pub record IsReviving (promise : Promise) (stage : Stage) (held told : ℕ) (p : ProcessState) :
      Type 0 where
    pub within : held ≤ length promise.kept
    pub start : ProcessState
    pub begins : IsStart m config guest start
    pub runs : Runs guest start (take held promise.kept) p.steps p
    pub up_to : IsNarrowTo (drop held promise.kept) p.steps
    pub shut : stage.phase ≡ Shut
    pub last : IsLast stage.line told
    pub emitted : told ≤ length p.host.lines
    pub heard : told ≤ promise.heard
    pub passed : promise.passed ≤ told

  -- All lines after those are told, and the outlet takes them.
  abbrev pub LinesAreRetold : Type 0
  LinesAreRetold =
      (promise : Promise) (stage : Stage) (held told number : ℕ) (p : ProcessState)
      (lines : List Line) → IsReviving promise stage held told p → number ≡ told + 1
      → drop told p.host.lines ≡ lines
      → IsForetold stage (map Tells (all_taken number lines))
      → (made : ArePerformed m config promise stage (length p.host.lines)
      (map Tells (all_taken number lines)))
      × IsReviving made.promise' made.stage' held (length p.host.lines) p

  -- Some are told, and the next one is refused: then it doesn't open.
  abbrev pub LinesAreRetoldInVain : Type 0
  LinesAreRetoldInVain =
      (promise : Promise) (stage : Stage) (held told number : ℕ) (p : ProcessState)
      (first others : List Line) (line : Line) → IsReviving promise stage held told p
      → number ≡ told + 1 → drop told p.host.lines ≡ first ++ (line ∷ others)
      → IsForetold stage (map Tells (last_refused number first line))
      → (made : ArePerformed m config promise stage (length p.host.lines)
      (map Tells (last_refused number first line))) × (made.stage'.phase ≡ Unheard)

  -- ---- the opening

  -- Where a creation was begun, all that was promised is held, and all lines are told, it opens. If
  -- it has told one, it has just taken the last of its answers.
  abbrev pub LivesOpen : Type 0
  LivesOpen =
      (promise : Promise) (stage : Stage) (held : ℕ) (p : ProcessState) (shown : Saved)
      → IsReviving promise stage held (length p.host.lines) p
      → IsSavedAs m config guest p shown → promise.was_created ≡ true
      → HoldsAll m config promise.kept promise held p.steps
      → (stage.line ≡ None) ⊎ TakesLast m config (take held promise.kept) p.steps
      → IsOpening m config promise stage held shown
      × IsBetween m config guest (after promise (Opened held shown))
      (next_stage stage (Opened held shown)) p

  -- What nothing was promised of is held by a process that has just begun.
  abbrev pub FreshHoldsNothing : Type 0
  FreshHoldsNothing =
      (promise : Promise) (start : ProcessState) → IsNothingYet promise
      → IsStart m config guest start → HoldsAll m config promise.kept promise 0 start.steps

  -- Such a process can be opened, as it has emitted no line.
  abbrev pub FreshLivesBegin : Type 0
  FreshLivesBegin =
      (promise : Promise) (inputs : Inputs) (start : ProcessState) → IsNothingYet promise
      → IsStart m config guest start
      → IsReviving promise (at_beginning Creates inputs) 0 (length start.host.lines) start
