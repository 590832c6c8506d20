-- Lines that are released one after another, as events of a life.
use Rattle.std.specs.Prelude.{◌≡◌, ℕ, suc, ◌≤◌, max, List, ◌∷◌, ◌++◌, length, map, drop}
use Rattle.wasm_syntax.specs.declared.module.Module.{Module}
use Rattle.wasi_abi.specs.rules.Configs.{Settings}
use Rattle.wasi_calls_rules.specs.WasiStates.{Line}
use Rattle.process_rules.specs.Processes.{ProcessState, Guest}
use Rattle.record_replay.specs.rules.Calls.{Exchange, Tells, all_taken, last_refused}
use Rattle.worker_store.specs.restart_theorem.Lives.{Act, OfOutlet}
use Rattle.worker_store.specs.restart_theorem.Courses.{Stage, Broken}
use Rattle.worker_store.specs.restart_theorem.Promises.{Promise}
use Rattle.worker_store.specs.laws.Underway.{IsUnderWay, IsBroken, HasLinesLeft, standstill}
use Rattle.worker_store.specs.rules.BetweenCalls.{IsForetold}
use Rattle.worker_store.specs.laws.Pieces.{AreDone}

-- Nothing is promised in between but that lines were told, up to this one.
pub record AddsLines (promise : Promise) (line : ℕ) (promise' : Promise) : Type 0 where
  pub kept : promise'.kept ≡ promise.kept
  pub answers : promise'.answers ≡ promise.answers
  pub steps : promise'.steps ≡ promise.steps
  pub passed : promise'.passed ≡ promise.passed
  pub synced : promise'.synced ≡ promise.synced
  pub created : promise'.was_created ≡ promise.was_created
  pub opened : promise'.has_opened ≡ promise.has_opened
  pub begun : promise'.begun ≤ max line promise.begun
  pub heard : promise.heard ≤ promise'.heard
  pub events : promise.events ≤ promise'.events

-- The releases were made: where they lead.
pub record ArePerformed (m : Module) (config : Settings) (promise : Promise) (stage : Stage)
    (line : ℕ) (exchanges : List Exchange) : Type 0 where
  pub promise' : Promise
  pub stage' : Stage
  pub done : AreDone m config promise stage exchanges promise' stage'
  pub adds : AddsLines promise line promise'

module _ (m : Module) (config : Settings) (guest : Guest) where
  -- All lines that were not told are told, and the outlet takes them: then all are.
  abbrev pub AllLinesAreTold : Type 0
  AllLinesAreTold =
      (promise : Promise) (stage : Stage) (act : Act) (told : ℕ) (p : ProcessState)
      (lines : List Line) → IsUnderWay m config guest promise stage act told p
      → drop told p.host.lines ≡ lines
      → IsForetold stage (map Tells (all_taken (suc told) lines))
      → (made : ArePerformed m config promise stage (length p.host.lines)
      (map Tells (all_taken (suc told) lines)))
      × IsUnderWay m config guest made.promise' made.stage' act (length p.host.lines) p

  -- Some are told, and the next one is refused.
  abbrev pub LinesAreToldInVain : Type 0
  LinesAreToldInVain =
      (promise : Promise) (stage : Stage) (act : Act) (told : ℕ) (p : ProcessState)
      (first others : List Line) (line : Line)
      → IsUnderWay m config guest promise stage act told p
      → drop told p.host.lines ≡ first ++ (line ∷ others)
      → IsForetold stage (map Tells (last_refused (suc told) first line))
      → (made : ArePerformed m config promise stage (length p.host.lines)
      (map Tells (last_refused (suc told) first line)))
      × IsBroken m config guest made.promise' made.stage' act
      (standstill (length promise.kept) p (Broken OfOutlet))

  -- Lines that wait behind the last question of a batch are told, and the outlet takes them.
  abbrev pub LeftLinesAreTold : Type 0
  LeftLinesAreTold =
      (promise : Promise) (stage : Stage) (act : Act) (told : ℕ) (p : ProcessState)
      (lines : List Line) → HasLinesLeft m config guest promise stage act told p
      → drop told p.host.lines ≡ lines
      → IsForetold stage (map Tells (all_taken (suc told) lines))
      → (made : ArePerformed m config promise stage (length p.host.lines)
      (map Tells (all_taken (suc told) lines)))
      × HasLinesLeft m config guest made.promise' made.stage' act (length p.host.lines) p
      × (made.stage'.phase ≡ stage.phase)

  -- Some are told, and the next one is refused.
  abbrev pub LeftLinesAreToldInVain : Type 0
  LeftLinesAreToldInVain =
      (promise : Promise) (stage : Stage) (act : Act) (told : ℕ) (p : ProcessState)
      (first others : List Line) (line : Line)
      → HasLinesLeft m config guest promise stage act told p
      → drop told p.host.lines ≡ first ++ (line ∷ others)
      → IsForetold stage (map Tells (last_refused (suc told) first line))
      → (made : ArePerformed m config promise stage (length p.host.lines)
      (map Tells (last_refused (suc told) first line)))
      × IsBroken m config guest made.promise' made.stage' act
      (standstill (length promise.kept) p (Broken OfOutlet))
