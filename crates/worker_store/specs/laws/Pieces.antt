-- Parts of a call, one after another: their exchanges are events that keep what was promised.
use Rattle.std.specs.Prelude.{◌≡◌, List, [], ◌∷◌, ◌++◌}
use Rattle.wasm_syntax.specs.declared.module.Module.{Module}
use Rattle.wasi_abi.specs.rules.Configs.{Settings}
use Rattle.record_replay.specs.rules.Calls.{Exchange}
use Rattle.worker_store.specs.restart_theorem.Lives.{Event}
use Rattle.worker_store.specs.restart_theorem.Courses.{Stage, next_stage, stage_after}
use Rattle.worker_store.specs.restart_theorem.Promises.{Promise, after, promised, AreKept, IsKept}
use Rattle.worker_store.specs.restart_theorem.Exchanges.{AreEvents}
use Rattle.worker_store.specs.rules.BetweenCalls.{IsForetold}

-- The exchanges are events that keep what was promised, and lead to this promise and this stage.
pub record AreDone (m : Module) (config : Settings) (promise : Promise) (stage : Stage)
    (exchanges : List Exchange) (promise' : Promise) (stage' : Stage) : Type 0 where
  pub events : List Event
  pub are : AreEvents exchanges events
  pub kept : AreKept m config promise stage events
  pub promised_is : promise' ≡ promised promise events
  pub stage_is : stage' ≡ stage_after stage events

-- Two parts are one.
abbrev pub PartsJoin : Type 0
PartsJoin =
    (m : Module) (config : Settings) (promise between promise' : Promise)
    (stage inside stage' : Stage) (first rest : List Exchange)
    → AreDone m config promise stage first between inside
    → AreDone m config between inside rest promise' stage'
    → AreDone m config promise stage (first ++ rest) promise' stage'

-- What is foretold of both is foretold of the first, and then of the second.
abbrev pub PartsAreForetold : Type 0
PartsAreForetold =
    (m : Module) (config : Settings) (promise between : Promise) (stage inside : Stage)
    (first rest : List Exchange) → IsForetold stage (first ++ rest)
    → (AreDone m config promise stage first between inside → IsForetold inside rest)
    × IsForetold stage first

-- The end of a call comes after its exchanges.
abbrev pub EndsJoin : Type 0
EndsJoin =
    (m : Module) (config : Settings) (promise between : Promise) (stage inside : Stage)
    (exchanges : List Exchange) (end : Event)
    → (done : AreDone m config promise stage exchanges between inside)
    → IsKept m config between inside end
    → AreKept m config promise stage (done.events ++ end ∷ [])
    × (promised promise (done.events ++ end ∷ []) ≡ after between end)
    × (stage_after stage (done.events ++ end ∷ []) ≡ next_stage inside end)
