-- A worker between two calls of a life, and what its source and its outlet are to do in the next
-- one (this project's own).
use Rattle.std.specs.Prelude.{◌≡◌, Bool, List, [], ◌∷◌, length, Some}
use Rattle.wasm_syntax.specs.declared.module.Module.{Module}
use Rattle.wasi_abi.specs.rules.Configs.{Settings}
use Rattle.process_rules.specs.Processes.{ProcessState, Guest, IsStart}
use Rattle.process_rules.specs.Runs.{Runs}
use Rattle.record_replay.specs.rules.Calls.{Exchange, Asks, Tells}
use Rattle.worker_store.specs.restart_theorem.Lives.{SourceSaid}
use Rattle.worker_store.specs.restart_theorem.Courses.{Stage, first_said, first_taken}
use Rattle.worker_store.specs.restart_theorem.Courses.{without_first, Open}
use Rattle.worker_store.specs.restart_theorem.Promises.{Promise}
use Rattle.worker_store.specs.restart_theorem.Exchanges.{was_taken}

-- The process between two calls: it has taken all kept answers, and all its lines were told.
pub record IsBetween (m : Module) (config : Settings) (guest : Guest) (promise : Promise)
    (stage : Stage) (p : ProcessState) : Type 0 where
  pub start : ProcessState
  pub begins : IsStart m config guest start
  pub runs : Runs guest start promise.kept p.steps p
  pub is_open : stage.phase ≡ Open
  pub step : stage.step ≡ p.steps
  pub line : stage.line ≡ Some (length p.host.lines)

-- what a source is to say, and an outlet to take, is what they have said and taken
abbrev pub Foretell : List SourceSaid → List Bool → List Exchange → Type 0
Foretell says takes [] = Unit {0}
Foretell says takes (Tells begun ∷ exchanges) =
    (was_taken begun.said ≡ first_taken takes) × Foretell says (without_first takes) exchanges
Foretell says takes (Asks ask ∷ exchanges) =
    (ask.said ≡ first_said says) × Foretell (without_first says) takes exchanges

-- so it is with what a life is still to get
abbrev pub IsForetold : Stage → List Exchange → Type 0
IsForetold stage exchanges = Foretell stage.says stage.takes exchanges
