-- What contracts see of a worker: its process, and whether a call of it has failed.
use Rattle.std.specs.Prelude.{◌≡◌, ℕ, Bool, false, List}
use Rattle.wasm_syntax.specs.declared.module.Module.{Module}
use Rattle.wasm_rules.specs.Acceptance.{IsAccepted}
use Rattle.wasi_abi.specs.rules.Configs.{Settings}
use Rattle.machine.specs.rules.Offers.{offer}
use Rattle.process.specs.rules.Values.{ProcessValue, HasStarted}

-- a process, and whether a call of its worker has failed
pub record WorkerValue : Type 0 where
  pub process : ProcessValue
  pub failed : Bool

-- The bytes spell an accepted module, and the worker is at its start.
pub record IsCreated (bytes : List ℕ) (config : Settings) (w : WorkerValue) : Type 0 where
  pub spelled : Module
  pub accepted : IsAccepted offer config.pages bytes spelled
  pub started : HasStarted spelled config w.process
  pub unfailed : w.failed ≡ false
