-- A process that is made again of its image (this project's own).
use Rattle.std.specs.Prelude.{◌≡◌, ℕ, List, []}
use Rattle.wasm_syntax.specs.declared.types.FunctionType.{FunctionType}
use Rattle.wasm_syntax.specs.declared.module.Module.{Module}
use Rattle.wasm_rules.specs.Validity.{AreFunctionTypes, module_context}
use Rattle.wasi_abi.specs.rules.Configs.{Settings}
use Rattle.process_rules.specs.Processes.{ProcessState, Guest, IsStart}
use Rattle.process.specs.rules.Values.{ProcessValue, ShowsProcess, waiting_in}
use Rattle.state_image.specs.rules.ProcessImage.{Saved, SavedShowsProcess, process_image}
use Rattle.state_image.specs.rules.Saving.{saved_of}
use Rattle.state_image.specs.rules.WellTyped.{IsConfigured, IsWellTyped}

-- what is saved shows this process of the module under the configuration
pub record SavedShowsIn (m : Module) (config : Settings) (s : Saved) (guest : Guest)
    (p : ProcessState) : Type 0 where
  pub start : ProcessState
  pub begins : IsStart m config guest start
  pub functions : List FunctionType
  pub function_types : AreFunctionTypes m functions
  pub shown : SavedShowsProcess (module_context m functions) guest.program
      begins.begins.store.table s p
  pub configured : IsConfigured config p.host

-- The process was made again of these bytes: they are its image, and an accepted one. No line
-- waits. It shows every process of the rules that the image shows.
pub record IsRestored (m : Module) (config : Settings) (bytes : List ℕ) (v : ProcessValue) :
    Type 0 where
  pub guest : v.machine.guest ≡ m
  pub is : bytes ≡ process_image (saved_of v)
  pub well_typed : IsWellTyped m config (saved_of v)
  pub none_waits : waiting_in v ≡ []
  pub shows : (guest : Guest) (p : ProcessState) → SavedShowsIn m config (saved_of v) guest p
      → ShowsProcess v guest p
