-- What going on without fuel does: it reduces.
use Rattle.std.proofs.Common.{◌≡◌, ℕ, List, subst, arith}
use Rattle.wasm_syntax.specs.declared.types.FunctionType.{FunctionType}
use Rattle.wasm_rules.specs.Configuration.{Program, Configuration}
use Rattle.wasm_rules.specs.Steps.{IsReduced, ReducesTo}
use Rattle.machine_frame.specs.rules.Walks.{Walks}
use Rattle.machine_frame.proofs.FramePosition.Walking.{walks_reduce}
use Rattle.machine.specs.declared.execution.code.Executable.{Executable}
use Rattle.machine.specs.declared.execution.state.State.{State}
use Rattle.machine.specs.declared.execution.pause.Pause.{Pause}
use Rattle.machine.specs.declared.execution.pause.Pause.TheVariants as pause
use Rattle.machine.specs.Execution.Codes.{StateStandsFor}
use Rattle.machine.specs.Execution.Pauses.{ComesToState, PausesFor}
use Rattle.machine.proofs.Reduced.{ended_reduced}

-- the state stands for what the configuration reduces to
pub record ReducesIn (code : Executable) (new : State) (functions : List FunctionType)
    (program : Program) (d : Configuration) : Type 0 where
  pub configuration : Configuration
  pub stands : StateStandsFor code new functions program configuration
  pub reduced : IsReduced program configuration
  pub reduces : ReducesTo program d configuration

module _ (code : Executable) (new : State) (functions : List FunctionType) (program : Program)
    (d : Configuration) where
  come_reduces : {fuel_left : ℕ} (come : ComesToState code new functions program d 0 fuel_left)
      → IsReduced program come.configuration → ReducesIn code new functions program d
  come_reduces come e =
      let used = come.used in
      let none : come.steps ≡ 0 = omega (arith, used) in
      record {
        configuration = come.configuration;
        stands = come.stands;
        reduced = e;
        reduces = walks_reduce program d come.configuration
            (subst (λ n. Walks program n d come.configuration) none come.walks) e;
      }

  pub at_once : (fuel_left : ℕ) (why : Pause) → PausesFor code new functions program d
      0 fuel_left why → ReducesIn code new functions program d
  at_once fuel_left pause.Spent h = come_reduces h.0 h.1
  at_once fuel_left (pause.Host asked) h = let used = h.0.used in let some = h.2 in
      absurd (omega (arith, used, some))
  at_once fuel_left pause.Returned h =
      come_reduces h.0 (ended_reduced program h.1)
  at_once fuel_left (pause.Trapped why) h = let used = h.used in absurd (omega (arith, used))
