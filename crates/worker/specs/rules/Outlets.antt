-- What an outlet says to the lines that are released to it (this project's own).
use Rattle.std.specs.Prelude.{◌≡◌, ◌⊎◌, List, Result, Ok, Err}
use Rattle.std.specs.List.{AllByRecursion}
use Rattle.record_replay.specs.declared.fault.OutletFault.{OutletFault}
use Rattle.record_replay.specs.declared.fault.ReplayFault.TheVariants as replay
use Rattle.record_replay.specs.rules.Calls.{Taking, Begun, Released, Releases}
use Rattle.record_replay.specs.declared.slices.fault.SliceFault.TheVariants as slice
use Rattle.worker.specs.declared.fault.WorkFault.TheVariants.{Work}
use Rattle.worker.specs.declared.recover_fault.RecoverFault.{RecoverFault}
use Rattle.worker.specs.declared.recover_fault.RecoverFault.TheVariants.{Worker, Replay}

-- a line that it took
abbrev pub WasTaken : Begun → Type 0
WasTaken begun = begun.said ≡ Ok tt

-- Some lines were released to it, and it took each of them. So it came to be this one.
pub record TakesEach {O : Type 0} (takes : Taking O) (outlet outlet' : O) : Type 0 where
  pub releases : List Begun
  pub led : Releases takes outlet releases outlet'
  pub taken : AllByRecursion WasTaken releases

-- It took each of them but the last, to which it answered a fault.
pub record RefusesLast {O : Type 0} (takes : Taking O) (outlet outlet' : O) : Type 0 where
  pub between : O
  pub before : TakesEach takes outlet between
  pub last : Begun
  pub released : Released takes between last outlet'
  pub fault : OutletFault
  pub said : last.said ≡ Err fault

-- It took each, and this isn't so. Or it refused the last one, and this is so.
abbrev pub HeedsOutlet : {O : Type 0} → Taking O → Type 0 → O → O → Type 0
HeedsOutlet takes IsReported outlet outlet' = (TakesEach takes outlet outlet' × (IsReported → ⊥))
    ⊎ (RefusesLast takes outlet outlet' × IsReported)

-- an error that says that the outlet has failed, of a call or of a replay
abbrev pub IsOutletFault : RecoverFault → Type 0
IsOutletFault (Worker (Work slice.Outlet)) = Unit {0}
IsOutletFault (Replay replay.Outlet) = Unit {0}
IsOutletFault other = ⊥

-- a result that says so
abbrev pub SaysOutletFault : {T : Type 0} → Result T RecoverFault → Type 0
SaysOutletFault (Ok done) = ⊥
SaysOutletFault (Err why) = IsOutletFault why
