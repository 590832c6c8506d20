-- What the parts of a replay do: up to a record's step, and the faults of a process by their names.
use Rattle.std.specs.Prelude.{◌≡◌, ℕ, suc, []}
use Rattle.process_rules.specs.Processes.{ProcessState, Guest}
use Rattle.process_rules.specs.Runs.{Runs}
use Rattle.process.specs.declared.fault.ProcessFault.{ProcessFault}
use Rattle.process.specs.declared.fault.ProcessFault.TheVariants as stop
use Rattle.process.specs.rules.Values.{ProcessValue, ShowsProcess, waiting_in}
use Rattle.record_replay.specs.rules.Calls.{Taking}
use Rattle.record_replay.specs.rules.Replays.{TellsFrom}
use Rattle.record_replay.specs.declared.fault.ReplayFault.{ReplayFault}
use Rattle.record_replay.specs.declared.fault.ReplayFault.TheVariants as fault

-- what a replay says where its process can't do a step
abbrev pub replay_fault : ProcessFault → ReplayFault
replay_fault stop.WrongAnswer = fault.Diverged
replay_fault stop.Memory = fault.Memory
replay_fault stop.StepsSpent = fault.Diverged

-- Steps without an answer lead from p to a process that is then shown. All its lines were released
-- that had not been before.
pub record RunsOnward {O : Type 0} (takes : Taking O) (old new : ProcessValue) (guest : Guest)
    (p : ProcessState) (outlet outlet' : O) : Type 0 where
  pub steps : ℕ
  pub process : ProcessState
  pub runs : Runs guest p [] steps process
  pub shows : ShowsProcess new guest process
  pub told : TellsFrom takes old.host.released process outlet outlet'

-- No line waits, the next step is of this number, and whichever process was shown has run on.
pub record RunsToStep {O : Type 0} (takes : Taking O) (step : ℕ) (old new : ProcessValue)
    (outlet outlet' : O) : Type 0 where
  pub none_waits : waiting_in new ≡ []
  pub next : suc new.steps ≡ step
  pub shown : (guest : Guest) (p : ProcessState) → ShowsProcess old guest p
      → RunsOnward takes old new guest p outlet outlet'
