-- What a stretch of steps comes to.
use Rattle.std.specs.Prelude.{◌≡◌, ℕ, suc, ◌<◌, ◌≤◌, Bool, true, false, List, [], ◌∷◌, Option, Some}
use Rattle.std.specs.Prelude.{None, Result, Ok, Err}
use Rattle.std.specs.Option.{option_map}
use Rattle.wasi_abi.specs.declared.call.Call.{Call}
use Rattle.wasi_calls_rules.specs.WasiStates.{Line}
use Rattle.wasi_calls.specs.rules.Held.{HeldWasiState}
use Rattle.machine.specs.rules.Values.{MachineValue}
use Rattle.process_rules.specs.Processes.{ProcessState, Guest}
use Rattle.process_rules.specs.Runs.{Wants, next_of, Moves}
use Rattle.process_rules.specs.Owing.{IsOwing, RunsQuietly}
use Rattle.process.specs.declared.stop.ProcessEnd.{ProcessEnd}
use Rattle.process.specs.declared.stop.Stop.{Stop}
use Rattle.process.specs.declared.stop.Stop.TheVariants as stop
use Rattle.process.specs.declared.fault.ProcessFault.{ProcessFault}
use Rattle.process.specs.declared.fault.ProcessFault.TheVariants as fault
use Rattle.process.specs.declared.calling.Called.{Called}
use Rattle.process.specs.declared.calling.Called.TheVariants as called
use Rattle.process.specs.declared.stretch.Stretch.{Stretch}
use Rattle.process.specs.rules.Values.{ending_of}
use Rattle.process.specs.rules.Stops.{CallsHost, IsBeyond}
use Rattle.process.specs.Parts.{ShowsParts, IsAtCall}

-- after steps after which nothing is owed, one after which something is
pub record Owes (guest : Guest) (p q : ProcessState) (fuel steps : ℕ) : Type 0 where
  pub quiet : ℕ
  pub before : ProcessState
  pub runs : RunsQuietly guest p quiet before
  pub moves : Moves guest before None q
  pub owing : IsOwing guest before q
  pub are : steps ≡ suc quiet
  pub within : quiet < fuel

-- so many steps of the fuel, after none of which anything is owed, and no line waits
pub record ComesOn (guest : Guest) (p q : ProcessState) (steps : ℕ) (waiting : List Line) :
    Type 0 where
  pub runs : RunsQuietly guest p steps q
  pub none_waits : waiting ≡ []

-- why a stretch of so many steps has stopped, if it has
abbrev pub ComesBy : Guest → ProcessState → ProcessState → ℕ → ℕ → List Line
    → Option (Result Stop ProcessFault) → Type 0
ComesBy guest p q fuel steps waiting None = ComesOn guest p q steps waiting × (q.ended ≡ None)
    × (0 < steps) × (steps ≤ fuel)
ComesBy guest p q fuel steps waiting (Some (Ok stop.Owes)) = Owes guest p q fuel steps
ComesBy guest p q fuel steps waiting (Some (Ok (stop.Ended how))) = ComesOn guest p q steps waiting
    × (q.ended ≡ Some (ending_of how)) × (steps ≤ fuel)
ComesBy guest p q fuel steps waiting (Some (Ok stop.Spent)) = ComesOn guest p q steps waiting
    × (q.ended ≡ None) × (steps ≡ fuel)
ComesBy guest p q fuel steps waiting (Some (Ok (stop.Asks question))) = ComesOn guest p
    q steps waiting × (q.ended ≡ None) × (steps < fuel) × (next_of guest q None ≡ Wants question)
ComesBy guest p q fuel steps waiting (Some (Err fault.Memory)) = ComesOn guest p q steps waiting
    × (q.ended ≡ None) × (steps < fuel) × CallsHost guest q
ComesBy guest p q fuel steps waiting (Some (Err fault.StepsSpent)) = ComesOn guest p q steps waiting
    × (q.ended ≡ None) × (steps < fuel) × IsBeyond guest q None
ComesBy guest p q fuel steps waiting (Some (Err fault.WrongAnswer)) = ⊥

-- it leads to a process that is then shown
pub record ComesToShown (machine : MachineValue) (held : HeldWasiState) (guest : Guest)
    (p : ProcessState) (fuel : ℕ) (s : Stretch) : Type 0 where
  pub process : ProcessState
  pub shows : ShowsParts machine held guest process
  pub ended : process.ended ≡ option_map ending_of s.ended
  pub comes : ComesBy guest p process fuel s.steps held.host.lines s.stop

-- whichever process was shown that has not ended
abbrev pub Stretches : MachineValue → HeldWasiState → ℕ → Stretch → MachineValue
    → HeldWasiState → Type 0
Stretches old old_held fuel s new held =
    (guest : Guest) (p : ProcessState) → ShowsParts old old_held guest p → p.ended ≡ None
    → ComesToShown new held guest p fuel s

-- why a process stops after a step: something is owed, or it has ended
abbrev pub stop_after : Bool → List Line → Option ProcessEnd → Option (Result Stop ProcessFault)
stop_after true waiting ended = Some (Ok stop.Owes)
stop_after false (line ∷ waiting) ended = Some (Ok stop.Owes)
stop_after false [] (Some how) = Some (Ok (stop.Ended how))
stop_after false [] None = None

-- whichever process was shown that is at this call, where any fuel is left
abbrev pub StepsAt : MachineValue → HeldWasiState → Call → List ℕ → Stretch → MachineValue
    → HeldWasiState → Type 0
StepsAt old old_held call arguments s new held =
    (guest : Guest) (p : ProcessState) (fuel : ℕ) → ShowsParts old old_held guest p → p.ended ≡ None
    → IsAtCall guest p.configuration call arguments → 0 < fuel
    → ComesToShown new held guest p fuel s

-- the stretch of a call's step
abbrev pub stretch_of : Result Called ProcessFault → List Line → Stretch
stretch_of (Ok (called.Performed synced ended)) waiting = record {
  steps = 1;
  ended = ended;
  stop = stop_after synced waiting ended;
}
stretch_of (Ok (called.Asks question)) waiting = record {
  steps = 0;
  ended = None;
  stop = Some (Ok (stop.Asks question));
}
stretch_of (Err fault) waiting = record { steps = 0; ended = None; stop = Some (Err fault) }
