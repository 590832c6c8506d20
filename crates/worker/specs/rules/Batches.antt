-- A batch of a worker on its disk: a slice in which lines may wait, until one barrier serves them
-- all (this project's own).
use Rattle.std.specs.Prelude.{◌≡◌, ℕ, ◌≤◌, false, List, [], ◌∷◌, ◌++◌, length, map}
use Rattle.std.specs.Prelude.{Result, Ok, Err, Some, IfErr, ◌⊎◌}
use Rattle.wasi_abi.specs.declared.answer.Answer.{Answer}
use Rattle.process_rules.specs.Processes.{ProcessState, Guest}
use Rattle.process.specs.rules.Values.{ProcessValue, ShowsProcess}
use Rattle.sector_disk.specs.rules.Medium.{Medium}
use Rattle.record_replay.specs.declared.fault.OutletFault.{OutletFault}
use Rattle.record_replay.specs.declared.line_list.NumberedLine.{NumberedLine}
use Rattle.record_replay.specs.rules.Calls.{Giving, Taking, Ports, ports, Ask, Begun}
use Rattle.record_replay.specs.rules.Calls.{Exchange, Asks, Releases}
use Rattle.record_replay.specs.rules.Lists.{KeepsLine}
use Rattle.worker_store.specs.restart_theorem.Lives.{Batch}
use Rattle.worker_store.specs.declared.fault.StoreFault.TheVariants as store
use Rattle.record_replay.specs.declared.slices.now.Now.{Now}
use Rattle.record_replay.specs.declared.slices.fault.SliceFault.TheVariants as slice
use Rattle.record_replay.specs.rules.Slices.{SliceLeadsTo, AreAnswered}
use Rattle.record_replay.specs.rules.Faults.{Fails, LeadsUpTo}
use Rattle.record_replay.specs.Turns.{working, failing}
use Rattle.worker.specs.declared.fault.WorkFault.{WorkFault}
use Rattle.worker.specs.declared.fault.WorkFault.TheVariants.{Work, Disk, Store}
use Rattle.worker.specs.rules.DurableCalls.{CallKeeps}
use Rattle.worker.specs.rules.DurableFailures.{IsDiskCause, StopsAtStore}
use Rattle.worker.specs.rules.Effects.{RunsSteps}
use Rattle.worker.specs.rules.Scenes.{Scene, ports_of}

-- ---- why it fails

-- where lines go to a list, which takes each
abbrev pub keeping : Taking (List NumberedLine)
keeping = λ old number line said new. KeepsLine old number line said new

-- the release of such a line, to an outlet that took it
abbrev pub taking : NumberedLine → Begun
taking l = record {
  number = l.number;
  line = record { stream = l.stream; text = l.text };
  said = Ok tt;
}

-- the first of these releases were made, none to all
abbrev pub TellsFront : {O : Type 0} → Taking O → List Begun → O → O → Type 0
TellsFront takes all outlet outlet' = (front : List Begun) × (back : List Begun)
    × (all ≡ front ++ back) × Releases takes outlet front outlet'

-- the last question was answered, and the process hasn't taken the answer
abbrev pub HasUntakenAnswer : Guest → ProcessState → List Exchange → ℕ → ProcessState → Type 0
HasUntakenAnswer guest p made n q = (answer : Answer) × LeadsUpTo guest p made n q (Some answer)

-- How many of these releases a batch has made that has failed. Where the outlet has refused a line,
-- those up to it. Where the source failed, or no generation is left, all of them. Where memory is
-- wanted, or a step can't be counted, all of them too, unless an answer is untaken. Else the first
-- ones, none to all.
abbrev pub ToldUpTo : {O : Type 0} → Taking O → (untaken : Type 0) → WorkFault → List Begun
    → O → O → Type 0
ToldUpTo takes untaken (Work slice.Outlet) all outlet outlet' = (front : List Begun)
    × (last : Begun) × (back : List Begun) × (fault : OutletFault)
    × (all ≡ front ++ (last ∷ back))
    × Releases takes outlet (front ++ (record last { said = Err fault } ∷ [])) outlet'
ToldUpTo takes untaken (Work slice.Source) all outlet outlet' = Releases takes outlet all outlet'
ToldUpTo takes untaken (Store store.TooBig) all outlet outlet' = Releases takes outlet all outlet'
ToldUpTo takes untaken (Work slice.Memory) all outlet outlet' =
    Releases takes outlet all outlet' ⊎ (untaken × TellsFront takes all outlet outlet')
ToldUpTo takes untaken (Work (slice.Refused why)) all outlet outlet' =
    Releases takes outlet all outlet' ⊎ (untaken × TellsFront takes all outlet outlet')
ToldUpTo takes untaken other all outlet outlet' = TellsFront takes all outlet outlet'

-- It stops before a step, where no line of its own is left to be emitted. One question more may
-- have ended it.
abbrev pub StopsBatch : Guest → ProcessState → List Exchange → ℕ → ProcessState → Type 0
StopsBatch guest p made n q = (front : List Exchange) × (last : List Ask) × (length last ≤ 1)
    × (made ≡ front ++ map Asks last) × SliceLeadsTo guest p front n q × AreAnswered front

-- What has failed a batch: a disk, a full journal or an outlet also where lines waited that are
-- told then. Else it is what fails a slice.
abbrev pub IsBatchCause : Guest → ProcessState → ℕ → List Exchange → ℕ → ProcessState
    → WorkFault → Type 0
IsBatchCause guest p fuel made n q (Disk fault) = (n ≤ fuel) × StopsBatch guest p made n q
IsBatchCause guest p fuel made n q (Work slice.Outlet) = (n ≤ fuel) × StopsBatch guest p made n q
IsBatchCause guest p fuel made n q (Store store.Full) =
    (n ≤ fuel) × (StopsAtStore guest p made n q ⊎ StopsBatch guest p made n q)
IsBatchCause guest p fuel made n q why = IsDiskCause guest p fuel made n q why

-- The process has run as where all lines go to a list, and as much of that list was told.
abbrev pub BatchFails : {S O : Type 0} → Giving S → Taking O → ProcessValue → ℕ → WorkFault
    → ProcessValue → Ports S O → Ports S O → Type 0
BatchFails gives takes old fuel why new before after =
    (guest : Guest) (p : ProcessState) → ShowsProcess old guest p → (told : List NumberedLine)
    × (fails : Fails gives keeping (working old) (failing new) guest p
    (ports before.source []) (ports after.source told))
    × ToldUpTo takes (HasUntakenAnswer guest p fails.exchanges fails.steps fails.process) why
    (map taking told) before.outlet after.outlet
    × IsBatchCause guest p fuel fails.exchanges fails.steps fails.process why

-- ---- a batch

-- A batch of at most so many steps, in which fewer than so many lines wait where it asks.
pub record RunsBatch {D S O : Type 0} (medium : D → Medium) (gives : Giving S) (takes : Taking O)
    (fuel most : ℕ) (before : Scene D S O) (result : Result Now WorkFault) (after : Scene D S O)
    : Type 0 where
  pub steps : RunsSteps medium gives takes fuel before result after
  -- whatever was promised is kept, by Ok or by any error
  pub carries : CallKeeps medium gives takes (Batch fuel most) before result after
  -- where it fails, it has run so far as a worker without a disk whose lines go to a list
  pub failed : before.worker.has_failed ≡ false → IfErr result (λ why. BatchFails gives takes
      before.worker.process fuel why after.worker.process (ports_of before) (ports_of after))
