-- What a worker is before and after a call has failed, and what asking for an answer does.
use Rattle.std.specs.Prelude.{◌≡◌, Bool, true, false, Option, Some, None, Result, Ok, Err}
use Rattle.wasi_abi.specs.declared.answer.Question.{Question}
use Rattle.wasi_abi.specs.declared.answer.Answer.{Answer}
use Rattle.record_replay.specs.declared.fault.SourceFault.{SourceFault}
use Rattle.record_replay.specs.rules.Calls.{Giving}
use Rattle.process.specs.declared.fault.ProcessFault.{ProcessFault}
use Rattle.process.specs.rules.Values.{ProcessValue}
use Rattle.process.specs.rules.Stops.{GivesAnswer}
use Rattle.record_replay.specs.declared.slices.fault.SliceFault.{SliceFault}
use Rattle.record_replay.specs.declared.slices.fault.SliceFault.TheVariants as fault
use Rattle.record_replay.specs.rules.Refusals.{slice_fault}
use Rattle.record_replay.specs.rules.Workers.{WorkerValue}

-- a worker of this process, before and after a call of it has failed
abbrev pub working : ProcessValue → WorkerValue
working v = record { process = v; failed = false }

abbrev pub failing : ProcessValue → WorkerValue
failing v = record { process = v; failed = true }

-- ---- answers

-- whether the step that takes the answer was taken, or why not
abbrev pub taken_by : Result (Unit {0}) ProcessFault → Result Bool SliceFault
taken_by (Ok done) = Ok true
taken_by (Err why) = Err (slice_fault why)

-- The source failed; it had no answer yet; or it gave one, which the process was given.
abbrev pub AnswersBy : ProcessValue → Result (Option Answer) SourceFault → Result Bool SliceFault
    → ProcessValue → Type 0
AnswersBy old (Err e) result new = (result ≡ Err fault.Source) × (new ≡ old)
AnswersBy old (Ok None) result new = (result ≡ Ok false) × (new ≡ old)
AnswersBy old (Ok (Some a)) result new = (given : Result (Unit {0}) ProcessFault)
    × GivesAnswer old a given new × (result ≡ taken_by given)

pub record AsksOnce {S : Type 0} (gives : Giving S) (question : Question) (old : ProcessValue)
    (result : Result Bool SliceFault) (new : ProcessValue) (source source' : S) : Type 0 where
  pub said : Result (Option Answer) SourceFault
  pub asked : gives source question said source'
  pub answers : AnswersBy old said result new
