-- What is put into each life, in the words of the restart theorem.
use Rattle.std.specs.Prelude.{ℕ, zero, suc, Bool, true, false, List, [], ◌∷◌, map, Option, Some}
use Rattle.std.specs.Prelude.{None, Ok}
use Rattle.wasi_abi.specs.declared.answer.Answer.{Answer}
use Rattle.sector_disk.specs.declared.fault_point.FaultPoint.{FaultPoint}
use Rattle.worker_store.specs.restart_theorem.Lives.{Act, Checkpoint, Upgrade, SourceSaid, Inputs}
use Rattle.worker_store.specs.restart_theorem.Lives.Act.{Slice as slice, Batch as batch}
use Rattle.worker.specs.declared.story.life.PlannedAct.{PlannedAct}
use Rattle.worker.specs.declared.story.life.PlannedAct.TheVariants as planned
use Rattle.worker.specs.declared.story.life.PlannedLife.{PlannedLife}

-- an act, in the words of the restart theorem
abbrev pub act_of : PlannedAct → Act
act_of (planned.Slice fuel) = slice fuel
act_of (planned.Batch fuel most) = batch fuel most
act_of planned.Checkpoint = Checkpoint
act_of planned.Upgrade = Upgrade

-- the source says that it has this answer
abbrev pub said_of : Answer → SourceSaid
said_of answer = Ok (Some answer)

-- the call of the disk at which the power is cut, or that fails
abbrev pub call_at : Option FaultPoint → Option ℕ
call_at None = None
call_at (Some point) = Some point.call

-- the number of a release that is refused, or 0
abbrev pub number_refused : Option ℕ → ℕ
number_refused None = 0
number_refused (Some number) = number

-- whether an outlet takes each release, where it refuses the one of this number
abbrev pub takes_but : ℕ → List Bool
takes_but zero = []
takes_but (suc zero) = false ∷ []
takes_but (suc (suc n)) = true ∷ takes_but (suc n)

-- The source hands the answers out. The outlet takes each line but one, if one is named, and no
-- call of the disk fails but the one that is named, if one is.
abbrev pub inputs_of : PlannedLife → Inputs
inputs_of life = record {
  says = map said_of life.answers;
  takes = takes_but (number_refused life.refuse);
  acts = map act_of life.acts;
  stop = call_at life.stop;
  fails = call_at life.fail;
}
