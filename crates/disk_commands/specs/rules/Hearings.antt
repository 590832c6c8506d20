-- Questions of a run that weren't refused (this project's own).
use Rattle.std.specs.Prelude.{◌≡◌, ◌⊎◌, ⊤, List, Option, Result, Ok, Err}
use Rattle.std.specs.List.{AllByRecursion}
use Rattle.wasi_abi.specs.declared.answer.Answer.{Answer}
use Rattle.record_replay.specs.rules.Calls.{Giving, Ask, AnswersInOrder}
use Rattle.record_replay.specs.declared.slices.fault.SliceFault.TheVariants as slice
use Rattle.worker.specs.declared.fault.WorkFault.TheVariants as work
use Rattle.worker.specs.declared.recover_fault.RecoverFault.{RecoverFault}
use Rattle.worker.specs.declared.recover_fault.RecoverFault.TheVariants as recover
use Rattle.worker.specs.rules.LifeWords.{Act, Batch}

-- a question that was answered, or to which there was no answer yet
abbrev pub WasHeard : Ask → Type 0
WasHeard ask = (found : Option Answer) × (ask.said ≡ Ok found)

-- These questions lead from one source to another. None of them was refused, unless this is so.
pub record AsksUnless {S : Type 0} (gives : Giving S) (Refused : Type 0) (source source' : S)
    : Type 0 where
  pub asks : List Ask
  pub led : AnswersInOrder gives source asks source'
  pub heard : AllByRecursion WasHeard asks ⊎ Refused

-- the error that ended the calls of a life is that of its source
abbrev pub IsOfSource : Result (List Act) RecoverFault → Type 0
IsOfSource undone = undone ≡ Err (recover.Worker (work.Work slice.Source))

-- It is one by which lines that waited were not all told: of the disk, of its journal or of the
-- outlet.
abbrev pub IsOfTelling : Result (List Act) RecoverFault → Type 0
IsOfTelling (Err (recover.Worker (work.Work slice.Outlet))) = ⊤
IsOfTelling (Err (recover.Worker (work.Disk fault))) = ⊤
IsOfTelling (Err (recover.Worker (work.Store fault))) = ⊤
IsOfTelling other = ⊥

-- When a life of such acts may have a refused question: where its error is that of the source.
-- Behind the last question of a batch the lines that waited may also have failed to be told.
abbrev pub MayRefuse : Act → Result (List Act) RecoverFault → Type 0
MayRefuse (Batch fuel most) undone = IsOfSource undone ⊎ IsOfTelling undone
MayRefuse act undone = IsOfSource undone
