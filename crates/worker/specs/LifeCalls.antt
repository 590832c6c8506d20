-- The calls of one life, each as its clause says, on any disk.
use Rattle.std.specs.Prelude.{◌≡◌, ℕ, Bool, true, false, List, ◌∷◌, Option, Result, Ok, Err}
use Rattle.sector_disk.specs.rules.DiskImage.{DiskImage}
use Rattle.sector_disk.specs.rules.Medium.{Medium}
use Rattle.record_replay.specs.rules.Calls.{Giving, Taking}
use Rattle.worker_store.specs.restart_theorem.Lives.{Act, Beginning, Recovers, Creates}
use Rattle.worker.specs.declared.fault.WorkFault.{WorkFault}
use Rattle.worker.specs.declared.recover_fault.RecoverFault.{RecoverFault}
use Rattle.worker.specs.declared.recover_fault.RecoverFault.TheVariants as recover
use Rattle.worker.specs.rules.DurableValues.{DurableValue}
use Rattle.worker.specs.rules.OneLife.{CallsInOrder, Recipe, BeginsLife, one_life, IsOneLife}
use Rattle.worker.specs.rules.OneLife.{shown_first, undone_acts}
use Rattle.worker.specs.rules.Scenes.{Scene, Site, Surroundings, surroundings_of}
use Rattle.worker.specs.declared.story.living.LivedOnce.{LivedOnce}
use Rattle.worker.specs.declared.story.opening.OpenedWorker.{OpenedWorker}
use Rattle.worker.specs.declared.story.report.Opening.{Opening}
use Rattle.worker.specs.declared.story.report.Opening.TheVariants.{Recovered}
use Rattle.worker.specs.rules.ShownDisks.{Recovers as recovers_on}
use Rattle.worker.specs.rules.Told.{TellsOpening}

-- a cut of each disk may leave some image: its answers fit one
abbrev pub LeavesSome : {D : Type 0} → (D → Medium) → Type 0
LeavesSome {D} medium = (disk : D) → (image : DiskImage) × (medium disk).crash_images image

-- ---- acts

-- One act, and then any others that are done in order.
abbrev pub DoesAct : {D S O : Type 0} → (D → Medium) → Giving S → Taking O → Act → Scene D S O
    → Result (Unit {0}) WorkFault → Scene D S O → Type 0
DoesAct {D} {S} {O} medium gives takes act before (Ok done) after =
    (acts : List Act) (undone : Result (List Act) RecoverFault) (last : Surroundings D S O)
    → CallsInOrder medium gives takes acts after undone last
    → CallsInOrder medium gives takes (act ∷ acts) before undone last
DoesAct medium gives takes act before (Err why) after =
    (acts : List Act) → CallsInOrder medium gives takes (act ∷ acts) before
    (Err (recover.Worker why)) (surroundings_of after)

-- ---- openings

abbrev pub beginning_of : Bool → Beginning
beginning_of true = Creates
beginning_of false = Recovers

-- how a life begins, whatever its recovery or creation answers
abbrev pub Opens : {D O : Type 0} → (D → Medium) → Taking O → Recipe → Site D O
    → Result OpenedWorker RecoverFault → Site D O → Type 0
Opens medium takes made_of found (Ok opened) here =
    BeginsLife medium takes made_of found (beginning_of opened.is_created) (Ok opened.worker) here
    × (opened.is_created ≡ false
    → recovers_on medium takes (Ok opened.worker) found.disk here.disk found.outlet here.outlet)
Opens medium takes made_of found (Err why) here = (begins : Beginning)
    × BeginsLife medium takes made_of found begins (Err why) here

-- ---- a life

-- A recovered life, which is none that is created, tells this generation.
abbrev pub TellsGeneration : Bool → ℕ → Opening → Type 0
TellsGeneration is_created g (Recovered generation steps answers lines bytes) =
    (is_created ≡ false) × (generation ≡ g)
TellsGeneration is_created g other = Unit {0}

-- A recovered life tells the generation of a worker that a recovery of this disk has opened.
abbrev pub IsOfRecovery : {D O : Type 0} → (D → Medium) → Taking O → D → O → Opening → Type 0
IsOfRecovery {D} {O} medium takes found outlet
    (Recovered generation steps answers lines bytes) =
    (w : DurableValue) × (disk : D) × (outlet' : O) × (generation ≡ w.store.journal.generation)
    × recovers_on medium takes (Ok w) found disk outlet outlet'
IsOfRecovery medium takes found outlet other = Unit {0}

-- the calls of one life, and what is told of its opening
pub record LivesOnce {D S O : Type 0} (medium : D → Medium) (gives : Giving S) (takes : Taking O)
    (made_of : Recipe) (acts : List Act) (found : Surroundings D S O) (lived : LivedOnce)
    (last : Surroundings D S O) : Type 0 where
  pub begins : Beginning
  pub worker : Option DurableValue
  pub calls : IsOneLife medium gives takes made_of acts found
      (one_life begins worker (undone_acts lived.ended) last)
  pub told : TellsOpening begins (shown_first worker) lived.opened
  pub generation : IsOfRecovery medium takes found.disk found.outlet lived.opened
