-- How a life opens, in the words of the law of lives.
use Rattle.std.proofs.Common.{◌≡◌, ℕ, List}
use Rattle.std.specs.Prelude.{Bool, true, false, IsTrue, ◌↔◌, Result, Ok, Err, IfOk, Some, None}
use Rattle.std.specs.declared.alloc.AllocError.{AllocError}
use Rattle.wasi_abi.specs.rules.Configs.{Settings}
use Rattle.sector_disk.specs.rules.Medium.{Medium}
use Rattle.state_image.specs.rules.Saving.{saved_of}
use Rattle.record_replay.specs.rules.Calls.{Giving, Taking}
use Rattle.worker_store.specs.restart_theorem.Lives.{Act, Creates}
use Rattle.worker_store.specs.restart_theorem.Lives.Beginning.{Recovers as recovers}
use Rattle.worker.specs.declared.fault.WorkFault.{WorkFault}
use Rattle.worker.specs.declared.recover_fault.RecoverFault.{RecoverFault}
use Rattle.worker.specs.declared.recover_fault.RecoverFault.TheVariants as recover
use Rattle.worker.specs.rules.DurableCreations.{CreationKeeps, IsNotCreatedOn}
use Rattle.worker.specs.rules.DurableValues.{DurableValue}
use Rattle.worker.specs.rules.Recoveries.{IsNoWorker, RecoveryCarries}
use Rattle.worker.specs.rules.ShownDisks.{Recovers}
use Rattle.worker.specs.rules.OneLife.{BeginsLife, CallsInOrder, recovered, created, opened}
use Rattle.worker.specs.rules.OneLife.{unopened, undone_acts, recipe}
use Rattle.worker.specs.rules.Scenes.{scene, site, surroundings}
use Rattle.worker.specs.declared.story.living.LivedOnce.{LivedOnce}
use Rattle.worker.specs.declared.story.opening.OpenedWorker.{OpenedWorker}
use Rattle.worker.specs.declared.story.report.Opening.{Opening}
use Rattle.worker.specs.declared.story.report.Opening.TheVariants.{Created, Recovered, Unopened}
use Rattle.worker.specs.rules.Told.{TellsOpening}
use Rattle.worker.specs.LifeCalls.{LeavesSome, Opens, LivesOnce, beginning_of}
use Rattle.worker.specs.LifeCalls.{TellsGeneration, IsOfRecovery}

-- what the test of an error says
pub is_none : (b : Bool) (why : RecoverFault) → (IsTrue b ↔ IsNoWorker why) → b ≡ true
    → IsNoWorker why
is_none b why both holds = both.0 holds

pub is_other : (b : Bool) (why : RecoverFault) → (IsTrue b ↔ IsNoWorker why) → b ≡ false
    → IsNoWorker why → ⊥
is_other b why both fails is = let holds : b ≡ true = both.1 is in absurd (cc)

module _ {D O : Type 0} (medium : D → Medium) (takes : Taking O) (bytes : List ℕ)
    (config : Settings) (found : D) (outlet : O) (some : LeavesSome medium) where
  pub opens_again : (w : DurableValue) (disk : D) (outlet' : O)
      → Recovers medium takes (Ok w) found disk outlet outlet'
      → RecoveryCarries takes (Ok w) (medium found) (medium disk) outlet outlet'
      → BeginsLife medium takes (recipe bytes config) (site found outlet) recovers (Ok w)
      (site disk outlet')
  opens_again w disk outlet' recovery carries =
      let crashed = some disk in recovered crashed.0 crashed.1 (λ says. says) recovery carries

  pub opens_not : (why : RecoverFault) (disk : D) (outlet' : O) → (IsNoWorker why → ⊥)
      → Recovers medium takes (Err why) found disk outlet outlet'
      → RecoveryCarries takes (Err why) (medium found) (medium disk) outlet outlet'
      → BeginsLife medium takes (recipe bytes config) (site found outlet) recovers (Err why)
      (site disk outlet')
  opens_not why disk outlet' other recovery carries =
      let crashed = some disk in recovered crashed.0 crashed.1 other recovery carries

  module _ (none : RecoverFault) (mid disk : D) (outlet' : O) (says : IsNoWorker none)
      (recovery : Recovers medium takes (Err none) found mid outlet outlet')
      (carries : RecoveryCarries takes (Err none) (medium found) (medium mid) outlet outlet') where
    pub opens_anew : (w : DurableValue)
        → CreationKeeps bytes config (Ok w) (medium mid) (medium disk)
        → BeginsLife medium takes (recipe bytes config) (site found outlet) Creates (Ok w)
        (site disk outlet')
    opens_anew w keeps =
        let crashed = some mid in
        created (Err none) (Ok w) crashed.0 crashed.1 says recovery carries keeps tt

    pub opens_none : (why : WorkFault)
        → CreationKeeps bytes config (Err why) (medium mid) (medium disk)
        → IsNotCreatedOn bytes config (medium mid) (medium disk) why
        → BeginsLife medium takes (recipe bytes config) (site found outlet) Creates
        (Err (recover.Worker why)) (site disk outlet')
    opens_none why keeps refused =
        let crashed = some mid in
        created (Err none) (Err why) crashed.0 crashed.1 says recovery carries keeps refused

module _ {D S O : Type 0} (medium : D → Medium) (gives : Giving S) (takes : Taking O)
    (bytes : List ℕ) (config : Settings) (acts : List Act) (found disk last : D)
    (source source' : S) (outlet inside outlet' : O) where
  -- the generation that is told is that of the recovery
  of_recovery : (start : OpenedWorker) (told : Opening)
      → Opens medium takes (recipe bytes config) (site found outlet) (Ok start) (site disk inside)
      → TellsGeneration start.is_created start.worker.store.journal.generation told
      → IsOfRecovery medium takes found outlet told
  of_recovery start (Recovered generation steps answers lines image) opens told =
      (start.worker, disk, inside, told.1, opens.1 told.0)
  of_recovery start (Created image) opens told = tt
  of_recovery start Unopened opens told = tt

  lives_open : (start : OpenedWorker) (lived : LivedOnce)
      → Opens medium takes (recipe bytes config) (site found outlet) (Ok start) (site disk inside)
      → CallsInOrder medium gives takes acts (scene start.worker disk source inside)
      (undone_acts lived.ended) (surroundings last source' outlet')
      → TellsOpening (beginning_of start.is_created) (Some (saved_of start.worker.process))
      lived.opened
      → TellsGeneration start.is_created start.worker.store.journal.generation lived.opened
      → LivesOnce medium gives takes (recipe bytes config) acts (surroundings found source outlet)
      lived (surroundings last source' outlet')
  lives_open start lived opens calls told generation = record {
    begins = beginning_of start.is_created;
    worker = Some start.worker;
    calls = opened opens.0 calls;
    told = told;
    generation = of_recovery start lived.opened opens generation;
  }

  pub lives_on : (start : OpenedWorker) (result : Result LivedOnce AllocError)
      → (LeavesSome medium → Opens medium takes (recipe bytes config) (site found outlet)
      (Ok start) (site disk inside))
      → IfOk result (λ lived. CallsInOrder medium gives takes acts
      (scene start.worker disk source inside) (undone_acts lived.ended)
      (surroundings last source' outlet'))
      → IfOk result (λ lived. TellsOpening (beginning_of start.is_created)
      (Some (saved_of start.worker.process)) lived.opened)
      → IfOk result (λ lived.
      TellsGeneration start.is_created start.worker.store.journal.generation lived.opened)
      → IfOk result (λ lived. LeavesSome medium → LivesOnce medium gives takes
      (recipe bytes config) acts (surroundings found source outlet) lived
      (surroundings last source' outlet'))
  lives_on start (Ok lived) opens calls told generation =
      λ some. lives_open start lived (opens some) calls told generation
  lives_on start (Err e) opens calls told generation = tt

module _ {D S O : Type 0} (medium : D → Medium) (gives : Giving S) (takes : Taking O)
    (bytes : List ℕ) (config : Settings) (acts : List Act) (found last : D)
    (source : S) (outlet outlet' : O) where
  pub lives_shut : (why : RecoverFault)
      → Opens medium takes (recipe bytes config) (site found outlet) (Err why) (site last outlet')
      → LivesOnce medium gives takes (recipe bytes config) acts (surroundings found source outlet)
      (record { opened = Unopened; ended = Err why }) (surroundings last source outlet')
  lives_shut why opens = record {
    begins = opens.0;
    worker = None;
    calls = unopened opens.1;
    told = tt;
    generation = tt;
  }
