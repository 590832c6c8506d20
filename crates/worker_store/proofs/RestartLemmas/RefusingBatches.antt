-- Why the restart theorem refuses batches that nobody wants.
use Rattle.std.proofs.Common.{◌≡◌, ◌≢◌, ◌≤◌, ℕ, ◌+◌, ◌-◌, Bool, List, ◌∷◌, length, Option, Some}
use Rattle.std.proofs.Common.{refl, sym, ◌∙◌, subst, arith}
use Rattle.std.proofs.lemmas.Option.{same_Some}
use Rattle.wasm_syntax.specs.declared.module.Module.{Module}
use Rattle.wasm_rules.specs.Validity.{IsValid}
use Rattle.wasi_abi.specs.rules.Configs.{Settings}
use Rattle.wasi_abi.specs.declared.answer.Question.{Question}
use Rattle.process_rules.specs.Processes.{ProcessState}
use Rattle.process_rules.specs.Runs.{Reaches}
use Rattle.process_rules.proofs.OneProcess.{one_process}
use Rattle.state_image.specs.rules.ProcessImage.{Saved}
use Rattle.worker_store.specs.restart_theorem.Lives.{Act, Batch, SourceSaid, Cause, OfDisk}
use Rattle.worker_store.specs.restart_theorem.Lives.{OfSource, OfAnswer, OfOutlet, OfMemory}
use Rattle.worker_store.specs.restart_theorem.Lives.{OfBounds, OfJournal, OfLines, Reply, Asked}
use Rattle.worker_store.specs.restart_theorem.Lives.{Ended}
use Rattle.worker_store.specs.restart_theorem.Courses.{Phase, Open, NoneThere, Broken, Stage}
use Rattle.worker_store.specs.restart_theorem.Courses.{IsInBatch, IsToldIn, AreToldBy, MayFailBatch}
use Rattle.worker_store.specs.restart_theorem.Courses.{phase_ended}
use Rattle.worker_store.specs.restart_theorem.Promises.{Promise, IsKept, IsCaughtUp}
use Rattle.worker_store.specs.restart_theorem.laws.Refused.{IsOfUpgrades, journal, lines}
use Rattle.worker_store.specs.restart_theorem.laws.Batches.{RefusedBatches, RefusedBatchLives}
use Rattle.worker_store.proofs.RestartLemmas.LastQuestions.{none_asked, told_in_batch}
use Rattle.worker_store.proofs.RestartLemmas.RefusingUpgrades.{shows_wide}
use Rattle.worker_store.proofs.RestartLemmas.Pleas.{in_order}

-- an error that only an upgrade has, in a batch that nobody has failed
no_upgrade : (cause : Cause) → IsOfUpgrades cause → MayFailBatch Open cause → ⊥
no_upgrade OfJournal journal may = may
no_upgrade OfLines lines may = may
no_upgrade OfDisk of_upgrades may = elim of_upgrades [ ]
no_upgrade OfSource of_upgrades may = elim of_upgrades [ ]
no_upgrade OfAnswer of_upgrades may = elim of_upgrades [ ]
no_upgrade OfOutlet of_upgrades may = elim of_upgrades [ ]
no_upgrade OfMemory of_upgrades may = elim of_upgrades [ ]
no_upgrade OfBounds of_upgrades may = elim of_upgrades [ ]

-- an error behind a question to which the source had nothing
no_other : (steps : ℕ) (cause : Cause) → cause ≢ OfDisk → MayFailBatch (NoneThere steps) cause → ⊥
no_other steps OfDisk differs may = differs refl
no_other steps OfSource differs may = may
no_other steps OfAnswer differs may = may
no_other steps OfOutlet differs may = may
no_other steps OfMemory differs may = may
no_other steps OfBounds differs may = may
no_other steps OfJournal differs may = may
no_other steps OfLines differs may = may

-- or behind one that the source has failed
no_third : (cause : Cause) → cause ≢ OfDisk → cause ≢ OfSource
    → MayFailBatch (Broken OfSource) cause → ⊥
no_third OfDisk no_disk no_source may = no_disk refl
no_third OfSource no_disk no_source may = no_source refl
no_third OfAnswer no_disk no_source may = no_source may
no_third OfOutlet no_disk no_source may = no_source may
no_third OfMemory no_disk no_source may = no_source may
no_third OfBounds no_disk no_source may = no_source may
no_third OfJournal no_disk no_source may = no_source may
no_third OfLines no_disk no_source may = no_source may

module _ (m : Module) (config : Settings) (so_far : Promise) (stage : Stage) where
  -- a batch that has not failed has told all lines, and taken all answers
  caught_up : (fuel most held : ℕ) (reply : Reply) (shown : Saved) → phase_ended reply ≡ Open
      → IsKept m config so_far stage (Ended (Batch fuel most) reply held shown)
      → IsCaughtUp so_far.kept stage held shown
  caught_up fuel most held reply shown opens kept =
      (in_order config so_far.kept stage held shown (Batch fuel most) reply opens kept.reply).2

  few_wait : (fuel most last steps : ℕ) (acts : List Act) (p : ProcessState)
      (question : Question) (said : SourceSaid) (fits : Bool) → IsValid m
      → stage.acts ≡ Batch fuel most ∷ acts → stage.line ≡ Some last
      → Reaches m config so_far.kept steps p
      → IsKept m config so_far stage (Asked steps question said fits)
      → length p.host.lines ≤ last + (most - 1)
  few_wait fuel most last steps acts p question said fits valid is line reached kept =
      let one : kept.process ≡ p =
      one_process m config so_far.kept steps kept.process p valid kept.reached reached in
      let few : AreToldBy (Batch fuel most ∷ acts) (Some last) (length kept.process.host.lines) =
      subst (λ (l : Option ℕ). AreToldBy (Batch fuel most ∷ acts) l
      (length kept.process.host.lines)) line
      (subst (λ (l : List Act). AreToldBy l stage.line (length kept.process.host.lines)) is
      kept.all_told) in
      subst (λ (q : ProcessState). length q.host.lines ≤ last + (most - 1)) one few.1

  pub refused_batches : RefusedBatches m config so_far stage
  refused_batches = record {
    holds_too_many = λ fuel most last steps acts p question said fits valid is line reached some
        many kept.
        (let few = few_wait fuel most last steps acts p question said fits valid is line reached
        kept in
        omega (arith, few, some, many));
    leaves_a_line_untold = λ fuel most last held reply shown opens is fewer kept.
        (let all : last ≡ shown.lines =
        same_Some last shown.lines
        (sym is ∙ (caught_up fuel most held reply shown opens kept).all_told) in
        omega (arith, all, fewer));
    leaves_an_answer_behind = λ fuel most held reply shown opens less kept.
        (let all = (caught_up fuel most held reply shown opens kept).all_taken in
        omega (arith, all, less));
    tells_behind_a_refusal = λ r is_taken is kept.
        (subst (λ (q : Phase). IsToldIn q stage.acts stage.step kept.is_line.steps) is
        kept.in_time).0;
    slice_tells_late = λ fuel acts r is_taken is asked kept.
        subst IsInBatch is
        (told_in_batch stage.phase stage.acts stage.step kept.is_line.steps asked kept.in_time);
    asks_behind_the_last = λ steps question said fits asked kept.
        none_asked stage.phase stage.acts stage.step steps asked kept.in_time;
    waits_unasked = λ fuel most held shown opens kept. (let e = kept.reply.0 in cc);
    idle = λ fuel most held shown some same kept.
        (let e = kept.reply.1 in omega (arith, e, same, some));
    widens = λ fuel most held reply shown narrow wide kept.
        shows_wide m config so_far stage held shown narrow wide kept.at;
    pleads_as_an_upgrade = λ fuel most held cause shown opens of_upgrades kept.
        no_upgrade cause of_upgrades
        (subst (λ (q : Phase). MayFailBatch q cause) opens kept.reply.0);
    pleads_without_an_answer = λ fuel most steps held cause shown is differs kept.
        no_other steps cause differs
        (subst (λ (q : Phase). MayFailBatch q cause) is kept.reply.0);
    pleads_beside_the_source = λ fuel most held cause shown is no_disk no_source kept.
        no_third cause no_disk no_source
        (subst (λ (q : Phase). MayFailBatch q cause) is kept.reply.0);
  }

module _ (m : Module) (config : Settings) where
  pub refused_batch_lives : RefusedBatchLives m config
  refused_batch_lives = record {
    lost_behind_sync = λ i j answer question another steps later k calls more fits ends others first
        second rest within behind goes.
        (let held = goes.1.0.kept.0.holds.syncs k 1 (omega (arith, within)) behind in
        omega (arith, held));
    tells_the_second_first = λ inputs steps calls question said fits ends first r is_taken rest
        more goes.
        (let next : r.number ≡ first.lines + 1 = goes.0.kept.1.1.0.follows in
        omega (arith, next, more));
  }
