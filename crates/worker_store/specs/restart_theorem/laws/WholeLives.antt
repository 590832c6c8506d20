-- Whole lives of modules, which the restart theorem allows, and events that are none of theirs.
use Rattle.std.specs.Prelude.{◌≡◌, ℕ, ◌≤◌, ◌^◌, Bool, true, List, [], ◌∷◌, codes, Some}
use Rattle.wasm_syntax.specs.laws.Examples.{hello, echo}
use Rattle.wasi_abi.specs.declared.answer.Question.{Question}
use Rattle.wasi_abi.specs.declared.answer.Question.TheVariants as questions
use Rattle.wasi_abi.specs.declared.answer.Answer.TheVariants as answer
use Rattle.wasi_abi.specs.declared.version.Version.TheVariants.{Two}
use Rattle.wasi_abi.specs.rules.Configs.{Settings}
use Rattle.wasi_calls_rules.specs.declared.output_stream.OutputStream.TheVariants.{Stdout, Stderr}
use Rattle.process_rules.specs.Processes.{Exited}
use Rattle.process_rules.specs.laws.Examples.{hello_memory}
use Rattle.process_rules.specs.Runs.{Kept, Given}
use Rattle.state_image.specs.rules.ProcessImage.{Saved}
use Rattle.state_image.specs.laws.Examples.{fresh_process}
use Rattle.state_image.specs.laws.WellTypedExamples.{hello_first_memory}
use Rattle.disk_layout.specs.rules.Journal.{TakesRecords}
use Rattle.worker_store.specs.restart_theorem.Lives.{Slice, Checkpoint, Upgrade, SourceSaid, Inputs}
use Rattle.worker_store.specs.restart_theorem.Lives.{Release, Over, Done, Told, Asked, Opened}
use Rattle.worker_store.specs.restart_theorem.Lives.{Ended, Creates, Finished, Stopped, Life}
use Rattle.worker_store.specs.restart_theorem.Courses.{Stage, at_beginning}
use Rattle.worker_store.specs.restart_theorem.Promises.{Promise, IsKept, AreKept, GoesOn}
use Rattle.worker_store.specs.restart_theorem.laws.Refused.{in_peace, created_life, recovered_life}
use Rattle.worker_store.specs.restart_theorem.laws.Refused.{creation_begun}

-- ---- a module that writes a line and exits

-- the one line of `hello`
abbrev pub hi_told : Release
hi_told = record { number = 1; line = record { stream = Stdout; text = codes "hi" } }

-- what `hello` begins as, and what it is after its eight steps
abbrev pub hello_first : Saved
hello_first = fresh_process hello_first_memory

abbrev pub hello_last : Saved
hello_last = record hello_first {
  machine = record { frames = []; globals = []; memory = hello_memory; later = [] };
  steps = 8;
  lines = 1;
  ended = Some (Exited 7);
}

-- `hello` is cut after its line was told, and before anything of its eight steps is on the disk,
abbrev pub cut_inputs : Inputs
cut_inputs = record (in_peace [] (Slice 100 ∷ [])) { stop = Some 30 }

abbrev pub cut_life : Life
cut_life = created_life (Opened 0 hello_first ∷ Told hi_told true ∷ []) 30 Stopped

-- so it begins again, tells its line again and comes to its end, of which a checkpoint is made,
abbrev pub last_inputs : Inputs
last_inputs = in_peace [] (Slice 100 ∷ Checkpoint ∷ [])

abbrev pub last_life : Life
last_life = recovered_life (Opened 0 hello_first ∷ Told hi_told true
    ∷ Ended (Slice 100) (Over (Exited 7)) 0 hello_last
    ∷ Ended Checkpoint Done 0 hello_last ∷ []) 20 Finished

-- and then there is nothing left to do.
abbrev pub ended_inputs : Inputs
ended_inputs = in_peace [] (Slice 1 ∷ [])

abbrev pub ended_life : Life
ended_life = recovered_life
    (Opened 0 hello_last ∷ Ended (Slice 1) (Over (Exited 7)) 0 hello_last ∷ []) 20 Finished

pub record HelloLives (config : Settings) : Type 0 where
  -- it has one page of memory
  pub go_on : 1 ≤ config.pages → config.pages ≤ 2 ^ 16
      → GoesOn hello config (cut_inputs ∷ last_inputs ∷ ended_inputs ∷ [])
      (cut_life ∷ last_life ∷ ended_life ∷ [])
  -- it can't have passed its line where that was not told
  pub opens_behind_a_line_untold : (stage : Stage) (shown : Saved) → shown.steps ≡ 8
      → IsKept hello config creation_begun stage (Opened 0 shown) → ⊥
  pub ends_behind_a_line_untold : (inputs : Inputs) (fuel code : ℕ) (first last : Saved)
      → last.steps ≡ 8
      → AreKept hello config creation_begun (at_beginning Creates inputs)
      (Opened 0 first ∷ Ended (Slice fuel) (Over (Exited code)) 0 last ∷ []) → ⊥
  -- it exits with this code
  pub exits_otherwise : (so_far : Promise) (stage : Stage) (fuel code : ℕ) (last : Saved)
      → so_far.kept ≡ [] → last.steps ≡ 8
      → IsKept hello config so_far stage (Ended (Slice fuel) (Over (Exited code)) 0 last)
      → code ≡ 7
  -- it tells no other line, and no second one
  pub tells_another_line : (so_far : Promise) (stage : Stage) (is_taken : Bool)
      → so_far.kept ≡ []
      → IsKept hello config so_far stage
      (Told (record hi_told { line = record { stream = Stderr; text = codes "hi" } }) is_taken) → ⊥
  pub tells_a_second_line : (so_far : Promise) (stage : Stage) (is_taken : Bool)
      → so_far.kept ≡ []
      → IsKept hello config so_far stage (Told (record hi_told { number = 2 }) is_taken) → ⊥
  -- it asks for nothing
  pub asks : (so_far : Promise) (stage : Stage) (steps : ℕ) (question : Question)
      (said : SourceSaid) (fits : Bool) → so_far.kept ≡ []
      → IsKept hello config so_far stage (Asked steps question said fits) → ⊥

-- ---- the same module, upgraded

-- `hello` in version 2, where it begins, and where it has ended
abbrev pub wide_first : Saved
wide_first = record hello_first { version = Two; answers = 1 }

abbrev pub wide_last : Saved
wide_last = record hello_last { version = Two; answers = 1 }

-- it is upgraded when it is created, and opens in version 2,
abbrev pub early_upgrade : Life
early_upgrade =
    created_life (Opened 0 hello_first ∷ Ended Upgrade Done 1 wide_first ∷ []) 30 Finished

abbrev pub opened_wide : Life
opened_wide = recovered_life (Opened 1 wide_first ∷ []) 20 Finished

-- or when it has ended, twice, which widens it once,
abbrev pub late_upgrade : Life
late_upgrade = created_life (Opened 0 hello_first ∷ Told hi_told true
    ∷ Ended (Slice 100) (Over (Exited 7)) 0 hello_last ∷ Ended Upgrade Done 1 wide_last
    ∷ Ended Upgrade Done 1 wide_last ∷ []) 40 Finished

abbrev pub ended_wide : Life
ended_wide = recovered_life (Opened 1 wide_last
    ∷ Ended (Slice 1) (Over (Exited 7)) 1 wide_last ∷ []) 20 Finished

-- or by a life that finds that it has ended, and takes no step.
abbrev pub saved_inputs : Inputs
saved_inputs = in_peace [] (Slice 100 ∷ Checkpoint ∷ [])

abbrev pub saved_life : Life
saved_life = created_life (Opened 0 hello_first ∷ Told hi_told true
    ∷ Ended (Slice 100) (Over (Exited 7)) 0 hello_last
    ∷ Ended Checkpoint Done 0 hello_last ∷ []) 40 Finished

abbrev pub found_ended : Life
found_ended = recovered_life
    (Opened 0 hello_last ∷ Ended Upgrade Done 1 wide_last ∷ []) 30 Finished

-- All go on, where the journal takes each record of version 2.
pub record HelloUpgrades (config : Settings) : Type 0 where
  pub early : 1 ≤ config.pages → config.pages ≤ 2 ^ 16 → TakesRecords Two config.journal
      → GoesOn hello config (in_peace [] (Upgrade ∷ []) ∷ in_peace [] [] ∷ [])
      (early_upgrade ∷ opened_wide ∷ [])
  pub late : 1 ≤ config.pages → config.pages ≤ 2 ^ 16 → TakesRecords Two config.journal
      → GoesOn hello config
      (in_peace [] (Slice 100 ∷ Upgrade ∷ Upgrade ∷ []) ∷ in_peace [] (Slice 1 ∷ []) ∷ [])
      (late_upgrade ∷ ended_wide ∷ [])
  pub found : 1 ≤ config.pages → config.pages ≤ 2 ^ 16 → TakesRecords Two config.journal
      → GoesOn hello config (saved_inputs ∷ in_peace [] (Upgrade ∷ []) ∷ [])
      (saved_life ∷ found_ended ∷ [])

-- ---- a module that tells what it is asked

-- a request with the text `abc`
abbrev pub abc_kept : List Kept
abc_kept = Given (answer.Request (codes "abc")) ∷ []

-- Events that are none of `echo`.
pub record EchoRefusals (config : Settings) : Type 0 where
  -- where its line was told, no life opens without the request after it
  pub loses_a_line : (so_far : Promise) (stage : Stage) (shown : Saved)
      → so_far.kept ≡ abc_kept → 1 ≤ so_far.begun
      → IsKept echo config so_far stage (Opened 0 shown) → ⊥
  -- it tells nothing before it was asked
  pub tells_unasked : (so_far : Promise) (stage : Stage) (r : Release) (is_taken : Bool)
      → so_far.kept ≡ [] → IsKept echo config so_far stage (Told r is_taken) → ⊥
  -- what it asks for is a request
  pub asks_for_another : (so_far : Promise) (stage : Stage) (steps : ℕ) (question : Question)
      (said : SourceSaid) (fits : Bool) → so_far.kept ≡ []
      → IsKept echo config so_far stage (Asked steps question said fits) → question
      ≡ questions.Request
