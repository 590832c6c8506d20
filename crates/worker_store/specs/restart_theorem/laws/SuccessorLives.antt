-- Whole lives of a module that goes on from what another worker has left. It writes a line and
-- exits, and there were three lines before.
use Rattle.std.specs.Prelude.{◌≤◌, ◌^◌, true, [], ◌∷◌}
use Rattle.wasm_syntax.specs.laws.Examples.{hello}
use Rattle.wasi_abi.specs.declared.version.Version.TheVariants.{One}
use Rattle.wasi_abi.specs.rules.Configs.{Settings}
use Rattle.process_rules.specs.Processes.{Exited}
use Rattle.process_rules.specs.laws.SucceedingExamples.{files_left, left, hi_line}
use Rattle.state_image.specs.rules.ProcessImage.{Saved}
use Rattle.worker_store.specs.restart_theorem.Lives.{Slice, Checkpoint, Release, Over, Done, Told}
use Rattle.worker_store.specs.restart_theorem.Lives.{Opened, Ended, Finished, Stopped, Life}
use Rattle.worker_store.specs.restart_theorem.Successions.{SuccessorGoesOn}
use Rattle.worker_store.specs.restart_theorem.laws.Refused.{recovered_life}
use Rattle.worker_store.specs.restart_theorem.laws.WholeLives.{hello_first, hello_last, cut_inputs}
use Rattle.worker_store.specs.restart_theorem.laws.WholeLives.{last_inputs, ended_inputs}

-- its line is the fourth
abbrev pub fourth_told : Release
fourth_told = record { number = 4; line = hi_line }

-- what it shows as it goes on, and after its eight steps: its own memory, and what was left
abbrev pub left_first : Saved
left_first = record hello_first {
  files = files_left;
  last_monotonic = 5;
  steps = 7;
  answers = 2;
  requests = 1;
  lines = 3;
}

abbrev pub left_last : Saved
left_last = record hello_last {
  files = files_left;
  last_monotonic = 5;
  steps = 15;
  answers = 2;
  requests = 1;
  lines = 4;
}

-- It is cut after its line was told, and before anything of its steps is on the disk,
abbrev pub cut_successor : Life
cut_successor = recovered_life (Opened 1 left_first ∷ Told fourth_told true ∷ []) 30 Stopped

-- so it begins there again, tells its line again and comes to its end, of which a checkpoint is
-- made,
abbrev pub last_successor : Life
last_successor = recovered_life (Opened 1 left_first ∷ Told fourth_told true
    ∷ Ended (Slice 100) (Over (Exited 7)) 1 left_last
    ∷ Ended Checkpoint Done 1 left_last ∷ []) 20 Finished

-- and then there is nothing left to do.
abbrev pub ended_successor : Life
ended_successor = recovered_life
    (Opened 1 left_last ∷ Ended (Slice 1) (Over (Exited 7)) 1 left_last ∷ []) 20 Finished

-- All go on from there, under a configuration that has room for the files.
abbrev pub HelloSuccessors : Settings → Type 0
HelloSuccessors config = 1 ≤ config.pages → config.pages ≤ 2 ^ 16 → 1 ≤ config.files
    → SuccessorGoesOn One left hello config (cut_inputs ∷ last_inputs ∷ ended_inputs ∷ [])
    (cut_successor ∷ last_successor ∷ ended_successor ∷ [])
