-- What becomes of the files and folders that a command has made, where it fails (this project's
-- own).
use Rattle.std.specs.Prelude.{◌≡◌, ℕ, Bool, true, false, List, [], ◌++◌, Option, Some, None, All}
use Rattle.std.specs.Prelude.{IsTrue, codes, map, if◌then◌else◌}
use Rattle.std.specs.List.{concat}
use Rattle.sector_disk.specs.declared.open_fault.OpenCause.TheVariants.{Missing}
use Rattle.sector_disk.specs.declared.open_fault.OpenFault.{OpenFault}
use Rattle.sector_disk.specs.declared.open_fault.OpenFault.TheVariants.{Io}
use Rattle.command_words.specs.rules.Printers.{PrinterState, SaysText}
use Rattle.command_words.specs.declared.status.Status.{Status}
use Rattle.disk_commands.specs.rules.NewTrees.{KnownTrees}
use Rattle.disk_commands.specs.rules.Openings.{fault_words}

-- what became of one: its path, and why it stays, where it does
pub record Cleared : Type 0 where
  pub path : List ℕ
  pub stays : Option OpenFault

-- of these
abbrev pub cleared : List ℕ → Option OpenFault → Cleared
cleared path stays = record { path = path; stays = stays }

-- the line that names one that stays
abbrev pub stays_line : List ℕ → OpenFault → List ℕ
stays_line path why = path ++ codes ": stays: " ++ fault_words why ++ codes "\n"

-- nothing is there
abbrev pub is_gone : OpenFault → Bool
is_gone (Io Missing) = true
is_gone why = false

-- what is said of one that isn't removed: nothing where nothing is there
abbrev pub staying_text : List ℕ → OpenFault → List ℕ
staying_text path why = if is_gone why then [] else stays_line path why

-- what is said of one
abbrev pub clearing_text : List ℕ → Option OpenFault → List ℕ
clearing_text path None = []
clearing_text path (Some why) = staying_text path why

-- it was removed, or it can't be for this cause, or the path leads to another one or to none
abbrev pub IsRemovedAgain : KnownTrees → List ℕ → Option OpenFault → Type 0
IsRemovedAgain trees path None = IsTrue (trees.removed path)
IsRemovedAgain trees path (Some why) = IsTrue (trees.stays path why)

-- What was made at these paths was removed, in this order, or it stays and is named. The status
-- stays, or is `Unwritten` where a write has failed.
pub record ClearsAll (trees : KnownTrees) (paths : List (List ℕ)) (old : PrinterState)
    (status answered : Status) (new : PrinterState) : Type 0 where
  pub ended : List Cleared
  pub whole : map (λ (one : Cleared). one.path) ended ≡ paths
  pub each : All (λ (one : Cleared). IsRemovedAgain trees one.path one.stays) ended
  pub says : SaysText (concat (map (λ (one : Cleared). clearing_text one.path one.stays) ended))
      status old answered new
