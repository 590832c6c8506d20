-- A worker that is created as the words say (this project's own).
use Rattle.std.specs.Prelude.{◌≡◌, ◌⊎◌, ℕ, Bool, List, IsTrue, Option, None, Some, IfSome, codes}
use Rattle.sector_disk.specs.rules.Known.{KnownFiles, KnownHandles, MayPlace}
use Rattle.wasi_abi.specs.rules.Configs.{Settings}
use Rattle.wasm_decode.specs.declared.items.limit.PassedLimit.{PassedLimit}
use Rattle.machine.specs.declared.from_bytes.fault.ModuleFault.{ModuleFault}
use Rattle.command_words.specs.declared.bounds.Bound.{Bound}
use Rattle.command_words.specs.declared.preparing.Prepared.{Prepared}
use Rattle.command_words.specs.declared.preparing.Unprepared.{Unprepared}
use Rattle.command_words.specs.declared.preparing.Unprepared.TheVariants as unprepared
use Rattle.command_words.specs.rules.Bounds.{range_words}
use Rattle.command_words.specs.rules.Commands.{CreateMeaning}
use Rattle.command_words.specs.rules.Preparations.{IsPreparedAs, IsUnprepared}
use Rattle.command_words.specs.rules.Preparations.{config_as, passed_by, status_unprepared}
use Rattle.command_words.specs.rules.Entries.{entry_text}
use Rattle.command_words.specs.rules.ModuleLimits.{SaysLimit}
use Rattle.command_words.specs.rules.Printers.{PrinterState, Printers, IsSaid, SaysText}
use Rattle.command_words.specs.rules.Reports.{SaysLine}
use Rattle.command_words.specs.rules.Verdicts.{SaysMore}
use Rattle.command_words.specs.declared.status.Status.{Status}
use Rattle.command_words.specs.declared.status.Status.TheVariants as exit
use Rattle.disk_commands.specs.rules.Creations.{NewDiskValue, new_disk}
use Rattle.disk_commands.specs.rules.SuccessorDisks.{BeginsOnDisk, SucceedsDisk, succession_of}

-- the settings that the words say
abbrev pub settings_said : CreateMeaning → Settings
settings_said said = config_as
    (record { pages = said.pages; files = said.files; journal = said.journal })
    said.arguments said.environment

-- It is said why no worker of these bytes is created: by the bounds of what is out of them, by
-- the entry that has no name, by a limit that the module passes, by what else is known of it, or
-- else by the status.
pub record SaysUnprepared (bytes : List ℕ) (why : Unprepared) (old : PrinterState)
    (answered : Status) (new : PrinterState) : Type 0 where
  pub range : (bound : Bound) → why ≡ unprepared.Range bound
      → SaysLine (range_words bound) exit.Refused old answered new
  pub entry : (number : ℕ) → why ≡ unprepared.Text (Some number)
      → SaysText (entry_text number) exit.Refused old answered new
  pub limit : (passed : PassedLimit) → passed_by why ≡ Some passed
      → SaysLimit bytes (codes "failed") passed exit.Refused old answered new
  pub more : (fault : ModuleFault) → why ≡ unprepared.Module fault → SaysMore bytes fault new
  pub status : IsSaid (status_unprepared why) old answered new

-- A disk may be placed at this path, and the one that it succeeds, if there is one, be opened.
abbrev pub MayCreate : {F : Type 0} → KnownFiles F → Option (List ℕ) → Bool → List ℕ → Type 0
MayCreate files predecessor on_device path =
    MayPlace files on_device path × IfSome predecessor (λ from. IsTrue (files.may_write from))

module _ {F : Type 0} (handles : KnownHandles F) (files : KnownFiles F) where
  -- The worker is fresh, or succeeds the one on the disk at this path. Its disk is a device that is
  -- there, where the words ask for one, and a new file where not.
  abbrev pub MakesOrdered : Option (List ℕ) → Bool → NewDiskValue → Printers → Printers → Status
      → Type 0
  MakesOrdered None on_device new before after status =
      BeginsOnDisk handles files new None before after status on_device
  MakesOrdered (Some from) on_device new before after status =
      SucceedsDisk handles files (succession_of from on_device new) before after status

  -- It is said why the settings or the module keep a worker from being created, and nothing is
  -- made. Or a worker of these settings is created on the disk of the words.
  abbrev pub CreatesDisk : CreateMeaning → List ℕ → Printers → Printers → Status → Type 0
  CreatesDisk said bytes before after status =
      ((why : Unprepared) × IsUnprepared (settings_said said) bytes why
      × SaysUnprepared bytes why before.err status after.err × (after.out ≡ before.out))
      ⊎ ((prepared : Prepared) × IsPreparedAs (settings_said said) bytes prepared
      × MakesOrdered said.predecessor said.on_device (new_disk said.disk bytes prepared)
      before after status)
