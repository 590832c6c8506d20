-- With what a creation is prepared, or why there is none (this project's own).
use Rattle.std.specs.Prelude.{◌≡◌, ⊤, ℕ, false, List, ◌∷◌, Option, codes, length, None, IfSome}
use Rattle.wasi_abi.specs.rules.Configs.{Settings, settings, AreSettingsWithinLimits, HasTexts}
use Rattle.wasi_abi.specs.rules.Configs.{IsInRange}
use Rattle.wasm_decode.specs.declared.items.limit.PassedLimit.{PassedLimit}
use Rattle.disk_layout.specs.rules.Places.{geometry_of, total_sectors}
use Rattle.machine.specs.rules.Acceptance.{HasAcceptedModule, HasNoAcceptedModule}
use Rattle.machine.specs.rules.Acceptance.{IsReported, is_want, passed_in}
use Rattle.command_words.specs.declared.configuring.Sizes.{Sizes}
use Rattle.command_words.specs.declared.configuring.Unconfigured.{Unconfigured}
use Rattle.command_words.specs.declared.configuring.Unconfigured.TheVariants as unconfigured
use Rattle.command_words.specs.declared.preparing.Prepared.{Prepared}
use Rattle.command_words.specs.declared.preparing.Unprepared.{Unprepared}
use Rattle.command_words.specs.declared.preparing.Unprepared.TheVariants as unprepared
use Rattle.command_words.specs.rules.Bounds.{IsOutOfBounds}
use Rattle.command_words.specs.rules.Entries.{IsUnnamedEntry}
use Rattle.command_words.specs.declared.status.Status.{Status}
use Rattle.command_words.specs.declared.status.Status.TheVariants as exit

-- what a worker of these sizes is configured with: its first argument is its name
abbrev pub config_as : Sizes → List (List ℕ) → List (List ℕ) → Settings
config_as sizes arguments environment =
    settings sizes.pages sizes.files sizes.journal (codes "worker" ∷ arguments) environment

-- All numbers, counts and lengths are in their bounds, and a text isn't one.
abbrev pub IsMistexted : Settings → Type 0
IsMistexted config = IsInRange config × (HasTexts config → ⊥)

-- So it is, and the entry with this number has no name, if one is told.
abbrev pub IsMistextedAt : Settings → Option ℕ → Type 0
IsMistextedAt config unnamed =
    IsMistexted config × IfSome unnamed (IsUnnamedEntry config.environment)

-- Want of memory says nothing of the settings.
abbrev pub IsMisconfigured : Settings → Unconfigured → Type 0
IsMisconfigured config (unconfigured.Range bound) = IsOutOfBounds config bound
IsMisconfigured config (unconfigured.Text unnamed) = IsMistextedAt config unnamed
IsMisconfigured config unconfigured.Memory = ⊤

-- how many sectors the disk of a worker of these bytes needs
abbrev pub disk_sectors : Settings → List ℕ → ℕ
disk_sectors config bytes = total_sectors (geometry_of config (length bytes))

-- The bytes spell an accepted module, and its worker needs so many sectors.
pub record IsMeasured (config : Settings) (bytes : List ℕ) (sectors : ℕ) : Type 0 where
  pub accepted : HasAcceptedModule config.pages bytes
  pub sectors_are : sectors ≡ disk_sectors config bytes

-- The module isn't accepted, and this says why. Want of memory says nothing of it.
abbrev pub IsUnaccepted : ℕ → List ℕ → Unprepared → Type 0
IsUnaccepted pages bytes (unprepared.Range bound) = ⊥
IsUnaccepted pages bytes (unprepared.Text unnamed) = ⊥
IsUnaccepted pages bytes (unprepared.Module why) =
    (is_want why ≡ false) × IsReported pages bytes why × HasNoAcceptedModule pages bytes
IsUnaccepted pages bytes unprepared.Memory = ⊤

-- The configuration is these settings, within their limits, and the module is measured.
pub record IsPreparedAs (config : Settings) (bytes : List ℕ) (prepared : Prepared) : Type 0 where
  pub config_is : prepared.config ≡ config
  pub within : AreSettingsWithinLimits config
  pub measured : IsMeasured config bytes prepared.sectors

-- The configuration is out of its bounds, or has a text that isn't one. Or it is within the limits,
-- and the module isn't accepted.
abbrev pub IsUnprepared : Settings → List ℕ → Unprepared → Type 0
IsUnprepared config bytes (unprepared.Range bound) = IsOutOfBounds config bound
IsUnprepared config bytes (unprepared.Text unnamed) = IsMistextedAt config unnamed
IsUnprepared config bytes (unprepared.Module why) =
    AreSettingsWithinLimits config × IsUnaccepted config.pages bytes (unprepared.Module why)
IsUnprepared config bytes unprepared.Memory = ⊤

-- the limit that the module passes, and where, if it is that
abbrev pub passed_by : Unprepared → Option PassedLimit
passed_by (unprepared.Module why) = passed_in why
passed_by (unprepared.Range bound) = None
passed_by (unprepared.Text unnamed) = None
passed_by unprepared.Memory = None

-- the exit status, where that is printed
abbrev pub status_unprepared : Unprepared → Status
status_unprepared (unprepared.Range bound) = exit.Refused
status_unprepared (unprepared.Text unnamed) = exit.Refused
status_unprepared (unprepared.Module why) = exit.Refused
status_unprepared unprepared.Memory = exit.OutOfMemory
