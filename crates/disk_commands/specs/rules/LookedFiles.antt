-- What a command says of a disk in a file that it looks at (this project's own).
use Rattle.std.specs.Prelude.{ℕ, Bool, List, option_map}
use Rattle.sector_disk.specs.rules.Known.{KnownFiles, KnownHandles}
use Rattle.sector_disk.specs.rules.Medium.{Medium}
use Rattle.command_words.specs.rules.Printers.{Printers}
use Rattle.command_words.specs.declared.status.Status.{Status}
use Rattle.disk_commands.specs.declared.on_disk.disk_file.Look.{Look}
use Rattle.disk_commands.specs.declared.on_disk.disk_file.Look.TheVariants as look
use Rattle.disk_commands.specs.rules.Histories.{TellsHistory}
use Rattle.disk_commands.specs.rules.Inspectings.{TellsDisk, TellsFiles}
use Rattle.disk_commands.specs.rules.Openings.{CommandRun}
use Rattle.disk_commands.specs.rules.SeenDisks.{DoesSeen}
use Rattle.disk_commands.specs.rules.Showings.{ShowsDisk}

-- its survey is said, or its facts, or the files of its saved process, or its records
abbrev pub TellsLook : Look → Medium → Medium → Printers → Printers → Status → Type 0
TellsLook look.Survey old new before after status = ShowsDisk old new before after status
TellsLook (look.Facts as_json) old new before after status =
    TellsDisk as_json old new before after status
TellsLook (look.Files path) old new before after status =
    TellsFiles (option_map (λ text. text.now) path) old new before after status
TellsLook (look.History as_story) old new before after status =
    TellsHistory as_story old new before after status

-- so it is with a disk of any type
abbrev pub TellsSeen : Look → (D : Type 0) → (D → Medium) → D → D → CommandRun → Type 0
TellsSeen what D medium disk disk' run =
    TellsLook what (medium disk) (medium disk') run.before run.after run.status

-- and with the disk in a file, live or not
abbrev pub TellsFile : {F : Type 0} → KnownHandles F → KnownFiles F → Look → List ℕ → CommandRun
    → Bool → Type 0
TellsFile handles files what path = DoesSeen handles files path (TellsSeen what)
