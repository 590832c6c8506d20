-- What `wasmhost inspect` and `wasmhost files` say of a disk (this project's own).
use Rattle.std.specs.Prelude.{◌≡◌, ◌⊎◌, ℕ, Bool, List, [], ◌∷◌, ◌++◌, codes, Option, Some, None}
use Rattle.std.specs.Prelude.{Result, Ok, Err, Vec, if◌then◌else◌, ◌==◌}
use Rattle.std.specs.declared.alloc.Global.{Global}
use Rattle.std.specs.Fmt.{decimal}
use Rattle.std.specs.List.{flat_map}
use Rattle.sector_disk.specs.rules.Medium.{Medium}
use Rattle.file_tree.specs.rules.Files.{Files}
use Rattle.file_listing.specs.declared.fault.PathFault.{PathFault}
use Rattle.file_listing.specs.declared.fault.PathFault.TheVariants as fault
use Rattle.file_listing.specs.declared.listed.ListedNode.{ListedNode}
use Rattle.file_listing.specs.rules.Listed.{listing_in, ReadsPath}
use Rattle.worker.specs.declared.inspection.Inspection.{Inspection}
use Rattle.worker.specs.declared.recover_fault.RecoverFault.{RecoverFault}
use Rattle.worker.specs.rules.Inspections.{Inspects}
use Rattle.command_words.specs.rules.Printers.{Printers, IsSaid, SaysText}
use Rattle.command_words.specs.rules.Records.{is_printable, told_text}
use Rattle.command_words.specs.rules.Reports.{SaysLine}
use Rattle.command_words.specs.declared.status.Status.{Status}
use Rattle.command_words.specs.declared.status.Status.TheVariants as exit
use Rattle.disk_commands.specs.rules.DiskStatuses.{opening_fault, status_on_disk}
use Rattle.disk_commands.specs.rules.Facts.{facts_words}
use Rattle.disk_commands.specs.rules.DiskFacts.{disk_facts}

-- ---- the files of a disk

-- the letter of a listed node, with an `x` where its path is told by digits
abbrev pub node_mark : List ℕ → List ℕ → List ℕ
node_mark letter path = if is_printable path then letter ++ codes " " else letter ++ codes "x "

-- a listed node: whether it is a directory or a file, a file's size, and its path
abbrev pub node_line : ListedNode → List ℕ
node_line node =
    if node.is_directory then node_mark (codes "d") node.path ++ told_text node.path ++ codes "\n"
    else node_mark (codes "f") node.path ++ decimal node.size ++ codes " " ++ told_text node.path
    ++ codes "\n"

-- all of them, one a line
abbrev pub listing_text : Files → List ℕ
listing_text fs = flat_map node_line (listing_in fs)

-- a path without a `/` in front, as it is listed
abbrev pub listed_path : List ℕ → List ℕ
listed_path [] = []
listed_path (byte ∷ path) = if byte == 47 then path else byte ∷ path

-- ---- what is said

-- The text is printed, and nothing on the error output. Or there is no memory for it: that is told
-- there, and nothing is printed.
abbrev pub SaysOrWants : List ℕ → Printers → Printers → Status → Type 0
SaysOrWants text before after status =
    (SaysText text exit.Done before.out status after.out × (after.err ≡ before.err))
    ⊎ (IsSaid exit.OutOfMemory before.err status after.err × (after.out ≡ before.out))

-- 3 for a path that isn't that of a file, and 5 for out of memory
abbrev pub status_of_path : PathFault → Status
status_of_path fault.Memory = exit.OutOfMemory
status_of_path other = exit.Refused

-- what is said of such a path: the fault, and on a line of its own what to do
abbrev pub path_words : PathFault → List ℕ
path_words fault.Memory = codes "failed F3 Memory"
path_words fault.Missing =
    codes "failed F1 Missing\nno file is listed under this path: without PATH all are listed"
path_words fault.Directory =
    codes "failed F2 Directory\nit is a directory: --all FOLDER writes all"

-- The bytes of the file are written, and nothing on the error output. Or it is told there why none
-- are.
abbrev pub SaysFile : Result (Vec ℕ Global) PathFault → Printers → Printers → Status → Type 0
SaysFile (Ok bytes) before after status =
    SaysText bytes.items exit.Done before.out status after.out × (after.err ≡ before.err)
SaysFile (Err why) before after status =
    SaysLine (path_words why) (status_of_path why) before.err status after.err
    × (after.out ≡ before.out)

-- all files are listed, or the one at this path is written, which may have a `/` in front
abbrev pub SaysFiles : Files → Option (List ℕ) → Printers → Printers → Status → Type 0
SaysFiles fs None before after status = SaysOrWants (listing_text fs) before after status
SaysFiles fs (Some path) before after status =
    (read : Result (Vec ℕ Global) PathFault) × ReadsPath fs (listed_path path) read
    × SaysFile read before after status

-- Of a fault of the disk the status is told on the error output, and nothing is printed.
abbrev pub SaysRefusal : RecoverFault → Printers → Printers → Status → Type 0
SaysRefusal why before after status =
    IsSaid (status_on_disk (opening_fault why)) before.err status after.err
    × (after.out ≡ before.out)

-- what is said of a disk that was inspected
abbrev pub SaysInspected : Bool → Result Inspection RecoverFault → Printers → Printers → Status
    → Type 0
SaysInspected as_json (Ok told) before after status =
    SaysOrWants (facts_words as_json (disk_facts told)) before after status
SaysInspected as_json (Err why) before after status = SaysRefusal why before after status

-- what is said of its files
abbrev pub SaysListed : Option (List ℕ) → Result Inspection RecoverFault → Printers → Printers
    → Status → Type 0
SaysListed path (Ok told) before after status =
    SaysFiles told.process.host.host.files path before after status
SaysListed path (Err why) before after status = SaysRefusal why before after status

-- The disk was inspected, and the facts that it holds are said.
pub record TellsDisk (as_json : Bool) (disk disk' : Medium) (before after : Printers)
    (status : Status) : Type 0 where
  pub result : Result Inspection RecoverFault
  pub inspects : Inspects result disk disk'
  pub says : SaysInspected as_json result before after status

-- The disk was inspected, and the files of the saved process are said.
pub record TellsFiles (path : Option (List ℕ)) (disk disk' : Medium)
    (before after : Printers) (status : Status) : Type 0 where
  pub result : Result Inspection RecoverFault
  pub inspects : Inspects result disk disk'
  pub says : SaysListed path result before after status
