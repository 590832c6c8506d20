-- What a status file may take the place of (this project's own).
use Rattle.std.specs.Prelude.{◌≡◌, ◌⊎◌, ℕ, Bool, IsTrue, List, [], ◌++◌, codes}
use Rattle.std.specs.Prelude.{Option, Some, None, option_map}
use Rattle.std.specs.Borrow.{Bor}
use Rattle.std.specs.declared.io.Error as io
use Rattle.sector_disk.specs.rules.Known.{KnownFiles}
use Rattle.command_words.specs.rules.Printers.{PrinterState}
use Rattle.command_words.specs.rules.Reports.{SaysLine}
use Rattle.command_words.specs.declared.status.Status.{Status}
use Rattle.command_words.specs.declared.status.Status.TheVariants as exit
use Rattle.disk_commands.specs.declared.on_disk.found_file.FoundFile.{FoundFile}
use Rattle.disk_commands.specs.declared.on_disk.found_file.FoundFile.TheVariants as found
use Rattle.disk_commands.specs.rules.Metrics.{BeginsAsMetrics}
use Rattle.disk_commands.specs.rules.Openings.{SaysUnread}
use Rattle.disk_commands.specs.rules.Watchings.{IsStatusLine}

-- no bytes, a status line and nothing else, or bytes that begin as metrics do
abbrev pub IsStatusText : List ℕ → Type 0
IsStatusText bytes = (bytes ≡ []) ⊎ IsStatusLine bytes ⊎ BeginsAsMetrics bytes

-- a regular file that begins so
abbrev pub IsStatusFile : FoundFile → Type 0
IsStatusFile found.Missing = ⊥
IsStatusFile (found.Regular bytes) = IsStatusText bytes.items
IsStatusFile found.Locked = ⊥
IsStatusFile found.Link = ⊥
IsStatusFile found.Folder = ⊥
IsStatusFile found.Special = ⊥

-- Nothing is there, or a status file is.
abbrev pub IsFreePath : FoundFile → Type 0
IsFreePath here = (here ≡ found.Missing) ⊎ IsStatusFile here

-- what a path is told to be
abbrev pub found_words : FoundFile → List ℕ
found_words found.Missing = codes "no such file or directory"
found_words (found.Regular bytes) = codes "has other bytes than a status line or metrics"
found_words found.Locked = codes "is locked"
found_words found.Link = codes "is a symbolic link"
found_words found.Folder = codes "is a directory"
found_words found.Special = codes "isn't a regular file"

-- ---- looking at a path

-- A status file was found there.
abbrev pub HasFoundStatusFile : (FoundFile → Bool) → Type 0
HasFoundStatusFile has_found = (here : FoundFile) × IsTrue (has_found here) × IsStatusFile here

-- It was found free.
abbrev pub HasFoundFree : (FoundFile → Bool) → Type 0
HasFoundFree has_found = (here : FoundFile) × IsTrue (has_found here) × IsFreePath here

-- It is said why a status file can't have this path: by what was found there, or by an error of the
-- system.
abbrev pub SaysTaken : (FoundFile → Bool) → List ℕ → PrinterState → Status → PrinterState → Type 0
SaysTaken has_found path old status new =
    ((here : FoundFile) × IsTrue (has_found here) × (IsFreePath here → ⊥)
    × SaysLine (codes "failed K2 Io\n" ++ path ++ codes ": " ++ found_words here) exit.IoError old
    status new) ⊎ ((error : io.Error) × SaysUnread path error old status new)

-- where a line is written before it gets its path
abbrev pub beside : List ℕ → List ℕ
beside path = path ++ codes ".new"

-- Leave for a status file at this path: there and beside it may be looked and a file be made.
abbrev pub MayWatch : {F : Type 0} → KnownFiles F → List ℕ → Type 0
MayWatch files path = IsTrue (files.may_read path) × IsTrue (files.may_make path)
    × IsTrue (files.may_read (beside path)) × IsTrue (files.may_make (beside path))

-- Both paths of a status file were found free. A file that was made at the one beside was removed.
abbrev pub IsWatchable : (List ℕ → FoundFile → Bool) → (List ℕ → Bool) → List ℕ → Type 0
IsWatchable has_found removed path =
    HasFoundFree (has_found path) × HasFoundFree (has_found (beside path))
    × IsTrue (removed (beside path))

-- It is said of one of them why it can't be had.
abbrev pub SaysUnwatched : (List ℕ → FoundFile → Bool) → List ℕ → PrinterState → Status
    → PrinterState → Type 0
SaysUnwatched has_found path old status new =
    SaysTaken (has_found path) path old status new
    ⊎ SaysTaken (has_found (beside path)) (beside path) old status new

-- ---- the files of a run

-- the bytes of a path, if one is named
abbrev pub path_named : Option (Bor (List ℕ)) → Option (List ℕ)
path_named path = option_map (λ text. text.now) path

-- Two files that are named share a path: it is that of both, or one has the path beside the other.
abbrev pub SharePath : Option (List ℕ) → Option (List ℕ) → Type 0
SharePath (Some status) (Some metrics) =
    (status ≡ metrics) ⊎ (status ≡ beside metrics) ⊎ (metrics ≡ beside status)
SharePath None metrics = ⊥
SharePath (Some status) None = ⊥

-- what is told of such two
abbrev pub shared_words : List ℕ
shared_words =
    codes "error: --status and --metrics need paths of their own, also with .new behind them"

-- It is said that two files that are named share a path. Or it is said of one of them why it can't
-- be had.
abbrev pub SaysUnwatchable : (List ℕ → FoundFile → Bool) → Option (List ℕ) → Option (List ℕ)
    → PrinterState → Status → PrinterState → Type 0
SaysUnwatchable has_found status metrics old answered new =
    (SharePath status metrics × SaysLine shared_words exit.Usage old answered new)
    ⊎ ((path : List ℕ) × ((status ≡ Some path) ⊎ (metrics ≡ Some path))
    × SaysUnwatched has_found path old answered new)
