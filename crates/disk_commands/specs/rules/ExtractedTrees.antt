-- What `wasmhost files --all` does: the tree of the process that was saved last is written into a
-- new folder (this project's own).
use Rattle.std.specs.Prelude.{◌≡◌, ◌≢◌, ◌⊎◌, ◌-◌, ℕ, Bool, true, false, List, length, codes}
use Rattle.std.specs.Prelude.{[], ◌∷◌, ◌++◌, map, reverse}
use Rattle.std.specs.Prelude.{All, Contains, IsTrue, Result, Ok, Err}
use Rattle.std.specs.Fmt.{decimal}
use Rattle.std.specs.List.{count_by}
use Rattle.std.specs.List.Sorted.{IsPermutation}
use Rattle.std.specs.IoError.{error_kind}
use Rattle.std.specs.declared.io.Error as io
use Rattle.std.specs.declared.io.ErrorKind.{ErrorKind}
use Rattle.std.specs.declared.io.ErrorKind.TheVariants.{OutOfMemory}
use Rattle.sector_disk.specs.rules.Known.{KnownFiles, KnownHandles}
use Rattle.sector_disk.specs.rules.Medium.{Medium}
use Rattle.file_tree.specs.rules.Files.{Files, bytes_of_node}
use Rattle.file_listing.specs.declared.listed.ListedNode.{ListedNode}
use Rattle.file_listing.specs.rules.Listed.{listing_in}
use Rattle.worker.specs.declared.inspection.Inspection.{Inspection}
use Rattle.worker.specs.declared.recover_fault.RecoverFault.{RecoverFault}
use Rattle.worker.specs.rules.Inspections.{Inspects}
use Rattle.command_words.specs.declared.telling.Obstacle.TheVariants.{Memory}
use Rattle.command_words.specs.rules.Printers.{PrinterState, Printers, printers}
use Rattle.command_words.specs.rules.Reports.{SaysLine, SaysOnOutput, obstacle_words}
use Rattle.command_words.specs.declared.status.Status.{Status}
use Rattle.command_words.specs.declared.status.Status.TheVariants as exit
use Rattle.disk_commands.specs.rules.Inspectings.{SaysRefusal}
use Rattle.disk_commands.specs.rules.NewTrees.{KnownTrees, below}
use Rattle.disk_commands.specs.rules.ClearedTrees.{ClearsAll}
use Rattle.disk_commands.specs.rules.Openings.{CommandRun, SaysUnread}
use Rattle.disk_commands.specs.rules.SeenDisks.{DoesSeen}

-- how many of these nodes are directories
abbrev pub directories_in : List ListedNode → ℕ
directories_in = count_by (λ (node : ListedNode). node.is_directory)

-- the line that is printed where all of them are written
abbrev pub written_line : List ListedNode → List ℕ
written_line nodes = codes "wrote " ++ decimal (length nodes - directories_in nodes)
    ++ codes " files, " ++ decimal (directories_in nodes) ++ codes " folders\n"

-- where a node is made, and whether that is a folder
pub record Place : Type 0 where
  pub path : List ℕ
  pub is_folder : Bool

-- of these
abbrev pub place : List ℕ → Bool → Place
place path is_folder = record { path = path; is_folder = is_folder }

-- those of nodes below a folder
abbrev pub made_places : List ℕ → List ListedNode → List Place
made_places folder nodes =
    map (λ (node : ListedNode). place (below folder node.path) node.is_directory) nodes

-- the paths of what was made for these nodes, the last first, and of the folder in the end
abbrev pub clearing_order : List ℕ → List ListedNode → List (List ℕ)
clearing_order folder nodes =
    reverse (map (λ (at : Place). at.path) (made_places folder nodes)) ++ folder ∷ []

module _ (trees : KnownTrees) where
  -- A folder was made at the path, or a file, to which these bytes were written durably.
  abbrev pub IsMadeAs : List ℕ → Bool → List ℕ → Type 0
  IsMadeAs path true bytes = IsTrue (trees.folder path)
  IsMadeAs path false bytes = IsTrue (trees.begun path) × IsTrue (trees.written path bytes)
      × IsTrue (trees.synced path)

  -- The node was made at this path: a file with its bytes.
  abbrev pub IsMade : Files → List ℕ → ListedNode → Type 0
  IsMade fs path node = IsMadeAs path node.is_directory (bytes_of_node fs node.number)

  -- Nothing is made at the path, by an error of this kind: of the system, or for want of memory.
  abbrev pub FailsToMake : List ℕ → ErrorKind → Type 0
  FailsToMake path kind = IsTrue (trees.refused path kind) ⊎ (kind ≡ OutOfMemory)

  -- It is said why, or that there is no memory.
  abbrev pub SaysUnmade : List ℕ → PrinterState → Status → PrinterState → Type 0
  SaysUnmade path old status new =
      ((error : io.Error) × FailsToMake path (error_kind error)
      × SaysUnread path error old status new)
      ⊎ SaysLine (obstacle_words Memory) exit.OutOfMemory old status new

  -- It is said why the file or folder at the path, which was made, isn't written durably.
  abbrev pub SaysUnwritten : List ℕ → PrinterState → Status → PrinterState → Type 0
  SaysUnwritten path old status new =
      (error : io.Error) × IsTrue (trees.unwritten path (error_kind error))
      × SaysUnread path error old status new

  -- the entries of each folder among these places are durable
  abbrev pub AreSynced : List Place → Type 0
  AreSynced = All (λ (at : Place). at.is_folder ≡ true → IsTrue (trees.synced at.path))

  module _ (folder : List ℕ) where
    -- The node was made below the folder.
    abbrev pub IsMadeBelow : Files → ListedNode → Type 0
    IsMadeBelow fs node = IsMade fs (below folder node.path) node

    -- One of these nodes isn't made, or not as a whole, and it is said why. Those before it were
    -- made, and none behind it: in all just those of `made`.
    pub record StopsAmong (fs : Files) (nodes made : List ListedNode) (old : PrinterState)
        (status : Status) (new : PrinterState) : Type 0 where
      pub front : List ListedNode
      pub node : ListedNode
      pub rest : List ListedNode
      pub parts : nodes ≡ front ++ node ∷ rest
      pub whole : All (IsMadeBelow fs) front
      pub says : ((made ≡ front) × SaysUnmade (below folder node.path) old status new)
          ⊎ ((made ≡ front ++ node ∷ []) × SaysUnwritten (below folder node.path) old status new)

    -- All of these nodes are made, and the entries of all folders are durable.
    pub record IsFilled (fs : Files) (nodes : List ListedNode) : Type 0 where
      pub whole : All (IsMadeBelow fs) nodes
      pub synced : AreSynced (made_places folder nodes)
      pub top : IsTrue (trees.synced folder)
      pub entry : IsTrue (trees.entered folder)

    -- It is said why the entries of the folder, of one in it, or the folder's own aren't durable.
    abbrev pub SaysUnsynced : List ListedNode → PrinterState → Status → PrinterState → Type 0
    SaysUnsynced nodes old status new = (path : List ℕ)
        × ((path ≡ folder)
        ⊎ Contains (map (λ (at : Place). at.path) (made_places folder nodes)) path)
        × SaysUnwritten path old status new

    -- Why the folder isn't filled: one node stops it, or all are made, and not all is durable.
    abbrev pub SaysUnfilled : Files → List ListedNode → List ListedNode → PrinterState → Status
        → PrinterState → Type 0
    SaysUnfilled fs nodes made old status new = StopsAmong fs nodes made old status new
        ⊎ ((made ≡ nodes) × All (IsMadeBelow fs) nodes × SaysUnsynced nodes old status new)

    -- What was done and said once the folder was made, with these nodes in this order, of which
    -- those of `made` were made. It was filled, and how many is printed. Or it is said why it
    -- isn't.
    abbrev pub FillsFolder : Files → List ListedNode → List ListedNode → Printers → Printers
        → Status → Type 0
    FillsFolder fs nodes made before after status =
        ((made ≡ nodes) × IsFilled fs nodes
        × SaysOnOutput (written_line nodes) exit.Done before after status)
        ⊎ (SaysUnfilled fs nodes made before.err status after.err × (after.out ≡ before.out))

    -- The folder was made, and filled with all listed nodes, in some order. It was left there where
    -- that was done. Else what was made was removed, and what stays is named. By `filled` and
    -- `told` the filling had ended so before that.
    pub record WritesFolder (fs : Files) (before after : Printers) (status : Status)
        : Type 0 where
      pub made : IsTrue (trees.folder folder)
      pub nodes : List ListedNode
      pub listed : IsPermutation (listing_in fs) nodes
      pub made_nodes : List ListedNode
      pub filled : Status
      pub told : PrinterState
      pub fills : FillsFolder fs nodes made_nodes before (printers after.out told) filled
      pub keeps : filled ≡ exit.Done
          → (status ≡ exit.Done) × IsTrue (trees.kept folder) × (after.err ≡ told)
      pub clears : filled ≢ exit.Done
          → ClearsAll trees (clearing_order folder made_nodes) told filled status after.err

    -- The tree is written into the folder. Or it is said why that isn't made, or that there is no
    -- memory for the list, and nothing is made.
    abbrev pub WritesTree : Files → Printers → Printers → Status → Type 0
    WritesTree fs before after status =
        WritesFolder fs before after status
        ⊎ (SaysUnmade folder before.err status after.err × (after.out ≡ before.out))

    -- What is done and said of a disk that was inspected.
    abbrev pub ExtractsTold : Result Inspection RecoverFault → Printers → Printers → Status
        → Type 0
    ExtractsTold (Ok told) before after status =
        WritesTree told.process.host.host.files before after status
    ExtractsTold (Err why) before after status = SaysRefusal why before after status

    -- The disk was inspected, and the files of the saved process are written.
    pub record ExtractsDisk (disk disk' : Medium) (before after : Printers)
        (status : Status) : Type 0 where
      pub result : Result Inspection RecoverFault
      pub inspects : Inspects result disk disk'
      pub extracts : ExtractsTold result before after status

    -- so it is with a disk of any type
    abbrev pub ExtractsSeen : (D : Type 0) → (D → Medium) → D → D → CommandRun → Type 0
    ExtractsSeen D medium disk disk' run =
        ExtractsDisk (medium disk) (medium disk') run.before run.after run.status

-- and with the disk in a file, live or not
abbrev pub ExtractsFile : {F : Type 0} → KnownHandles F → KnownFiles F → KnownTrees → List ℕ
    → List ℕ → CommandRun → Bool → Type 0
ExtractsFile handles files trees path folder =
    DoesSeen handles files path (ExtractsSeen trees folder)
