-- What a command has made below a new folder, as it remembers it.
use Rattle.std.specs.Prelude.{◌≡◌, ◌⊎◌, ℕ, false, List, [], ◌∷◌, ◌++◌, All, Contains, map}
use Rattle.std.specs.Prelude.{string_bytes, IsTrue}
use Rattle.std.specs.IoError.{error_kind}
use Rattle.file_tree.specs.rules.Files.{Files}
use Rattle.file_listing.specs.declared.listed.ListedNode.{ListedNode}
use Rattle.command_words.specs.rules.Printers.{PrinterState}
use Rattle.command_words.specs.declared.status.Status.{Status}
use Rattle.disk_commands.specs.declared.on_disk.clearing.MadeNode.{MadeNode}
use Rattle.disk_commands.specs.declared.on_disk.extracting.Outcome.{Outcome}
use Rattle.disk_commands.specs.declared.on_disk.extracting.Outcome.TheVariants.{Made, Unwritten}
use Rattle.disk_commands.specs.declared.on_disk.extracting.Outcome.TheVariants.{Unmade}
use Rattle.disk_commands.specs.rules.ExtractedTrees.{FailsToMake, IsMade, IsMadeBelow, Place}
use Rattle.disk_commands.specs.rules.ExtractedTrees.{SaysUnmade, SaysUnwritten, place, made_places}
use Rattle.disk_commands.specs.rules.NewTrees.{HasMade, KnownTrees, below}

-- the path of one
abbrev pub made_path : MadeNode → List ℕ
made_path made = string_bytes made.path

-- where one was made
abbrev pub made_place : MadeNode → Place
made_place made = place (made_path made) made.is_folder

-- they are what was made for these nodes below the folder, in their order
abbrev pub AreMadeFor : List ℕ → List ListedNode → List MadeNode → Type 0
AreMadeFor folder nodes made = map made_place made ≡ made_places folder nodes

module _ (trees : KnownTrees) where
  -- each was made
  abbrev pub HaveMade : List MadeNode → Type 0
  HaveMade = All (λ (one : MadeNode). HasMade trees (made_path one) one.is_folder)

  -- what came of a file with these bytes at this path
  abbrev pub EndsFile : List ℕ → List ℕ → Outcome → Type 0
  EndsFile path bytes (Made mark) = IsTrue (trees.begun path) × IsTrue (trees.written path bytes)
      × IsTrue (trees.synced path)
  EndsFile path bytes (Unwritten mark error) =
      IsTrue (trees.begun path) × IsTrue (trees.unwritten path (error_kind error))
  EndsFile path bytes (Unmade error) = IsTrue (trees.refused path (error_kind error))

  -- what came of a node of the tree
  abbrev pub EndsNode : Files → List ℕ → ListedNode → Outcome → Type 0
  EndsNode fs path node (Made mark) = IsMade trees fs path node
  EndsNode fs path node (Unwritten mark error) = (node.is_directory ≡ false)
      × IsTrue (trees.begun path) × IsTrue (trees.unwritten path (error_kind error))
  EndsNode fs path node (Unmade error) = FailsToMake trees path (error_kind error)

  module _ (folder : List ℕ) where
    -- one more was made, for this node
    pub record AddsMade (node : ListedNode) (old new : List MadeNode) : Type 0 where
      pub one : MadeNode
      pub added : new ≡ old ++ one ∷ []
      pub at : made_place one ≡ place (below folder node.path) node.is_directory
      pub made : HasMade trees (made_path one) one.is_folder

    -- It is said why the node isn't made, and none more was, or why it isn't written.
    abbrev pub SaysNodeUnmade : ListedNode → List MadeNode × List MadeNode → PrinterState → Status
        → PrinterState → Type 0
    SaysNodeUnmade node made old status new =
        ((made.1 ≡ made.0) × SaysUnmade trees (below folder node.path) old status new)
        ⊎ (AddsMade node made.0 made.1
        × SaysUnwritten trees (below folder node.path) old status new)

    -- One of these nodes isn't made, or not as a whole.
    pub record HasStoppedAmong (fs : Files) (nodes : List ListedNode) (made : List MadeNode)
        (old : PrinterState) (status : Status) (new : PrinterState) : Type 0 where
      pub front : List ListedNode
      pub node : ListedNode
      pub rest : List ListedNode
      pub parts : nodes ≡ front ++ node ∷ rest
      pub whole : All (IsMadeBelow trees folder fs) front
      pub says : (AreMadeFor folder front made
          × SaysUnmade trees (below folder node.path) old status new)
          ⊎ (AreMadeFor folder (front ++ node ∷ []) made
          × SaysUnwritten trees (below folder node.path) old status new)

    -- it is said why the entries of the folder, or of one at these paths, aren't durable
    abbrev pub SaysOneUnsynced : List (List ℕ) → PrinterState → Status → PrinterState → Type 0
    SaysOneUnsynced paths old status new = (path : List ℕ)
        × ((path ≡ folder) ⊎ Contains paths path) × SaysUnwritten trees path old status new

    -- It is said why the folder isn't filled.
    abbrev pub IsUnfilled : Files → List ListedNode → List MadeNode → PrinterState → Status
        → PrinterState → Type 0
    IsUnfilled fs nodes made old status new = HasStoppedAmong fs nodes made old status new
        ⊎ (AreMadeFor folder nodes made × All (IsMadeBelow trees folder fs) nodes
        × SaysOneUnsynced (map made_path made) old status new)
