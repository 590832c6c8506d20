-- A new folder that was filled, or what was made of it.
use Rattle.std.proofs.Common.{◌≡◌, ◌≢◌, ◌⊎◌, ◌∙◌, ap, inl, inr, refl, subst, sym, ℕ, List, [], ◌∷◌}
use Rattle.std.proofs.Common.{◌++◌, map, reverse}
use Rattle.std.specs.Prelude.{IsTrue}
use Rattle.std.specs.List.Sorted.{IsPermutation}
use Rattle.command_words.specs.rules.Printers.{PrinterState, Printers, printers}
use Rattle.command_words.specs.rules.Reports.{SaysOnOutput}
use Rattle.command_words.specs.declared.status.Status.{Status}
use Rattle.command_words.specs.declared.status.Status.TheVariants as exit
use Rattle.file_tree.specs.rules.Files.{Files}
use Rattle.file_listing.specs.declared.listed.ListedNode.{ListedNode}
use Rattle.file_listing.specs.rules.Listed.{listing_in}
use Rattle.disk_commands.specs.declared.on_disk.clearing.MadeNode.{MadeNode}
use Rattle.disk_commands.specs.MadeNodes.{AreMadeFor, IsUnfilled}
use Rattle.disk_commands.specs.MadeNodes.{SaysOneUnsynced, made_path, made_place}
use Rattle.disk_commands.specs.rules.ClearedTrees.{ClearsAll}
use Rattle.disk_commands.specs.rules.ExtractedTrees.{IsFilled, Place, SaysUnfilled, SaysUnmade}
use Rattle.disk_commands.specs.rules.ExtractedTrees.{SaysUnsynced, SaysUnwritten}
use Rattle.disk_commands.specs.rules.ExtractedTrees.{WritesFolder, clearing_order, made_places}
use Rattle.disk_commands.specs.rules.ExtractedTrees.{written_line}
use Rattle.disk_commands.specs.rules.NewTrees.{KnownTrees, below}

paths_are : (made : List MadeNode)
    → map (λ (at : Place). at.path) (map made_place made) ≡ map made_path made
paths_are [] = refl
paths_are (one ∷ made) = ap (λ (ps : List (List ℕ)). made_path one ∷ ps) (paths_are made)

module _ (trees : KnownTrees) (folder : List ℕ) where
  paths_for : (nodes : List ListedNode) (made : List MadeNode) → AreMadeFor folder nodes made
      → map made_path made ≡ map (λ (at : Place). at.path) (made_places folder nodes)
  paths_for nodes made are =
      sym (paths_are made) ∙ ap (map (λ (at : Place). at.path)) are

  order_for : (nodes : List ListedNode) (made : List MadeNode) → AreMadeFor folder nodes made
      → reverse (map made_path made) ++ folder ∷ [] ≡ clearing_order folder nodes
  order_for nodes made are =
      ap (λ (ps : List (List ℕ)). reverse ps ++ folder ∷ []) (paths_for nodes made are)

  unsynced : (nodes : List ListedNode) (made : List MadeNode) (old new : PrinterState)
      (status : Status) → AreMadeFor folder nodes made
      → SaysOneUnsynced trees folder (map made_path made) old status new
      → SaysUnsynced trees folder nodes old status new
  unsynced nodes made old new status are says =
      subst (λ (ps : List (List ℕ)). SaysOneUnsynced trees folder ps old status new)
      (paths_for nodes made are) says

  -- what was made of a folder that isn't filled, as nodes
  pub record Unfilled (fs : Files) (nodes : List ListedNode) (made : List MadeNode)
      (old : PrinterState) (status : Status) (new : PrinterState) : Type 0 where
    pub made_nodes : List ListedNode
    pub says : SaysUnfilled trees folder fs nodes made_nodes old status new
    pub are : AreMadeFor folder made_nodes made

  unfilled : (fs : Files) (nodes : List ListedNode) (made : List MadeNode)
      (old new : PrinterState) (status : Status)
      → IsUnfilled trees folder fs nodes made old status new
      → Unfilled fs nodes made old status new
  unfilled fs nodes made old new status (inr all) = record {
    made_nodes = nodes;
    says = inr (refl, all.1, unsynced nodes made old new status all.0 all.2);
    are = all.0;
  }
  unfilled fs nodes made old new status (inl stopped) = by stopped.says
    where
      by : (AreMadeFor folder stopped.front made
          × SaysUnmade trees (below folder stopped.node.path) old status new)
          ⊎ (AreMadeFor folder (stopped.front ++ stopped.node ∷ []) made
          × SaysUnwritten trees (below folder stopped.node.path) old status new)
          → Unfilled fs nodes made old status new
      by (inl none) = record {
        made_nodes = stopped.front;
        says = inl (record {
          front = stopped.front;
          node = stopped.node;
          rest = stopped.rest;
          parts = stopped.parts;
          whole = stopped.whole;
          says = inl (refl, none.1);
        });
        are = none.0;
      }
      by (inr more) = record {
        made_nodes = stopped.front ++ stopped.node ∷ [];
        says = inl (record {
          front = stopped.front;
          node = stopped.node;
          rest = stopped.rest;
          parts = stopped.parts;
          whole = stopped.whole;
          says = inr (refl, more.1);
        });
        are = more.0;
      }

  module _ (fs : Files) (nodes : List ListedNode) (made : List MadeNode)
      (out out' err told err' : PrinterState) (filled status : Status)
      (is : IsTrue (trees.folder folder)) (listed : IsPermutation (listing_in fs) nodes)
      (keeps : filled ≡ exit.Done
      → (status ≡ exit.Done) × IsTrue (trees.kept folder) × (err' ≡ told))
      (clears : filled ≢ exit.Done → ClearsAll trees (reverse (map made_path made) ++ folder ∷ [])
      told filled status err') where
    pub filled_folder : IsFilled trees folder fs nodes → AreMadeFor folder nodes made
        → SaysOnOutput (written_line nodes) exit.Done (printers out err) (printers out' told)
        filled → WritesFolder trees folder fs (printers out err) (printers out' err') status
    filled_folder whole are says = record {
      made = is;
      nodes = nodes;
      listed = listed;
      made_nodes = nodes;
      filled = filled;
      told = told;
      fills = inl (refl, whole, says);
      keeps = keeps;
      clears = λ other. subst (λ ps. ClearsAll trees ps told filled status err')
          (order_for nodes made are) (clears other);
    }

    pub unfilled_folder : out' ≡ out → IsUnfilled trees folder fs nodes made err filled told
        → WritesFolder trees folder fs (printers out err) (printers out' err') status
    unfilled_folder same why =
        let found = unfilled fs nodes made err told filled why in
        record {
          made = is;
          nodes = nodes;
          listed = listed;
          made_nodes = found.made_nodes;
          filled = filled;
          told = told;
          fills = inr (found.says, same);
          keeps = keeps;
          clears = λ other. subst (λ ps. ClearsAll trees ps told filled status err')
              (order_for found.made_nodes made found.are) (clears other);
        }

-- by two names of the folder's path and of the tree
pub folder_at : (trees : KnownTrees) (folder at : List ℕ) (fs tree : Files)
    (before after : Printers) (status : Status) → at ≡ folder → tree ≡ fs
    → WritesFolder trees at tree before after status
    → WritesFolder trees folder fs before after status
folder_at trees folder at fs tree before after status is whose writes =
    subst (λ (p : List ℕ). WritesFolder trees p fs before after status) is
    (subst (λ (f : Files). WritesFolder trees at f before after status) whose writes)
