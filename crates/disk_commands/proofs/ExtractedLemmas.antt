-- Nodes that are made below a folder, one after another.
use Rattle.std.proofs.Common.{◌≡◌, ℕ, ◌+◌, ◌<◌, Bool, List, ◌∷◌, ◌++◌, length, take, drop}
use Rattle.std.proofs.Common.{get_or, get_or-take, append_assoc, refl, subst, sym, ap, ◌∙◌}
use Rattle.std.proofs.Common.{inl, inr, arith}
use Rattle.std.specs.Prelude.{All, Contains, IsTrue}
use Rattle.std.specs.List.Sorted.{IsPermutation}
use Rattle.std.specs.IoError.{error_kind}
use Rattle.std.specs.declared.io.Error as io
use Rattle.std.proofs.lemmas.List.{drop_more, length-take-le, take-append-drop}
use Rattle.std.proofs.lemmas.List.Elements.{All-contains_itself}
use Rattle.std.proofs.lemmas.List.Sorted.{All-permutation}
use Rattle.command_words.specs.rules.Printers.{PrinterState}
use Rattle.command_words.specs.declared.status.Status.{Status}
use Rattle.file_tree.specs.rules.Files.{Files, bytes_of_node, slash}
use Rattle.file_listing.specs.declared.listed.ListedNode.{ListedNode}
use Rattle.file_listing.specs.rules.Listed.{IsPlacedAmong, listing_in}
use Rattle.disk_commands.specs.NodeOrders.{ParentsComeFirst}
use Rattle.disk_commands.specs.rules.ExtractedTrees.{FailsToMake, IsMadeAs, IsMadeBelow}
use Rattle.disk_commands.specs.rules.ExtractedTrees.{SaysUnmade, SaysUnwritten}
use Rattle.disk_commands.specs.rules.NewTrees.{KnownTrees, LiesInMadeFolder, below}
use Rattle.disk_commands.specs.rules.Openings.{SaysUnread}

-- why nothing is made at a path, by two names of the path
pub unmade_at : (trees : KnownTrees) (asked told path : List ℕ) (error : io.Error)
    (old : PrinterState) (status : Status) (new : PrinterState) → asked ≡ path → told ≡ path
    → FailsToMake trees asked (error_kind error) → SaysUnread told error old status new
    → SaysUnmade trees path old status new
unmade_at trees asked told path error old status new one other fails says = inl (
  error,
  subst (λ (p : List ℕ). FailsToMake trees p (error_kind error)) one fails,
  subst (λ (p : List ℕ). SaysUnread p error old status new) other says,
)

-- why a file that was made there isn't written, in the same way
pub unwritten_at : (trees : KnownTrees) (asked told path : List ℕ) (error : io.Error)
    (old : PrinterState) (status : Status) (new : PrinterState) → asked ≡ path → told ≡ path
    → IsTrue (trees.unwritten asked (error_kind error)) → SaysUnread told error old status new
    → SaysUnwritten trees path old status new
unwritten_at trees asked told path error old status new one other fails says = (
  error,
  subst (λ (p : List ℕ). IsTrue (trees.unwritten p (error_kind error))) one fails,
  subst (λ (p : List ℕ). SaysUnread p error old status new) other says,
)

-- nodes in some order are those of the tree
pub are_of_tree : (fs : Files) (nodes : List ListedNode) → IsPermutation (listing_in fs) nodes
    → All (Contains (listing_in fs)) nodes
are_of_tree fs nodes order = All-permutation (Contains (listing_in fs)) (listing_in fs) nodes order
    (All-contains_itself (listing_in fs))

-- by two names of the tree and of its nodes
pub all_of_tree : (fs tree : Files) (nodes given : List ListedNode) → tree ≡ fs → given ≡ nodes
    → All (Contains (listing_in fs)) nodes → All (Contains (listing_in tree)) given
all_of_tree fs tree nodes given whose same are =
    subst (λ (f : Files). All (Contains (listing_in f)) given) (sym whose)
    (subst (λ (ns : List ListedNode). All (Contains (listing_in fs)) ns) (sym same) are)

-- where all nodes before one are made below a folder, it lies in a folder that was made
pub lies_in_made : (trees : KnownTrees) (folder : List ℕ) (fs : Files) (nodes : List ListedNode)
    (k : ℕ) (node : ListedNode) → IsTrue (trees.folder folder) → ParentsComeFirst nodes
    → k < length nodes → node ≡ get_or nodes k node
    → ((j : ℕ) (d : ListedNode) → j < k → IsMadeBelow trees folder fs (get_or nodes j d))
    → LiesInMadeFolder trees (below folder node.path)
lies_in_made trees folder fs nodes k node made first short is done =
    by (first.at (take k nodes) (drop (k + 1) nodes) node split)
  where
    split : nodes ≡ take k nodes ++ node ∷ drop (k + 1) nodes
    split = sym (take-append-drop k nodes)
        ∙ ap (λ (rest : List ListedNode). take k nodes ++ rest) (drop_more nodes k node short
        ∙ ap (λ (n : ListedNode). n ∷ drop (k + 1) nodes) (sym is))

    made_before : (parent : ListedNode) → Contains (take k nodes) parent
        → IsMadeBelow trees folder fs parent
    made_before parent has =
        let long = length-take-le k nodes (omega (arith, short)) in
        let lt : has.0 < k = omega (arith, long, has.1) in
        subst (λ (n : ListedNode). IsMadeBelow trees folder fs n)
        (sym (get_or-take k nodes has.0 parent lt) ∙ has.2) (done has.0 parent lt)

    by : IsPlacedAmong (take k nodes) node.path → LiesInMadeFolder trees (below folder node.path)
    by (inr named) = record {
      front = folder;
      made = made;
      name = node.path;
      named = named;
      is = refl;
    }
    by (inl has) = record {
      front = below folder has.parent.path;
      made = subst (λ (b : Bool). IsMadeAs trees (below folder has.parent.path) b
          (bytes_of_node fs has.parent.number)) has.directory
          (made_before has.parent has.listed);
      name = has.name;
      named = has.named;
      is = ap (below folder) has.is
          ∙ sym (append_assoc folder (slash ∷ has.parent.path) (slash ∷ has.name));
    }
