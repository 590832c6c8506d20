-- What is remembered of nodes that are made below a folder, one after another.
use Rattle.std.proofs.Common.{◌≡◌, ◌⊎◌, ◌∙◌, ap, ap₂, inl, inr, subst, sym, ℕ, ◌+◌, ◌<◌, Bool}
use Rattle.std.proofs.Common.{true, false, List, [], ◌∷◌, ◌++◌, arith, map, length, take, drop}
use Rattle.std.proofs.Common.{get_or, get_or-take, take-append-drop}
use Rattle.std.specs.Prelude.{All}
use Rattle.std.proofs.lemmas.List.{drop_more, length-take-le, map-append, take_more}
use Rattle.std.proofs.lemmas.List.Elements.{All-more, All-push}
use Rattle.command_words.specs.rules.Printers.{PrinterState}
use Rattle.command_words.specs.declared.status.Status.{Status}
use Rattle.file_tree.specs.rules.Files.{Files}
use Rattle.file_listing.specs.declared.listed.ListedNode.{ListedNode}
use Rattle.disk_commands.specs.declared.on_disk.clearing.MadeNode.{MadeNode}
use Rattle.disk_commands.specs.MadeNodes.{AddsMade, AreMadeFor, HasStoppedAmong, HaveMade}
use Rattle.disk_commands.specs.MadeNodes.{SaysNodeUnmade, made_path, made_place}
use Rattle.disk_commands.specs.rules.ExtractedTrees.{IsMadeAs, IsMadeBelow, Place, place}
use Rattle.disk_commands.specs.rules.ExtractedTrees.{SaysUnmade, SaysUnwritten}
use Rattle.disk_commands.specs.rules.NewTrees.{HasMade, KnownTrees, below}

-- what was made as a whole was made
pub was_made : (trees : KnownTrees) (path bytes : List ℕ) (is_folder : Bool)
    → IsMadeAs trees path is_folder bytes → HasMade trees path is_folder
was_made trees path bytes true made = made
was_made trees path bytes false made = made.0

pub adds_made : (trees : KnownTrees) (folder : List ℕ) (node : ListedNode)
    (old new : List MadeNode) (one : MadeNode) (asked : List ℕ) → new ≡ old ++ one ∷ []
    → asked ≡ made_path one → made_path one ≡ below folder node.path
    → one.is_folder ≡ node.is_directory → HasMade trees asked node.is_directory
    → AddsMade trees folder node old new
adds_made trees folder node old new one asked added same is kind made = record {
  one = one;
  added = added;
  at = ap₂ place is kind;
  made = subst (λ (b : Bool). HasMade trees (made_path one) b) (sym kind)
      (subst (λ (p : List ℕ). HasMade trees p node.is_directory) same made);
}

module _ (trees : KnownTrees) (folder : List ℕ) where
  -- one more node, and one more that is remembered
  pub made_for_more : (front : List ListedNode) (node : ListedNode) (made made' : List MadeNode)
      → AreMadeFor folder front made → AddsMade trees folder node made made'
      → AreMadeFor folder (front ++ node ∷ []) made'
  made_for_more front node made made' are adds =
      let spot : ListedNode → Place = λ n. place (below folder n.path) n.is_directory in
      ap (map made_place) adds.added ∙ map-append made_place made (adds.one ∷ [])
      ∙ ap₂ (λ (xs ys : List Place). xs ++ ys) are (ap (λ (p : Place). p ∷ []) adds.at)
      ∙ sym (map-append spot front (node ∷ []))

  pub have_more : (node : ListedNode) (made made' : List MadeNode) → HaveMade trees made
      → AddsMade trees folder node made made' → HaveMade trees made'
  have_more node made made' have adds =
      subst (HaveMade trees) (sym adds.added)
      (All-push (λ (one : MadeNode). HasMade trees (made_path one) one.is_folder) made adds.one have
      adds.made)

  pub have_after : (node : ListedNode) (made made' : List MadeNode) (old new : PrinterState)
      (status : Status) → HaveMade trees made
      → SaysNodeUnmade trees folder node (made, made') old status new → HaveMade trees made'
  have_after node made made' old new status have (inl none) =
      subst (HaveMade trees) (sym none.0) have
  have_after node made made' old new status have (inr more) =
      have_more node made made' have more.0

-- the first nodes of a list, and one more
split : (nodes : List ListedNode) (k : ℕ) (node : ListedNode) → k < length nodes
    → node ≡ get_or nodes k node → nodes ≡ take k nodes ++ node ∷ drop (k + 1) nodes
split nodes k node short is =
    sym (take-append-drop k nodes)
    ∙ ap (λ (rest : List ListedNode). take k nodes ++ rest) (drop_more nodes k node short
    ∙ ap (λ (n : ListedNode). n ∷ drop (k + 1) nodes) (sym is))

-- what holds of each of them
pub all_taken : (P : ListedNode → Type 0) (nodes : List ListedNode) (k : ℕ) → k < length nodes
    → ((j : ℕ) (d : ListedNode) → j < k → P (get_or nodes j d)) → All P (take k nodes)
all_taken P nodes k short holds j d lt =
    let long = length-take-le k nodes (omega (arith, short)) in
    let below : j < k = omega (arith, long, lt) in
    subst P (sym (get_or-take k nodes j d below)) (holds j d below)

-- what holds of the first ones, and of one more
pub done_more : (P : ListedNode → Type 0) (nodes : List ListedNode) (k : ℕ) (node : ListedNode)
    → k < length nodes → node ≡ get_or nodes k node
    → ((j : ℕ) (d : ListedNode) → j < k → P (get_or nodes j d)) → P node
    → (j : ℕ) (d : ListedNode) → j < k + 1 → P (get_or nodes j d)
done_more P nodes k node short is done whole j d lt =
    let all = All-more P nodes k node short (all_taken P nodes k short done) (subst P is whole) in
    let long = length-take-le (k + 1) nodes (omega (arith, short)) in
    subst P (get_or-take (k + 1) nodes j d lt) (all j d (omega (arith, long, lt)))

module _ (trees : KnownTrees) (folder : List ℕ) (fs : Files) (nodes : List ListedNode) (k : ℕ)
    (node : ListedNode) (made made' : List MadeNode) where
  -- all before a node were made, and it is said why that one isn't
  pub stopped_at : (a b c : PrinterState) (status : Status) → k < length nodes
      → node ≡ get_or nodes k node → b ≡ a
      → ((j : ℕ) (d : ListedNode) → j < k → IsMadeBelow trees folder fs (get_or nodes j d))
      → AreMadeFor folder (take k nodes) made
      → SaysNodeUnmade trees folder node (made, made') b status c
      → HasStoppedAmong trees folder fs nodes made' a status c
  stopped_at a b c status short is quiet done are says = record {
    front = take k nodes;
    node = node;
    rest = drop (k + 1) nodes;
    parts = split nodes k node short is;
    whole = all_taken (IsMadeBelow trees folder fs) nodes k short done;
    says = by (subst (λ (p : PrinterState). SaysNodeUnmade trees folder node (made, made') p
        status c) quiet says);
  }
    where
      by : SaysNodeUnmade trees folder node (made, made') a status c
          → (AreMadeFor folder (take k nodes) made'
          × SaysUnmade trees (below folder node.path) a status c)
          ⊎ (AreMadeFor folder (take k nodes ++ node ∷ []) made'
          × SaysUnwritten trees (below folder node.path) a status c)
      by (inl none) = inl (subst (AreMadeFor folder (take k nodes)) (sym none.0) are, none.1)
      by (inr more) =
          inr (made_for_more trees folder (take k nodes) node made made' are more.0, more.1)

  -- one more of them was made
  pub taken_more : k < length nodes → node ≡ get_or nodes k node
      → AreMadeFor folder (take k nodes) made → AddsMade trees folder node made made'
      → AreMadeFor folder (take (k + 1) nodes) made'
  taken_more short is are adds =
      subst (λ (front : List ListedNode). AreMadeFor folder front made') (sym whole)
      (made_for_more trees folder (take k nodes) node made made' are adds)
    where
      whole : take (k + 1) nodes ≡ take k nodes ++ node ∷ []
      whole = take_more nodes k node short
          ∙ ap (λ (n : ListedNode). take k nodes ++ n ∷ []) (sym is)
