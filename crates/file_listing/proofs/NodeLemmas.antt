-- What is listed of the nodes of a tree.
use Rattle.std.proofs.Common.{◌≡◌, ◌≢◌, ℕ, zero, suc, ◌+◌, ◌≤◌, eqb, List, [], ◌∷◌, ◌++◌}
use Rattle.std.proofs.Common.{length, take, Option, Some, None, refl, sym, ap, subst, ◌∙◌, arith}
use Rattle.std.specs.Prelude.{find, option_map, option_to_list, slice_get}
use Rattle.std.specs.Option.{option_and_then}
use Rattle.std.specs.List.{filter_map}
use Rattle.std.proofs.lemmas.Bool.{eq-eqb, ne_eqb}
use Rattle.std.proofs.lemmas.List.{take_all, take_more}
use Rattle.std.proofs.lemmas.List.Elements.{filter_map-append}
use Rattle.std.proofs.lemmas.Option.{slice_get_within, get_or_from_slice_get, same_Some}
use Rattle.file_tree.specs.rules.Files.{Name, Path, Files, FileNode, IsFiles, AreRising, node_of}
use Rattle.file_tree.specs.rules.Files.{path_of}
use Rattle.file_tree.specs.rules.Listings.{number_at}
use Rattle.file_listing.specs.declared.listed.ListedNode.{ListedNode}
use Rattle.file_listing.specs.rules.Listed.{listed_at, listed_of, listing_in}
use Rattle.file_listing.proofs.PathLemmas.{no_names}

-- ---- one node

-- the path of a node that is there
own_path : (fs : Files) (k : ℕ) (n : FileNode) → node_of fs k ≡ Some n → path_of fs k ≡ n.path
own_path fs k n found = ap (option_and_then (λ (m : FileNode). m.path)) found

-- nothing is listed of a node above which there is no directory
pub unlisted : (fs : Files) (k : ℕ) (n : FileNode) → node_of fs k ≡ Some n
    → ((path : Path) (name : Name) → path_of fs k ≢ Some (path ++ name ∷ []))
    → None ≡ listed_of n
unlisted fs k n found none =
    by n.path (λ path name e. none path name (own_path fs k n found ∙ e))
  where
    by : (o : Option Path) → ((path : Path) (name : Name) → o ≢ Some (path ++ name ∷ []))
        → None ≡ listed_at n o
    by None none = refl
    by (Some p) none =
        ap (λ (q : Path). listed_at n (Some q))
        (sym (no_names p (λ path name e. none path name (ap (λ (q : Path). Some q) e))))

-- ---- all nodes

-- the node at a place is found by its number
own_place : (least : ℕ) (ns : List FileNode) (next i : ℕ) (n : FileNode) → AreRising least ns next
    → slice_get ns i ≡ Some n
    → (least ≤ n.number) × (find (λ (m : FileNode). eqb m.number n.number) ns ≡ Some n)
own_place least [] next i n rising at = absurd cc
own_place least (m ∷ ns) next zero n rising at =
    let same : m ≡ n = same_Some m n at in (
      subst (λ (x : FileNode). least ≤ x.number) same rising.0,
      rw (eq-eqb m.number n.number (ap (λ (x : FileNode). x.number) same))
          (ap (λ (x : FileNode). Some x) same),
    )
own_place least (m ∷ ns) next (suc i) n rising at =
    let later = own_place (m.number + 1) ns next i n rising.1 at in
    let above : m.number + 1 ≤ n.number = later.0 in
    let below : least ≤ m.number = rising.0 in
    let apart : m.number ≢ n.number = λ e. omega (arith, above, e) in
    (omega (arith, above, below), rw (ne_eqb m.number n.number apart) later.1)

-- what is at a place: a node that is found by its number
pub place_found : (fs : Files) (i k : ℕ) → IsFiles fs → number_at fs i ≡ Some k
    → (n : FileNode) × (slice_get fs.nodes i ≡ Some n) × (node_of fs k ≡ Some n)
    × (n.number ≡ k)
place_found fs i k are at = by (slice_get fs.nodes i) refl at where
  by : (o : Option FileNode) → slice_get fs.nodes i ≡ o
      → option_map (λ (n : FileNode). n.number) o ≡ Some k
      → (n : FileNode) × (slice_get fs.nodes i ≡ Some n) × (node_of fs k ≡ Some n)
      × (n.number ≡ k)
  by None is e = absurd cc
  by (Some n) is e =
      let own : n.number ≡ k = same_Some n.number k e in (
        n,
        is,
        subst (λ j. node_of fs j ≡ Some n) own
            (own_place 1 fs.nodes fs.next i n are.rising is).1,
        own,
      )

-- what was listed of all nodes
pub all_listed : (fs : Files) (nodes : List ListedNode) (place : ℕ)
    → nodes ≡ filter_map listed_of (take place fs.nodes) → length fs.nodes ≤ place
    → nodes ≡ listing_in fs
all_listed fs nodes place is over = is ∙ ap (filter_map listed_of) (take_all place fs.nodes over)

-- the list of a front with one node more
pub listed_more : (ns : List FileNode) (i : ℕ) (n : FileNode) → slice_get ns i ≡ Some n
    → filter_map listed_of (take i ns) ++ option_to_list (listed_of n)
    ≡ filter_map listed_of (take (i + 1) ns)
listed_more ns i n at =
    sym (ap (filter_map listed_of) (take_more ns i n (slice_get_within ns i n at)
    ∙ ap (λ (m : FileNode). take i ns ++ m ∷ []) (get_or_from_slice_get ns i n n at))
    ∙ filter_map-append listed_of (take i ns) (n ∷ [])
    ∙ ap (λ (l : List ListedNode). filter_map listed_of (take i ns) ++ l) (one n.path))
  where
    one : (o : Option Path) → filter_map (listed_at n) (o ∷ []) ≡ option_to_list (listed_at n o)
    one None = refl
    one (Some []) = refl
    one (Some (name ∷ path)) = refl
