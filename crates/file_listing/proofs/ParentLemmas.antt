-- The directory of each listed node is listed, but the root.
use Rattle.std.proofs.Common.{◌≡◌, ℕ, Bool, true, false, cond, List, [], ◌∷◌, ◌++◌, length, Option}
use Rattle.std.proofs.Common.{Some, None, refl, ap, sym, ◌∙◌, subst, inl, inr, arith}
use Rattle.std.specs.List.{AllByRecursion, cons_option, filter_map, find}
use Rattle.std.specs.Option.{option_and_then}
use Rattle.std.specs.Prelude.{Contains, IfSome}
use Rattle.std.proofs.lemmas.List.Elements.{All-from_recursion, Contains-append_right}
use Rattle.std.proofs.lemmas.Option.{same_Some}
use Rattle.file_tree.specs.rules.Files.{Name, Path, Files, FileNode, IsFiles, IsNodeName, IsPlaced}
use Rattle.file_tree.specs.rules.Files.{bytes_of_content, holds_directory, is_directory}
use Rattle.file_tree.specs.rules.Files.{is_directory_content, node_of, path_of, slash}
use Rattle.file_listing.specs.declared.listed.ListedNode.{ListedNode}
use Rattle.file_listing.specs.rules.Listed.{HaveParents, IsPlacedAmong, listed_at, listed_of}
use Rattle.file_listing.specs.rules.Listed.{listing_in, path_text}
use Rattle.file_listing.proofs.PathLemmas.{text_behind}

-- what is listed of a node that is found is among what is listed of all
found_is_listed : (q : FileNode → Bool) (ns : List FileNode) (n : FileNode) (node : ListedNode)
    → find q ns ≡ Some n → listed_of n ≡ Some node → Contains (filter_map listed_of ns) node
found_is_listed q [] n node found told = absurd cc
found_is_listed q (m ∷ ns) n node found told =
    go (q m) (λ later. found_is_listed q ns n node later told) found
  where
    own : (o : Option ListedNode) → o ≡ Some node
        → Contains (cons_option o (filter_map listed_of ns)) node
    own None is = absurd cc
    own (Some first) is = (0, omega arith, same_Some first node is)

    behind : (o : Option ListedNode) → Contains (filter_map listed_of ns) node
        → Contains (cons_option o (filter_map listed_of ns)) node
    behind None has = has
    behind (Some first) has =
        Contains-append_right (first ∷ []) (filter_map listed_of ns) node has

    go : (b : Bool) → (find q ns ≡ Some n → Contains (filter_map listed_of ns) node)
        → cond b (Some m) (find q ns) ≡ Some n
        → Contains (cons_option (listed_of m) (filter_map listed_of ns)) node
    go true later is = own (listed_of m) (ap listed_of (same_Some m n is) ∙ told)
    go false later is = behind (listed_of m) (later is)

-- a directory under a path that isn't the root's is listed
directory_is_listed : (fs : Files) (d : ℕ) (first : Name) (path : Path)
    → path_of fs d ≡ Some (first ∷ path) → is_directory fs d ≡ true
    → (node : ListedNode) × Contains (listing_in fs) node × (node.is_directory ≡ true)
    × (node.path ≡ path_text (first ∷ path))
directory_is_listed fs d first path named is = by (node_of fs d) refl named is where
  by : (o : Option FileNode) → node_of fs d ≡ o
      → option_and_then (λ (n : FileNode). n.path) o ≡ Some (first ∷ path)
      → holds_directory o ≡ true
      → (node : ListedNode) × Contains (listing_in fs) node × (node.is_directory ≡ true)
      × (node.path ≡ path_text (first ∷ path))
  by None found own is = absurd cc
  by (Some n) found own is = (
    record {
      number = n.number;
      is_directory = is_directory_content n.content;
      size = length (bytes_of_content n.content);
      path = path_text (first ∷ path);
    },
    found_is_listed _ fs.nodes n _ found (ap (listed_at n) own),
    is,
    refl,
  )

-- the path of a node that is placed is placed among what is listed
placed_among : (fs : Files) (first : Name) (path : Path) → IsPlaced fs (first ∷ path)
    → IsPlacedAmong (listing_in fs) (path_text (first ∷ path))
placed_among fs first path (inl none) = absurd cc
placed_among fs first path (inr placed) = by placed.1 placed.3 placed.5 where
  by : (front : Path) → first ∷ path ≡ front ++ placed.2 ∷ [] → path_of fs placed.0 ≡ Some front
      → IsPlacedAmong (listing_in fs) (path_text (first ∷ path))
  by [] is own = inr (subst IsNodeName (sym (ap path_text is)) placed.4)
  by (up ∷ front) is own =
      let above = directory_is_listed fs placed.0 up front own placed.6 in
      inl (record {
        parent = above.0;
        listed = above.1;
        directory = above.2;
        name = placed.2;
        named = placed.4;
        is = ap path_text is ∙ text_behind (up ∷ front) placed.2
            ∙ ap (λ (text : List ℕ). text ++ slash ∷ placed.2) (sym above.3);
      })

pub have_parents : (fs : Files) → IsFiles fs → HaveParents (listing_in fs)
have_parents fs are = All-from_recursion _ (listing_in fs) (by fs.nodes are.placed)
  where
    one : (n : FileNode) (o : Option Path) (others : List ListedNode) → IfSome o (IsPlaced fs)
        → AllByRecursion (λ (node : ListedNode). IsPlacedAmong (listing_in fs) node.path) others
        → AllByRecursion (λ (node : ListedNode). IsPlacedAmong (listing_in fs) node.path)
        (cons_option (listed_at n o) others)
    one n None others placed each = each
    one n (Some []) others placed each = each
    one n (Some (name ∷ path)) others placed each = (placed_among fs name path placed, each)

    by : (ns : List FileNode) → AllByRecursion (λ (n : FileNode). IfSome n.path (IsPlaced fs)) ns
        → AllByRecursion (λ (node : ListedNode). IsPlacedAmong (listing_in fs) node.path)
        (filter_map listed_of ns)
    by [] each = tt
    by (n ∷ ns) each = one n n.path (filter_map listed_of ns) each.0 (by ns each.1)
