-- The names of listed paths are names that a node may have, so their text is UTF-8.
use Rattle.std.proofs.Common.{◌≡◌, ℕ, zero, suc, ◌+◌, ◌≤◌, Bool, true, false, cond, arith}
use Rattle.std.proofs.Common.{List, [], ◌∷◌, ◌++◌, length, Option, Some, None, refl, ap, sym}
use Rattle.std.proofs.Common.{subst, All, inl, inr}
use Rattle.std.specs.List.{AllByRecursion, cons_option, filter_map, find}
use Rattle.std.specs.Option.{option_and_then}
use Rattle.std.specs.Prelude.{IfSome}
use Rattle.std.specs.Str.{IsAscii, IsUtf8}
use Rattle.std.proofs.lemmas.List.{length_push}
use Rattle.std.proofs.lemmas.Option.{same_Some}
use Rattle.std.proofs.lemmas.Str.{IsUtf8-append, IsUtf8-from_ascii}
use Rattle.file_tree.specs.rules.Files.{Name, Path, Files, FileNode, IsFiles, IsNodeName, IsPlaced}
use Rattle.file_tree.specs.rules.Files.{slash}
use Rattle.file_listing.specs.declared.listed.ListedNode.{ListedNode}
use Rattle.file_listing.specs.rules.Listed.{HaveNames, IsPathText, listed_at, listed_of, listing_in}
use Rattle.file_listing.specs.rules.Listed.{path_text}

-- ---- lists

all_pushed : {X : Type 0} (P : X → Type 0) (xs : List X) (y : X) → AllByRecursion P xs → P y
    → AllByRecursion P (xs ++ y ∷ [])
all_pushed P [] y each last = (last, tt)
all_pushed P (x ∷ xs) y each last = (each.0, all_pushed P xs y each.1 last)

all_at_places : {X : Type 0} (P : X → Type 0) (xs : List X) → AllByRecursion P xs → All P xs
all_at_places P [] each k d lt = absurd (omega (arith, lt))
all_at_places P (x ∷ xs) each zero d lt = each.0
all_at_places P (x ∷ xs) each (suc k) d lt = all_at_places P xs each.1 k d (omega (arith, lt))

-- ---- names

-- what holds of all paths holds of the path of a node that is found
found_path : (P : Path → Type 0) (q : FileNode → Bool) (ns : List FileNode) (p : Path)
    → AllByRecursion (λ (n : FileNode). IfSome n.path P) ns
    → option_and_then (λ (n : FileNode). n.path) (find q ns) ≡ Some p → P p
found_path P q [] p each e = absurd cc
found_path P q (n ∷ ns) p each e = go (q n) (found_path P q ns p each.1) e
  where
    own : (o : Option Path) → IfSome o P → o ≡ Some p → P p
    own None h is = absurd cc
    own (Some r) h is = subst P (same_Some r p is) h

    go : (b : Bool) → (option_and_then (λ (m : FileNode). m.path) (find q ns) ≡ Some p → P p)
        → option_and_then (λ (m : FileNode). m.path) (cond b (Some n) (find q ns)) ≡ Some p
        → P p
    go true later is = own n.path each.0 is
    go false later is = later is

-- each name of a path that is placed, which has at most so many
names_within : (fs : Files) → IsFiles fs → (most : ℕ) (p : Path) → length p ≤ most
    → IsPlaced fs p → AllByRecursion IsNodeName p
names_within fs are most p short (inl none) =
    subst (λ (q : Path). AllByRecursion IsNodeName q) (sym none) tt
names_within fs are zero p short (inr placed) =
    let long = ap (λ (q : Path). length q) placed.3 in
    let pushed = length_push placed.1 placed.2 in
    absurd (omega (arith, short, long, pushed))
names_within fs are (suc most) p short (inr placed) =
    let parent : Path = placed.1 in
    let long = ap (λ (q : Path). length q) placed.3 in
    let pushed = length_push parent placed.2 in
    let above : IsPlaced fs parent =
    found_path (IsPlaced fs) _ fs.nodes parent are.placed placed.5 in
    let named = names_within fs are most parent (omega (arith, short, long, pushed)) above in
    subst (λ (q : Path). AllByRecursion IsNodeName q) (sym placed.3)
    (all_pushed IsNodeName parent placed.2 named placed.4)

-- ---- listed nodes

pub have_names : (fs : Files) → IsFiles fs → HaveNames (listing_in fs)
have_names fs are = all_at_places _ (listing_in fs) (by fs.nodes are.placed)
  where
    one : (n : FileNode) (o : Option Path) (others : List ListedNode) → IfSome o (IsPlaced fs)
        → AllByRecursion (λ (node : ListedNode). IsPathText node.path) others
        → AllByRecursion (λ (node : ListedNode). IsPathText node.path)
        (cons_option (listed_at n o) others)
    one n None others placed each = each
    one n (Some []) others placed each = each
    one n (Some (name ∷ path)) others placed each = (
      record {
        first = name;
        path = path;
        named = names_within fs are (length (name ∷ path)) (name ∷ path) (omega arith) placed;
        is = refl;
      },
      each,
    )

    by : (ns : List FileNode) → AllByRecursion (λ (n : FileNode). IfSome n.path (IsPlaced fs)) ns
        → AllByRecursion (λ (node : ListedNode). IsPathText node.path) (filter_map listed_of ns)
    by [] each = tt
    by (n ∷ ns) each = one n n.path (filter_map listed_of ns) each.0 (by ns each.1)

-- ---- text

text_is_utf8 : (first : Name) (path : Path) → AllByRecursion IsNodeName (first ∷ path)
    → IsUtf8 (path_text (first ∷ path))
text_is_utf8 first [] named = named.0.utf8
text_is_utf8 first (next ∷ path) named =
    IsUtf8-append first (slash ∷ path_text (next ∷ path)) named.0.utf8
    (IsUtf8-append (slash ∷ []) (path_text (next ∷ path)) (slash_is_utf8)
    (text_is_utf8 next path named.1))
  where
    slash_is_ascii : IsAscii (slash ∷ [])
    slash_is_ascii zero = omega arith
    slash_is_ascii (suc i) = omega arith

    slash_is_utf8 : IsUtf8 (slash ∷ [])
    slash_is_utf8 = IsUtf8-from_ascii (slash ∷ []) slash_is_ascii

pub is_utf8 : (text : List ℕ) → IsPathText text → IsUtf8 text
is_utf8 text is = subst IsUtf8 (sym is.is) (text_is_utf8 is.first is.path is.named)
