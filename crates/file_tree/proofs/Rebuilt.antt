-- Each file system is what some nodes show.
use Rattle.std.proofs.Common.{◌≡◌, ◌≢◌, ◌⊎◌, inl, inr, ℕ, zero, suc, ◌+◌, ◌<◌, ◌≤◌, Bool, true}
use Rattle.std.proofs.Common.{false, cond, eqb, List, [], ◌∷◌, ◌++◌, length, map, reverse, Option}
use Rattle.std.proofs.Common.{Some, None, refl, sym, ap, subst, ◌∙◌, arith, length-append}
use Rattle.std.specs.Prelude.{option_map, find, IfSome}
use Rattle.std.specs.Option.{option_and_then}
use Rattle.std.specs.List.{AllByRecursion}
use Rattle.std.proofs.lemmas.Bool.{eqb-true, eq-eqb, ne_eqb}
use mathlib.Core.List.{reverse-append, reverse-reverse}
use Rattle.file_tree.specs.declared.store.node.Hook.{Hook}
use Rattle.file_tree.specs.declared.store.node.Hook.TheVariants.{Root, Removed, In}
use Rattle.file_tree.specs.declared.store.node.NodeContent as store
use Rattle.file_tree.specs.declared.store.node.NodeContent.TheVariants as content
use Rattle.file_tree.specs.declared.store.node.Node.{Node}
use Rattle.file_tree.specs.rules.Files.{Name, Path, FileNode, Files, Content, Directory, File}
use Rattle.file_tree.specs.rules.Files.{node_of, path_of, is_directory, is_directory_content}
use Rattle.file_tree.specs.rules.Files.{holds_directory, AreRising, IsPlaced, HasPath}
use Rattle.file_tree.specs.rules.Files.{HaveDistinctPaths, IsSmallContent, IsFiles, IsNodeName}
use Rattle.file_tree.specs.Store.Bodies.{Joined}
use Rattle.file_tree.specs.Links.{Up, climb, IsTree, node_in, hook_held, hook_of, content_shown}
use Rattle.file_tree.specs.Links.{content_held, holds_directory_node, is_directory_in, AreNodes}
use Rattle.file_tree.specs.Links.{AreRisingNodes, shown_node, files}
use Rattle.file_tree.proofs.Climbs.{in_is, path_is, no_path}
use Rattle.file_tree.proofs.Seen.{some_path}

-- ---- lists of nodes with whole paths

-- what holds of all holds of the one that is found
pub all_found : (P : FileNode → Type 0) (ns : List FileNode) (k : ℕ) (n : FileNode)
    → AllByRecursion P ns → find (λ (n : FileNode). eqb n.number k) ns ≡ Some n → P n
all_found P [] k n all e = absurd (cc)
all_found P (x ∷ ns) k n all e = by_test (eqb x.number k) (all_found P ns k n all.1) e where
  by_test : (b : Bool)
      → (find (λ (n : FileNode). eqb n.number k) ns ≡ Some n → P n)
      → cond b (Some x) (find (λ (n : FileNode). eqb n.number k) ns) ≡ Some n → P n
  by_test true later e = (let same : x ≡ n = cc in subst P same all.0)
  by_test false later e = later e

-- the one that is found has the number
pub found_number : (ns : List FileNode) (k : ℕ) (n : FileNode)
    → find (λ (n : FileNode). eqb n.number k) ns ≡ Some n → n.number ≡ k
found_number [] k n e = absurd (cc)
found_number (x ∷ ns) k n e = by_test (eqb x.number k) refl (found_number ns k n) e where
  by_test : (b : Bool) → eqb x.number k ≡ b
      → (find (λ (n : FileNode). eqb n.number k) ns ≡ Some n → n.number ≡ k)
      → cond b (Some x) (find (λ (n : FileNode). eqb n.number k) ns) ≡ Some n → n.number ≡ k
  by_test true is later e =
      let same : x ≡ n = cc in
      sym (ap (λ (y : FileNode). y.number) same) ∙ eqb-true x.number k is
  by_test false is later e = later e

pub has_path : (o : Option Path) (p : Path) → o ≡ Some p → HasPath o p
has_path None p e = absurd (cc)
has_path (Some q) p e = cc

-- two numbers don't have one path
one_number : (ns : List FileNode) (j k : ℕ) (a b : FileNode) (p : Path) → HaveDistinctPaths ns
    → find (λ (n : FileNode). eqb n.number j) ns ≡ Some a
    → find (λ (n : FileNode). eqb n.number k) ns ≡ Some b
    → a.path ≡ Some p → b.path ≡ Some p → j ≡ k
one_number [] j k a b p distinct ea eb pa pb = absurd (cc)
one_number (x ∷ ns) j k a b p distinct ea eb pa pb =
    by_tests (eqb x.number j) (eqb x.number k) refl refl (one_number ns j k a b p distinct.1)
    ea eb where
      clash : (a b : FileNode) (k : ℕ) → x ≡ a → a.path ≡ Some p → b.path ≡ Some p
          → find (λ (n : FileNode). eqb n.number k) ns ≡ Some b → ⊥
      clash a b k same pa pb e =
          all_found (λ (other : FileNode). (p : Path) → HasPath x.path p → HasPath other.path p → ⊥)
          ns k b distinct.0 e p
          (has_path x.path p (ap (λ (y : FileNode). y.path) same ∙ pa)) (has_path b.path p pb)

      by_tests : (s t : Bool) → eqb x.number j ≡ s → eqb x.number k ≡ t
          → (find (λ (n : FileNode). eqb n.number j) ns ≡ Some a
          → find (λ (n : FileNode). eqb n.number k) ns ≡ Some b
          → a.path ≡ Some p → b.path ≡ Some p → j ≡ k)
          → cond s (Some x) (find (λ (n : FileNode). eqb n.number j) ns) ≡ Some a
          → cond t (Some x) (find (λ (n : FileNode). eqb n.number k) ns) ≡ Some b → j ≡ k
      by_tests true true s t later ea eb = sym (eqb-true x.number j s) ∙ eqb-true x.number k t
      by_tests true false s t later ea eb =
          (let same : x ≡ a = cc in absurd (clash a b k same pa pb eb))
      by_tests false true s t later ea eb =
          (let same : x ≡ b = cc in absurd (clash b a j same pb pa ea))
      by_tests false false s t later ea eb = later ea eb pa pb

-- numbers of nodes are below the next one
pub numbers_below : (least : ℕ) (ns : List FileNode) (next : ℕ) → AreRising least ns next
    → (least ≤ next) × AllByRecursion (λ (n : FileNode). n.number < next) ns
numbers_below least [] next h = (h, tt)
numbers_below least (n ∷ ns) next h =
    let r = numbers_below (n.number + 1) ns next h.1 in
    (omega (arith, r.0, h.0), (omega (arith, r.0), r.1))

pub numbers_from : (least : ℕ) (ns : List FileNode) (next : ℕ) → AreRising least ns next
    → AllByRecursion (λ (n : FileNode). least ≤ n.number) ns
numbers_from least [] next h = tt
numbers_from least (n ∷ ns) next h = (h.0, lower ns (numbers_from (n.number + 1) ns next h.1)) where
  lower : (ms : List FileNode) → AllByRecursion (λ (m : FileNode). n.number + 1 ≤ m.number) ms
      → AllByRecursion (λ (m : FileNode). least ≤ m.number) ms
  lower [] g = tt
  lower (m ∷ ms) g = (omega (arith, g.0, h.0), lower ms g.1)

-- each is the one of its number
abbrev pub IsFoundIn : List FileNode → FileNode → Type 0
IsFoundIn ns n = find (λ (m : FileNode). eqb m.number n.number) ns ≡ Some n

pub own_nodes : (least : ℕ) (ns : List FileNode) (next : ℕ) → AreRising least ns next
    → AllByRecursion (IsFoundIn ns) ns
own_nodes least [] next h = tt
own_nodes least (x ∷ ns) next h = (
  ap (λ (b : Bool). cond b (Some x) (find (λ (m : FileNode). eqb m.number x.number) ns))
      (eq-eqb x.number x.number refl),
  later ns (own_nodes (x.number + 1) ns next h.1) (numbers_from (x.number + 1) ns next h.1),
) where
  later : (ms : List FileNode)
      → AllByRecursion (IsFoundIn ns) ms
      → AllByRecursion (λ (n : FileNode). x.number + 1 ≤ n.number) ms
      → AllByRecursion (IsFoundIn (x ∷ ns)) ms
  later [] g high = tt
  later (n ∷ ms) g high = (
    (let ne : x.number ≢ n.number = λ e. absurd (omega (arith, high.0, e)) in
        ap (λ (b : Bool). cond b (Some x) (find (λ (m : FileNode). eqb m.number n.number) ns))
        (ne_eqb x.number n.number ne) ∙ g.0),
    later ms g.1 high.1,
  )

-- ---- the nodes

abbrev place_hook : (fs : Files) (p : Path) → IsPlaced fs p → Hook
place_hook fs p (inl e) = Root
place_hook fs p (inr x) = In x.0 x.2

abbrev path_hook : (fs : Files) (o : Option Path) → IfSome o (IsPlaced fs) → Hook
path_hook fs None h = Removed
path_hook fs (Some p) h = place_hook fs p h

abbrev pub content_kept : Content → store.NodeContent
content_kept Directory = content.Directory
content_kept (File bytes) = content.File (Joined bytes)

pub content_same : (c : Content) → content_shown (content_kept c) ≡ c
content_same Directory = refl
content_same (File bytes) = refl

abbrev node_kept : (fs : Files) (n : FileNode) → IfSome n.path (IsPlaced fs) → Node
node_kept fs n h = record {
  number = n.number;
  hook = path_hook fs n.path h;
  content = content_kept n.content;
}

abbrev nodes_kept : (fs : Files) (ns : List FileNode)
    → AllByRecursion (λ (n : FileNode). IfSome n.path (IsPlaced fs)) ns → List Node
nodes_kept fs [] h = []
nodes_kept fs (n ∷ ns) h = node_kept fs n h.0 ∷ nodes_kept fs ns h.1

-- both look-ups find nothing, or a node and what is kept of it
abbrev AreAlike : Files → Option FileNode → Option Node → Type 0
AreAlike fs o x =
    ((o ≡ None) × (x ≡ None))
    ⊎ ((n : FileNode) × (h : IfSome n.path (IsPlaced fs)) × (o ≡ Some n)
    × (x ≡ Some (node_kept fs n h)))

look_ups : (fs : Files) (ns : List FileNode)
    (h : AllByRecursion (λ (n : FileNode). IfSome n.path (IsPlaced fs)) ns) (k : ℕ)
    → AreAlike fs (find (λ (n : FileNode). eqb n.number k) ns) (node_in (nodes_kept fs ns h) k)
look_ups fs [] h k = inl (refl, refl)
look_ups fs (n ∷ ns) h k = by_test (eqb n.number k) (look_ups fs ns h.1 k) where
  by_test : (b : Bool)
      → AreAlike fs (find (λ (n : FileNode). eqb n.number k) ns) (node_in (nodes_kept fs ns h.1) k)
      → AreAlike fs (cond b (Some n) (find (λ (n : FileNode). eqb n.number k) ns))
      (cond b (Some (node_kept fs n h.0)) (node_in (nodes_kept fs ns h.1) k))
  by_test true later = inr (n, h.0, refl, refl)
  by_test false later = later

kept_rising : (fs : Files) (least : ℕ) (ns : List FileNode) (next : ℕ)
    (h : AllByRecursion (λ (n : FileNode). IfSome n.path (IsPlaced fs)) ns)
    → AreRising least ns next → AreRisingNodes least (nodes_kept fs ns h) next
kept_rising fs least [] next h rising = rising
kept_rising fs least (n ∷ ns) next h rising =
    (rising.0, kept_rising fs (n.number + 1) ns next h.1 rising.1)

kept_small : (fs : Files) (ns : List FileNode)
    (h : AllByRecursion (λ (n : FileNode). IfSome n.path (IsPlaced fs)) ns)
    → AllByRecursion (λ (n : FileNode). IsSmallContent n.content) ns
    → AllByRecursion (λ (n : Node). IsSmallContent (content_shown n.content)) (nodes_kept fs ns h)
kept_small fs [] h small = tt
kept_small fs (n ∷ ns) h small =
    (subst IsSmallContent (sym (content_same n.content)) small.0, kept_small fs ns h.1 small.1)

length_kept : (fs : Files) (ns : List FileNode)
    (h : AllByRecursion (λ (n : FileNode). IfSome n.path (IsPlaced fs)) ns)
    → length (nodes_kept fs ns h) ≡ length ns
length_kept fs [] h = refl
length_kept fs (n ∷ ns) h = ap suc (length_kept fs ns h.1)

pub path_there : (o : Option FileNode) (p : Path)
    → option_and_then (λ (n : FileNode). n.path) o ≡ Some p
    → (n : FileNode) × (o ≡ Some n) × (n.path ≡ Some p)
path_there None p e = absurd (cc)
path_there (Some n) p e = (n, refl, e)

module _ (fs : Files) (are : IsFiles fs) where
  abbrev pub rebuilt : List Node
  rebuilt = nodes_kept fs fs.nodes are.placed

  alike : (k : ℕ) → AreAlike fs (node_of fs k) (node_in rebuilt k)
  alike k = look_ups fs fs.nodes are.placed k

  -- the number of a path's node
  pub same_number : (j k : ℕ) (p : Path) → path_of fs j ≡ Some p → path_of fs k ≡ Some p → j ≡ k
  same_number j k p ej ek =
      let a = path_there (node_of fs j) p ej in
      let b = path_there (node_of fs k) p ek in
      one_number fs.nodes j k a.0 b.0 p are.distinct a.1 b.1 a.2 b.2

  -- a node with a path hangs where the path says
  record HangsAt (k : ℕ) (p : Path) : Type 0 where
    path : path_of fs k ≡ Some p
    placed : IsPlaced fs p
    hook : hook_of rebuilt k ≡ place_hook fs p placed

  abbrev Lies : ℕ → Type 0
  Lies k = ((hook_of rebuilt k ≡ Removed) × (path_of fs k ≡ None)) ⊎ ((p : Path) × HangsAt k p)

  lies : (k : ℕ) → Lies k
  lies k = by_node (alike k) where
    by_path : (n : FileNode) (o : Option Path) (h : IfSome o (IsPlaced fs))
        → path_of fs k ≡ o → hook_of rebuilt k ≡ path_hook fs o h → Lies k
    by_path n None h path hook = inl (hook, path)
    by_path n (Some p) h path hook = inr (p, record { path = path; placed = h; hook = hook })

    by_node : AreAlike fs (node_of fs k) (node_in rebuilt k) → Lies k
    by_node (inl none) =
        inl (ap hook_held none.1, ap (option_and_then (λ (n : FileNode). n.path)) none.0)
    by_node (inr some) =
        by_path some.0 some.0.path some.1
        (ap (option_and_then (λ (n : FileNode). n.path)) some.2) (ap hook_held some.3)

  hangs : (k : ℕ) (p : Path) → path_of fs k ≡ Some p → HangsAt k p
  hangs k p e = by_place (lies k) where
    by_place : Lies k → HangsAt k p
    by_place (inl none) = absurd (let t : None ≡ Some p = sym none.1 ∙ e in cc)
    by_place (inr some) = subst (HangsAt k) (some_path some.0 p (sym some.1.path ∙ e)) some.1

  -- the way up from a node, where those from shorter paths are known
  way_at : (k : ℕ) (p : Path)
      → ((d : ℕ) (q : Path) → path_of fs d ≡ Some q → length q < length p
      → Up (hook_of rebuilt) d (reverse q))
      → (placed : IsPlaced fs p) → hook_of rebuilt k ≡ place_hook fs p placed
      → Up (hook_of rebuilt) k (reverse p)
  way_at k p shorter (inl root) hook =
      subst (λ (q : Path). Up (hook_of rebuilt) k (reverse q)) (sym root) hook
  way_at k p shorter (inr x) hook =
      let size = ap length x.3 ∙ length-append x.1 (x.2 ∷ []) in
      let up = shorter x.0 x.1 x.5 (omega (arith, size)) in
      let whole : reverse p ≡ x.2 ∷ reverse x.1 = ap reverse x.3 ∙ reverse-append x.1 (x.2 ∷ []) in
      subst (λ (q : Path). Up (hook_of rebuilt) k q) (sym whole) (x.0, hook, up)

  way_from : (most k : ℕ) (p : Path) → HangsAt k p → length p ≤ most
      → Up (hook_of rebuilt) k (reverse p)
  way_from zero k p h short =
      way_at k p (λ d q e less. absurd (omega (arith, less, short))) h.placed h.hook
  way_from (suc most) k p h short =
      way_at k p (λ d q e less. way_from most d q (hangs d q e) (omega (arith, less, short)))
      h.placed h.hook

  way : (k : ℕ) (p : Path) → path_of fs k ≡ Some p → Up (hook_of rebuilt) k (reverse p)
  way k p e = way_from (length p) k p (hangs k p e) (omega arith)

  -- what a node that hangs anywhere has
  is_hung_at : (k : ℕ) → hook_of rebuilt k ≢ Removed → (p : Path) × HangsAt k p
  is_hung_at k some = by_place (lies k) where
    by_place : Lies k → (p : Path) × HangsAt k p
    by_place (inl none) = absurd (some none.0)
    by_place (inr at) = at

  -- what a node that hangs in a directory has
  record HangsIn (k d : ℕ) (name : Name) : Type 0 where
    above : Path
    path : path_of fs k ≡ Some (above ++ name ∷ [])
    named : IsNodeName name
    parent : path_of fs d ≡ Some above
    directory : is_directory fs d ≡ true

  hangs_in : (k d : ℕ) (name : Name) → hook_of rebuilt k ≡ In d name → HangsIn k d name
  hangs_in k d name e = by_place (lies k) where
    at_place : (p : Path) → path_of fs k ≡ Some p → (placed : IsPlaced fs p)
        → place_hook fs p placed ≡ In d name → HangsIn k d name
    at_place p path (inl root) hook = absurd (let t : Root ≡ In d name = hook in cc)
    at_place p path (inr x) hook =
        let same = in_is x.0 d x.2 name hook in
        record {
          above = x.1;
          path = path ∙ ap (λ (q : Path). Some q) x.3
              ∙ ap (λ (n : Name). Some (x.1 ++ n ∷ [])) same.1;
          named = subst IsNodeName same.1 x.4;
          parent = subst (λ (j : ℕ). path_of fs j ≡ Some x.1) same.0 x.5;
          directory = subst (λ (j : ℕ). is_directory fs j ≡ true) same.0 x.6;
        }

    by_place : Lies k → HangsIn k d name
    by_place (inl none) = absurd (let t : Removed ≡ In d name = sym none.0 ∙ e in cc)
    by_place (inr some) =
        at_place some.0 some.1.path some.1.placed (sym some.1.hook ∙ e)

  one_root : (k : ℕ) → hook_of rebuilt k ≡ Root → k ≡ 1
  one_root k e = by_place (lies k) where
    at_place : (p : Path) → path_of fs k ≡ Some p → (placed : IsPlaced fs p)
        → place_hook fs p placed ≡ Root → k ≡ 1
    at_place p path (inl root) hook =
        same_number k 1 [] (path ∙ ap (λ (q : Path). Some q) root) are.root
    at_place p path (inr x) hook = absurd (let t : In x.0 x.2 ≡ Root = hook in cc)

    by_place : Lies k → k ≡ 1
    by_place (inl none) = absurd (let t : Removed ≡ Root = sym none.0 ∙ e in cc)
    by_place (inr some) =
        at_place some.0 some.1.path some.1.placed (sym some.1.hook ∙ e)

  one_each : (j k d : ℕ) (name : Name) → hook_of rebuilt j ≡ In d name
      → hook_of rebuilt k ≡ In d name → j ≡ k
  one_each j k d name hj hk =
      let a = hangs_in j d name hj in
      let b = hangs_in k d name hk in
      let same : a.above ≡ b.above = some_path a.above b.above (sym a.parent ∙ b.parent) in
      same_number j k (a.above ++ name ∷ []) a.path
      (b.path ∙ ap (λ (q : Path). Some (q ++ name ∷ [])) (sym same))

  pub number_below : (k : ℕ) (n : FileNode) → node_of fs k ≡ Some n → k < fs.next
  number_below k n e =
      let low = all_found (λ (n : FileNode). n.number < fs.next) fs.nodes k n
      (numbers_below 1 fs.nodes fs.next are.rising).1 e in
      let same = found_number fs.nodes k n e in
      omega (arith, low, same)

  rebuilt_tree : IsTree (hook_of rebuilt) fs.next
  rebuilt_tree = record {
    root = way 1 [] are.root;
    one_root = one_root;
    below = λ k some. (let at = is_hung_at k some in
        let n = path_there (node_of fs k) at.0 at.1.path in number_below k n.0 n.1);
    reached = λ k some. (let at = is_hung_at k some in (reverse at.0, way k at.0 at.1.path));
    one_each = one_each;
  }

  directory_same : (k : ℕ) → is_directory_in rebuilt k ≡ is_directory fs k
  directory_same k = by_node (alike k) where
    by_node : AreAlike fs (node_of fs k) (node_in rebuilt k)
        → is_directory_in rebuilt k ≡ is_directory fs k
    by_node (inl none) =
        ap (λ (o : Option Node). holds_directory_node (content_held o)) none.1
        ∙ sym (ap holds_directory none.0)
    by_node (inr some) =
        ap (λ (o : Option Node). holds_directory_node (content_held o)) some.3
        ∙ ap is_directory_content (content_same some.0.content)
        ∙ sym (ap holds_directory some.2)

  pub rebuilt_are : AreNodes rebuilt fs.next
  rebuilt_are = record {
    tree = rebuilt_tree;
    rising = kept_rising fs 1 fs.nodes fs.next are.placed are.rising;
    named = λ k d name e. (hangs_in k d name e).named;
    placed = λ k d name e. directory_same d ∙ (hangs_in k d name e).directory;
    root = directory_same 1 ∙ are.root_is_directory;
    contents = kept_small fs fs.nodes are.placed are.contents;
    few = (let size = length_kept fs fs.nodes are.placed in omega (arith, size, are.few));
  }

  path_back : (k : ℕ) → option_map reverse (climb fs.next (hook_of rebuilt) k) ≡ path_of fs k
  path_back k = by_place (lies k) where
    by_place : Lies k → option_map reverse (climb fs.next (hook_of rebuilt) k) ≡ path_of fs k
    by_place (inl none) =
        ap (option_map reverse) (no_path fs.next (hook_of rebuilt) k none.0) ∙ sym none.1
    by_place (inr some) =
        let p = some.0 in
        ap (option_map reverse)
        (path_is (hook_of rebuilt) fs.next rebuilt_tree k (reverse p) (way k p some.1.path))
        ∙ ap (λ (q : Path). Some q) (reverse-reverse p) ∙ sym some.1.path

  shown_back : (ns : List FileNode)
      (h : AllByRecursion (λ (n : FileNode). IfSome n.path (IsPlaced fs)) ns)
      → AllByRecursion (λ (n : FileNode). node_of fs n.number ≡ Some n) ns
      → map (shown_node fs.next (hook_of rebuilt)) (nodes_kept fs ns h) ≡ ns
  shown_back [] h own = refl
  shown_back (n ∷ ns) h own =
      let path : option_map reverse (climb fs.next (hook_of rebuilt) n.number) ≡ n.path =
      path_back n.number ∙ ap (option_and_then (λ (n : FileNode). n.path)) own.0 in
      let one : shown_node fs.next (hook_of rebuilt) (node_kept fs n h.0) ≡ n =
      ap (λ (o : Option Path). record {
        number = n.number;
        path = o;
        content = content_shown (content_kept n.content);
      }) path
      ∙ ap (λ (c : Content). record { number = n.number; path = n.path; content = c })
      (content_same n.content) in
      ap (λ (x : FileNode). x ∷ map (shown_node fs.next (hook_of rebuilt)) (nodes_kept fs ns h.1))
      one
      ∙ ap (λ (xs : List FileNode). n ∷ xs) (shown_back ns h.1 own.1)

  pub rebuilt_show : files rebuilt fs.next ≡ fs
  rebuilt_show =
      ap (λ (xs : List FileNode). record { nodes = xs; next = fs.next })
      (shown_back fs.nodes are.placed (own_nodes 1 fs.nodes fs.next are.rising))

  pub there : (k : ℕ) (n : FileNode) → node_of fs k ≡ Some n
      → (x : Node) × (node_in rebuilt k ≡ Some x)
  there k n e = by_node (alike k) where
    by_node : AreAlike fs (node_of fs k) (node_in rebuilt k)
        → (x : Node) × (node_in rebuilt k ≡ Some x)
    by_node (inl none) = absurd (let t : None ≡ Some n = sym none.0 ∙ e in cc)
    by_node (inr some) = (node_kept fs some.0 some.1, some.3)
