-- Paths follow from the entries of directories: one file system has what is named of it.
use Rattle.std.proofs.Common.{◌≡◌, inl, inr, ℕ, zero, suc, ◌<◌, Bool, true, false, eqb, List, []}
use Rattle.std.proofs.Common.{◌∷◌, ◌++◌, length, length-append, map, Option, Some, None, refl, sym}
use Rattle.std.proofs.Common.{ap, subst, ◌∙◌, arith}
use Rattle.std.specs.Prelude.{find, option_map, IfSome}
use Rattle.std.specs.Option.{option_and_then}
use Rattle.std.specs.List.{AllByRecursion}
use Rattle.file_tree.specs.rules.Files.{Name, Path, Files, FileNode, Content, Directory, File}
use Rattle.file_tree.specs.rules.Files.{Entry, node_of, path_of, is_directory, holds_directory}
use Rattle.file_tree.specs.rules.Files.{is_directory_content, entries_in, sorted, entries_under}
use Rattle.file_tree.specs.rules.Files.{entries_of, IsPlaced, IsFiles}
use Rattle.file_tree.proofs.SameNames.{heads}
use Rattle.file_tree.proofs.Rebuilt.{has_path}
use Rattle.file_tree.proofs.FilesTold.{same_node, own_paths, files_with}
use Rattle.state_image.specs.restoring.Named.{Entries, Bytes, NamedNode, held_of, named}
use Rattle.state_image.proofs.Named.{SameNamed}
use Rattle.state_image.proofs.Among.{IsAmong, all_among, found_among, found_own, one_path}
use Rattle.state_image.proofs.Among.{entry_with, has_entry, is_entry_of, among_sorted, sorted_among}

-- ---- what is named under a number

pub named_found : (fs : Files) (k : ℕ) (ns : List FileNode)
    → find (λ (n : NamedNode). eqb n.number k) (map (named fs) ns) ≡ option_map (named fs)
    (find (λ (n : FileNode). eqb n.number k) ns)
named_found fs k [] = refl
named_found fs k (n ∷ ns) = by (eqb n.number k) refl (named_found fs k ns) where
  by : (b : Bool) → eqb n.number k ≡ b
      → find (λ (n : NamedNode). eqb n.number k) (map (named fs) ns) ≡ option_map (named fs)
      (find (λ (n : FileNode). eqb n.number k) ns)
      → find (λ (n : NamedNode). eqb n.number k) (map (named fs) (n ∷ ns)) ≡ option_map (named fs)
      (find (λ (n : FileNode). eqb n.number k) (n ∷ ns))
  by true is later = rw is refl
  by false is later = rw is later

named_same : (fs gs : Files) → SameNamed fs gs → (k : ℕ)
    → option_map (named fs) (node_of fs k) ≡ option_map (named gs) (node_of gs k)
named_same fs gs same k = sym (named_found fs k fs.nodes) ∙ ap
    (find (λ (n : NamedNode). eqb n.number k)) same.nodes ∙ named_found gs k gs.nodes

-- ---- entries

some_named : (a b : NamedNode) → Some a ≡ Some b → a ≡ b
some_named a b e = cc

some_entries : (a b : List Entry) → Entries a ≡ Entries b → a ≡ b
some_entries a b e = cc

held_same : (fs gs : Files) (j k d : ℕ) (a b : Content) → j ≡ d → k ≡ d
    → is_directory_content a ≡ true → held_of fs j a ≡ held_of gs k b
    → entries_of fs d ≡ entries_of gs d
held_same fs gs j k d Directory Directory x y t e = ap (entries_of fs) (sym x) ∙ some_entries
    (entries_of fs j) (entries_of gs k) e ∙ ap (entries_of gs) y
held_same fs gs j k d Directory (File bytes) x y t e = absurd cc
held_same fs gs j k d (File bytes) b x y t e = absurd cc

-- a directory has the same entries
same_entries : (fs gs : Files) → SameNamed fs gs → (d : ℕ) → is_directory fs d ≡ true
    → entries_of fs d ≡ entries_of gs d
same_entries fs gs same d is = by (node_of fs d) (node_of gs d) refl refl (named_same fs gs same d)
    is where
      by : (a b : Option FileNode) → node_of fs d ≡ a → node_of gs d ≡ b
          → option_map (named fs) a ≡ option_map (named gs) b → holds_directory a ≡ true
          → entries_of fs d ≡ entries_of gs d
      by None b p q e t = absurd cc
      by (Some n) None p q e t = absurd cc
      by (Some n) (Some m) p q e t =
          let one = some_named (named fs n) (named gs m) e in
          held_same fs gs n.number m.number d n.content m.content (found_among d fs.nodes n p).1
          (found_among d gs.nodes m q).1 t (ap (λ (x : NamedNode). x.held) one)

-- ---- paths

-- a node's path is the one of its number
pub own_path : (fs : Files) → IsFiles fs → (n : FileNode) → IsAmong n fs.nodes
    → path_of fs n.number ≡ n.path
own_path fs is n among = ap (option_and_then (λ (x : FileNode). x.path))
    (found_own 1 fs.nodes fs.next n is.rising among)

-- the node that has a path
pub record IsAt (fs : Files) (k : ℕ) (p : Path) : Type 0 where
  pub node : FileNode
  pub among : IsAmong node fs.nodes
  pub number : node.number ≡ k
  pub path : node.path ≡ Some p

pub is_at : (fs : Files) (k : ℕ) (p : Path) → path_of fs k ≡ Some p → IsAt fs k p
is_at fs k p e = by (node_of fs k) refl e where
  by : (o : Option FileNode) → node_of fs k ≡ o
      → option_and_then (λ (x : FileNode). x.path) o ≡ Some p → IsAt fs k p
  by None is e = absurd cc
  by (Some n) is e = (let found = found_among k fs.nodes n is in record
      { node = n; among = found.0; number = found.1; path = e })

-- the node without names in its path is the root
root_is : (fs : Files) → IsFiles fs → (k : ℕ) → path_of fs k ≡ Some [] → k ≡ 1
root_is fs is k e =
    let mine = is_at fs k [] e in
    let root = is_at fs 1 [] is.root in
    let same = one_path fs.nodes mine.node root.node [] is.distinct mine.among root.among
    (has_path mine.node.path [] mine.path) (has_path root.node.path [] root.path) in
    sym mine.number ∙ ap (λ (x : FileNode). x.number) same ∙ root.number

pub placed_at : (fs : Files) → IsFiles fs → (n : FileNode) (p : Path) → IsAmong n fs.nodes
    → n.path ≡ Some p → IsPlaced fs p
placed_at fs is n p among e = rw e at
    (all_among FileNode (λ (x : FileNode). IfSome x.path (IsPlaced fs)) fs.nodes n is.placed among)

-- a name after a path that both have is the same node's in both
step : (fs gs : Files) → IsFiles gs → SameNamed fs gs
    → (n : FileNode) (d : ℕ) (parent : Path) (name : Name) → IsAmong n fs.nodes
    → n.path ≡ Some (parent ++ name ∷ [])
    → path_of fs d ≡ Some parent → is_directory fs d ≡ true → path_of gs d ≡ Some parent
    → path_of gs n.number ≡ Some (parent ++ name ∷ [])
step fs gs good same n d parent name among is here directory there =
    let mine : IsAmong (entry_with name n.number) (sorted (entries_in parent fs.nodes)) =
    among_sorted (entry_with name n.number) (entries_in parent fs.nodes)
    (has_entry parent name fs.nodes n among is) in
    let lists : sorted (entries_in parent fs.nodes) ≡ sorted (entries_in parent gs.nodes) =
    sym (ap (entries_under fs) here) ∙ same_entries fs gs same d directory ∙ ap
    (entries_under gs) there in
    let its : IsAmong (entry_with name n.number) (sorted (entries_in parent gs.nodes)) = subst
    (IsAmong (entry_with name n.number)) lists mine in
    let of = is_entry_of parent gs.nodes (entry_with name n.number)
    (sorted_among (entry_with name n.number) (entries_in parent gs.nodes) its) in
    sym (ap (path_of gs) of.number) ∙ own_path gs good of.node of.among ∙ of.path

-- so is each path, by the number of its names
same_path : (fs gs : Files) → IsFiles fs → IsFiles gs → SameNamed fs gs → (most k : ℕ) (p : Path)
    → length p < most → path_of fs k ≡ Some p → path_of gs k ≡ Some p
same_path fs gs a b same zero k p lt e = absurd (omega (arith, lt))
same_path fs gs a b same (suc most) k p lt e = by (placed_at fs a mine.node p mine.among mine.path)
    (same_path fs gs a b same most) where
      mine : IsAt fs k p
      mine = is_at fs k p e

      of_root : p ≡ [] → path_of gs k ≡ Some p
      of_root none =
          let k_is : k ≡ 1 = root_is fs a k (e ∙ ap (λ (x : Path). Some x) none) in
          ap (path_of gs) k_is ∙ b.root ∙ ap (λ (x : Path). Some x) (sym none)

      of_name : (d : ℕ) (parent : Path) (name : Name) → p ≡ parent ++ name ∷ []
          → path_of fs d ≡ Some parent → is_directory fs d ≡ true
          → ((j : ℕ) (q : Path) → length q < most → path_of fs j ≡ Some q → path_of gs j ≡ Some q)
          → path_of gs k ≡ Some p
      of_name d parent name is there directory before =
          let shorter : length parent < most = omega
          (arith, lt, ap length is, length-append parent (name ∷ [])) in
          sym (ap (path_of gs) mine.number)
          ∙ step fs gs b same mine.node d parent name mine.among
          (mine.path ∙ ap (λ (x : Path). Some x) is) there directory
          (before d parent shorter there)
          ∙ ap (λ (x : Path). Some x) (sym is)

      by : IsPlaced fs p → ((j : ℕ) (q : Path) → length q < most → path_of fs j ≡ Some q
          → path_of gs j ≡ Some q) → path_of gs k ≡ Some p
      by (inl none) before = of_root none
      by (inr h) before = of_name h.0 h.1 h.2 h.3 h.5 h.6 before

turned : (fs gs : Files) → SameNamed fs gs → SameNamed gs fs
turned fs gs same = record { next = sym same.next; nodes = sym same.nodes }

same_paths : (fs gs : Files) → IsFiles fs → IsFiles gs → SameNamed fs gs → (k : ℕ)
    → path_of fs k ≡ path_of gs k
same_paths fs gs a b same k = by (path_of fs k) (path_of gs k) refl refl where
  none_some : (p : Path) → None ≡ Some p → ⊥
  none_some p t = absurd cc

  by : (x y : Option Path) → path_of fs k ≡ x → path_of gs k ≡ y → path_of fs k ≡ path_of gs k
  by None None p q = p ∙ sym q
  by (Some x) y p q = p ∙ sym (same_path fs gs a b same (suc (length x)) k x (omega arith) p)
  by None (Some y) p q = absurd
      (none_some y (sym p ∙ same_path gs fs b a (turned fs gs same) (suc (length y)) k y
      (omega arith) q))

-- ---- nodes

same_content : (fs gs : Files) (j k : ℕ) (a b : Content) → held_of fs j a ≡ held_of gs k b → a ≡ b
same_content fs gs j k Directory Directory e = refl
same_content fs gs j k Directory (File bytes) e = absurd cc
same_content fs gs j k (File bytes) Directory e = absurd cc
same_content fs gs j k (File a) (File b) e =
    (let bytes : a ≡ b = some_bytes a b e in ap (λ (x : List ℕ). File x) bytes) where
      some_bytes : (x y : List ℕ) → Bytes x ≡ Bytes y → x ≡ y
      some_bytes x y e = cc

same_nodes : (fs gs : Files) → ((k : ℕ) → path_of fs k ≡ path_of gs k) → (ns ms : List FileNode)
    → AllByRecursion (λ (n : FileNode). path_of fs n.number ≡ n.path) ns
    → AllByRecursion (λ (m : FileNode). path_of gs m.number ≡ m.path) ms
    → map (named fs) ns ≡ map (named gs) ms → ns ≡ ms
same_nodes fs gs paths [] [] h k e = refl
same_nodes fs gs paths [] (m ∷ ms) h k e = absurd cc
same_nodes fs gs paths (n ∷ ns) [] h k e = absurd cc
same_nodes fs gs paths (n ∷ ns) (m ∷ ms) h k e =
    let both = heads (named fs n) (named gs m) (map (named fs) ns) (map (named gs) ms) e in
    let numbers : n.number ≡ m.number = ap (λ (x : NamedNode). x.number) both.0 in
    let path : n.path ≡ m.path = sym h.0 ∙ paths n.number ∙ ap (path_of gs) numbers ∙ k.0 in
    let content : n.content ≡ m.content = same_content fs gs n.number m.number n.content m.content
    (ap (λ (x : NamedNode). x.held) both.0) in
    let front : n ≡ m = same_node n m numbers path content in
    let tails : ns ≡ ms = same_nodes fs gs paths ns ms h.1 k.1 both.1 in
    cc

pub same_files : (fs gs : Files) → IsFiles fs → IsFiles gs → SameNamed fs gs → fs ≡ gs
same_files fs gs a b same =
    let nodes = same_nodes fs gs (same_paths fs gs a b same) fs.nodes gs.nodes (own_paths fs a)
    (own_paths gs b) same.nodes in
    let next = same.next in
    let whole : files_with fs.nodes fs.next ≡ files_with gs.nodes gs.next = rw (nodes, next)
    refl in
    whole
