-- One file system has these nodes and these entries.
use Rattle.std.proofs.Common.{◌≡◌, ◌≢◌, ℕ, Bool, true, false, cond, eqb, List, [], ◌∷◌, map}
use Rattle.std.proofs.Common.{reverse, Option, Some, refl, sym, ap, subst, ◌∙◌}
use Rattle.std.specs.Prelude.{option_map, find, slice_get, is_some}
use Rattle.std.specs.Option.{option_and_then}
use Rattle.std.specs.List.{AllByRecursion}
use Rattle.file_tree.specs.declared.store.node.Hook.{Hook}
use Rattle.file_tree.specs.declared.store.node.Hook.TheVariants.{Root, Removed, In}
use Rattle.file_tree.specs.declared.store.node.Node.{Node}
use Rattle.file_tree.specs.rules.Files.{Name, Path, FileNode, Files, Content, Entry, IsFiles}
use Rattle.file_tree.specs.rules.Files.{path_of, holds_directory, is_directory_content, entries_of}
use Rattle.file_tree.specs.rules.Files.{is_directory}
use Rattle.file_tree.specs.laws.Laws.{node_number, content_of}
use Rattle.file_tree.specs.laws.Rebuilding.{IsBuiltLike, ListsNode, EntriesTellFiles}
use Rattle.file_tree.specs.Links.{Up, climb, hook_of, is_hung, AreNodes, files}
use Rattle.file_tree.proofs.Climbs.{there}
use Rattle.file_tree.proofs.Lookups.{path_shown, hung_has_path}
use Rattle.file_tree.proofs.EntriesTell.{entry_of_hook, hook_of_entry, all_told}
use Rattle.file_tree.proofs.Rebuilt.{rebuilt, rebuilt_are, rebuilt_show, own_nodes, IsFoundIn}
use Rattle.file_tree.proofs.SameNames.{heads}

-- ---- lists of nodes with the same numbers and contents

same_directory : (ns ms : List FileNode) (k : ℕ) → map node_number ns ≡ map node_number ms
    → map content_of ns ≡ map content_of ms
    → holds_directory (find (λ (n : FileNode). eqb n.number k) ns)
    ≡ holds_directory (find (λ (n : FileNode). eqb n.number k) ms)
same_directory [] [] k numbers contents = refl
same_directory [] (m ∷ ms) k numbers contents = absurd cc
same_directory (n ∷ ns) [] k numbers contents = absurd cc
same_directory (n ∷ ns) (m ∷ ms) k numbers contents =
    let number = heads n.number m.number (map node_number ns) (map node_number ms) numbers in
    let content = heads n.content m.content (map content_of ns) (map content_of ms) contents in
    ap (λ (j : ℕ).
    holds_directory (cond (eqb j k) (Some n) (find (λ (x : FileNode). eqb x.number k) ns)))
    number.0
    ∙ by (eqb m.number k) content.0 (same_directory ns ms k number.1 content.1) where
      by : (b : Bool) → n.content ≡ m.content
          → holds_directory (find (λ (x : FileNode). eqb x.number k) ns)
          ≡ holds_directory (find (λ (x : FileNode). eqb x.number k) ms)
          → holds_directory (cond b (Some n) (find (λ (x : FileNode). eqb x.number k) ns))
          ≡ holds_directory (cond b (Some m) (find (λ (x : FileNode). eqb x.number k) ms))
      by true here later = ap is_directory_content here
      by false here later = later

node_with : ℕ → Option Path → Content → FileNode
node_with number path content = record { number = number; path = path; content = content }

pub same_node : (n m : FileNode) → n.number ≡ m.number → n.path ≡ m.path → n.content ≡ m.content
    → n ≡ m
unfolding node_with
same_node n m a b c =
    let whole : node_with n.number n.path n.content ≡ node_with m.number m.path m.content =
    rw (a, b, c) refl in
    whole

same_nodes : (path : ℕ → Option Path) (ns ms : List FileNode)
    → AllByRecursion (λ (n : FileNode). path n.number ≡ n.path) ns
    → AllByRecursion (λ (m : FileNode). path m.number ≡ m.path) ms
    → map node_number ns ≡ map node_number ms → map content_of ns ≡ map content_of ms → ns ≡ ms
same_nodes path [] [] h g numbers contents = refl
same_nodes path [] (m ∷ ms) h g numbers contents = absurd cc
same_nodes path (n ∷ ns) [] h g numbers contents = absurd cc
same_nodes path (n ∷ ns) (m ∷ ms) h g numbers contents =
    let number = heads n.number m.number (map node_number ns) (map node_number ms) numbers in
    let content = heads n.content m.content (map content_of ns) (map content_of ms) contents in
    let paths : n.path ≡ m.path = sym h.0 ∙ ap path number.0 ∙ g.0 in
    ap (λ (x : FileNode). x ∷ ns) (same_node n m number.0 paths content.0)
    ∙ ap (λ (xs : List FileNode). m ∷ xs) (same_nodes path ns ms h.1 g.1 number.1 content.1)

pub own_paths : (fs : Files) → IsFiles fs
    → AllByRecursion (λ (n : FileNode). path_of fs n.number ≡ n.path) fs.nodes
own_paths fs are = go fs.nodes (own_nodes 1 fs.nodes fs.next are.rising) where
  go : (ns : List FileNode) → AllByRecursion (IsFoundIn fs.nodes) ns
      → AllByRecursion (λ (n : FileNode). path_of fs n.number ≡ n.path) ns
  go [] h = tt
  go (n ∷ ns) h = (ap (option_and_then (λ (x : FileNode). x.path)) h.0, go ns h.1)

-- ---- where nodes hang

moved_entry : (fs gs : Files) (d k : ℕ) (name : Name) → entries_of fs d ≡ entries_of gs d
    → ListsNode fs d k name → ListsNode gs d k name
moved_entry fs gs d k name same h = record {
  place = h.place;
  is = ap (λ (es : List Entry). slice_get es h.place) (sym same) ∙ h.is;
}

hung_so : (h : Hook) → h ≢ Removed → is_hung h ≡ true
hung_so Root some = refl
hung_so Removed some = absurd (some refl)
hung_so (In d name) some = refl

module _ (ns ms : List Node) (next most : ℕ) (are : AreNodes ns next) (its : AreNodes ms most)
    (alike : IsBuiltLike (files ns next) (files ms most)) where
  abbrev fs : Files
  fs = files ns next

  abbrev gs : Files
  gs = files ms most

  -- what hangs in the first one hangs so in the second one
  hangs_too : (k : ℕ) (a : Path) → Up (hook_of ns) k a → hook_of ms k ≡ hook_of ns k
  hangs_too k [] h = ap (hook_of ms) (are.tree.one_root k h) ∙ its.tree.root ∙ sym h
  hangs_too k (name ∷ a) h =
      let d = h.0 in
      let above : hook_of ms d ≡ hook_of ns d = hangs_too d a h.2 in
      let hung : is_some (path_of gs d) ≡ true =
      hung_has_path ms most d its
      ∙ hung_so (hook_of ms d) (λ gone. there (hook_of ns) d a h.2 (sym above ∙ gone)) in
      let mine = entry_of_hook ns next are d k name h.1 in
      let directory : is_directory gs d ≡ true =
      sym (same_directory fs.nodes gs.nodes d alike.nodes.numbers alike.nodes.contents)
      ∙ (all_told ns next are d k name mine).1.0 in
      hook_of_entry ms most its d k name
      (moved_entry fs gs d k name (alike.entries d directory hung) mine)
      ∙ sym h.1

  -- and the other way round
  hung_before : (k d : ℕ) (name : Name) → hook_of ms k ≡ In d name → hook_of ns k ≡ In d name
  hung_before k d name e =
      let mine = entry_of_hook ms most its d k name e in
      let above = (all_told ms most its d k name mine).1 in
      hook_of_entry ns next are d k name
      (moved_entry gs fs d k name (sym (alike.entries d above.0 above.1)) mine)

  same_hook : (k : ℕ) → hook_of ns k ≡ hook_of ms k
  same_hook k = by (hook_of ns k) refl (hook_of ms k) refl where
    hung : hook_of ns k ≢ Removed → hook_of ns k ≡ hook_of ms k
    hung some = (let r = are.tree.reached k some in sym (hangs_too k r.0 r.1))

    by : (h : Hook) → hook_of ns k ≡ h → (g : Hook) → hook_of ms k ≡ g
        → hook_of ns k ≡ hook_of ms k
    by (In d name) e g f =
        hung (λ gone. absurd (let t : In d name ≡ Removed = sym e ∙ gone in cc))
    by Root e g f = hung (λ gone. absurd (let t : Root ≡ Removed = sym e ∙ gone in cc))
    by Removed e Removed f = e ∙ sym f
    by Removed e Root f = ap (hook_of ns) (its.tree.one_root k f) ∙ are.tree.root ∙ sym f
    by Removed e (In d name) f = hung_before k d name f ∙ sym f

  same_path : (k : ℕ) → path_of fs k ≡ path_of gs k
  same_path k =
      let hooks : hook_of ns ≡ hook_of ms = λ i j. same_hook j i in
      path_shown ns next k
      ∙ ap (λ (h : ℕ → Hook). option_map reverse (climb next h k)) hooks
      ∙ ap (λ (n : ℕ). option_map reverse (climb n (hook_of ms) k)) alike.nodes.next
      ∙ sym (path_shown ms most k)

abbrev pub files_with : List FileNode → ℕ → Files
files_with nodes next = record { nodes = nodes; next = next }

paths_alike : (fs gs : Files) → IsFiles fs → IsFiles gs → IsBuiltLike fs gs → (k : ℕ)
    → path_of fs k ≡ path_of gs k
paths_alike fs gs a b alike k =
    subst (λ (x : Files). IsBuiltLike x gs → path_of x k ≡ path_of gs k) (rebuilt_show fs a)
    (subst (λ (y : Files).
    IsBuiltLike (files ns fs.next) y → path_of (files ns fs.next) k ≡ path_of y k)
    (rebuilt_show gs b)
    (λ alike.
    same_path ns ms fs.next gs.next (rebuilt_are fs a) (rebuilt_are gs b) alike k))
    alike where
      ns : List Node
      ns = rebuilt fs a

      ms : List Node
      ms = rebuilt gs b

pub entries_tell_files : EntriesTellFiles
entries_tell_files fs gs a b alike =
    let paths : path_of gs ≡ path_of fs = λ i k. sym (paths_alike fs gs a b alike k) i in
    let its : AllByRecursion (λ (m : FileNode). path_of fs m.number ≡ m.path) gs.nodes =
    subst (λ (p : ℕ → Option Path).
    AllByRecursion (λ (m : FileNode). p m.number ≡ m.path) gs.nodes) paths (own_paths gs b) in
    let nodes : fs.nodes ≡ gs.nodes =
    same_nodes (path_of fs) fs.nodes gs.nodes (own_paths fs a) its alike.nodes.numbers
    alike.nodes.contents in
    let next = alike.nodes.next in
    let whole : files_with fs.nodes fs.next ≡ files_with gs.nodes gs.next = rw (nodes, next) refl in
    whole
