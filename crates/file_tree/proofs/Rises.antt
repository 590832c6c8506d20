-- A higher next number, and a node without a path after the others.
use Rattle.std.proofs.Common.{◌≡◌, ℕ, ◌+◌, ◌<◌, ◌≤◌, inl, inr, true, List, [], ◌∷◌, ◌++◌, length}
use Rattle.std.proofs.Common.{map, reverse, Option, Some, None, refl, sym, ap, subst, ◌∙◌, arith}
use Rattle.std.specs.Prelude.{option_map}
use Rattle.std.specs.List.{AllByRecursion}
use Rattle.std.proofs.lemmas.List.{map_push, length_push, length-map}
use Rattle.std.proofs.lemmas.List.Sums.{sum_by_push}
use Rattle.std.proofs.lemmas.Bool.{cases_eq}
use Rattle.file_tree.specs.declared.store.node.Hook.{Hook}
use Rattle.file_tree.specs.declared.store.node.Hook.TheVariants.{Removed}
use Rattle.file_tree.specs.declared.store.node.Node.{Node}
use Rattle.file_tree.specs.rules.Files.{Path, FileNode, Files, Content, IsSmallContent}
use Rattle.file_tree.specs.rules.Files.{bytes_of_content, created_removed, with_next}
use Rattle.file_tree.specs.declared.node_type.NodeType.{NodeType}
use Rattle.file_tree.specs.declared.limits.TheConstants.{NODES}
use Rattle.file_tree.specs.rules.Changes.{empty}
use Rattle.file_tree.specs.Links.{climb, IsTree, node_in, hook_held, hook_of, content_held}
use Rattle.file_tree.specs.Links.{content_shown, holds_directory_node, is_directory_in}
use Rattle.file_tree.specs.Links.{file_bytes_of, used_in, AreNodes, AreRisingNodes}
use Rattle.file_tree.specs.Links.{IsNowhere, shown_node, files}
use Rattle.file_tree.proofs.Climbs.{path_is, no_path}
use Rattle.file_tree.proofs.Lookups.{node_nowhere}
use Rattle.file_tree.proofs.Lists.{numbers_below, nowhere_below, in_pushed_there, in_pushed_other}
use Rattle.file_tree.proofs.Lists.{in_pushed_same, all_pushed, rising_pushed}
use Rattle.file_tree.proofs.Grows.{removed_or_not, empty_is_small}

-- ---- a higher next number

module _ (hook : ℕ → Hook) (next most : ℕ) (tree : IsTree hook next) (le : next ≤ most) where
  pub risen_tree : IsTree hook most
  risen_tree = record {
    root = tree.root;
    one_root = tree.one_root;
    below = λ k h. omega (arith, le, tree.below k h);
    reached = tree.reached;
    one_each = tree.one_each;
  }

  risen_climb : (k : ℕ) → climb most hook k ≡ climb next hook k
  risen_climb k = elim (removed_or_not (hook k)) [
    | inl gone ↦ no_path most hook k gone ∙ sym (no_path next hook k gone)
    | inr here ↦
        let r = tree.reached k here in
        path_is hook most risen_tree k r.0 r.1 ∙ sym (path_is hook next tree k r.0 r.1)
  ]

  pub risen_shown : (ns : List Node)
      → map (shown_node most hook) ns ≡ map (shown_node next hook) ns
  risen_shown [] = refl
  risen_shown (n ∷ ns) =
      ap (λ (o : Option Path).
      record { number = n.number; path = option_map reverse o; content = content_shown n.content }
      ∷ map (shown_node most hook) ns) (risen_climb n.number)
      ∙ ap (λ (xs : List FileNode). shown_node next hook n ∷ xs) (risen_shown ns)

risen_rising : (least : ℕ) (ns : List Node) (next most : ℕ) → next ≤ most
    → AreRisingNodes least ns next → AreRisingNodes least ns most
risen_rising least [] next most le h = omega (arith, h, le)
risen_rising least (n ∷ ns) next most le h =
    (h.0, risen_rising (n.number + 1) ns next most le h.1)

pub risen_nodes : (ns : List Node) (next most : ℕ) → AreNodes ns next → next ≤ most
    → AreNodes ns most
risen_nodes ns next most are le = record {
  tree = risen_tree (hook_of ns) next most are.tree le;
  rising = risen_rising 1 ns next most le are.rising;
  named = are.named;
  placed = are.placed;
  root = are.root;
  contents = are.contents;
  few = are.few;
}

pub risen_files : (ns : List Node) (next most : ℕ) (fs : Files) → files ns next ≡ fs
    → AreNodes ns next → next ≤ most → files ns most ≡ with_next most fs
risen_files ns next most fs e are le =
    ap (λ (xs : List FileNode). record { nodes = xs; next = most })
    (risen_shown (hook_of ns) next most are.tree le ns)
    ∙ ap (with_next most) e

-- ---- a node without a path

-- it is after the others, whose numbers are below its own
record Adds (ns : List Node) (next : ℕ) (c : Content) (n : Node) : Type 0 where
  are : AreNodes ns next
  most : next ≤ n.number
  hook : n.hook ≡ Removed
  content : content_shown n.content ≡ c

module _ (ns : List Node) (next : ℕ) (c : Content) (n : Node) (a : Adds ns next c n) where
  abbrev pushed : List Node
  pushed = ns ++ n ∷ []

  lower : AllByRecursion (λ (m : Node). m.number < n.number) ns
  lower = (numbers_below 1 ns n.number (risen_nodes ns next n.number a.are a.most).rising).1

  nowhere : IsNowhere ns n.number
  nowhere = nowhere_below n.number ns lower

  own_hook : hook_of pushed n.number ≡ Removed
  own_hook = ap hook_held (in_pushed_same ns n nowhere) ∙ a.hook

  same_hook : (k : ℕ) → hook_of pushed k ≡ hook_of ns k
  same_hook k = elim (cases_eq k n.number) [
    | inl same ↦
        ap (hook_of pushed) same ∙ own_hook
        ∙ sym (ap (hook_of ns) same ∙ ap hook_held (node_nowhere ns n.number nowhere))
    | inr ne ↦ ap hook_held (in_pushed_other ns n k ne)
  ]

  same_hooks : hook_of ns ≡ hook_of pushed
  same_hooks = λ i k. sym (same_hook k) i

  pushed_tree : IsTree (hook_of pushed) (n.number + 1)
  pushed_tree =
      subst (λ (h : ℕ → Hook). IsTree h (n.number + 1)) same_hooks
      (risen_tree (hook_of ns) next (n.number + 1) a.are.tree (omega (arith, a.most)))

  directory_stays : (k : ℕ) → is_directory_in ns k ≡ true → is_directory_in pushed k ≡ true
  directory_stays k e = by (node_in ns k) refl e where
    by : (o : Option Node) → node_in ns k ≡ o
        → holds_directory_node (content_held o) ≡ true → is_directory_in pushed k ≡ true
    by None none e = absurd cc
    by (Some m) some e =
        ap (λ (o : Option Node). holds_directory_node (content_held o))
        (in_pushed_there ns n k m some) ∙ e

  added_nodes : length ns < NODES → IsSmallContent c → AreNodes pushed (n.number + 1)
  added_nodes room small = record {
    tree = pushed_tree;
    rising =
        rising_pushed 1 ns n n.number refl
        (risen_nodes ns next n.number a.are a.most).rising;
    named = λ k d name e. a.are.named k d name (sym (same_hook k) ∙ e);
    placed = λ k d name e. directory_stays d (a.are.placed k d name (sym (same_hook k) ∙ e));
    root = directory_stays 1 a.are.root;
    contents =
        all_pushed (λ (m : Node). IsSmallContent (content_shown m.content)) ns n a.are.contents
        (subst IsSmallContent (sym a.content) small);
    few = omega (arith, length_push ns n, room);
  }

  added_files : files pushed (n.number + 1) ≡ created_removed n.number c (files ns next)
  added_files =
      let most = n.number + 1 in
      let old : map (shown_node most (hook_of pushed)) ns ≡ map (shown_node next (hook_of ns)) ns =
      ap (λ (h : ℕ → Hook). map (shown_node most h) ns) (sym same_hooks)
      ∙ risen_shown (hook_of ns) next most a.are.tree (omega (arith, a.most)) ns in
      let path : option_map reverse (climb most (hook_of pushed) n.number) ≡ None =
      ap (option_map reverse) (no_path most (hook_of pushed) n.number own_hook) in
      let one : shown_node most (hook_of pushed) n
      ≡ record { number = n.number; path = None; content = c } =
      ap (λ (o : Option Path).
      record { number = n.number; path = o; content = content_shown n.content }) path
      ∙ ap (λ (x : Content). record { number = n.number; path = None; content = x }) a.content in
      ap (λ (xs : List FileNode). record { nodes = xs; next = most })
      (map_push (shown_node most (hook_of pushed)) ns n
      ∙ ap (λ (xs : List FileNode). xs ++ shown_node most (hook_of pushed) n ∷ []) old
      ∙ ap (λ (x : FileNode). map (shown_node next (hook_of ns)) ns ++ x ∷ []) one)

  added_used : length (bytes_of_content c) ≡ 0 → used_in pushed ≡ used_in ns
  added_used e =
      let none : length (file_bytes_of n) ≡ 0 =
      ap (λ (x : Content). length (bytes_of_content x)) a.content ∙ e in
      omega (arith, sum_by_push (λ (x : Node). length (file_bytes_of x)) ns n, none)

-- all of it, where files are what the nodes show
pub record IsAdded (ns : List Node) (node_type : NodeType) (n : Node) (fs : Files) : Type 0 where
  pub nodes : AreNodes (ns ++ n ∷ []) (n.number + 1)
  pub files_are : files (ns ++ n ∷ []) (n.number + 1) ≡ created_removed n.number
      (empty node_type) fs
  pub used : used_in (ns ++ n ∷ []) ≡ used_in ns

pub is_added : (ns : List Node) (next : ℕ) (node_type : NodeType) (n : Node) (fs : Files)
    → files ns next ≡ fs → AreNodes ns next → next ≤ n.number → length fs.nodes < NODES
    → n.hook ≡ Removed → content_shown n.content ≡ empty node_type → IsAdded ns node_type n fs
is_added ns next node_type n fs e are most room hook content =
    let a : Adds ns next (empty node_type) n =
    record { are = are; most = most; hook = hook; content = content } in
    let few : length ns < NODES =
    let as_many = ap (λ (x : Files). length x.nodes) e in
    omega (arith, room, as_many, length-map ns (shown_node next (hook_of ns))) in
    let none = empty_is_small node_type in
    record {
      nodes = added_nodes ns next (empty node_type) n a few none.0;
      files_are =
          added_files ns next (empty node_type) n a
          ∙ ap (created_removed n.number (empty node_type)) e;
      used = added_used ns next (empty node_type) n a none.1;
    }

-- none of them has its number yet
pub lower_numbers : (ns : List Node) (next k : ℕ) → AreNodes ns next → next ≤ k
    → AllByRecursion (λ (m : Node). m.number < k) ns
lower_numbers ns next k are le =
    (numbers_below 1 ns k (risen_nodes ns next k are le).rising).1
