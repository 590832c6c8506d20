-- A node that hung nowhere is hung in a directory.
use Rattle.std.proofs.Common.{◌≡◌, ◌≢◌, ℕ, ◌<◌, inl, inr, true, false, List, [], ◌∷◌, ◌++◌}
use Rattle.std.proofs.Common.{reverse, get_or, Option, Some, refl, sym, ap, subst, ◌∙◌, arith}
use Rattle.std.specs.Prelude.{option_map, is_some}
use Rattle.std.proofs.lemmas.Bool.{cases_eq}
use mathlib.Core.List.{reverse-cons}
use Rattle.file_tree.specs.declared.store.node.Hook.{Hook}
use Rattle.file_tree.specs.declared.store.node.Hook.TheVariants.{Root, Removed, In}
use Rattle.file_tree.specs.declared.store.node.NodeContent.TheVariants as content
use Rattle.file_tree.specs.declared.store.node.Node.{Node}
use Rattle.file_tree.specs.Store.Stored.{changed}
use Rattle.file_tree.specs.Store.Changes.{with_hook}
use Rattle.file_tree.specs.rules.Files.{Name, IsNodeName, Path, FileNode, Files, path_of, hung}
use Rattle.file_tree.specs.rules.Changes.{path_at, CanHang}
use Rattle.file_tree.specs.Links.{climb, node_in, hook_of, content_shown, is_directory_in, used_in}
use Rattle.file_tree.specs.Links.{AreNodes, shown_node, files, IsPlace, IsNowhere, is_hung}
use Rattle.file_tree.proofs.Climbs.{in_is}
use Rattle.file_tree.proofs.Lookups.{node_at_place, hung_has_path}
use Rattle.file_tree.proofs.Lists.{numbers_below, all_in, number_in, shown_changed_one}
use Rattle.file_tree.proofs.Lists.{none_changed}
use Rattle.file_tree.proofs.Grows.{Grows, grown_tree, same_climb, new_climb, IsFreeIn, free_in}
use Rattle.file_tree.proofs.Hangs.{Hangs, hung_here, hung_others, hung_used, hung_nodes}

-- all of it, where files are what the nodes show
pub record IsReturned (ns : List Node) (next k i d : ℕ) (name : Name) (fs : Files) : Type 0 where
  pub nodes : AreNodes (changed (with_hook (In d name)) i ns) next
  pub files_are :
      files (changed (with_hook (In d name)) i ns) next ≡ hung k (path_at fs d ++ name ∷ []) fs
  pub used : used_in (changed (with_hook (In d name)) i ns) ≡ used_in ns

-- a node without a path hangs nowhere
pub not_hung : (ns : List Node) (next k : ℕ) → AreNodes ns next
    → is_some (path_of (files ns next) k) ≡ false → hook_of ns k ≡ Removed
not_hung ns next k are none = by (hook_of ns k) (sym (hung_has_path ns next k are) ∙ none) where
  by : (h : Hook) → is_hung h ≡ false → h ≡ Removed
  by Root e = absurd cc
  by Removed e = refl
  by (In d name) e = absurd cc

module _ (ns : List Node) (next k i d : ℕ) (name : Name) (are : AreNodes ns next)
    (place : IsPlace ns k i) (can : CanHang (files ns next) k d name) where
  abbrev default : Node
  default = record { number = 0; hook = Root; content = content.Directory }

  abbrev n : Node
  n = get_or ns i default

  is_there : node_in ns k ≡ Some n
  is_there = node_at_place ns k i default place

  hangs : Hangs ns next k i n
  hangs = record { are = are; place = place; there = is_there }

  free : (up : Path) × IsFreeIn ns next d name (path_at (files ns next) d) up
  free = free_in ns next d name are can.free

  abbrev after : ℕ → Hook
  after = hook_of (changed (with_hook (In d name)) i ns)

  low : k < next
  low =
      let below =
      all_in (λ (m : Node). m.number < next) ns k n is_there
      (numbers_below 1 ns next are.rising).1 in
      omega (arith, below, number_in ns k n is_there)

  grows : Grows (hook_of ns) after next next k d name free.0
  grows = record {
    tree = are.tree;
    more = omega arith;
    low = low;
    vacant = not_hung ns next k are can.no_path;
    put = hung_here ns next k i n (In d name) hangs;
    others = hung_others ns next k i n (In d name) hangs;
    under = free.1.under;
    free = free.1.free;
  }

  placed : (j e : ℕ) (other : Name) → after j ≡ In e other
      → IsNodeName other × (is_directory_in ns e ≡ true)
  placed j e other h = elim (cases_eq j k) [
    | inl same ↦
        let t = in_is d e name other (sym grows.put ∙ ap after (sym same) ∙ h) in (
          subst IsNodeName t.1 can.free.named,
          subst (λ (x : ℕ). is_directory_in ns x ≡ true) t.0 free.1.directory,
        )
    | inr ne ↦
        let before = sym (grows.others j ne) ∙ h in
        (are.named j e other before, are.placed j e other before)
  ]

  abbrev whole : Path
  whole = path_at (files ns next) d ++ name ∷ []

  new_path : option_map reverse (climb next after n.number) ≡ Some whole
  new_path =
      ap (λ (j : ℕ). option_map reverse (climb next after j)) (number_in ns k n is_there)
      ∙ ap (option_map reverse) (new_climb (hook_of ns) after next next k d name free.0 grows)
      ∙ ap (λ (p : Path). Some p)
      (reverse-cons name free.0 ∙ ap (λ (p : Path). p ++ name ∷ []) free.1.up_is)

  returned : IsReturned ns next k i d name (files ns next)
  returned =
      let hook = hook_of ns in
      let S = shown_node next hook in
      let T = shown_node next after in
      let g : FileNode → FileNode =
      λ x. record { number = x.number; path = Some whole; content = x.content } in
      let others : (m : Node) → m.number ≢ k → T m ≡ S m = λ m ne.
      ap (λ (o : Option Path).
      record { number = m.number; path = option_map reverse o; content = content_shown m.content })
      (same_climb hook after next next k d name free.0 grows m.number ne) in
      let one : T (with_hook (In d name) n) ≡ g (S n) =
      ap (λ (o : Option Path).
      record { number = n.number; path = o; content = content_shown n.content }) new_path in
      record {
        nodes =
            hung_nodes ns next k i n (In d name) hangs
            (grown_tree hook after next next k d name free.0 grows) placed;
        files_are =
            ap (λ (xs : List FileNode). record { nodes = xs; next = next })
            (shown_changed_one S T g (with_hook (In d name)) 1 ns next k i n place is_there
            are.rising (λ m. refl) others one);
        used = hung_used ns next k i n (In d name) hangs;
      }

pub is_returned : (ns : List Node) (next k i d : ℕ) (name : Name) (fs : Files)
    → files ns next ≡ fs → AreNodes ns next → IsPlace ns k i → CanHang fs k d name
    → IsReturned ns next k i d name fs
is_returned ns next k i d name fs e are place can =
    subst (λ (x : Files). CanHang x k d name → IsReturned ns next k i d name x) e
    (λ can. returned ns next k i d name are place can) can

-- where no node has the number nothing is changed
pub none_returned : (ns : List Node) (next k : ℕ) (p : Path) (fs : Files) → files ns next ≡ fs
    → IsNowhere ns k → fs ≡ hung k p fs
none_returned ns next k p fs e h =
    subst (λ (x : Files). x ≡ hung k p x) e
    (ap (λ (xs : List FileNode). record { nodes = xs; next = next })
    (sym (none_changed (shown_node next (hook_of ns))
    (λ (x : FileNode). record x { path = Some p }) ns k (λ m. refl) h)))
