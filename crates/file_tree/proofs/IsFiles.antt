-- What nodes show is a file system.
use Rattle.std.proofs.Common.{◌≡◌, ◌≢◌, ℕ, ◌+◌, ◌≤◌, ◌⊎◌, inl, inr, List, [], ◌∷◌, map, reverse}
use Rattle.std.proofs.Common.{Option, Some, None, refl, sym, ap, subst, ◌∙◌, arith}
use Rattle.std.specs.Prelude.{option_map, IfSome}
use Rattle.std.specs.List.{AllByRecursion}
use Rattle.std.proofs.lemmas.List.{length-map}
use mathlib.Core.List.{reverse-cons, reverse-reverse}
use Rattle.file_tree.specs.declared.store.node.Hook.{Hook}
use Rattle.file_tree.specs.declared.store.node.Hook.TheVariants.{Removed}
use Rattle.file_tree.specs.declared.store.node.Node.{Node}
use Rattle.file_tree.specs.rules.Files.{Path, FileNode, AreRising, IsPlaced, HasPath}
use Rattle.file_tree.specs.rules.Files.{HaveDistinctPaths, IsSmallContent, IsFiles}
use Rattle.file_tree.specs.Links.{Up, climb, IsTree, hook_of, content_shown, AreNodes}
use Rattle.file_tree.specs.Links.{AreRisingNodes, shown_node, files}
use Rattle.file_tree.proofs.Climbs.{path_is, no_path, climb_sound, one_node}
use Rattle.file_tree.proofs.Lookups.{path_shown, directory_shown}
use Rattle.file_tree.proofs.Lists.{numbers_from}
use Rattle.file_tree.proofs.Grows.{removed_or_not, mapped}

rising_shown : (S : Node → FileNode) → ((m : Node) → (S m).number ≡ m.number)
    → (least : ℕ) (ns : List Node) (next : ℕ) → AreRisingNodes least ns next
    → AreRising least (map S ns) next
rising_shown S numbers least [] next h = h
rising_shown S numbers least (m ∷ ns) next h = (
  omega (arith, h.0, numbers m),
  subst (λ (k : ℕ). AreRising (k + 1) (map S ns) next) (sym (numbers m))
      (rising_shown S numbers (m.number + 1) ns next h.1),
)

-- a path that is shown is the root's, or a name in a directory
placed_path : (ns : List Node) (next k : ℕ) → AreNodes ns next
    → IfSome (option_map reverse (climb next (hook_of ns) k)) (IsPlaced (files ns next))
placed_path ns next k are = by_hook (removed_or_not (hook_of ns k)) where
  by_way : (a : Path) → Up (hook_of ns) k a → IsPlaced (files ns next) (reverse a)
  by_way [] h = inl refl
  by_way (name ∷ a) h = inr (
    h.0,
    reverse a,
    name,
    reverse-cons name a,
    are.named k h.0 name h.1,
    path_shown ns next h.0 ∙ ap (option_map reverse) (path_is (hook_of ns) next are.tree h.0 a h.2),
    directory_shown ns next h.0 ∙ are.placed k h.0 name h.1,
  )

  by_hook : (hook_of ns k ≡ Removed) ⊎ (hook_of ns k ≢ Removed)
      → IfSome (option_map reverse (climb next (hook_of ns) k)) (IsPlaced (files ns next))
  by_hook (inl gone) =
      subst (λ (o : Option Path). IfSome (option_map reverse o) (IsPlaced (files ns next)))
      (sym (no_path next (hook_of ns) k gone)) tt
  by_hook (inr here) = (let r = are.tree.reached k here in
      subst (λ (o : Option Path). IfSome (option_map reverse o) (IsPlaced (files ns next)))
      (sym (path_is (hook_of ns) next are.tree k r.0 r.1)) (by_way r.0 r.1))

all_placed : (ns : List Node) (next : ℕ) → AreNodes ns next → (ms : List Node)
    → AllByRecursion (λ (n : FileNode). IfSome n.path (IsPlaced (files ns next)))
    (map (shown_node next (hook_of ns)) ms)
all_placed ns next are [] = tt
all_placed ns next are (m ∷ ms) = (placed_path ns next m.number are, all_placed ns next are ms)

some_path_is : (o : Option Path) (p : Path) → HasPath o p → o ≡ Some p
some_path_is None p h = absurd h
some_path_is (Some q) p h = ap (λ (x : Path). Some x) h

-- two numbers don't show one path
apart : (hook : ℕ → Hook) (next : ℕ) → IsTree hook next → (j k : ℕ) → j ≢ k → (p : Path)
    → HasPath (option_map reverse (climb next hook j)) p
    → HasPath (option_map reverse (climb next hook k)) p → ⊥
apart hook next tree j k ne p hj hk =
    let a = mapped (climb next hook j) p
    (some_path_is (option_map reverse (climb next hook j)) p hj) in
    let b = mapped (climb next hook k) p
    (some_path_is (option_map reverse (climb next hook k)) p hk) in
    let same : a.0 ≡ b.0 = sym (reverse-reverse a.0) ∙ ap reverse (a.2 ∙ sym b.2)
    ∙ reverse-reverse b.0 in
    ne (one_node hook next tree j k a.0 (climb_sound next hook j a.0 a.1)
    (subst (Up hook k) (sym same) (climb_sound next hook k b.0 b.1)))

distinct_paths : (hook : ℕ → Hook) (next : ℕ) → IsTree hook next
    → (least : ℕ) (ns : List Node) (most : ℕ) → AreRisingNodes least ns most
    → HaveDistinctPaths (map (shown_node next hook) ns)
distinct_paths hook next tree least [] most h = tt
distinct_paths hook next tree least (m ∷ ns) most h = (
  others ns (numbers_from (m.number + 1) ns most h.1),
  distinct_paths hook next tree (m.number + 1) ns most h.1,
) where
  others : (xs : List Node) → AllByRecursion (λ (n : Node). m.number + 1 ≤ n.number) xs
      → AllByRecursion (λ (other : FileNode). (p : Path) → HasPath (shown_node next hook m).path p
      → HasPath other.path p → ⊥) (map (shown_node next hook) xs)
  others [] g = tt
  others (x ∷ xs) g = (
    (λ p hm hx. apart hook next tree m.number x.number (λ e. absurd (omega (
      arith,
      g.0,
      e,
    ))) p hm hx),
    others xs g.1,
  )

all_small : (next : ℕ) (hook : ℕ → Hook) (ns : List Node)
    → AllByRecursion (λ (n : Node). IsSmallContent (content_shown n.content)) ns
    → AllByRecursion (λ (n : FileNode). IsSmallContent n.content) (map (shown_node next hook) ns)
all_small next hook [] h = tt
all_small next hook (m ∷ ns) h = (h.0, all_small next hook ns h.1)

pub are_files : (ns : List Node) (next : ℕ) → AreNodes ns next → IsFiles (files ns next)
are_files ns next are = record {
  rising = rising_shown (shown_node next (hook_of ns)) (λ m. refl) 1 ns next are.rising;
  root = path_shown ns next 1
      ∙ ap (option_map reverse) (path_is (hook_of ns) next are.tree 1 [] are.tree.root);
  root_is_directory = directory_shown ns next 1 ∙ are.root;
  placed = all_placed ns next are ns;
  distinct = distinct_paths (hook_of ns) next are.tree 1 ns next are.rising;
  contents = all_small next (hook_of ns) ns are.contents;
  few = omega (arith, length-map ns (shown_node next (hook_of ns)), are.few);
}
