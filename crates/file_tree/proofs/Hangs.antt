-- A node that is hung elsewhere: what stays.
use Rattle.std.proofs.Common.{◌≡◌, ◌≢◌, ℕ, inl, inr, true, List, Option, Some, refl, sym, ap, subst}
use Rattle.std.proofs.Common.{◌∙◌, arith}
use Rattle.std.proofs.lemmas.Bool.{cases_eq}
use Rattle.file_tree.specs.declared.store.node.Hook.{Hook}
use Rattle.file_tree.specs.declared.store.node.Hook.TheVariants.{In}
use Rattle.file_tree.specs.declared.store.node.Node.{Node}
use Rattle.file_tree.specs.Store.Stored.{changed}
use Rattle.file_tree.specs.Store.Changes.{with_hook}
use Rattle.file_tree.specs.rules.Files.{Name, IsNodeName, IsSmallContent}
use Rattle.file_tree.specs.Links.{IsTree, node_in, hook_held, hook_of, content_held, content_shown}
use Rattle.file_tree.specs.Links.{holds_directory_node, is_directory_in, used_in, AreNodes, IsPlace}
use Rattle.file_tree.proofs.Lists.{in_changed_same, in_changed_other, rising_changed}
use Rattle.file_tree.proofs.Lists.{length-changed, all_changed, all_in, used_changed}

pub record Hangs (ns : List Node) (next k i : ℕ) (n : Node) : Type 0 where
  pub are : AreNodes ns next
  pub place : IsPlace ns k i
  pub there : node_in ns k ≡ Some n

module _ (ns : List Node) (next k i : ℕ) (n : Node) (h : Hook) (r : Hangs ns next k i n) where
  pub hung_here : hook_of (changed (with_hook h) i ns) k ≡ h
  hung_here = ap hook_held (in_changed_same (with_hook h) (λ m. refl) ns k i n r.place r.there)

  pub hung_others : (j : ℕ) → j ≢ k → hook_of (changed (with_hook h) i ns) j ≡ hook_of ns j
  hung_others j ne = ap hook_held (in_changed_other (with_hook h) (λ m. refl) ns k i j r.place ne)

  pub hung_directory : (j : ℕ)
      → is_directory_in (changed (with_hook h) i ns) j ≡ is_directory_in ns j
  hung_directory j = elim (cases_eq j k) [
    | inl same ↦ subst (λ (x : ℕ). is_directory_in (changed (with_hook h) i ns) x
        ≡ is_directory_in ns x) (sym same)
        (ap (λ (o : Option Node). holds_directory_node (content_held o))
        (in_changed_same (with_hook h) (λ m. refl) ns k i n r.place r.there)
        ∙ sym (ap (λ (o : Option Node). holds_directory_node (content_held o)) r.there))
    | inr ne ↦ ap (λ (o : Option Node). holds_directory_node (content_held o))
        (in_changed_other (with_hook h) (λ m. refl) ns k i j r.place ne)
  ]

  pub hung_used : used_in (changed (with_hook h) i ns) ≡ used_in ns
  hung_used = omega (arith, used_changed (with_hook h) ns k i n r.place r.there)

  -- what of it isn't a question of hooks
  pub hung_nodes : IsTree (hook_of (changed (with_hook h) i ns)) next
      → ((j d : ℕ) (name : Name) → hook_of (changed (with_hook h) i ns) j ≡ In d name
      → IsNodeName name × (is_directory_in ns d ≡ true))
      → AreNodes (changed (with_hook h) i ns) next
  hung_nodes tree placed = record {
    tree = tree;
    rising = rising_changed (with_hook h) (λ m. refl) 1 ns i next r.are.rising;
    named = λ j d name e. (placed j d name e).0;
    placed = λ j d name e. hung_directory d ∙ (placed j d name e).1;
    root = hung_directory 1 ∙ r.are.root;
    contents = all_changed (λ (x : Node). IsSmallContent (content_shown x.content))
        (with_hook h) ns k i n r.place r.there
        (all_in (λ (x : Node). IsSmallContent (content_shown x.content)) ns k n r.there
        r.are.contents) r.are.contents;
    few = omega (arith, length-changed (with_hook h) ns i, r.are.few);
  }
