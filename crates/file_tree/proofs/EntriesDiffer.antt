-- Names lead to entries, and entries differ.
use Rattle.std.proofs.Common.{◌≡◌, inl, inr, ℕ, zero, suc, Bool, true, false, cond, eqb, List, []}
use Rattle.std.proofs.Common.{◌∷◌, Option, Some, None, refl, sym, ap, subst, ◌∙◌}
use Rattle.std.specs.Prelude.{slice_get}
use Rattle.file_tree.specs.declared.store.node.Hook.TheVariants.{In}
use Rattle.file_tree.specs.declared.store.node.Node.{Node}
use Rattle.file_tree.specs.rules.Files.{Name, Files, Entry, IsFiles, child, entries_of}
use Rattle.file_tree.specs.laws.Rebuilding.{ListsNode, ChildrenAreListed, EntriesDiffer}
use Rattle.file_tree.specs.Links.{node_in, hook_held, hook_of, child_in, AreNodes, files}
use Rattle.file_tree.specs.Store.Cuts.{HasElement}
use Rattle.file_tree.specs.Store.Named.{address_of}
use Rattle.file_tree.proofs.Climbs.{in_is}
use Rattle.file_tree.proofs.Seen.{child_shown, own_hooks}
use Rattle.file_tree.proofs.Parents.{child_hook}
use Rattle.file_tree.proofs.NamedNodes.{none_hangs}
use Rattle.file_tree.proofs.Order.{Before, Ordered, not_itself, all_at}
use Rattle.file_tree.proofs.NearestNodes.{ordered_entries}
use Rattle.file_tree.proofs.EntriesTell.{entry_of_hook, hook_of_entry}
use Rattle.file_tree.proofs.Rebuilt.{rebuilt, rebuilt_are, rebuilt_show}

found_held : (ns : List Node) (k : ℕ) (n : Node) → node_in ns k ≡ Some n → HasElement ns n
found_held [] k n e = absurd cc
found_held (m ∷ ns) k n e = by (eqb m.number k) (found_held ns k n) e where
  some_is : (x y : Node) → Some x ≡ Some y → x ≡ y
  some_is x y e = cc

  by : (b : Bool) → (node_in ns k ≡ Some n → HasElement ns n)
      → cond b (Some m) (node_in ns k) ≡ Some n → HasElement (m ∷ ns) n
  by true later e = inl (some_is m n e)
  by false later e = inr (later e)

-- two entries of one name are at one place
one_name : (es : List Entry) (i j : ℕ) (e f : Entry) → Ordered es → slice_get es i ≡ Some e
    → slice_get es j ≡ Some f → e.name ≡ f.name → i ≡ j
one_name [] i j e f order a b same = absurd cc
one_name (g ∷ es) zero zero e f order a b same = refl
one_name (g ∷ es) zero (suc j) e f order a b same =
    let here : g ≡ e = cc in
    let front = all_at (λ (x : Entry). Before g.name x.name) es j f order.0 b in
    absurd (not_itself f.name
    (subst (λ (x : Name). Before x f.name) (ap (λ (x : Entry). x.name) here ∙ same) front))
one_name (g ∷ es) (suc i) zero e f order a b same =
    let here : g ≡ f = cc in
    let front = all_at (λ (x : Entry). Before g.name x.name) es i e order.0 a in
    absurd (not_itself e.name
    (subst (λ (x : Name). Before x e.name) (ap (λ (x : Entry). x.name) here ∙ sym same) front))
one_name (g ∷ es) (suc i) (suc j) e f order a b same = ap suc (one_name es i j e f order.1 a b same)

module _ (ns : List Node) (next : ℕ) (are : AreNodes ns next) where
  abbrev fs : Files
  fs = files ns next

  child_listed : (d k : ℕ) (name : Name) → child fs d name ≡ Some k → ListsNode fs d k name
  child_listed d k name e =
      entry_of_hook ns next are d k name
      (child_hook (hook_of ns) ns d name k (own_hooks 1 ns next are.rising)
      (sym (child_shown ns next d name are) ∙ e))

  listed_child : (d k : ℕ) (name : Name) → ListsNode fs d k name → child fs d name ≡ Some k
  listed_child d k name h =
      child_shown ns next d name are ∙ by (child_in ns d name) refl where
        hung : hook_of ns k ≡ In d name
        hung = hook_of_entry ns next are d k name h

        by_node : child_in ns d name ≡ None → (o : Option Node) → node_in ns k ≡ o
            → hook_held o ≡ In d name → child_in ns d name ≡ Some k
        by_node none None is e = absurd cc
        by_node none (Some n) is e =
            absurd (none_hangs d name ns n none (found_held ns k n is) (ap address_of e))

        by : (o : Option ℕ) → child_in ns d name ≡ o → child_in ns d name ≡ Some k
        by None e = by_node e (node_in ns k) refl hung
        by (Some j) e =
            let its : hook_of ns j ≡ In d name =
            child_hook (hook_of ns) ns d name j (own_hooks 1 ns next are.rising) e in
            e ∙ ap (λ (x : ℕ). Some x) (are.tree.one_each j k d name its hung)

  same_place : (d i j : ℕ) (e f : Entry) → slice_get (entries_of fs d) i ≡ Some e
      → slice_get (entries_of fs d) j ≡ Some f → e.name ≡ f.name → i ≡ j
  same_place d i j e f a b same =
      one_name (entries_of fs d) i j e f (ordered_entries ns next d are) a b same

  same_place_of_node : (d i j : ℕ) (e f : Entry) → slice_get (entries_of fs d) i ≡ Some e
      → slice_get (entries_of fs d) j ≡ Some f → e.number ≡ f.number → i ≡ j
  same_place_of_node d i j e f a b same =
      let x = hook_of_entry ns next are d e.number e.name (record { place = i; is = a }) in
      let y = hook_of_entry ns next are d f.number f.name (record { place = j; is = b }) in
      same_place d i j e f a b
      (in_is d d e.name f.name (sym x ∙ ap (hook_of ns) same ∙ y)).1

module _ (fs : Files) (are : IsFiles fs) where
  shown_so : (P : Files → Type 0) → P (files (rebuilt fs are) fs.next) → P fs
  shown_so P p = subst P (rebuilt_show fs are) p

  pub is_listed : (d k : ℕ) (name : Name) → child fs d name ≡ Some k → ListsNode fs d k name
  is_listed d k name =
      shown_so (λ (x : Files). child x d name ≡ Some k → ListsNode x d k name)
      (child_listed (rebuilt fs are) fs.next (rebuilt_are fs are) d k name)

  pub is_found : (d k : ℕ) (name : Name) → ListsNode fs d k name → child fs d name ≡ Some k
  is_found d k name =
      shown_so (λ (x : Files). ListsNode x d k name → child x d name ≡ Some k)
      (listed_child (rebuilt fs are) fs.next (rebuilt_are fs are) d k name)

  pub by_names : (d i j : ℕ) (e f : Entry) → slice_get (entries_of fs d) i ≡ Some e
      → slice_get (entries_of fs d) j ≡ Some f → e.name ≡ f.name → i ≡ j
  by_names d i j e f =
      shown_so (λ (x : Files). slice_get (entries_of x d) i ≡ Some e
      → slice_get (entries_of x d) j ≡ Some f → e.name ≡ f.name → i ≡ j)
      (same_place (rebuilt fs are) fs.next (rebuilt_are fs are) d i j e f)

  pub by_numbers : (d i j : ℕ) (e f : Entry) → slice_get (entries_of fs d) i ≡ Some e
      → slice_get (entries_of fs d) j ≡ Some f → e.number ≡ f.number → i ≡ j
  by_numbers d i j e f =
      shown_so (λ (x : Files). slice_get (entries_of x d) i ≡ Some e
      → slice_get (entries_of x d) j ≡ Some f → e.number ≡ f.number → i ≡ j)
      (same_place_of_node (rebuilt fs are) fs.next (rebuilt_are fs are) d i j e f)

pub children_are_listed : ChildrenAreListed
children_are_listed = record {
  listed = λ fs d k name are e. is_listed fs are d k name e;
  found = λ fs d k name are h. is_found fs are d k name h;
}

pub entries_differ : EntriesDiffer
entries_differ = record {
  names = λ fs d i j e f are a b same. by_names fs are d i j e f a b same;
  numbers = λ fs d i j e f are a b same. by_numbers fs are d i j e f a b same;
}
