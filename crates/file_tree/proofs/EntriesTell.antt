-- Entries tell where nodes hang: so they tell paths, and the whole file system.
use Rattle.std.proofs.Common.{◌≡◌, ◌≢◌, ◌⊎◌, inl, inr, ℕ, suc, Bool, true, false, cond, eqb, List}
use Rattle.std.proofs.Common.{[], ◌∷◌, ◌++◌, reverse, Option, Some, None, refl, sym, ap, subst, ◌∙◌}
use Rattle.std.specs.Prelude.{slice_get, is_some, unwrap_or}
use Rattle.std.proofs.lemmas.Bool.{eqb-true, eq-eqb}
use mathlib.Core.List.{reverse-cons}
use Rattle.file_tree.specs.declared.store.node.Hook.{Hook}
use Rattle.file_tree.specs.declared.store.node.Hook.TheVariants.{Root, Removed, In}
use Rattle.file_tree.specs.declared.store.node.Node.{Node}
use Rattle.file_tree.specs.rules.Files.{Name, Path, Files, Entry, IsNodeName, IsFiles, path_of}
use Rattle.file_tree.specs.rules.Files.{is_directory, entries_of, inserted, sorted, is_before}
use Rattle.file_tree.specs.rules.Changes.{path_at}
use Rattle.file_tree.specs.laws.Rebuilding.{entry_under, ListsNode, EntriesTellPaths}
use Rattle.file_tree.specs.Links.{Up, node_in, hook_held, hook_of, is_hung, AreNodes, files}
use Rattle.file_tree.specs.Links.{hooked_entry, hooked_entries, with_entry}
use Rattle.file_tree.specs.Store.Cuts.{HasElement}
use Rattle.file_tree.proofs.Climbs.{in_is}
use Rattle.file_tree.proofs.Lookups.{directory_shown, hung_has_path}
use Rattle.file_tree.proofs.Seen.{entries_shown}
use Rattle.file_tree.proofs.Parents.{path_at_way}
use Rattle.file_tree.proofs.Order.{all_at}
use Rattle.file_tree.proofs.NearestNodes.{IsHung, all_hung}
use Rattle.file_tree.proofs.Rebuilt.{rebuilt, rebuilt_are, rebuilt_show}

-- ---- what hangs in a directory is an entry

hooked_first : (d k : ℕ) (name : Name) (n : Node) → n.number ≡ k → n.hook ≡ In d name
    → hooked_entry d n ≡ Some (entry_under name k)
hooked_first d k name n number hook = rw (hook, number) (rw (eq-eqb d d refl) refl)

hooked_among : (d k : ℕ) (name : Name) (ns : List Node) → hook_of ns k ≡ In d name
    → HasElement (hooked_entries d ns) (entry_under name k)
hooked_among d k name [] e = absurd cc
hooked_among d k name (n ∷ ns) e =
    by (eqb n.number k) refl (hooked_among d k name ns) e where
      first : (o : Option Entry) → o ≡ Some (entry_under name k)
          → HasElement (with_entry o (hooked_entries d ns)) (entry_under name k)
      first None is = absurd cc
      first (Some x) is = inl (cc)

      later : (o : Option Entry) → HasElement (hooked_entries d ns) (entry_under name k)
          → HasElement (with_entry o (hooked_entries d ns)) (entry_under name k)
      later None at = at
      later (Some x) at = inr at

      by : (b : Bool) → eqb n.number k ≡ b
          → (hook_of ns k ≡ In d name → HasElement (hooked_entries d ns) (entry_under name k))
          → hook_held (cond b (Some n) (node_in ns k)) ≡ In d name
          → HasElement (hooked_entries d (n ∷ ns)) (entry_under name k)
      by true is go e =
          first (hooked_entry d n) (hooked_first d k name n (eqb-true n.number k is) e)
      by false is go e = later (hooked_entry d n) (go e)

inserted_holds : (e : Entry) (es : List Entry) (y : Entry) → (e ≡ y) ⊎ HasElement es y
    → HasElement (inserted e es) y
inserted_holds e [] y h = h
inserted_holds e (f ∷ es) y h = by (is_before e.name f.name) h (inserted_holds e es y) where
  by : (b : Bool) → (e ≡ y) ⊎ ((f ≡ y) ⊎ HasElement es y)
      → ((e ≡ y) ⊎ HasElement es y → HasElement (inserted e es) y)
      → HasElement (cond b (e ∷ f ∷ es) (f ∷ inserted e es)) y
  by true h go = h
  by false (inl is) go = inr (go (inl is))
  by false (inr (inl is)) go = inl is
  by false (inr (inr at)) go = inr (go (inr at))

sorted_holds : (es : List Entry) (y : Entry) → HasElement es y → HasElement (sorted es) y
sorted_holds [] y at = at
sorted_holds (e ∷ es) y (inl is) = inserted_holds e (sorted es) y (inl is)
sorted_holds (e ∷ es) y (inr at) = inserted_holds e (sorted es) y (inr (sorted_holds es y at))

place_among : (es : List Entry) (y : Entry) → HasElement es y
    → (i : ℕ) × (slice_get es i ≡ Some y)
place_among [] y at = absurd at
place_among (e ∷ es) y (inl is) = (0, ap (λ (x : Entry). Some x) is)
place_among (e ∷ es) y (inr at) = (let r = place_among es y at in (suc r.0, r.1))

-- ---- both ways

module _ (ns : List Node) (next : ℕ) (are : AreNodes ns next) where
  abbrev fs : Files
  fs = files ns next

  pub entry_of_hook : (d k : ℕ) (name : Name) → hook_of ns k ≡ In d name → ListsNode fs d k name
  entry_of_hook d k name e =
      let at : HasElement (entries_of fs d) (entry_under name k) =
      subst (λ (es : List Entry). HasElement es (entry_under name k))
      (sym (entries_shown ns next d are))
      (sorted_holds (hooked_entries d ns) (entry_under name k) (hooked_among d k name ns e)) in
      let r = place_among (entries_of fs d) (entry_under name k) at in
      record { place = r.0; is = r.1 }

  pub hook_of_entry : (d k : ℕ) (name : Name) → ListsNode fs d k name → hook_of ns k ≡ In d name
  hook_of_entry d k name h =
      all_at (IsHung d (hook_of ns)) (entries_of fs d) h.place (entry_under name k)
      (all_hung ns next d are) h.is

  -- ---- paths

  way : (d k : ℕ) (name : Name) → hook_of ns k ≡ In d name
      → (up : Path) × (path_of fs d ≡ Some (reverse up))
      × (path_of fs k ≡ Some (reverse up ++ name ∷ []))
  way d k name e = by r.0 r.1 where
    r : (up : Path) × Up (hook_of ns) k up
    r = are.tree.reached k (λ gone. absurd (let t : In d name ≡ Removed = sym e ∙ gone in cc))

    by : (up : Path) → Up (hook_of ns) k up
        → (a : Path) × (path_of fs d ≡ Some (reverse a))
        × (path_of fs k ≡ Some (reverse a ++ name ∷ []))
    by [] h = absurd (let t : Root ≡ In d name = sym h ∙ e in cc)
    by (other ∷ a) h =
        let same = in_is h.0 d other name (sym h.1 ∙ e) in
        let above : Up (hook_of ns) d a = subst (λ (x : ℕ). Up (hook_of ns) x a) same.0 h.2 in (
          a,
          path_at_way ns next d a are above,
          path_at_way ns next k (other ∷ a) are h
              ∙ ap (λ (p : Path). Some p)
              (reverse-cons other a ∙ ap (λ (x : Name). reverse a ++ x ∷ []) same.1),
        )

  path_told : (d k : ℕ) (name : Name) → hook_of ns k ≡ In d name
      → path_of fs k ≡ Some (path_at fs d ++ name ∷ [])
  path_told d k name e =
      let w = way d k name e in
      w.2 ∙ ap (λ (o : Option Path). Some (unwrap_or o [] ++ name ∷ [])) (sym w.1)

  above_told : (d k : ℕ) (name : Name) → hook_of ns k ≡ In d name
      → (is_directory fs d ≡ true) × (is_some (path_of fs d) ≡ true)
  above_told d k name e =
      (directory_shown ns next d ∙ are.placed k d name e, ap is_some (way d k name e).1)

  not_root : (d k : ℕ) (name : Name) → hook_of ns k ≡ In d name → k ≢ 1
  not_root d k name e one =
      absurd (let t : Root ≡ In d name = sym are.tree.root ∙ sym (ap (hook_of ns) one) ∙ e in cc)

  entry_there : (k : ℕ) → k ≢ 1 → is_some (path_of fs k) ≡ true
      → (d : ℕ) × (name : Name) × ListsNode fs d k name
  entry_there k ne some =
      by (hook_of ns k) refl (sym (hung_has_path ns next k are) ∙ some) where
        by : (h : Hook) → hook_of ns k ≡ h → is_hung h ≡ true
            → (d : ℕ) × (name : Name) × ListsNode fs d k name
        by Root is hung = absurd (ne (are.tree.one_root k is))
        by Removed is hung = absurd cc
        by (In d name) is hung = (d, name, entry_of_hook d k name is)

  pub all_told : (d k : ℕ) (name : Name) → ListsNode fs d k name
      → (path_of fs k ≡ Some (path_at fs d ++ name ∷ []))
      × ((is_directory fs d ≡ true) × (is_some (path_of fs d) ≡ true))
      × ((k ≢ 1) × IsNodeName name)
  all_told d k name h =
      let e = hook_of_entry d k name h in
      (path_told d k name e, above_told d k name e, (not_root d k name e, are.named k d name e))

  one_told : (d e k : ℕ) (name other : Name) → ListsNode fs d k name → ListsNode fs e k other
      → (d ≡ e) × (name ≡ other)
  one_told d e k name other h g =
      in_is d e name other (sym (hook_of_entry d k name h) ∙ hook_of_entry e k other g)

module _ (fs : Files) (are : IsFiles fs) where
  abbrev ns : List Node
  ns = rebuilt fs are

  shown_so : (P : Files → Type 0) → P (files ns fs.next) → P fs
  shown_so P p = subst P (rebuilt_show fs are) p

  told_of : (d k : ℕ) (name : Name) → ListsNode fs d k name
      → (path_of fs k ≡ Some (path_at fs d ++ name ∷ []))
      × ((is_directory fs d ≡ true) × (is_some (path_of fs d) ≡ true))
      × ((k ≢ 1) × IsNodeName name)
  told_of d k name =
      shown_so (λ (x : Files). ListsNode x d k name
      → (path_of x k ≡ Some (path_at x d ++ name ∷ []))
      × ((is_directory x d ≡ true) × (is_some (path_of x d) ≡ true))
      × ((k ≢ 1) × IsNodeName name)) (all_told ns fs.next (rebuilt_are fs are) d k name)

  there_of : (k : ℕ) → k ≢ 1 → is_some (path_of fs k) ≡ true
      → (d : ℕ) × (name : Name) × ListsNode fs d k name
  there_of k ne =
      shown_so (λ (x : Files). is_some (path_of x k) ≡ true
      → (d : ℕ) × (name : Name) × ListsNode x d k name)
      (entry_there ns fs.next (rebuilt_are fs are) k ne)

  one_of : (d e k : ℕ) (name other : Name) → ListsNode fs d k name → ListsNode fs e k other
      → (d ≡ e) × (name ≡ other)
  one_of d e k name other =
      shown_so (λ (x : Files). ListsNode x d k name → ListsNode x e k other
      → (d ≡ e) × (name ≡ other)) (one_told ns fs.next (rebuilt_are fs are) d e k name other)

pub entries_tell_paths : EntriesTellPaths
entries_tell_paths = record {
  path = λ fs d k name are h. (told_of fs are d k name h).0;
  above = λ fs d k name are h. (told_of fs are d k name h).1;
  below = λ fs d k name are h. (told_of fs are d k name h).2;
  there = λ fs k are ne some. there_of fs are k ne some;
  one = λ fs d e k name other are h g. one_of fs are d e k name other h g;
}
