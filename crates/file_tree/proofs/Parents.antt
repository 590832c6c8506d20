-- The directory above a node.
use Rattle.std.proofs.Common.{◌≡◌, ◌≢◌, ℕ, ◌⊎◌, inl, inr, Bool, true, false, cond, eqb, List, []}
use Rattle.std.proofs.Common.{◌∷◌, ◌++◌, reverse, Some, None, refl, sym, ap, subst, ◌∙◌}
use Rattle.std.specs.Prelude.{option_map, ◌&&◌, IfSome, IfNone}
use Rattle.std.specs.List.{AllByRecursion}
use Rattle.std.proofs.lemmas.Bool.{cases_eq, ne_eqb, eq-eqb}
use mathlib.Core.List.{reverse-cons}
use Rattle.std.proofs.lemmas.List.{same_from_push}
use Rattle.std.proofs.lemmas.Option.{same_Some}
use Rattle.file_tree.specs.declared.store.node.Hook.{Hook}
use Rattle.file_tree.specs.declared.store.node.Hook.TheVariants.{Root, Removed, In}
use Rattle.file_tree.specs.declared.store.node.Node.{Node}
use Rattle.file_tree.specs.rules.Files.{Name, Path, is_same_name, path_of, child}
use Rattle.file_tree.specs.rules.Changes.{IsParent}
use Rattle.file_tree.specs.Links.{Up, hook_of, AreNodes, files, is_hooked, child_in, name_of_hook}
use Rattle.file_tree.specs.Steps.{step_of, parent_after, parent_in}
use Rattle.file_tree.proofs.SameNames.{name_or_not}
use Rattle.file_tree.proofs.Climbs.{path_is, no_path, in_is}
use Rattle.file_tree.proofs.Lookups.{path_shown}
use Rattle.file_tree.proofs.Grows.{removed_or_not, way_up}
use Rattle.file_tree.proofs.Seen.{own_hooks, child_shown, some_path, not_nil}

pub path_at_way : (ns : List Node) (next k : ℕ) (a : Path) → AreNodes ns next → Up (hook_of ns) k a
    → path_of (files ns next) k ≡ Some (reverse a)
path_at_way ns next k a are h = path_shown ns next k
    ∙ ap (option_map reverse) (path_is (hook_of ns) next are.tree k a h)

-- what a directory above is, by the hook
pub parent_above : (ns : List Node) (next k : ℕ) → AreNodes ns next
    → IfSome (parent_in ns k) (IsParent (files ns next) k)
parent_above ns next k are = by (hook_of ns k) refl where
  by_way : (d : ℕ) (name : Name) → hook_of ns k ≡ In d name → (a : Path) → Up (hook_of ns) k a
      → IsParent (files ns next) k d
  by_way d name e [] h = absurd (let t : Root ≡ In d name = sym h ∙ e in cc)
  by_way d name e (other ∷ a) h = record {
    path = reverse a;
    name = other;
    own = path_at_way ns next k (other ∷ a) are h
        ∙ ap (λ (p : Path). Some p) (reverse-cons other a);
    above = path_at_way ns next d a are (subst (λ (x : ℕ). Up (hook_of ns) x a)
        (in_is h.0 d other name (sym h.1 ∙ e)).0 h.2);
  }

  by : (h : Hook) → hook_of ns k ≡ h
      → IfSome (parent_after (step_of (hook_of ns k))) (IsParent (files ns next) k)
  by Root e = subst (λ (h : Hook). IfSome (parent_after (step_of h)) (IsParent (files ns next) k))
      (sym e) tt
  by Removed e =
      subst (λ (h : Hook). IfSome (parent_after (step_of h)) (IsParent (files ns next) k))
      (sym e) tt
  by (In d name) e =
      let r = are.tree.reached k (λ gone. absurd (let t : In d name ≡ Removed = sym e ∙ gone in cc))
      in
      subst (λ (h : Hook). IfSome (parent_after (step_of h)) (IsParent (files ns next) k)) (sym e)
      (by_way d name e r.0 r.1)

pub none_above : (ns : List Node) (next k : ℕ) → AreNodes ns next
    → IfNone (parent_in ns k) ((path : Path) (name : Name)
    → path_of (files ns next) k ≢ Some (path ++ name ∷ []))
none_above ns next k are = by (hook_of ns k) refl where
  by : (h : Hook) → hook_of ns k ≡ h
      → IfNone (parent_after (step_of (hook_of ns k))) ((path : Path) (name : Name)
      → path_of (files ns next) k ≢ Some (path ++ name ∷ []))
  by Root e = subst (λ (h : Hook). IfNone (parent_after (step_of h)) ((path : Path) (name : Name)
      → path_of (files ns next) k ≢ Some (path ++ name ∷ []))) (sym e) (λ p name h.
      not_nil p name (some_path [] (p ++ name ∷ []) (sym (path_at_way ns next k [] are e) ∙ h)))
  by Removed e = subst (λ (h : Hook). IfNone (parent_after (step_of h)) ((path : Path) (name : Name)
      → path_of (files ns next) k ≢ Some (path ++ name ∷ []))) (sym e) (λ p name h.
      absurd (let t : None ≡ Some (p ++ name ∷ []) = sym (path_shown ns next k
      ∙ ap (option_map reverse) (no_path next (hook_of ns) k e)) ∙ h in cc))
  by (In d name) e =
      subst (λ (h : Hook). IfNone (parent_after (step_of h)) ((path : Path) (name : Name)
      → path_of (files ns next) k ≢ Some (path ++ name ∷ []))) (sym e) tt

is_hooked_so : (d : ℕ) (name : Name) (h : Hook) → is_hooked d name h ≡ true → h ≡ In d name
is_hooked_so d name Root e = absurd cc
is_hooked_so d name Removed e = absurd cc
is_hooked_so d name (In x other) e = by (cases_eq x d) (name_or_not other name) e where
  by : (x ≡ d) ⊎ (x ≢ d) → ((is_same_name other name ≡ true) × (other ≡ name))
      ⊎ ((is_same_name other name ≡ false) × (other ≢ name))
      → (eqb x d && is_same_name other name) ≡ true → In x other ≡ In d name
  by (inl s) (inl o) e = ap (λ (y : ℕ). In y other) s ∙ ap (In d) o.1
  by (inr n) o e =
      absurd (let t : false
      ≡ true = sym (ap (λ (b : Bool). b && is_same_name other name) (ne_eqb x d n)) ∙ e in cc)
  by (inl s) (inr o) e =
      absurd (let t : false
      ≡ true = sym (ap (λ (b : Bool). b && is_same_name other name) (eq-eqb x d s) ∙ o.0) ∙ e in cc)

pub child_hook : (hook : ℕ → Hook) (ns : List Node) (d : ℕ) (name : Name) (k : ℕ)
    → AllByRecursion (λ (n : Node). hook n.number ≡ n.hook) ns → child_in ns d name ≡ Some k
    → hook k ≡ In d name
child_hook hook [] d name k own e = absurd cc
child_hook hook (n ∷ ns) d name k own e =
    by (is_hooked d name n.hook) refl (child_hook hook ns d name k own.1) e where
      by : (b : Bool) → is_hooked d name n.hook ≡ b
          → (child_in ns d name ≡ Some k → hook k ≡ In d name)
          → cond b (Some n.number) (child_in ns d name) ≡ Some k → hook k ≡ In d name
      by true is later e = ap hook (sym (same_Some n.number k e)) ∙ own.0
          ∙ is_hooked_so d name n.hook is
      by false is later e = later e

pub parent_of_child : (ns : List Node) (next k d : ℕ) (name : Name) → AreNodes ns next
    → child (files ns next) d name ≡ Some k → parent_in ns k ≡ Some d
parent_of_child ns next k d name are e =
    ap (λ (h : Hook). parent_after (step_of h)) (child_hook (hook_of ns) ns d name k
    (own_hooks 1 ns next are.rising) (sym (child_shown ns next d name are) ∙ e))

-- ---- the last name of a path

name_by_way : (ns : List Node) (next k : ℕ) → AreNodes ns next → (a : Path) → Up (hook_of ns) k a
    → (p : Path) (name : Name) → path_of (files ns next) k ≡ Some (p ++ name ∷ [])
    → name_of_hook (hook_of ns k) ≡ name
name_by_way ns next k are [] h p name e =
    absurd (not_nil p name (some_path [] (p ++ name ∷ []) (sym (path_at_way ns next k [] are h)
    ∙ e)))
name_by_way ns next k are (other ∷ a) h p name e =
    ap name_of_hook h.1
    ∙ (same_from_push (reverse a) p other name (sym (reverse-cons other a)
    ∙ some_path (reverse (other ∷ a)) (p
    ++ name ∷ []) (sym (path_at_way ns next k (other ∷ a) are h) ∙ e))).1

pub last_name : (ns : List Node) (next k : ℕ) → AreNodes ns next → (p : Path) (name : Name)
    → path_of (files ns next) k ≡ Some (p ++ name ∷ []) → name_of_hook (hook_of ns k) ≡ name
last_name ns next k are p name e = (let way = way_up ns next k (p ++ name ∷ []) e in
    name_by_way ns next k are way.0 way.2 p name e)

no_name_by_way : (ns : List Node) (next k : ℕ) → AreNodes ns next → (a : Path) → Up (hook_of ns) k a
    → ((path : Path) (name : Name) → path_of (files ns next) k ≢ Some (path ++ name ∷ []))
    → name_of_hook (hook_of ns k) ≡ []
no_name_by_way ns next k are [] h never = ap name_of_hook h
no_name_by_way ns next k are (other ∷ a) h never =
    absurd (never (reverse a) other (path_at_way ns next k (other ∷ a) are h
    ∙ ap (λ (p : Path). Some p) (reverse-cons other a)))

pub no_name : (ns : List Node) (next k : ℕ) → AreNodes ns next
    → ((path : Path) (name : Name) → path_of (files ns next) k ≢ Some (path ++ name ∷ []))
    → name_of_hook (hook_of ns k) ≡ []
no_name ns next k are never = elim (removed_or_not (hook_of ns k)) [
  | inl gone ↦ ap name_of_hook gone
  | inr here ↦ (let r = are.tree.reached k here in no_name_by_way ns next k are r.0 r.1 never)
]
