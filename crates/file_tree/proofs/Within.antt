-- Whether the way up comes to a node.
use Rattle.std.proofs.Common.{◌≡◌, ◌≢◌, ℕ, zero, suc, ◌<◌, inl, inr, Bool, true, false, cond, eqb}
use Rattle.std.proofs.Common.{List, [], ◌∷◌, ◌++◌, length, reverse, Option, Some, None, refl, sym}
use Rattle.std.proofs.Common.{ap, subst, ◌∙◌, arith}
use Rattle.std.specs.Prelude.{is_some}
use Rattle.std.proofs.lemmas.Bool.{eq-eqb, ne_eqb}
use mathlib.Core.List.{reverse-append, reverse-reverse}
use Rattle.file_tree.specs.declared.store.node.Hook.{Hook}
use Rattle.file_tree.specs.declared.store.node.Hook.TheVariants.{Root, Removed, In}
use Rattle.file_tree.specs.declared.store.node.Node.{Node}
use Rattle.file_tree.specs.rules.Files.{Path, path_of, path_behind}
use Rattle.file_tree.specs.rules.Changes.{is_within, within_path}
use Rattle.file_tree.specs.Links.{Up, IsTree, hook_of, AreNodes, files, comes_by, comes_to}
use Rattle.file_tree.proofs.Renames.{behind_front}
use Rattle.file_tree.proofs.Climbs.{one_path, one_node, short_path}
use Rattle.file_tree.proofs.Ends.{ends_or_not, is_front}
use Rattle.file_tree.proofs.Lookups.{hung_has_path}
use Rattle.file_tree.proofs.Forgets.{not_hung}
use Rattle.file_tree.proofs.Grows.{way_up}

-- the way up comes to what a path ends with
comes : (n : ℕ) (hook : ℕ → Hook) (k d : ℕ) (old xs : Path) (next : ℕ) → IsTree hook next
    → Up hook k old → Up hook d (xs ++ old) → length (xs ++ old) < n → comes_to n hook k d ≡ true
comes zero hook k d old xs next tree at under lt = absurd (omega arith)
comes (suc n) hook k d [] [] next tree at under lt =
    ap (λ (b : Bool). comes_by b (comes_to n hook k) (hook d))
    (eq-eqb d k (one_node hook next tree d k [] under at))
    ∙ ap (comes_by true (comes_to n hook k)) under
comes (suc n) hook k d (name ∷ a) [] next tree at under lt =
    ap (λ (b : Bool). comes_by b (comes_to n hook k) (hook d))
    (eq-eqb d k (one_node hook next tree d k (name ∷ a) under at))
    ∙ ap (comes_by true (comes_to n hook k)) under.1
comes (suc n) hook k d old (x ∷ xs) next tree at under lt =
    ap (comes_by (eqb d k) (comes_to n hook k)) under.1
    ∙ by (eqb d k) (comes n hook k under.0 old xs next tree at under.2 (omega (
      arith,
      lt,
    ))) where
      by : (b : Bool) → comes_to n hook k under.0 ≡ true
          → cond b true (comes_to n hook k under.0) ≡ true
      by true later = refl
      by false later = later

-- and to nothing else
never_comes : (n : ℕ) (hook : ℕ → Hook) (k d : ℕ) (old up : Path) → Up hook k old → Up hook d up
    → ((xs : Path) → up ≡ xs ++ old → ⊥) → comes_to n hook k d ≡ false
never_comes zero hook k d old up at under never = refl
never_comes (suc n) hook k d old [] at under never =
    let ne : d ≢ k =
    λ e. never [] (one_path hook k [] old (subst (λ (x : ℕ). Up hook x []) e under) at) in
    ap (λ (b : Bool). comes_by b (comes_to n hook k) (hook d)) (ne_eqb d k ne)
    ∙ ap (comes_by false (comes_to n hook k)) under
never_comes (suc n) hook k d old (x ∷ a) at under never =
    let ne : d ≢ k =
    λ e. never [] (one_path hook k (x
    ∷ a) old (subst (λ (y : ℕ). Up hook y (x ∷ a)) e under) at) in
    ap (λ (b : Bool). comes_by b (comes_to n hook k) (hook d)) (ne_eqb d k ne)
    ∙ ap (comes_by false (comes_to n hook k)) under.1
    ∙ never_comes n hook k under.0 old a at under.2 (λ xs e.
    never (x ∷ xs) (ap (λ (p : Path). x ∷ p) e))

from_nowhere : (n : ℕ) (hook : ℕ → Hook) (k d : ℕ) → hook d ≡ Removed → comes_to n hook k d ≡ false
from_nowhere zero hook k d e = refl
from_nowhere (suc n) hook k d e = ap (comes_by (eqb d k) (comes_to n hook k)) e

to_nowhere : (n : ℕ) (hook : ℕ → Hook) (k d : ℕ) (up : Path) → hook k ≡ Removed → Up hook d up
    → comes_to n hook k d ≡ false
to_nowhere zero hook k d up gone under = refl
to_nowhere (suc n) hook k d [] gone under =
    let ne : d ≢ k = λ e. absurd (let t : Root ≡ Removed = sym under ∙ ap hook e ∙ gone in cc) in
    ap (λ (b : Bool). comes_by b (comes_to n hook k) (hook d)) (ne_eqb d k ne)
    ∙ ap (comes_by false (comes_to n hook k)) under
to_nowhere (suc n) hook k d (x ∷ a) gone under =
    let ne : d ≢ k = λ e. absurd (let t : In under.0 x ≡ Removed = sym under.1 ∙ ap hook e ∙ gone in
    cc) in
    ap (λ (b : Bool). comes_by b (comes_to n hook k) (hook d)) (ne_eqb d k ne)
    ∙ ap (comes_by false (comes_to n hook k)) under.1
    ∙ to_nowhere n hook k under.0 a gone under.2

not_behind_end : (old up : Path) → ((xs : Path) → up ≡ xs ++ old → ⊥)
    → path_behind (reverse old) (reverse up) ≡ None
not_behind_end old up never = by (path_behind (reverse old) (reverse up)) refl where
  by : (o : Option Path) → path_behind (reverse old) (reverse up) ≡ o
      → path_behind (reverse old) (reverse up) ≡ None
  by None e = e
  by (Some rest) e =
      let front : reverse up ≡ reverse old ++ rest = is_front (reverse old) (reverse up) rest e in
      let back : up ≡ reverse rest ++ old = sym (reverse-reverse up) ∙ ap reverse front
      ∙ reverse-append (reverse old) rest
      ∙ ap (λ (p : Path). reverse rest ++ p) (reverse-reverse old) in
      absurd (never (reverse rest) back)

removed_where_none : (ns : List Node) (next k : ℕ) → AreNodes ns next
    → path_of (files ns next) k ≡ None → hook_of ns k ≡ Removed
removed_where_none ns next k are none = not_hung (hook_of ns k) (sym (hung_has_path ns next k are)
    ∙ ap is_some none)

pub within_shown : (ns : List Node) (next k d : ℕ) → AreNodes ns next
    → is_within (files ns next) k d ≡ comes_to next (hook_of ns) k d
within_shown ns next k d are =
    by_paths (path_of (files ns next) k) (path_of (files ns next) d) refl refl where
      both : (o q : Option Path) → path_of (files ns next) k ≡ o → path_of (files ns next) d ≡ q
          → is_within (files ns next) k d ≡ within_path o q
      both o q e f = ap (λ (x : Option Path). within_path x (path_of (files ns next) d)) e
          ∙ ap (within_path o) f

      by_paths : (o q : Option Path) → path_of (files ns next) k ≡ o → path_of (files ns next) d ≡ q
          → is_within (files ns next) k d ≡ comes_to next (hook_of ns) k d
      by_paths None None e f = both None None e f
          ∙ sym (from_nowhere next (hook_of ns) k d (removed_where_none ns next d are f))
      by_paths (Some p) None e f = both (Some p) None e f
          ∙ sym (from_nowhere next (hook_of ns) k d (removed_where_none ns next d are f))
      by_paths None (Some q) e f = (let way = way_up ns next d q f in both None (Some q) e f
          ∙ sym (to_nowhere next (hook_of ns) k d way.0 (removed_where_none ns next k are e) way.2))
      by_paths (Some p) (Some q) e f =
          let from = way_up ns next k p e in
          let way = way_up ns next d q f in
          both (Some p) (Some q) e f ∙ ap (λ (x : Path). is_some (path_behind x q)) (sym from.1)
          ∙ ap (λ (x : Path). is_some (path_behind (reverse from.0) x)) (sym way.1)
          ∙ elim (ends_or_not from.0 way.0) [
            | inl h ↦
                ap (λ (x : Path). is_some (path_behind (reverse from.0) x)) (ap reverse h.1
                ∙ reverse-append h.0 from.0) ∙ ap is_some
                (behind_front (reverse from.0) (reverse h.0))
                ∙ sym (comes next (hook_of ns) k d from.0 h.0 next are.tree from.2
                (subst (Up (hook_of ns) d) h.1 way.2) (subst (λ (a : Path). length a
                < next) h.1 (short_path (hook_of ns) next are.tree d way.0 way.2)))
            | inr never ↦ ap is_some (not_behind_end from.0 way.0 never)
                ∙ sym (never_comes next (hook_of ns) k d from.0 way.0 from.2 way.2 never)
          ]
