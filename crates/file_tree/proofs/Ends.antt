-- Fronts of paths, which are ends from the node up.
use Rattle.std.proofs.Common.{◌≡◌, ◌≢◌, ℕ, ◌⊎◌, inl, inr, true, false, cond, [], ◌∷◌, ◌++◌, length}
use Rattle.std.proofs.Common.{reverse, Option, Some, None, refl, sym, ap, ◌∙◌, arith, length-append}
use Rattle.std.specs.Prelude.{if◌then◌else◌}
use mathlib.Core.List.{reverse-append, reverse-reverse}
use Rattle.file_tree.specs.declared.store.node.Hook.{Hook}
use Rattle.file_tree.specs.rules.Files.{Name, Path, is_same_name, is_same_path, path_behind}
use Rattle.file_tree.specs.rules.Files.{with_new_front, path_moved}
use Rattle.file_tree.specs.Links.{Up, IsTree}
use Rattle.file_tree.proofs.SameNames.{name_or_not, same_or_not}
use Rattle.file_tree.proofs.Renames.{behind_front}
use Rattle.file_tree.proofs.Climbs.{one_path, one_node, some_is as just_is}

-- the path with the new end in the place of the old one (from the node up)
abbrev pub moved_up : Path → Path → Path → Path
moved_up old new [] = if is_same_path [] old then new else []
moved_up old new (n ∷ a) = if is_same_path (n ∷ a) old then new else n ∷ moved_up old new a

-- Where node m, which has the path old, is put where it has the path new, each path changes its
-- end.
pub renamed_path : (hook after : ℕ → Hook) (next : ℕ) → IsTree hook next → (m : ℕ) (old new : Path)
    → Up hook m old → old ≢ []
    → ((q : ℕ) → q ≢ m → after q ≡ hook q) → Up after m new → (k : ℕ) (a : Path) → Up hook k a
    → Up after k (moved_up old new a)
renamed_path hook after next tree m old new at some others moved k [] h =
    elim (same_or_not [] old) [
      | inl same ↦ absurd (some (sym same.1))
      | inr apart ↦
          let other : k ≢ m = λ e. apart.1 (one_path hook k [] old h (rw e at)) in
          rw apart.0 (others k other ∙ h)
    ]
renamed_path hook after next tree m old new at some others moved k (n ∷ a) h =
    elim (same_or_not (n ∷ a) old) [
      | inl same ↦
          let me : k ≡ m = one_node hook next tree k m old (rw (← same.1) h) at in
          rw (same.0, me) moved
      | inr apart ↦
          let other : k ≢ m = λ e. apart.1 (one_path hook k (n ∷ a) old h (rw e at)) in
          rw apart.0 (
            h.0,
            others k other
                ∙ h.1,
            renamed_path hook after next tree m old new at some others moved h.0 a h.2,
          )
    ]

abbrev just : Path → Option Path
just p = Some p

pub is_front : (front p rest : Path) → path_behind front p ≡ Some rest → p ≡ front ++ rest
is_front [] p rest e = just_is p rest e
is_front (n ∷ front) [] rest e = absurd cc
is_front (n ∷ front) (m ∷ p) rest e = by_name (name_or_not n m) (is_front front p rest) e where
  by_name : ((is_same_name n m ≡ true) × (n ≡ m)) ⊎ ((is_same_name n m ≡ false) × (n ≢ m))
      → (path_behind front p ≡ Some rest → p ≡ front ++ rest)
      → cond (is_same_name n m) (path_behind front p) None ≡ Some rest → m ∷ p ≡ n ∷ (front ++ rest)
  by_name (inl h) later e = ap (λ (x : Name). x ∷ p) (sym h.1)
      ∙ ap (λ (x : Path). n ∷ x) (later (sym (rw h.0 refl) ∙ e))
  by_name (inr h) later e = absurd (let t : None ≡ just rest = sym (rw h.0 refl) ∙ e in cc)

-- whether a path from the node up ends so
pub ends_or_not : (old a : Path) → ((xs : Path) × (a ≡ xs ++ old)) ⊎ ((xs : Path) → a ≡ xs ++ old
    → ⊥)
ends_or_not old [] =
    elim (same_or_not [] old) [
      | inl h ↦ inl (
        [],
        h.1,
      )
      | inr h ↦ inr (λ xs e. no_nil xs e h.1)
    ] where
      no_nil : (xs : Path) → [] ≡ xs ++ old → [] ≢ old → ⊥
      no_nil [] e never = never e
      no_nil (x ∷ xs) e never = absurd cc
ends_or_not old (n ∷ a) = by_head (same_or_not (n ∷ a) old) (ends_or_not old a) where
  no_cons : (xs : Path) → n ∷ a ≡ xs ++ old → (n ∷ a) ≢ old → ((xs : Path) → a ≡ xs ++ old → ⊥) → ⊥
  no_cons [] e never later = never e
  no_cons (x ∷ xs) e never later = later xs cc

  by_head : ((is_same_path (n ∷ a) old ≡ true) × (n ∷ a ≡ old))
      ⊎ ((is_same_path (n ∷ a) old ≡ false) × ((n ∷ a) ≢ old)) → ((xs : Path) × (a ≡ xs ++ old))
      ⊎ ((xs : Path) → a ≡ xs ++ old → ⊥) → ((xs : Path) × (n ∷ a ≡ xs ++ old)) ⊎ ((xs : Path)
      → n ∷ a ≡ xs ++ old → ⊥)
  by_head (inl h) later = inl ([], h.1)
  by_head (inr h) (inl later) = inl (n ∷ later.0, ap (λ (x : Path). n ∷ x) later.1)
  by_head (inr h) (inr later) = inr (λ xs e. no_cons xs e h.1 later)

moved_end : (old new xs : Path) → moved_up old new (xs ++ old) ≡ xs ++ new
moved_end old new [] = whole old where
  whole : (a : Path) → moved_up a new a ≡ new
  whole [] = refl
  whole (n ∷ a) =
      elim (same_or_not (n ∷ a) (n ∷ a)) [ inl h ↦ rw h.0 refl | inr h ↦ absurd (h.1 refl) ]
moved_end old new (x ∷ xs) =
    elim (same_or_not (x ∷ (xs ++ old)) old) [
      | inl h ↦ absurd (omega (arith, ap length h.1, length-append xs old))
      | inr h ↦ rw h.0 (ap (λ (p : Path). x ∷ p) (moved_end old new xs))
    ]

not_moved : (old new a : Path) → ((xs : Path) → a ≡ xs ++ old → ⊥) → moved_up old new a ≡ a
not_moved old new [] never =
    elim (same_or_not [] old) [ inl h ↦ absurd (never [] h.1) | inr h ↦ rw h.0 refl ]
not_moved old new (n ∷ a) never =
    elim (same_or_not (n ∷ a) old) [
      | inl h ↦ absurd (never [] h.1)
      | inr h ↦ rw h.0 (ap (λ (p : Path). n
          ∷ p) (not_moved old new a (λ xs e. never (n ∷ xs) (ap (λ (p : Path). n ∷ p) e))))
    ]

-- a new end from the node up is a new front from the root down
pub reverse-moved_up : (old new a : Path)
    → reverse (moved_up old new a) ≡ path_moved (reverse old) (reverse new) (reverse a)
reverse-moved_up old new a =
    elim (ends_or_not old a) [
      | inl h ↦
          let left : reverse (moved_up old new a) ≡ reverse new ++ reverse h.0 =
          ap reverse (ap (moved_up old new) h.1 ∙ moved_end old new h.0)
          ∙ reverse-append h.0 new in
          let whole : reverse a ≡ reverse old ++ reverse h.0 =
          ap reverse h.1 ∙ reverse-append h.0 old in
          let right : path_moved (reverse old) (reverse new) (reverse a) ≡ reverse new
          ++ reverse h.0 = ap (path_moved (reverse old) (reverse new)) whole
          ∙ ap (with_new_front (reverse new) (reverse old ++ reverse h.0))
          (behind_front (reverse old) (reverse h.0)) in
          left ∙ sym right
      | inr never ↦ ap reverse (not_moved old new a never)
          ∙ sym (kept (path_behind (reverse old) (reverse a)) refl never)
    ] where
      kept : (o : Option Path) → path_behind (reverse old) (reverse a) ≡ o
          → ((xs : Path) → a ≡ xs ++ old → ⊥)
          → with_new_front (reverse new) (reverse a) (path_behind (reverse old) (reverse a))
          ≡ reverse a
      kept None e never = ap (with_new_front (reverse new) (reverse a)) e
      kept (Some rest) e never =
          let front : reverse a ≡ reverse old ++ rest = is_front (reverse old) (reverse a) rest e in
          let back : a ≡ reverse rest ++ old = sym (reverse-reverse a) ∙ ap reverse front
          ∙ reverse-append (reverse old) rest
          ∙ ap (λ (p : Path). reverse rest ++ p) (reverse-reverse old) in
          absurd (never (reverse rest) back)
