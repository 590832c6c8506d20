-- Paths in a tree of hooks, and how a new or a moved node changes them.
use Rattle.std.proofs.Common.{◌≡◌, ◌≢◌, ℕ, zero, suc, ◌<◌, ◌≤◌, ◌⊎◌, inl, inr, Bool, true, false}
use Rattle.std.proofs.Common.{◌||◌, eqb, List, [], ◌∷◌, length, Option, Some, None, refl, sym, ap}
use Rattle.std.proofs.Common.{subst, ◌∙◌, arith}
use Rattle.std.specs.Prelude.{option_map}
use Rattle.std.specs.List.{IsDistinct, list_any, AllByRecursion}
use Rattle.std.proofs.lemmas.Bool.{eqb-true, eq-eqb, ne_eqb}
use Rattle.std.proofs.lemmas.Map.Steps.{length-le_from_distinct_below}
use Rattle.file_tree.specs.rules.Files.{Name, Path}
use Rattle.file_tree.specs.declared.store.node.Hook.{Hook}
use Rattle.file_tree.specs.declared.store.node.Hook.TheVariants.{Root, Removed, In}
use Rattle.file_tree.specs.Links.{Up, climb, climb_from, IsTree}

root_is : {A : Type 0} (d : ℕ) (name : Name) → Root ≡ In d name → A
root_is d name e = absurd cc

pub in_is : (d e : ℕ) (m n : Name) → In d m ≡ In e n → (d ≡ e) × (m ≡ n)
in_is d e m n p = (cc, cc)

all_apart : {k : ℕ} (xs : List ℕ) → ((q : ℕ) → list_any (eqb q) xs ≡ true → k ≢ q)
    → AllByRecursion (λ y. eqb k y ≡ false) xs
all_apart {k} [] h = tt
all_apart {k} (x ∷ xs) h = (
  ne_eqb k x (h x (first_any x xs)),
  all_apart {k = k} xs (λ q e. h q (later_any q x xs e)),
) where
  first_any : (x : ℕ) (xs : List ℕ) → list_any (eqb x) (x ∷ xs) ≡ true
  first_any x xs = rw (eq-eqb x x refl) refl

  later_any : (q x : ℕ) (xs : List ℕ) → list_any (eqb q) xs ≡ true
      → list_any (eqb q) (x ∷ xs) ≡ true
  later_any q x xs e = either (eqb q x) (list_any (eqb q) xs) e where
    either : (a b : Bool) → b ≡ true → (a || b) ≡ true
    either true b e = refl
    either false b e = e

-- a node has one path
pub one_path : (hook : ℕ → Hook) (k : ℕ) (a b : Path) → Up hook k a → Up hook k b → a ≡ b
one_path hook k [] [] g h = refl
one_path hook k [] (n ∷ b) g h = root_is h.0 n (sym g ∙ h.1)
one_path hook k (m ∷ a) [] g h = root_is g.0 m (sym h ∙ g.1)
one_path hook k (m ∷ a) (n ∷ b) g h =
    let p = in_is g.0 h.0 m n (sym g.1 ∙ h.1) in
    let same : a ≡ b = one_path hook g.0 a b g.2 (rw p.0 h.2) in
    rw (p.1, same) refl

-- a path has one node
pub one_node : (hook : ℕ → Hook) (next : ℕ) → IsTree hook next → (j k : ℕ) (a : Path) → Up hook j a
    → Up hook k a → j ≡ k
one_node hook next tree j k [] g h = tree.one_root j g ∙ sym (tree.one_root k h)
one_node hook next tree j k (n ∷ a) g h =
    let same : g.0 ≡ h.0 = one_node hook next tree g.0 h.0 a g.2 h.2 in
    tree.one_each j k h.0 n (g.1 ∙ ap (λ (d : ℕ). In d n) same) h.1

-- the nodes from one up to the root
abbrev chain : (hook : ℕ → Hook) (k : ℕ) (a : Path) → Up hook k a → List ℕ
chain hook k [] h = k ∷ []
chain hook k (n ∷ a) h = k ∷ chain hook h.0 a h.2

pub climb_complete : (n : ℕ) (hook : ℕ → Hook) (k : ℕ) (a : Path) → Up hook k a → length a < n
    → climb n hook k ≡ Some a
climb_complete zero hook k a h lt = absurd (omega arith)
climb_complete (suc n) hook k [] h lt = rw h refl
climb_complete (suc n) hook k (m ∷ a) h lt =
    rw (h.1, climb_complete n hook h.0 a h.2 (omega arith)) refl

abbrev just : Path → Option Path
just a = Some a

pub some_is : (a b : Path) → just a ≡ just b → a ≡ b
some_is a b e = cc

any_cases : (q k : ℕ) (xs : List ℕ) → list_any (eqb q) (k ∷ xs) ≡ true
    → (q ≡ k) ⊎ (list_any (eqb q) xs ≡ true)
any_cases q k xs e = by_test (eqb q k) refl e where
  by_test : (b : Bool) → eqb q k ≡ b → (b || list_any (eqb q) xs) ≡ true
      → (q ≡ k) ⊎ (list_any (eqb q) xs ≡ true)
  by_test true is e = inl (eqb-true q k is)
  by_test false is e = inr e

climb_some : (o : Option Path) (name : Name) (a : Path) → option_map (λ up. name ∷ up) o ≡ Some a
    → (up : Path) × (o ≡ Some up) × (name ∷ up ≡ a)
climb_some None name a e = absurd cc
climb_some (Some up) name a e = (up, refl, cc)

pub climb_sound : (n : ℕ) (hook : ℕ → Hook) (k : ℕ) (a : Path) → climb n hook k ≡ Some a
    → Up hook k a
climb_sound zero hook k a e = absurd cc
climb_sound (suc n) hook k a e = by_hook (λ d b. climb_sound n hook d b) (hook k) refl e where
  by_hook : ((d : ℕ) (b : Path) → climb n hook d ≡ Some b → Up hook d b) → (h : Hook) → hook k ≡ h
      → climb_from (climb n hook) h ≡ Some a → Up hook k a
  by_hook above Root is e = subst (λ (x : Path). Up hook k x) (some_is [] a e) is
  by_hook above Removed is e = absurd cc
  by_hook above (In d name) is e =
      let up = climb_some (climb n hook d) name a e in
      subst (λ (x : Path). Up hook k x) up.2 (d, is, above d up.0 up.1)

-- each node on the way up has a path that is no longer
on_chain : (hook : ℕ → Hook) (k : ℕ) (a : Path) (h : Up hook k a) (q : ℕ)
    → list_any (eqb q) (chain hook k a h) ≡ true → (b : Path) × Up hook q b × (length b ≤ length a)
on_chain hook k [] h q e =
    elim (any_cases q k [] e) [
      | inl same ↦ (rw same (
        [],
        h,
        omega arith,
      ))
      | inr none ↦ absurd cc none
    ]
on_chain hook k (n ∷ a) h q e =
    elim (any_cases q k (chain hook h.0 a h.2) e) [
      | inl same ↦ rw same (n ∷ a, h, omega arith)
      | inr later ↦ let above = on_chain hook h.0 a h.2 q later in
          (above.0, above.1, omega (arith, above.2))
    ]

chain_distinct : (hook : ℕ → Hook) (k : ℕ) (a : Path) (h : Up hook k a)
    → IsDistinct eqb (chain hook k a h)
unfolding IsDistinct
chain_distinct hook k [] h = (tt, tt)
chain_distinct hook k (n ∷ a) h = (
  all_apart (chain hook h.0 a h.2) (λ q e. longer q (on_chain hook h.0 a h.2 q e)),
  chain_distinct hook h.0 a h.2,
) where
  longer : (q : ℕ) → (b : Path) × Up hook q b × (length b ≤ length a) → k ≢ q
  longer q up same =
      let one : n ∷ a ≡ up.0 = one_path hook k (n ∷ a) up.0 h (rw same up.1) in
      absurd (omega (arith, ap length one, up.2))

chain_length : (hook : ℕ → Hook) (k : ℕ) (a : Path) (h : Up hook k a)
    → length (chain hook k a h) ≡ suc (length a)
chain_length hook k [] h = refl
chain_length hook k (n ∷ a) h = ap suc (chain_length hook h.0 a h.2)

pub there : (hook : ℕ → Hook) (k : ℕ) (a : Path) → Up hook k a → hook k ≢ Removed
there hook k [] h e = absurd (let t : Root ≡ Removed = sym h ∙ e in cc)
there hook k (n ∷ a) h e = absurd (let t : In h.0 n ≡ Removed = sym h.1 ∙ e in cc)

-- a path has fewer names than the next number
pub short_path : (hook : ℕ → Hook) (next : ℕ) → IsTree hook next → (k : ℕ) (a : Path) → Up hook k a
    → length a < next
short_path hook next tree k a h =
    let below = length-le_from_distinct_below (chain hook k a h) next (chain_distinct hook k a h)
    (λ q e. (let up = on_chain hook k a h q e in tree.below q (there hook q up.0 up.1))) in
    omega (arith, below, chain_length hook k a h)

-- what climbing finds is the path
pub path_is : (hook : ℕ → Hook) (next : ℕ) → IsTree hook next → (k : ℕ) (a : Path) → Up hook k a
    → climb next hook k ≡ Some a
path_is hook next tree k a h = climb_complete next hook k a h (short_path hook next tree k a h)

-- a node without a hook has no path
pub no_path : (n : ℕ) (hook : ℕ → Hook) (k : ℕ) → hook k ≡ Removed → climb n hook k ≡ None
no_path zero hook k e = refl
no_path (suc n) hook k e = rw e refl
