-- Nodes in the order of their directories and names, and what a search among them finds.
use Rattle.std.proofs.Common.{◌≡◌, ◌≢◌, ℕ, zero, suc, ◌+◌, ◌<◌, ◌⊎◌, inl, inr, Bool, true, false}
use Rattle.std.proofs.Common.{cond, eqb, List, [], ◌∷◌, Option, Some, None, refl, sym, ap, subst}
use Rattle.std.proofs.Common.{◌∙◌, arith}
use Rattle.std.specs.Prelude.{slice_get, ◌&&◌}
use Rattle.std.specs.List.{AllByRecursion}
use Rattle.std.proofs.lemmas.Bool.{cases_eq, eq-eqb, ne_eqb}
use Rattle.file_tree.specs.declared.store.node.Hook.{Hook}
use Rattle.file_tree.specs.declared.store.node.Hook.TheVariants.{Root, Removed, In}
use Rattle.file_tree.specs.declared.store.node.Node.{Node}
use Rattle.file_tree.specs.rules.Files.{Name, is_before, is_same_name}
use Rattle.file_tree.specs.Links.{is_hooked, child_in, is_in, name_of_hook}
use Rattle.file_tree.specs.Nearest.{comes_after, comes_before, is_nearer, nearest_node, next_node}
use Rattle.file_tree.specs.Nearest.{node_listed}
use Rattle.file_tree.specs.Store.Cuts.{HasElement, AreOrdered, IsCut}
use Rattle.file_tree.specs.Store.Named.{address_of, IsBehind, IsUpTo, in_directory}
use Rattle.file_tree.proofs.Order.{Before, before_or_not, not_itself, before_both, in_front}
use Rattle.file_tree.proofs.Order.{not_in_front, behind_if, not_behind_if}
use Rattle.file_tree.proofs.SameNames.{name_or_not}
use Rattle.file_tree.proofs.StoreLemmas.Places.{some_same, held_by_all, held_at, back_at}
use Rattle.file_tree.proofs.StoreLemmas.Places.{first_back, front_at, all_in_front, first_behind}
use Rattle.file_tree.proofs.StoreLemmas.Places.{last_before, next_behind, none_further}

-- ---- hooks and their addresses

-- in this directory, under this name
pub address_if : (d : ℕ) (name : Name) (h : Hook) → is_hooked d name h ≡ true
    → address_of h ≡ d ∷ name
address_if d name Root is = absurd cc
address_if d name Removed is = absurd cc
address_if d name (In e other) is = by (cases_eq e d) (name_or_not other name) is where
  by : (e ≡ d) ⊎ (e ≢ d)
      → ((is_same_name other name ≡ true) × (other ≡ name)) ⊎ ((is_same_name other name ≡ false)
      × (other ≢ name))
      → (eqb e d && is_same_name other name) ≡ true → e ∷ other ≡ d ∷ name
  by (inl same) (inl t) is = (let n = t.1 in rw (same, n) refl)
  by (inl same) (inr f) is =
      absurd (let t : true ≡ false = sym is ∙ (rw (eq-eqb e d same, f.0) refl) in cc)
  by (inr ne) t is = absurd (let t : true ≡ false = sym is ∙ (rw (ne_eqb e d ne) refl) in cc)

pub hooked_if : (d : ℕ) (name : Name) (h : Hook) → address_of h ≡ d ∷ name
    → is_hooked d name h ≡ true
hooked_if d name Root is = absurd cc
hooked_if d name Removed is = absurd cc
hooked_if d name (In e other) is = by (cases_eq e d) (name_or_not other name) where
  heads : (a b : ℕ) (xs ys : List ℕ) → a ∷ xs ≡ b ∷ ys → (a ≡ b) × (xs ≡ ys)
  heads a b xs ys e = (cc, cc)

  by : (e ≡ d) ⊎ (e ≢ d)
      → ((is_same_name other name ≡ true) × (other ≡ name)) ⊎ ((is_same_name other name ≡ false)
      × (other ≢ name))
      → (eqb e d && is_same_name other name) ≡ true
  by (inl same) (inl t) = rw (eq-eqb e d same, t.0) refl
  by (inl same) (inr f) = absurd (f.1 (heads e d other name is).1)
  by (inr ne) t = absurd (ne (heads e d other name is).0)

-- in this directory, under a later name
after_hook : (d : ℕ) (name : Name) (h : Hook) → comes_after d name h ≡ true
    → (other : Name) × (h ≡ In d other) × Before name other
after_hook d name Root is = absurd cc
after_hook d name Removed is = absurd cc
after_hook d name (In e other) is = by (cases_eq e d) (before_or_not name other) is where
  by : (e ≡ d) ⊎ (e ≢ d)
      → ((is_before name other ≡ true) × Before name other) ⊎ ((is_before name other ≡ false)
      × (Before name other → ⊥))
      → (eqb e d && is_before name other) ≡ true
      → (y : Name) × (In e other ≡ In d y) × Before name y
  by (inl same) (inl t) is = (other, ap (λ (x : ℕ). In x other) same, t.1)
  by (inl same) (inr f) is =
      absurd (let t : true ≡ false = sym is ∙ (rw (eq-eqb e d same, f.0) refl) in cc)
  by (inr ne) t is = absurd (let t : true ≡ false = sym is ∙ (rw (ne_eqb e d ne) refl) in cc)

after_if : (d : ℕ) (name other : Name) (h : Hook) → h ≡ In d other → Before name other
    → comes_after d name h ≡ true
after_if d name other h e b = rw e (rw (eq-eqb d d refl, in_front name other b) refl)

-- in another directory all are on one side
later_directory : (d e : ℕ) (name other : Name) → d ≢ e → Before (d ∷ name) (e ∷ other) → d < e
later_directory d e name other ne (inl lt) = lt
later_directory d e name other ne (inr h) = absurd (ne h.0)

no_earlier : (d e : ℕ) (name other : Name) → d < e → Before (e ∷ other) (d ∷ name) → ⊥
no_earlier d e name other lt (inl gt) = absurd (omega (arith, lt, gt))
no_earlier d e name other lt (inr h) = absurd (omega (arith, lt, h.0))

in_one : (d : ℕ) (name other : Name) → Before (d ∷ name) (d ∷ other) → Before name other
in_one d name other (inl lt) = absurd (omega (arith, lt))
in_one d name other (inr h) = h.1

-- what has an address hangs in a directory
hook_with : (h : Hook) → address_of h ≢ [] → (d : ℕ) × (name : Name) × (h ≡ In d name)
hook_with Root ne = absurd (ne refl)
hook_with Removed ne = absurd (ne refl)
hook_with (In d name) ne = (d, name, refl)

-- ---- nodes, and those with an address in its order

abbrev Follows : Node → Node → Type 0
Follows n m = IsBehind (address_of n.hook) (address_of m.hook)

-- a node is after an address, or doesn't
abbrev pub NodeBehind : List ℕ → Node → Type 0
NodeBehind from n = IsBehind from (address_of n.hook)

abbrev pub NodeUpTo : List ℕ → Node → Type 0
NodeUpTo from n = IsUpTo from (address_of n.hook)

pub record AreListed (ns ms : List Node) : Type 0 where
  pub ordered : AreOrdered (λ (n m : Node). IsBehind (address_of n.hook) (address_of m.hook)) ms
  pub among : (n : Node) → HasElement ms n → HasElement ns n
  pub hung : (n : Node) → HasElement ms n → address_of n.hook ≢ []
  pub all : (n : Node) → HasElement ns n → address_of n.hook ≢ [] → HasElement ms n

abbrev IsCutAt : List ℕ → List Node → ℕ → Type 0
IsCutAt from ms p = IsCut (NodeUpTo from) (NodeBehind from) ms p

-- ---- the node under a name

one_child : (d : ℕ) (name : Name) (ns : List Node) (n : Node) → HasElement ns n
    → is_hooked d name n.hook ≡ true
    → ((m : Node) → HasElement ns m → is_hooked d name m.hook ≡ true → m ≡ n)
    → child_in ns d name ≡ Some n.number
one_child d name [] n at is one = absurd at
one_child d name (m ∷ ns) n at is one =
    by (is_hooked d name m.hook) refl (λ later. one_child d name ns n later is (λ x w.
    one x (inr w))) at where
      by : (b : Bool) → is_hooked d name m.hook ≡ b
          → (HasElement ns n → child_in ns d name ≡ Some n.number)
          → (m ≡ n) ⊎ HasElement ns n → cond b (Some m.number) (child_in ns d name) ≡ Some n.number
      by true test go w = ap (λ (x : Node). Some x.number) (one m (inl refl) test)
      by false test go (inl e) =
          absurd (let t : true ≡ false = sym is
          ∙ (ap (λ (x : Node). is_hooked d name x.hook) (sym e) ∙ test) in cc)
      by false test go (inr later) = go later

no_child : (d : ℕ) (name : Name) (ns : List Node)
    → ((m : Node) → HasElement ns m → is_hooked d name m.hook ≡ true → ⊥)
    → child_in ns d name ≡ None
no_child d name [] never = refl
no_child d name (m ∷ ns) never =
    by (is_hooked d name m.hook) refl (no_child d name ns (λ x w. never x (inr w))) where
      by : (b : Bool) → is_hooked d name m.hook ≡ b → child_in ns d name ≡ None
          → cond b (Some m.number) (child_in ns d name) ≡ None
      by true test go = absurd (never m (inl refl) test)
      by false test go = go

-- no node hangs so
pub none_hangs : (d : ℕ) (name : Name) (ns : List Node) (m : Node) → child_in ns d name ≡ None
    → HasElement ns m
    → address_of m.hook ≢ d ∷ name
none_hangs d name [] m none at is = at
none_hangs d name (n ∷ ns) m none at is =
    by (is_hooked d name n.hook) refl (λ e later. none_hangs d name ns m e later is) none at where
      by : (b : Bool) → is_hooked d name n.hook ≡ b
          → (child_in ns d name ≡ None → HasElement ns m → ⊥)
          → cond b (Some n.number) (child_in ns d name) ≡ None → (n ≡ m) ⊎ HasElement ns m → ⊥
      by true test go none w = absurd cc
      by false test go none (inl e) =
          absurd (let t : true ≡ false = sym (hooked_if d name m.hook is)
          ∙ (ap (λ (x : Node). is_hooked d name x.hook) (sym e) ∙ test) in cc)
      by false test go none (inr later) = go none later

hooked_listed : (d : ℕ) (name : Name) (ns ms : List Node) (m : Node) → AreListed ns ms
    → HasElement ns m
    → address_of m.hook ≡ d ∷ name → HasElement ms m
hooked_listed d name ns ms m are at is =
    are.all m at (λ e. absurd (let t : d ∷ name ≡ [] = sym is ∙ e in cc))

same_not_behind : (d : ℕ) (name : Name) (m : Node) → address_of m.hook ≡ d ∷ name
    → NodeBehind (d ∷ name) m → ⊥
same_not_behind d name m is b =
    not_itself (d
    ∷ name) (subst (Before (d ∷ name)) is (behind_if (d ∷ name) (address_of m.hook) b))

-- the last one up to this address is the only one that can have it
only_last : (d : ℕ) (name : Name) (ns ms : List Node) (q : ℕ) (n m : Node) → AreListed ns ms
    → IsCutAt (d ∷ name) ms (suc q)
    → slice_get ms q ≡ Some n → HasElement ns m → is_hooked d name m.hook ≡ true → m ≡ n
only_last d name ns ms q n m are cut is at hooked =
    let address = address_if d name m.hook hooked in
    elim (last_before (NodeUpTo (d ∷ name)) (NodeBehind (d ∷ name)) Follows ms q n m are.ordered cut
    is (hooked_listed d name ns ms m are at address) (same_not_behind d name m address)) [
      | inl e ↦ e
      | inr b ↦ absurd (not_behind_if (d ∷ name) (address_of n.hook) (front_at (NodeUpTo (d ∷ name))
          (NodeBehind (d ∷ name)) ms q n cut is)
          (subst (λ (x : List ℕ). Before x (address_of n.hook)) address
          (behind_if (address_of m.hook) (address_of n.hook) b)))
    ]

pub child_there : (d : ℕ) (name : Name) (ns ms : List Node) (q : ℕ) (n : Node) → AreListed ns ms
    → IsCutAt (d ∷ name) ms (suc q)
    → slice_get ms q ≡ Some n → is_hooked d name n.hook ≡ true → child_in ns d name ≡ Some n.number
child_there d name ns ms q n are cut is hooked =
    one_child d name ns n (are.among n (held_at ms q n is)) hooked (λ m at h.
    only_last d name ns ms q n m are cut is at h)

pub child_not_there : (d : ℕ) (name : Name) (ns ms : List Node) (q : ℕ) (n : Node)
    → AreListed ns ms → IsCutAt (d ∷ name) ms (suc q)
    → slice_get ms q ≡ Some n → is_hooked d name n.hook ≡ false → child_in ns d name ≡ None
child_not_there d name ns ms q n are cut is other =
    no_child d name ns (λ m at h. absurd (let t : true ≡ false = sym h
    ∙ (ap (λ (x : Node). is_hooked d name x.hook) (only_last d name ns ms q n m are cut is at h)
    ∙ other) in cc))

pub child_before_all : (d : ℕ) (name : Name) (ns ms : List Node) → AreListed ns ms
    → IsCutAt (d ∷ name) ms 0
    → child_in ns d name ≡ None
child_before_all d name ns ms are cut =
    no_child d name ns (λ m at h.
    let address = address_if d name m.hook h in
    same_not_behind d name m address
    (all_behind ms m cut (hooked_listed d name ns ms m are at address))) where
      all_behind : (ms : List Node) (m : Node) → AllByRecursion (NodeBehind (d ∷ name)) ms
          → HasElement ms m → NodeBehind (d ∷ name) m
      all_behind [] m h at = absurd at
      all_behind (x ∷ ms) m h (inl e) = subst (NodeBehind (d ∷ name)) e h.0
      all_behind (x ∷ ms) m h (inr at) = all_behind ms m h.1 at

-- ---- the nearest one after a name

-- among nodes under later names none is before this one
abbrev AreNotNearer : ℕ → Name → Name → Node → List Node → Type 0
AreNotNearer d name x n ns =
    (m : Node) → HasElement ns m → comes_after d name m.hook ≡ true
    → (m ≡ n) ⊎ Before x (name_of_hook m.hook)

not_before : (d : ℕ) (x : Name) (n m : Node) → n.hook ≡ In d x
    → (m ≡ n) ⊎ Before x (name_of_hook m.hook)
    → comes_before d x m.hook ≡ false
not_before d x n m is (inl e) =
    ap (λ (w : Node). comes_before d x w.hook) e ∙ ap (comes_before d x) is
    ∙ (rw (eq-eqb d d refl) (not_in_front x x (not_itself x)))
not_before d x n m is (inr b) = by m.hook b where
  both : (t : Bool) (y : Name) → is_before y x ≡ false → (t && is_before y x) ≡ false
  both true y f = f
  both false y f = refl

  by : (h : Hook) → Before x (name_of_hook h) → comes_before d x h ≡ false
  by Root b = refl
  by Removed b = refl
  by (In e y) b = both (eqb e d) y (not_in_front y x (λ k. not_itself x (before_both x y x b k)))

-- it stays the nearest one
stays : (d : ℕ) (name x : Name) (n : Node) (ns : List Node) → n.hook ≡ In d x
    → AreNotNearer d name x n ns → nearest_node d name (Some n) ns ≡ Some n
stays d name x n [] is near = refl
stays d name x n (m ∷ ns) is near =
    by (comes_after d name m.hook) refl (stays d name x n ns is (λ w at. near w (inr at))) where
      by : (b : Bool) → comes_after d name m.hook ≡ b → nearest_node d name (Some n) ns ≡ Some n
          → nearest_node d name (cond (b
          && comes_before d (name_of_hook n.hook) m.hook) (Some m) (Some n)) ns ≡ Some n
      by false test later = later
      by true test later =
          ap (λ (h : Hook). nearest_node d name (cond (comes_before d (name_of_hook h) m.hook)
          (Some m) (Some n)) ns) is
          ∙ ap (λ (t : Bool). nearest_node d name (cond t (Some m) (Some n)) ns)
          (not_before d x n m is (near m (inl refl) test)) ∙ later

-- the nearest one so far is none, or this one, or one under a later name
abbrev IsNearestSoFar : ℕ → Name → Node → Option Node → Type 0
IsNearestSoFar d x n None = Unit {0}
IsNearestSoFar d x n (Some m) = (m ≡ n) ⊎ ((y : Name) × (m.hook ≡ In d y) × Before x y)

-- it is nearer than the nearest one so far, or is that
takes_over : (d : ℕ) (name x : Name) (n : Node) (so_far : Option Node) (ns : List Node)
    → n.hook ≡ In d x → Before name x
    → IsNearestSoFar d x n so_far → AreNotNearer d name x n ns
    → nearest_node d name (cond (is_nearer d name so_far n.hook) (Some n) so_far) ns ≡ Some n
takes_over d name x n None ns is b near far =
    ap (λ (t : Bool). nearest_node d name (cond t (Some n) None) ns) (after_if d name x n.hook is b)
    ∙ stays d name x n ns is far
takes_over d name x n (Some m) ns is b near far =
    ap (λ (t : Bool). nearest_node d name (cond (t
    && comes_before d (name_of_hook m.hook) n.hook) (Some n) (Some m)) ns)
    (after_if d name x n.hook is b)
    ∙ by near (comes_before d (name_of_hook m.hook) n.hook) refl where
      by : (m ≡ n) ⊎ ((y : Name) × (m.hook ≡ In d y) × Before x y) → (t : Bool)
          → comes_before d (name_of_hook m.hook) n.hook ≡ t
          → nearest_node d name (cond t (Some n) (Some m)) ns ≡ Some n
      by near true test = stays d name x n ns is far
      by (inl e) false test = ap (λ (w : Node). nearest_node d name (Some w) ns) e
          ∙ stays d name x n ns is far
      by (inr h) false test =
          let front : comes_before d (name_of_hook m.hook) n.hook ≡ true =
          ap (λ (g : Hook). comes_before d (name_of_hook g) n.hook) h.1 ∙ ap (comes_before d h.0) is
          ∙ (rw (eq-eqb d d refl) (in_front x h.0 h.2)) in
          absurd (let t : true ≡ false = sym front ∙ test in cc)

one_nearest : (d : ℕ) (name x : Name) (n : Node) (so_far : Option Node) (ns : List Node)
    → n.hook ≡ In d x → Before name x
    → IsNearestSoFar d x n so_far → HasElement ns n → AreNotNearer d name x n ns
    → nearest_node d name so_far ns ≡ Some n
one_nearest d name x n so_far [] is b near at far = absurd at
one_nearest d name x n so_far (m ∷ ns) is b near at far =
    by at (λ o h later. one_nearest d name x n o ns is b h later (λ w k. far w (inr k))) where
      Later : Type 0
      Later = (o : Option Node) → IsNearestSoFar d x n o → HasElement ns n
          → nearest_node d name o ns ≡ Some n

      after_so : comes_after d name m.hook ≡ true → IsNearestSoFar d x n (Some m)
      after_so test = elim (far m (inl refl) test) [
        | inl e ↦ inl e
        | inr k ↦ (let a = after_hook d name m.hook test in
            inr (a.0, a.1, subst (λ (h : Hook). Before x (name_of_hook h)) a.1 k))
      ]

      both : (s t : Bool) → (s && t) ≡ true → s ≡ true
      both true t e = refl
      both false t e = e

      after_near : (o : Option Node) → is_nearer d name o m.hook ≡ true
          → comes_after d name m.hook ≡ true
      after_near None e = e
      after_near (Some w) e =
          both (comes_after d name m.hook) (comes_before d (name_of_hook w.hook) m.hook) e

      step : (t : Bool) → is_nearer d name so_far m.hook ≡ t → Later → HasElement ns n
          → nearest_node d name (cond t (Some m) so_far) ns ≡ Some n
      step true test go later = go (Some m) (after_so (after_near so_far test)) later
      step false test go later = go so_far near later

      by : (m ≡ n) ⊎ HasElement ns n → Later → nearest_node d name so_far (m ∷ ns) ≡ Some n
      by (inl e) go =
          ap (λ (w : Node).
          nearest_node d name (cond (is_nearer d name so_far w.hook) (Some w) so_far) ns) e
          ∙ takes_over d name x n so_far ns is b near (λ w k. far w (inr k))
      by (inr later) go = step (is_nearer d name so_far m.hook) refl go later

none_nearest : (d : ℕ) (name : Name) (ns : List Node)
    → ((m : Node) → HasElement ns m → comes_after d name m.hook ≡ true → ⊥)
    → nearest_node d name None ns ≡ None
none_nearest d name [] never = refl
none_nearest d name (m ∷ ns) never =
    by (comes_after d name m.hook) refl (none_nearest d name ns (λ w k. never w (inr k))) where
      by : (b : Bool) → comes_after d name m.hook ≡ b → nearest_node d name None ns ≡ None
          → nearest_node d name (cond b (Some m) None) ns ≡ None
      by true test later = absurd (never m (inl refl) test)
      by false test later = later

-- ---- it is the first one behind the cut, if that hangs in the directory

-- what comes after a name is after the cut
after_behind : (d : ℕ) (name : Name) (ns ms : List Node) (m : Node) → AreListed ns ms
    → HasElement ns m → comes_after d name m.hook ≡ true
    → (y : Name) × (m.hook ≡ In d y) × HasElement ms m × (NodeUpTo (d ∷ name) m → ⊥)
after_behind d name ns ms m are at test =
    let a = after_hook d name m.hook test in
    let address : address_of m.hook ≡ d ∷ a.0 = ap address_of a.1 in
    let behind : Before (d ∷ name) (address_of m.hook) =
    subst (Before (d ∷ name)) (sym address) (inr (refl, a.2)) in (
      a.0,
      a.1,
      hooked_listed d a.0 ns ms m are at address,
      λ up. not_behind_if (d ∷ name) (address_of m.hook) up behind,
    )

pub nearest_none : (d : ℕ) (name : Name) (ns ms : List Node) (p : ℕ) → AreListed ns ms
    → IsCutAt (d ∷ name) ms p
    → slice_get ms p ≡ None → nearest_node d name None ns ≡ None
nearest_none d name ns ms p are cut is =
    none_nearest d name ns (λ m at test.
    let a = after_behind d name ns ms m are at test in
    a.3 (all_in_front (NodeUpTo (d ∷ name)) (NodeBehind (d ∷ name)) ms p m cut is a.2))

nearest_in : (d : ℕ) (name x : Name) (ns ms : List Node) (p : ℕ) (n : Node) → AreListed ns ms
    → IsCutAt (d ∷ name) ms p
    → slice_get ms p ≡ Some n → n.hook ≡ In d x → nearest_node d name None ns ≡ Some n
nearest_in d name x ns ms p n are cut is hook =
    let back : NodeBehind (d ∷ name) n =
    first_back (NodeUpTo (d ∷ name)) (NodeBehind (d ∷ name)) ms p n cut is in
    let address : address_of n.hook ≡ d ∷ x = ap address_of hook in
    let later : Before name x =
    in_one d name x (subst (Before (d ∷ name)) address (behind_if (d
    ∷ name) (address_of n.hook) back)) in
    one_nearest d name x n None ns hook later tt (are.among n (held_at ms p n is)) (λ m at test.
    let a = after_behind d name ns ms m are at test in
    elim (first_behind (NodeUpTo (d ∷ name)) (NodeBehind (d ∷ name)) Follows ms p n m are.ordered
    cut is a.2 a.3) [
      | inl e ↦ inl e
      | inr b ↦ inr (subst (λ (h : Hook). Before x (name_of_hook h)) (sym a.1)
          (in_one d x a.0 (subst (Before (d ∷ x)) (ap address_of a.1)
          (subst (λ (y : List ℕ). Before y (address_of m.hook)) address
          (behind_if (address_of n.hook) (address_of m.hook) b)))))
    ])

nearest_elsewhere : (d e : ℕ) (name x : Name) (ns ms : List Node) (p : ℕ) (n : Node)
    → AreListed ns ms → IsCutAt (d ∷ name) ms p
    → slice_get ms p ≡ Some n → n.hook ≡ In e x → d ≢ e → nearest_node d name None ns ≡ None
nearest_elsewhere d e name x ns ms p n are cut is hook ne =
    let back : NodeBehind (d ∷ name) n =
    first_back (NodeUpTo (d ∷ name)) (NodeBehind (d ∷ name)) ms p n cut is in
    let address : address_of n.hook ≡ e ∷ x = ap address_of hook in
    let lt : d < e =
    later_directory d e name x ne (subst (Before (d ∷ name)) address (behind_if (d
    ∷ name) (address_of n.hook) back)) in
    none_nearest d name ns (λ m at test.
    let a = after_behind d name ns ms m are at test in
    elim (first_behind (NodeUpTo (d ∷ name)) (NodeBehind (d ∷ name)) Follows ms p n m are.ordered
    cut is a.2 a.3) [
      | inl s ↦ absurd (let t : In d a.0 ≡ In e x = sym a.1 ∙ ap (λ (w : Node). w.hook) s ∙ hook in
          ne (ap (λ (h : Hook). directory_in h) t))
      | inr b ↦ no_earlier d e a.0 x lt (subst (Before (e ∷ x)) (ap address_of a.1)
          (subst (λ (y : List ℕ). Before y (address_of m.hook)) address
          (behind_if (address_of n.hook) (address_of m.hook) b)))
    ]) where
      directory_in : Hook → ℕ
      directory_in Root = 0
      directory_in Removed = 0
      directory_in (In x name) = x

in_this : (d : ℕ) (x : Name) (n : Node) → n.hook ≡ In d x → in_directory d (Some n) ≡ Some n
in_this d x n is = ap (λ (h : Hook). cond (is_in d h) (Some n) None) is
    ∙ (rw (eq-eqb d d refl) refl)

in_other : (d e : ℕ) (x : Name) (n : Node) → n.hook ≡ In e x → d ≢ e
    → in_directory d (Some n) ≡ None
in_other d e x n is ne = ap (λ (h : Hook). cond (is_in d h) (Some n) None) is
    ∙ (rw (ne_eqb e d (λ s. ne (sym s))) refl)

pub nearest_found : (d : ℕ) (name : Name) (ns ms : List Node) (p : ℕ) → AreListed ns ms
    → IsCutAt (d ∷ name) ms p
    → nearest_node d name None ns ≡ in_directory d (slice_get ms p)
nearest_found d name ns ms p are cut = by (slice_get ms p) refl where
  placed : (n : Node) → slice_get ms p ≡ Some n → (e : ℕ) (x : Name) → n.hook ≡ In e x
      → (d ≡ e) ⊎ (d ≢ e)
      → nearest_node d name None ns ≡ in_directory d (Some n)
  placed n is e x hook (inl same) =
      let here : n.hook ≡ In d x = hook ∙ ap (λ (k : ℕ). In k x) (sym same) in
      nearest_in d name x ns ms p n are cut is here ∙ sym (in_this d x n here)
  placed n is e x hook (inr ne) = nearest_elsewhere d e name x ns ms p n are cut is hook ne
      ∙ sym (in_other d e x n hook ne)

  by : (o : Option Node) → slice_get ms p ≡ o → nearest_node d name None ns ≡ in_directory d o
  by None is = nearest_none d name ns ms p are cut is
  by (Some n) is = (let h = hook_with n.hook (are.hung n (held_at ms p n is)) in
      placed n is h.0 h.1 h.2 (cases_eq d h.0))

-- ---- those at later places

cut_behind : (from : List ℕ) (ms : List Node) (i : ℕ) (n : Node) → AreOrdered Follows ms
    → slice_get ms i ≡ Some n
    → address_of n.hook ≡ from → IsCutAt from ms (suc i)
cut_behind from [] i n order is e = absurd cc
cut_behind from (m ∷ ms) zero n order is e =
    let same : m ≡ n = some_same m n is in
    let address : address_of m.hook ≡ from = ap (λ (w : Node). address_of w.hook) same ∙ e in (
      subst (λ (x : List ℕ). IsUpTo from x) (sym address)
          (not_in_front from from (not_itself from)),
      subst (λ (x : List ℕ). AllByRecursion (λ (w : Node). IsBehind x (address_of w.hook)) ms)
          address order.0,
    )
cut_behind from (m ∷ ms) (suc i) n order is e =
    let first : IsBehind (address_of m.hook) (address_of n.hook) =
    held_by_all (Follows m) ms n order.0 (held_at ms i n is) in
    let front : Before (address_of m.hook) from =
    subst (Before (address_of m.hook)) e
    (behind_if (address_of m.hook) (address_of n.hook) first) in (
      not_in_front from (address_of m.hook) (λ k.
          not_itself from (before_both from (address_of m.hook) from k front)),
      cut_behind from ms i n order.1 is e,
    )

pub listed_found : (d : ℕ) (ns ms : List Node) (p i : ℕ) → AreListed ns ms → IsCutAt (d ∷ []) ms p
    → node_listed ns d i ≡ in_directory d (slice_get ms (i + p))
listed_found d ns ms p zero are cut =
    let same : 0 + p ≡ p = omega arith in
    nearest_found d [] ns ms p are cut ∙ ap (λ (k : ℕ). in_directory d (slice_get ms k)) (sym same)
listed_found d ns ms p (suc i) are cut =
    ap (next_node ns d) (listed_found d ns ms p i are cut) ∙ by (slice_get ms (i + p)) refl
    ∙ ap (λ (k : ℕ). in_directory d (slice_get ms k)) more where
      more : suc (i + p) ≡ suc i + p
      more = omega arith

      further : (e : ℕ) (x : Name) (n : Node) → slice_get ms (i + p) ≡ Some n → n.hook ≡ In e x
          → d ≢ e
          → (o : Option Node) → slice_get ms (suc (i + p)) ≡ o → None ≡ in_directory d o
      further e x n is hook ne None next = refl
      further e x n is hook ne (Some m) next =
          let h = hook_with m.hook (are.hung m (held_at ms (suc (i + p)) m next)) in
          let back : NodeBehind (d ∷ []) n =
          back_at (NodeUpTo (d ∷ [])) (NodeBehind (d ∷ [])) ms p i n cut is in
          let address : address_of n.hook ≡ e ∷ x = ap address_of hook in
          let lt : d < e =
          later_directory d e [] x ne (subst (Before (d ∷ [])) address (behind_if (d
          ∷ []) (address_of n.hook) back)) in
          let order = behind_if (address_of n.hook) (address_of m.hook) (next_behind Follows ms (i
          + p) n m are.ordered is next) in
          let last : Before (e ∷ x) (h.0 ∷ h.1) =
          subst (Before (e ∷ x)) (ap address_of h.2)
          (subst (λ (y : List ℕ). Before y (address_of m.hook)) address order) in
          sym (in_other d h.0 h.1 m h.2 (λ s.
          no_earlier d e h.1 x lt (subst (λ (k : ℕ). Before (e ∷ x) (k ∷ h.1)) (sym s) last)))

      placed : (e : ℕ) (x : Name) (n : Node) → slice_get ms (i + p) ≡ Some n → n.hook ≡ In e x
          → (d ≡ e) ⊎ (d ≢ e)
          → next_node ns d (in_directory d (Some n)) ≡ in_directory d (slice_get ms (suc (i + p)))
      placed e x n is hook (inl same) =
          let here : n.hook ≡ In d x = hook ∙ ap (λ (k : ℕ). In k x) (sym same) in
          ap (next_node ns d) (in_this d x n here)
          ∙ ap (λ (h : Hook). nearest_node d (name_of_hook h) None ns) here
          ∙ nearest_found d x ns ms (suc (i + p)) are (cut_behind (d
          ∷ x) ms (i + p) n are.ordered is (ap address_of here))
      placed e x n is hook (inr ne) =
          ap (next_node ns d) (in_other d e x n hook ne)
          ∙ further e x n is hook ne (slice_get ms (suc (i + p))) refl

      by : (o : Option Node) → slice_get ms (i + p) ≡ o
          → next_node ns d (in_directory d o) ≡ in_directory d (slice_get ms (suc (i + p)))
      by None is = ap (in_directory d) (sym (none_further ms (i + p) is))
      by (Some n) is = (let h = hook_with n.hook (are.hung n (held_at ms (i + p) n is)) in
          placed h.0 h.1 n is h.2 (cases_eq d h.0))
