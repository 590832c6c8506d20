-- Descriptors of a host, of which one is changed, made or closed.
use Rattle.std.proofs.Common.{◌≡◌, ◌≢◌, ◌⊎◌, inl, inr, ℕ, zero, suc, ◌+◌, ◌<◌, ◌≤◌, ◌^◌, Bool, true}
use Rattle.std.proofs.Common.{false, List, [], ◌∷◌, length, Option, Some, None, refl}
use Rattle.std.proofs.Common.{sym, ap, subst, ◌∙◌, arith}
use Rattle.std.specs.Prelude.{◌||◌, if◌then◌else◌, nat_lt, slice_get, slice_set, IfSome, Ok}
use Rattle.std.specs.List.{AllByRecursion, list_any}
use Rattle.std.proofs.lemmas.Bool.{cases_eq, eqb-true, eq-eqb}
use Rattle.std.proofs.lemmas.Option.{same_Some}
use Rattle.wasi_abi.specs.rules.Numbers.{are_within, all_rights}
use Rattle.wasi_abi.specs.declared.errno.Errno.TheVariants.{Mfile}
use Rattle.file_tree.specs.rules.Files.{Files}
use Rattle.wasi_calls_rules.specs.WasiStates.{Target, Stream, Node, Descriptor, WasiState, IsThere}
use Rattle.wasi_calls_rules.specs.WasiStates.{IsDescriptor, IsStreamAt}
use Rattle.wasi_calls_rules.specs.declared.limits.TheConstants.{DESCRIPTORS}
use Rattle.wasi_calls_rules.specs.Small.{is_node, names}
use Rattle.wasi_calls_rules.specs.Entries.{free_from, free_number}
use Rattle.wasi_calls_rules.proofs.Steps.{some_there}

abbrev pub Table : Type 0
Table = List (Option Descriptor)

-- ---- lists of which one item is set

module _ {X : Type 0} where
  pub set_same : (xs : List X) (i : ℕ) (x y : X) → slice_get xs i ≡ Some y
      → slice_get (slice_set xs i x) i ≡ Some x
  set_same [] i x y e = absurd (cc)
  set_same (z ∷ xs) zero x y e = refl
  set_same (z ∷ xs) (suc i) x y e = set_same xs i x y e

  pub set_other : (xs : List X) (i j : ℕ) (x : X) → j ≢ i
      → slice_get (slice_set xs i x) j ≡ slice_get xs j
  set_other [] i j x ne = refl
  set_other (z ∷ xs) zero zero x ne = absurd (ne refl)
  set_other (z ∷ xs) zero (suc j) x ne = refl
  set_other (z ∷ xs) (suc i) zero x ne = refl
  set_other (z ∷ xs) (suc i) (suc j) x ne = set_other xs i j x (λ e. ne (ap suc e))

  pub set_length : (xs : List X) (i : ℕ) (x : X) → length (slice_set xs i x) ≡ length xs
  set_length [] i x = refl
  set_length (z ∷ xs) zero x = refl
  set_length (z ∷ xs) (suc i) x = ap suc (set_length xs i x)

  pub set_all : (P : X → Type 0) (xs : List X) (i : ℕ) (x : X) → P x → AllByRecursion P xs
      → AllByRecursion P (slice_set xs i x)
  set_all P [] i x p h = tt
  set_all P (z ∷ xs) zero x p h = (p, h.1)
  set_all P (z ∷ xs) (suc i) x p h = (h.0, set_all P xs i x p h.1)

  pub one_of_all : (P : X → Type 0) (xs : List X) (i : ℕ) (x : X) → AllByRecursion P xs
      → slice_get xs i ≡ Some x → P x
  one_of_all P [] i x h e = absurd (cc)
  one_of_all P (z ∷ xs) zero x h e = (let same : z ≡ x = cc in subst P same h.0)
  one_of_all P (z ∷ xs) (suc i) x h e = one_of_all P xs i x h.1 e

-- ---- descriptors

-- the descriptor under a number that names a node
abbrev pub NamesNode : Table → ℕ → Type 0
NamesNode ds k =
    (n : ℕ) × (d : Descriptor) × (slice_get ds n ≡ Some (Some d)) × (d.target ≡ Node k)

abbrev pub AreDescriptors : Files → Table → Type 0
AreDescriptors fs ds = AllByRecursion (λ (o : Option Descriptor). IfSome o (IsDescriptor fs)) ds

-- what `IsWasiState` says of descriptors
pub record AreOpen (fs : Files) (ds : Table) : Type 0 where
  pub places : length ds ≡ DESCRIPTORS
  pub descriptors : AreDescriptors fs ds
  pub streams : (n s : ℕ) (d : Descriptor) → slice_get ds n ≡ Some (Some d)
      → d.target ≡ Stream s → IsStreamAt n s d
  pub root : (d : Descriptor) × (slice_get ds 3 ≡ Some (Some d)) × (d.target ≡ Node 1)

pub some_descriptor : (d e : Descriptor) → Some (Some d) ≡ Some (Some e) → d ≡ e
some_descriptor d e same = (let once : Some d ≡ Some e = inner (Some d) (Some e) same in cc) where
  inner : (o p : Option Descriptor) → Some o ≡ Some p → o ≡ p
  inner o p same = cc

pub is_descriptor : (fs : Files) (ds : Table) (n : ℕ) (d : Descriptor) → AreOpen fs ds
    → slice_get ds n ≡ Some (Some d) → IsDescriptor fs d
is_descriptor fs ds n d are e =
    one_of_all (λ (o : Option Descriptor). IfSome o (IsDescriptor fs)) ds n (Some d)
    are.descriptors e

-- where each that is set was there, or is new
abbrev SetAt : Table → ℕ → Option Descriptor → ℕ → Descriptor → Type 0
SetAt ds fd o n d =
    ((n ≡ fd) × (o ≡ Some d)) ⊎ ((n ≢ fd) × (slice_get ds n ≡ Some (Some d)))

set_at : (ds : Table) (fd : ℕ) (o p : Option Descriptor) (n : ℕ) (d : Descriptor)
    → slice_get ds fd ≡ Some p → slice_get (slice_set ds fd o) n ≡ Some (Some d)
    → SetAt ds fd o n d
set_at ds fd o p n d there e = by_number (cases_eq n fd) where
  by_number : (n ≡ fd) ⊎ (n ≢ fd) → SetAt ds fd o n d
  by_number (inl same) =
      (let here : Some o ≡ Some (Some d) =
      sym (set_same ds fd o p there) ∙ ap (slice_get (slice_set ds fd o)) (sym same) ∙ e in
      inl (same, inner o (Some d) here))
    where
      inner : (o p : Option Descriptor) → Some o ≡ Some p → o ≡ p
      inner o p same = cc
  by_number (inr ne) = inr (ne, sym (set_other ds fd n o ne) ∙ e)

-- the same target and rights, at another offset or with other flags
pub record IsLike (old new : Descriptor) : Type 0 where
  pub target : new.target ≡ old.target
  pub base : new.base ≡ old.base
  pub inheriting : new.inheriting ≡ old.inheriting
  pub offset : new.offset < 2 ^ 63
  pub flags : new.flags ≤ 31

module _ (fs : Files) (ds : Table) (are : AreOpen fs ds) where
  module _ (fd : ℕ) (old : Descriptor) (there : slice_get ds fd ≡ Some (Some old)) where
    -- a descriptor that is like the one that was there
    pub like_open : (new : Descriptor) → IsLike old new → AreOpen fs (slice_set ds fd (Some new))
    like_open new like = record {
      places = set_length ds fd (Some new) ∙ are.places;
      descriptors = set_all (λ (o : Option Descriptor). IfSome o (IsDescriptor fs)) ds fd (Some new)
          new_is are.descriptors;
      streams = λ n s d e t. stream n s d t (set_at ds fd (Some new) (Some old) n d there e);
      root = root_is (cases_eq 3 fd);
    } where
      new_is : IsDescriptor fs new
      new_is =
          let was = is_descriptor fs ds fd old are there in
          record {
            there = subst (IsThere fs) (sym like.target) was.there;
            offset = like.offset;
            flags = like.flags;
            base = subst (λ (b : ℕ). are_within b all_rights ≡ true) (sym like.base) was.base;
            inheriting = subst (λ (b : ℕ). are_within b all_rights ≡ true) (sym like.inheriting)
                was.inheriting;
          }

      stream : (n s : ℕ) (d : Descriptor) → d.target ≡ Stream s → SetAt ds fd (Some new) n d
          → IsStreamAt n s d
      stream n s d t (inr other) = are.streams n s d other.1 t
      stream n s d t (inl here) =
          let same : new ≡ d = same_Some new d here.1 in
          let was = are.streams fd s old there
          (sym like.target ∙ ap (λ (x : Descriptor). x.target) same ∙ t) in
          record {
            number = here.0 ∙ was.number;
            few = was.few;
            base = ap (λ (x : Descriptor). x.base) (sym same) ∙ like.base ∙ was.base;
            inheriting =
                ap (λ (x : Descriptor). x.inheriting) (sym same) ∙ like.inheriting ∙ was.inheriting;
          }

      root_is : (3 ≡ fd) ⊎ (3 ≢ fd)
          → (d : Descriptor) × (slice_get (slice_set ds fd (Some new)) 3 ≡ Some (Some d))
          × (d.target ≡ Node 1)
      root_is (inl same) =
          let d = are.root.0 in
          let own : old ≡ d = some_descriptor old d
          (sym there ∙ ap (slice_get ds) (sym same) ∙ are.root.1) in (
            new,
            ap (slice_get (slice_set ds fd (Some new))) same
                ∙ set_same ds fd (Some new) (Some old) there,
            like.target ∙ ap (λ (x : Descriptor). x.target) own ∙ are.root.2,
          )
      root_is (inr ne) =
          (are.root.0, set_other ds fd 3 (Some new) ne ∙ are.root.1, are.root.2)

    pub like_names : (new : Descriptor) → IsLike old new → (k : ℕ) → NamesNode ds k
        → NamesNode (slice_set ds fd (Some new)) k
    like_names new like k named = by_number (cases_eq named.0 fd) where
      by_number : (named.0 ≡ fd) ⊎ (named.0 ≢ fd) → NamesNode (slice_set ds fd (Some new)) k
      by_number (inl same) =
          let own : old ≡ named.1 = some_descriptor old named.1
          (sym there ∙ ap (slice_get ds) (sym same) ∙ named.2) in (
            fd,
            new,
            set_same ds fd (Some new) (Some old) there,
            like.target ∙ ap (λ (x : Descriptor). x.target) own ∙ named.3,
          )
      by_number (inr ne) =
          (named.0, named.1, set_other ds fd named.0 (Some new) ne ∙ named.2, named.3)

    -- one that is closed, but for the root's
    pub closed_open : fd ≢ 3 → AreOpen fs (slice_set ds fd None)
    closed_open other = record {
      places = set_length ds fd None ∙ are.places;
      descriptors = set_all (λ (o : Option Descriptor). IfSome o (IsDescriptor fs)) ds fd None
          tt are.descriptors;
      streams = λ n s d e t. stream n s d t (set_at ds fd None (Some old) n d there e);
      root = (are.root.0, set_other ds fd 3 None (λ e. other (sym e)) ∙ are.root.1, are.root.2);
    } where
      stream : (n s : ℕ) (d : Descriptor) → d.target ≡ Stream s → SetAt ds fd None n d
          → IsStreamAt n s d
      stream n s d t (inl here) = absurd (let e = here.1 in cc)
      stream n s d t (inr other) = are.streams n s d other.1 t

    pub closed_names : (k : ℕ) → (old.target ≡ Node k → ⊥) → NamesNode ds k
        → NamesNode (slice_set ds fd None) k
    closed_names k other named = by_number (cases_eq named.0 fd) where
      by_number : (named.0 ≡ fd) ⊎ (named.0 ≢ fd) → NamesNode (slice_set ds fd None) k
      by_number (inl same) =
          let own : old ≡ named.1 = some_descriptor old named.1
          (sym there ∙ ap (slice_get ds) (sym same) ∙ named.2) in
          absurd (other (ap (λ (x : Descriptor). x.target) own ∙ named.3))
      by_number (inr ne) = (named.0, named.1, set_other ds fd named.0 None ne ∙ named.2, named.3)

  -- a descriptor of a node under a free number
  module _ (n : ℕ) (free : slice_get ds n ≡ Some None) where
    pub new_open : (new : Descriptor) (k : ℕ) → new.target ≡ Node k → IsDescriptor fs new
        → AreOpen fs (slice_set ds n (Some new))
    new_open new k target is = record {
      places = set_length ds n (Some new) ∙ are.places;
      descriptors = set_all (λ (o : Option Descriptor). IfSome o (IsDescriptor fs)) ds n (Some new)
          is are.descriptors;
      streams = λ i s d e t. stream i s d t (set_at ds n (Some new) None i d free e);
      root = (are.root.0, set_other ds n 3 (Some new) no_root ∙ are.root.1, are.root.2);
    } where
      stream : (i s : ℕ) (d : Descriptor) → d.target ≡ Stream s → SetAt ds n (Some new) i d
          → IsStreamAt i s d
      stream i s d t (inl here) =
          let same : new ≡ d = same_Some new d here.1 in
          absurd (let clash : Node k ≡ Stream s =
          sym target ∙ ap (λ (x : Descriptor). x.target) same ∙ t in cc)
      stream i s d t (inr other) = are.streams i s d other.1 t

      no_root : 3 ≢ n
      no_root same = absurd (let e : Some None ≡ Some (Some are.root.0) =
          sym free ∙ ap (slice_get ds) (sym same) ∙ are.root.1 in cc)

    pub new_names : (o : Option Descriptor) (k : ℕ) → NamesNode ds k
        → NamesNode (slice_set ds n o) k
    new_names o k named =
        let other : named.0 ≢ n = λ same. absurd (let e : Some None ≡ Some (Some named.1) =
        sym free ∙ ap (slice_get ds) (sym same) ∙ named.2 in cc) in
        (named.0, named.1, set_other ds n named.0 o other ∙ named.2, named.3)

-- ---- other files

there_too : (fs after : Files) (ds : Table) → AreDescriptors fs ds
    → ((d : Descriptor) → IsThere fs d.target → IsThere after d.target) → AreDescriptors after ds
there_too fs after [] h f = tt
there_too fs after (None ∷ ds) h f = (tt, there_too fs after ds h.1 f)
there_too fs after (Some d ∷ ds) h f = (
  record {
    there = f d h.0.there;
    offset = h.0.offset;
    flags = h.0.flags;
    base = h.0.base;
    inheriting = h.0.inheriting;
  },
  there_too fs after ds h.1 f,
)

-- where a node is there, it is still there
pub open_in : (fs after : Files) (ds : Table) → AreOpen fs ds
    → ((k : ℕ) → IsThere fs (Node k) → IsThere after (Node k)) → AreOpen after ds
open_in fs after ds are f = record {
  places = are.places;
  descriptors = there_too fs after ds are.descriptors (λ d. target d.target);
  streams = are.streams;
  root = are.root;
} where
  target : (t : Target) → IsThere fs t → IsThere after t
  target (Stream s) there = tt
  target (Node k) there = f k there

-- but for one node, which no descriptor names
there_but : (fs after : Files) (k : ℕ) (ds : Table) → AreDescriptors fs ds
    → list_any (names k) ds ≡ false
    → ((j : ℕ) → j ≢ k → IsThere fs (Node j) → IsThere after (Node j)) → AreDescriptors after ds
there_but fs after k [] h none f = tt
there_but fs after k (None ∷ ds) h none f = (tt, there_but fs after k ds h.1 none f)
there_but fs after k (Some d ∷ ds) h none f =
    let parts = neither (is_node k d.target) (list_any (names k) ds) none in (
      record {
        there = target d.target parts.0 h.0.there;
        offset = h.0.offset;
        flags = h.0.flags;
        base = h.0.base;
        inheriting = h.0.inheriting;
      },
      there_but fs after k ds h.1 parts.1 f,
    )
  where
    neither : (a b : Bool) → (a || b) ≡ false → (a ≡ false) × (b ≡ false)
    neither true b e = absurd (cc)
    neither false b e = (refl, e)

    target : (t : Target) → is_node k t ≡ false → IsThere fs t → IsThere after t
    target (Stream s) e there = tt
    target (Node j) e there =
        f j (λ same. absurd (let t = eq-eqb j k same in cc)) there

pub open_but : (fs after : Files) (k : ℕ) (ds : Table) → AreOpen fs ds
    → list_any (names k) ds ≡ false
    → ((j : ℕ) → j ≢ k → IsThere fs (Node j) → IsThere after (Node j)) → AreOpen after ds
open_but fs after k ds are none f = record {
  places = are.places;
  descriptors = there_but fs after k ds are.descriptors none f;
  streams = are.streams;
  root = are.root;
}

-- a descriptor that is found to name a node does
pub named_by : (k : ℕ) (ds : Table) → list_any (names k) ds ≡ true → NamesNode ds k
named_by k [] e = absurd (cc)
named_by k (None ∷ ds) e = (let r = named_by k ds e in (suc r.0, r.1, r.2, r.3))
named_by k (Some d ∷ ds) e = by_test (is_node k d.target) refl e (named_by k ds) where
  node : (t : Target) → is_node k t ≡ true → t ≡ Node k
  node (Stream s) e = absurd (cc)
  node (Node j) e = ap (λ (x : ℕ). Node x) (eqb-true j k e)

  by_test : (b : Bool) → is_node k d.target ≡ b → (b || list_any (names k) ds) ≡ true
      → (list_any (names k) ds ≡ true → NamesNode ds k) → NamesNode (Some d ∷ ds) k
  by_test true is e later = (0, d, refl, node d.target is)
  by_test false is e later = (let r = later e in (suc r.0, r.1, r.2, r.3))

-- ---- free numbers

free_is : (from : ℕ) (ds : Table) (n : ℕ) → free_from from ds ≡ Some n
    → (i : ℕ) × (n ≡ from + i) × (slice_get ds i ≡ Some None)
free_is from [] n e = absurd (cc)
free_is from (None ∷ ds) n e = by_test (nat_lt from 3) e (free_is (from + 1) ds n) where
  by_test : (b : Bool) → (if b then free_from (from + 1) ds else Some from) ≡ Some n
      → (free_from (from + 1) ds ≡ Some n
      → (i : ℕ) × (n ≡ from + 1 + i) × (slice_get ds i ≡ Some None))
      → (i : ℕ) × (n ≡ from + i) × (slice_get (None ∷ ds) i ≡ Some None)
  by_test true e later =
      (let r = later e in let sum = r.1 in (suc r.0, omega (arith, sum), r.2))
  by_test false e later = (let same : from ≡ n = cc in (0, omega (arith, same), refl))
free_is from (Some d ∷ ds) n e =
    let r = free_is (from + 1) ds n e in
    let sum = r.1 in
    (suc r.0, omega (arith, sum), r.2)

pub free_place : (h : WasiState) (n : ℕ) → free_number h ≡ Ok n
    → slice_get h.descriptors n ≡ Some None
free_place h n e =
    let r = free_is 0 h.descriptors n (some_there Mfile (free_from 0 h.descriptors) n e) in
    let sum = r.1 in
    let same : r.0 ≡ n = omega (arith, sum) in
    ap (slice_get h.descriptors) (sym same) ∙ r.2
