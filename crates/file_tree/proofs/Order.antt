-- The order of names, and lists of entries in it.
use Rattle.std.proofs.Common.{◌≡◌, ◌≢◌, ℕ, zero, suc, ◌<◌, ◌≤◌, ◌⊎◌, inl, inr, Bool, true, false}
use Rattle.std.proofs.Common.{cond, ltb, List, [], ◌∷◌, length, drop, length-drop, Some, refl, sym}
use Rattle.std.proofs.Common.{ap, subst, ◌∙◌, arith}
use Rattle.std.specs.Prelude.{slice_get}
use Rattle.std.specs.List.{AllByRecursion}
use Rattle.std.proofs.lemmas.Bool.{cases_lt, lt-ltb, le-ltb}
use Rattle.std.proofs.lemmas.List.{drop_all}
use Rattle.file_tree.specs.rules.Files.{Name, Entry, is_before, inserted, sorted}

abbrev pub Before : Name → Name → Type 0
Before [] [] = ⊥
Before [] (b ∷ other) = Unit {0}
Before (a ∷ name) [] = ⊥
Before (a ∷ name) (b ∷ other) = (a < b) ⊎ ((a ≡ b) × Before name other)

pub before_or_not : (x y : Name) → ((is_before x y ≡ true) × Before x y)
    ⊎ ((is_before x y ≡ false) × (Before x y → ⊥))
before_or_not [] [] = inr (refl, λ h. h)
before_or_not [] (b ∷ other) = inl (refl, tt)
before_or_not (a ∷ name) [] = inr (refl, λ h. h)
before_or_not (a ∷ name) (b ∷ other) =
    by (cases_lt a b) (cases_lt b a) (before_or_not name other) where
      not_so : b ≤ a → ((a ≡ b) → Before name other → ⊥) → (a < b) ⊎ ((a ≡ b) × Before name other)
          → ⊥
      not_so le never (inl lt) = absurd (omega (arith, le, lt))
      not_so le never (inr h) = never h.0 h.1

      by : (a < b) ⊎ (b ≤ a) → (b < a) ⊎ (a ≤ b)
          → ((is_before name other ≡ true) × Before name other)
          ⊎ ((is_before name other ≡ false) × (Before name other → ⊥))
          → ((cond (ltb a b) true (cond (ltb b a) false (is_before name other)) ≡ true)
          × ((a < b) ⊎ ((a ≡ b) × Before name other)))
          ⊎ ((cond (ltb a b) true (cond (ltb b a) false (is_before name other)) ≡ false)
          × ((a < b) ⊎ ((a ≡ b) × Before name other) → ⊥))
      by (inl lt) other_way rest =
          inl (
            ap (λ (t : Bool). cond t true (cond (ltb b a) false (is_before name other)))
                (lt-ltb a b lt),
            inl lt,
          )
      by (inr le) (inl gt) rest = inr (
        ap (λ (t : Bool). cond t true (cond (ltb b a) false (is_before name other))) (le-ltb a b le)
            ∙ ap (λ (t : Bool). cond t false (is_before name other)) (lt-ltb b a gt),
        not_so le (λ e h. absurd (omega (arith, e, gt))),
      )
      by (inr le) (inr ge) (inl h) = inl (
        ap (λ (t : Bool). cond t true (cond (ltb b a) false (is_before name other))) (le-ltb a b le)
            ∙ ap (λ (t : Bool). cond t false (is_before name other)) (le-ltb b a ge) ∙ h.0,
        inr (omega (arith, le, ge), h.1),
      )
      by (inr le) (inr ge) (inr h) = inr (
        ap (λ (t : Bool). cond t true (cond (ltb b a) false (is_before name other))) (le-ltb a b le)
            ∙ ap (λ (t : Bool). cond t false (is_before name other)) (le-ltb b a ge) ∙ h.0,
        not_so le (λ e b. h.1 b),
      )

pub not_itself : (x : Name) → Before x x → ⊥
not_itself [] h = h
not_itself (a ∷ name) (inl lt) = absurd (omega (arith, lt))
not_itself (a ∷ name) (inr h) = not_itself name h.1

pub before_both : (x y z : Name) → Before x y → Before y z → Before x z
before_both [] [] z h k = absurd h
before_both [] (b ∷ y) [] h k = absurd k
before_both [] (b ∷ y) (c ∷ z) h k = tt
before_both (a ∷ x) [] z h k = absurd h
before_both (a ∷ x) (b ∷ y) [] h k = absurd k
before_both (a ∷ x) (b ∷ y) (c ∷ z) (inl h) (inl k) = inl (omega (arith, h, k))
before_both (a ∷ x) (b ∷ y) (c ∷ z) (inl h) (inr k) = inl (omega (arith, h, k.0))
before_both (a ∷ x) (b ∷ y) (c ∷ z) (inr h) (inl k) = inl (omega (arith, h.0, k))
before_both (a ∷ x) (b ∷ y) (c ∷ z) (inr h) (inr k) = inr (h.0 ∙ k.0, before_both x y z h.1 k.1)

pub one_before : (x y : Name) → x ≢ y → (Before x y → ⊥) → Before y x
one_before [] [] ne never = absurd (ne refl)
one_before [] (b ∷ y) ne never = absurd (never tt)
one_before (a ∷ x) [] ne never = tt
one_before (a ∷ x) (b ∷ y) ne never = by (cases_lt a b) (cases_lt b a) (one_before x y) where
  by : (a < b) ⊎ (b ≤ a) → (b < a) ⊎ (a ≤ b) → (x ≢ y → (Before x y → ⊥) → Before y x)
      → (b < a) ⊎ ((b ≡ a) × Before y x)
  by (inl lt) o later = absurd (never (inl lt))
  by (inr le) (inl gt) later = inl gt
  by (inr le) (inr ge) later =
      let e : a ≡ b = omega (arith, le, ge) in
      inr (
        sym e,
        later (λ s. ne (ap (λ (h : ℕ). h ∷ x) e
            ∙ ap (λ (t : Name). b ∷ t) s)) (λ h. never (inr (e, h))),
      )

-- ---- where one of two names ends

nothing_after : (x : Name) → is_before x [] ≡ false
nothing_after [] = refl
nothing_after (a ∷ x) = refl

pub other_ends : (xs ys : Name) (i : ℕ) (total : Bool) → length ys ≤ i
    → is_before (drop i xs) (drop i ys) ≡ total → false ≡ total
other_ends xs ys i total le h = sym (ap (is_before (drop i xs)) (drop_all i ys le)
    ∙ nothing_after (drop i xs)) ∙ h

pub name_ends : (xs ys : Name) (i : ℕ) (total : Bool) → length xs ≡ i
    → is_before (drop i xs) (drop i ys) ≡ total → ltb (length xs) (length ys) ≡ total
name_ends xs ys i total e h = by (cases_lt (length xs) (length ys))
    ∙ sym (ap (λ (z : Name). is_before z (drop i ys)) (drop_all i xs (omega (arith, e)))) ∙ h where
      rest : (z : Name) → 0 < length z → true ≡ is_before [] z
      rest [] lt = absurd (omega (arith, lt))
      rest (b ∷ z) lt = refl

      by : (length xs < length ys) ⊎ (length ys ≤ length xs)
          → ltb (length xs) (length ys) ≡ is_before [] (drop i ys)
      by (inl lt) = lt-ltb (length xs) (length ys) lt
          ∙ rest (drop i ys) (omega (arith, lt, e, length-drop i ys))
      by (inr le) = le-ltb (length xs) (length ys) le
          ∙ sym (ap (is_before []) (drop_all i ys (omega (arith, le, e))))

-- ---- entries in order

abbrev pub Ordered : List Entry → Type 0
Ordered [] = Unit {0}
Ordered (e ∷ es) = AllByRecursion (λ (f : Entry). Before e.name f.name) es × Ordered es

-- no two have one name
abbrev pub HaveDistinctNames : List Entry → Type 0
HaveDistinctNames [] = Unit {0}
HaveDistinctNames (e ∷ es) = AllByRecursion (λ (f : Entry). e.name ≢ f.name) es
    × HaveDistinctNames es

all_inserted : (P : Entry → Type 0) (e : Entry) (es : List Entry) → P e → AllByRecursion P es
    → AllByRecursion P (inserted e es)
all_inserted P e [] p h = (p, tt)
all_inserted P e (f ∷ es) p h = by (is_before e.name f.name) (all_inserted P e es p h.1) where
  by : (b : Bool) → AllByRecursion P (inserted e es)
      → AllByRecursion P (cond b (e ∷ f ∷ es) (f ∷ inserted e es))
  by true later = (p, (h.0, h.1))
  by false later = (h.0, later)

pub all_sorted : (P : Entry → Type 0) (es : List Entry) → AllByRecursion P es
    → AllByRecursion P (sorted es)
all_sorted P [] h = tt
all_sorted P (e ∷ es) h = all_inserted P e (sorted es) h.0 (all_sorted P es h.1)

all_later : (e f : Entry) (es : List Entry) → Before e.name f.name
    → AllByRecursion (λ (g : Entry). Before f.name g.name) es
    → AllByRecursion (λ (g : Entry). Before e.name g.name) es
all_later e f [] b h = tt
all_later e f (g ∷ es) b h = (before_both e.name f.name g.name b h.0, all_later e f es b h.1)

ordered_inserted : (e : Entry) (es : List Entry)
    → AllByRecursion (λ (f : Entry). e.name ≢ f.name) es → Ordered es → Ordered (inserted e es)
ordered_inserted e [] ne h = (tt, tt)
ordered_inserted e (f ∷ es) ne h =
    by (is_before e.name f.name) refl (before_or_not e.name f.name)
    (ordered_inserted e es ne.1 h.1) where
      by : (b : Bool) → is_before e.name f.name ≡ b
          → ((is_before e.name f.name ≡ true) × Before e.name f.name)
          ⊎ ((is_before e.name f.name ≡ false) × (Before e.name f.name → ⊥))
          → Ordered (inserted e es)
          → Ordered (cond b (e ∷ f ∷ es) (f ∷ inserted e es))
      by true is (inl y) later = ((y.1, all_later e f es y.1 h.0), (h.0, h.1))
      by true is (inr n) later = absurd (let t : true ≡ false = sym is ∙ n.0 in cc)
      by false is (inl y) later = absurd (let t : true ≡ false = sym y.0 ∙ is in cc)
      by false is (inr n) later = (
        all_inserted (λ (g : Entry). Before f.name g.name) e es (one_before e.name f.name ne.0 n.1)
            h.0,
        later,
      )

pub ordered_sorted : (es : List Entry) → HaveDistinctNames es → Ordered (sorted es)
ordered_sorted [] h = tt
ordered_sorted (e ∷ es) h =
    ordered_inserted e (sorted es) (all_sorted (λ (f : Entry). e.name ≢ f.name) es h.0)
    (ordered_sorted es h.1)

-- ---- what is in front

pub in_front : (x y : Name) → Before x y → is_before x y ≡ true
in_front x y h = elim (before_or_not x y) [ inl b ↦ b.0 | inr n ↦ absurd (n.1 h) ]

pub not_in_front : (x y : Name) → (Before x y → ⊥) → is_before x y ≡ false
not_in_front x y h = elim (before_or_not x y) [ inl b ↦ absurd (h b.1) | inr n ↦ n.0 ]

pub behind_if : (x y : Name) → is_before x y ≡ true → Before x y
behind_if x y is =
    elim (before_or_not x y) [
      | inl b ↦ b.1
      | inr n ↦ absurd (let t : true ≡ false = sym is ∙ n.0 in
          cc)
    ]

pub not_behind_if : (x y : Name) → is_before x y ≡ false → Before x y → ⊥
not_behind_if x y is =
    elim (before_or_not x y) [
      | inl b ↦ absurd (let t : true ≡ false = sym b.0 ∙ is in
          cc)
      | inr n ↦ n.1
    ]

pub all_at : (P : Entry → Type 0) (es : List Entry) (i : ℕ) (e : Entry) → AllByRecursion P es
    → slice_get es i ≡ Some e → P e
all_at P [] i e h is = absurd cc
all_at P (f ∷ es) zero e h is = (let same : f ≡ e = cc in subst P same h.0)
all_at P (f ∷ es) (suc i) e h is = all_at P es i e h.1 is
