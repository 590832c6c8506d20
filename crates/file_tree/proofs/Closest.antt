-- The first entry after a name, of a list in order and of a list before it is sorted.
use Rattle.std.proofs.Common.{◌≡◌, ◌≢◌, ℕ, zero, suc, ◌⊎◌, inl, inr, Bool, true, false, cond, List}
use Rattle.std.proofs.Common.{[], ◌∷◌, Option, Some, None, refl, ap, subst, ◌∙◌}
use Rattle.std.specs.Prelude.{slice_get, option_map, find, ◌&&◌}
use Rattle.std.specs.List.{AllByRecursion}
use Rattle.std.proofs.lemmas.Option.{same_Some}
use Rattle.file_tree.specs.rules.Files.{Name, Entry, is_before, inserted, sorted}
use Rattle.file_tree.proofs.Order.{Before, Ordered, HaveDistinctNames, before_or_not, not_itself}
use Rattle.file_tree.proofs.Order.{before_both, one_before, in_front, not_in_front, all_sorted}

-- ---- the closest of some entries, as a walk over them finds it

abbrev pub is_closer : Name → Option Entry → Entry → Bool
is_closer name None e = is_before name e.name
is_closer name (Some b) e = is_before name e.name && is_before e.name b.name

abbrev pub closer_of : Name → Option Entry → Entry → Option Entry
closer_of name best e = cond (is_closer name best e) (Some e) best

abbrev pub closest : Name → Option Entry → List Entry → Option Entry
closest name best [] = best
closest name best (e ∷ es) = closest name (closer_of name best e) es

-- ---- two entries in the other order

abbrev pub Sides : Name → Name → Type 0
Sides x y =
    ((is_before x y ≡ true) × (is_before y x ≡ false) × Before x y)
    ⊎ ((is_before x y ≡ false) × (is_before y x ≡ true) × Before y x)

pub sides : (x y : Name) → x ≢ y → Sides x y
sides x y ne = elim (before_or_not x y) [
  | inl h ↦ inl (h.0, not_in_front y x (λ k. not_itself x (before_both x y x h.1 k)), h.1)
  | inr h ↦ (let back = one_before x y ne h.1 in inr (h.0, in_front y x back, back))
]

swapped : (name : Name) (best : Option Entry) (e f : Entry) → e.name ≢ f.name
    → closer_of name (closer_of name best f) e ≡ closer_of name (closer_of name best e) f
swapped name None e f ne =
    by (is_before name e.name) refl (is_before name f.name) refl (sides e.name f.name ne) where
      by : (a : Bool) → is_before name e.name ≡ a → (b : Bool) → is_before name f.name ≡ b
          → Sides e.name f.name
          → closer_of name (closer_of name None f) e ≡ closer_of name (closer_of name None e) f
      by true p true q (inl s) = (let s0 = s.0 in let s1 = s.1 in simp (p, q, s0, s1))
      by true p true q (inr s) = (let s0 = s.0 in let s1 = s.1 in simp (p, q, s0, s1))
      by true p false q s = simp (p, q)
      by false p true q s = simp (p, q)
      by false p false q s = simp (p, q)
swapped name (Some m) e f ne =
    by (is_before name e.name) refl (is_before name f.name) refl
    (before_or_not e.name m.name) (before_or_not f.name m.name) (sides e.name f.name ne) where
      Side : Name → Name → Type 0
      Side x y = ((is_before x y ≡ true) × Before x y)
          ⊎ ((is_before x y ≡ false) × (Before x y → ⊥))

      by : (a : Bool) → is_before name e.name ≡ a → (b : Bool) → is_before name f.name ≡ b
          → Side e.name m.name → Side f.name m.name → Sides e.name f.name
          → closer_of name (closer_of name (Some m) f) e
          ≡ closer_of name (closer_of name (Some m) e) f
      by false p false q u v s = simp (p, q)
      by false p true q u (inl v) s = (let v0 = v.0 in simp (p, q, v0))
      by false p true q u (inr v) s = (let v0 = v.0 in simp (p, q, v0))
      by true p false q (inl u) v s = (let u0 = u.0 in simp (p, q, u0))
      by true p false q (inr u) v s = (let u0 = u.0 in simp (p, q, u0))
      by true p true q (inl u) (inl v) (inl s) = (let u0 = u.0 in let v0 = v.0 in let s0 = s.0 in
          let s1 = s.1 in simp (p, q, u0, v0, s0, s1))
      by true p true q (inl u) (inl v) (inr s) = (let u0 = u.0 in let v0 = v.0 in let s0 = s.0 in
          let s1 = s.1 in simp (p, q, u0, v0, s0, s1))
      by true p true q (inr u) (inr v) s = (let u0 = u.0 in let v0 = v.0 in simp (p, q, u0, v0))
      by true p true q (inl u) (inr v) (inl s) = (let u0 = u.0 in let v0 = v.0 in let s1 = s.1 in
          simp (p, q, u0, v0, s1))
      by true p true q (inl u) (inr v) (inr s) =
          absurd (v.1 (before_both f.name e.name m.name s.2 u.1))
      by true p true q (inr u) (inl v) (inl s) =
          absurd (u.1 (before_both e.name f.name m.name s.2 v.1))
      by true p true q (inr u) (inl v) (inr s) = (let u0 = u.0 in let v0 = v.0 in let s0 = s.0 in
          simp (p, q, u0, v0, s0))

-- ---- it is the same where they are sorted

closest_inserted : (name : Name) (best : Option Entry) (e : Entry) (es : List Entry)
    → AllByRecursion (λ (f : Entry). e.name ≢ f.name) es
    → closest name best (inserted e es) ≡ closest name best (e ∷ es)
closest_inserted name best e [] ne = refl
closest_inserted name best e (f ∷ es) ne =
    by (is_before e.name f.name) (closest_inserted name (closer_of name best f) e es ne.1) where
      by : (b : Bool)
          → closest name (closer_of name best f) (inserted e es)
          ≡ closest name (closer_of name (closer_of name best f) e) es
          → closest name best (cond b (e ∷ f ∷ es) (f ∷ inserted e es))
          ≡ closest name best (e ∷ f ∷ es)
      by true later = refl
      by false later =
          later ∙ ap (λ (o : Option Entry). closest name o es) (swapped name best e f ne.0)

pub closest_sorted : (name : Name) (best : Option Entry) (es : List Entry) → HaveDistinctNames es
    → closest name best (sorted es) ≡ closest name best es
closest_sorted name best [] h = refl
closest_sorted name best (e ∷ es) h =
    closest_inserted name best e (sorted es) (all_sorted (λ (f : Entry). e.name ≢ f.name) es h.0)
    ∙ closest_sorted name (closer_of name best e) es h.1

-- ---- in a list in order it is the first after the name

stays : (name : Name) (e : Entry) (es : List Entry)
    → AllByRecursion (λ (f : Entry). Before e.name f.name) es → closest name (Some e) es ≡ Some e
stays name e [] h = refl
stays name e (f ∷ es) h =
    ap (λ (o : Option Entry). closest name o es)
    (by (is_before name f.name) (is_before f.name e.name) behind)
    ∙ stays name e es h.1 where
      behind : is_before f.name e.name ≡ false
      behind = not_in_front f.name e.name (λ k.
          not_itself e.name (before_both e.name f.name e.name h.0 k))

      by : (a b : Bool) → b ≡ false → cond (a && b) (Some f) (Some e) ≡ Some e
      by true b is = ap (λ (t : Bool). cond t (Some f) (Some e)) is
      by false b is = refl

pub closest_ordered : (name : Name) (es : List Entry) → Ordered es
    → closest name None es ≡ find (λ (e : Entry). is_before name e.name) es
closest_ordered name [] h = refl
closest_ordered name (e ∷ es) h =
    by (is_before name e.name) (stays name e es h.0) (closest_ordered name es h.1) where
      by : (b : Bool) → closest name (Some e) es ≡ Some e
          → closest name None es ≡ find (λ (f : Entry). is_before name f.name) es
          → closest name (cond b (Some e) None) es
          ≡ cond b (Some e) (find (λ (f : Entry). is_before name f.name) es)
      by true first later = first
      by false first later = later

-- ---- which is the one behind the entry of that name

before_named : (x name : Name) (es : List Entry) (i : ℕ)
    → AllByRecursion (λ (f : Entry). Before x f.name) es
    → option_map (λ (f : Entry). f.name) (slice_get es i) ≡ Some name → Before x name
before_named x name [] i h is = absurd cc
before_named x name (f ∷ es) zero h is = subst (Before x) (same_Some f.name name is) h.0
before_named x name (f ∷ es) (suc i) h is = before_named x name es i h.1 is

skipped : (name : Name) (e : Entry) (es : List Entry) → (Before name e.name → ⊥)
    → find (λ (f : Entry). is_before name f.name) (e ∷ es)
    ≡ find (λ (f : Entry). is_before name f.name) es
skipped name e es never =
    ap (λ (b : Bool). cond b (Some e) (find (λ (f : Entry). is_before name f.name) es))
    (not_in_front name e.name never)

at_head : (name : Name) (es : List Entry) → AllByRecursion (λ (f : Entry). Before name f.name) es
    → find (λ (f : Entry). is_before name f.name) es ≡ slice_get es 0
at_head name [] h = refl
at_head name (f ∷ es) h =
    ap (λ (b : Bool). cond b (Some f) (find (λ (g : Entry). is_before name g.name) es))
    (in_front name f.name h.0)

pub found_behind : (name : Name) (es : List Entry) (i : ℕ) → Ordered es
    → option_map (λ (e : Entry). e.name) (slice_get es i) ≡ Some name
    → find (λ (e : Entry). is_before name e.name) es ≡ slice_get es (suc i)
found_behind name [] i h is = absurd cc
found_behind name (e ∷ es) zero h is =
    let same : e.name ≡ name = same_Some e.name name is in
    skipped name e es (λ k. not_itself name (subst (Before name) same k))
    ∙ at_head name es (subst (λ (x : Name). AllByRecursion (λ (f : Entry). Before x f.name) es) same
    h.0)
found_behind name (e ∷ es) (suc i) h is =
    let front : Before e.name name = before_named e.name name es i h.0 is in
    skipped name e es (λ k. not_itself name (before_both name e.name name k front))
    ∙ found_behind name es i h.1 is

-- ---- and the first one for no name

pub found_first : (es : List Entry) → AllByRecursion (λ (e : Entry). e.name ≢ []) es
    → find (λ (e : Entry). is_before [] e.name) es ≡ slice_get es 0
found_first [] h = refl
found_first (e ∷ es) h = by e.name refl where
  by : (name : Name) → e.name ≡ name
      → cond (is_before [] e.name) (Some e) (find (λ (f : Entry). is_before [] f.name) es) ≡ Some e
  by [] is = absurd (h.0 is)
  by (b ∷ name) is =
      ap (λ (x : Name).
      cond (is_before [] x) (Some e) (find (λ (f : Entry). is_before [] f.name) es)) is
