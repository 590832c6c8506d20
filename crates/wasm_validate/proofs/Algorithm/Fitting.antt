-- What is known of operands, and the types that they may have.
use Rattle.std.proofs.Common.{◌≡◌, Bool, true, false, List, [], ◌∷◌, ◌++◌, Some, None, refl, sym}
use Rattle.std.proofs.Common.{ap, ◌∙◌, subst, append_assoc}
use Rattle.std.specs.Prelude.{not}
use Rattle.std.proofs.lemmas.List.{append-nil}
use Rattle.wasm_syntax.specs.declared.types.ValueType.{ValueType}
use Rattle.wasm_syntax.specs.declared.types.ValueType.TheVariants.{I32}
use Rattle.wasm_syntax.specs.laws.ReadingItems.{◌>>=◌, check}
use Rattle.wasm_syntax.proofs.Grammar.Exact.{bind_some}
use Rattle.wasm_validate.specs.laws.Checking.{Known, Level, popped_of, popped, agrees}
use Rattle.wasm_validate.specs.laws.Checking.{operand_taken, all_operands_taken, pushed, all_pushed}
use Rattle.wasm_validate.specs.laws.Checking.{level_unreached, Arrow, Fixed, Jump, Dropping}
use Rattle.wasm_validate.specs.laws.Checking.{Selecting, Refused, met, operands_selected, applied}
use Rattle.wasm_validate.specs.laws.Remaining.{Matches, FitsOperands}
use Rattle.wasm_validate.proofs.Algorithm.Arrows.{Meets}
use Rattle.wasm_rules.proofs.Soundness.ControlSound.{is_same, same_type}

abbrev pub FitsLevel : Level → List ValueType → Type 0
FitsLevel l types = FitsOperands l.is_reached l.operands types

-- only operands and reach may change
pub record Keeps (l new : Level) : Type 0 where
  pub takes : new.takes ≡ l.takes
  pub gives : new.gives ≡ l.gives
  pub is_first : new.is_first ≡ l.is_first

pub keeps_same : (l : Level) → Keeps l l
keeps_same l = record { takes = refl; gives = refl; is_first = refl }

pub keeps_on : (a b d : Level) → Keeps a b → Keeps b d → Keeps a d
keeps_on a b d h k = record {
  takes = k.takes ∙ h.takes;
  gives = k.gives ∙ h.gives;
  is_first = k.is_first ∙ h.is_first;
}

pub check_true : (b : Bool) (u : Unit {0}) → check b ≡ Some u → b ≡ true
check_true true u e = refl
check_true false u e = absurd (cc)

-- ---- single types

pub agreed : (t : ValueType) (k : Known) → agrees t k ≡ true → Matches k t
agreed t None e = tt
agreed t (Some u) e = sym (same_type t u e)

pub agrees_with : (t : ValueType) (k : Known) → Matches k t → agrees t k ≡ true
agrees_with t None m = refl
agrees_with t (Some u) m = rw m (is_same t)

one_of : (k : Known) → (t : ValueType) × Matches k t
one_of None = (I32, tt)
one_of (Some u) = (u, refl)

met_both : (a b k : Known) (t : ValueType) → met a b ≡ Some k → Matches k t
    → Matches a t × Matches b t
met_both None b k t e m = let same : b ≡ k = cc in (tt, rw same m)
met_both (Some u) b k t e m =
    let c = bind_some (check (agrees u b)) (λ _. Some (Some u)) k e in
    let same : Some u ≡ k = cc in
    let is : u ≡ t = rw (← same) at m in
    (is, subst (λ z. Matches b z) is (agreed u b (check_true (agrees u b) c.0 c.1)))

met_of : (a b : Known) (t : ValueType) → Matches a t → Matches b t
    → (k : Known) × (met a b ≡ Some k) × Matches k t
met_of None b t m n = (b, refl, n)
met_of (Some u) b t m n =
    let c : agrees u b ≡ true = agrees_with u b (subst (λ z. Matches b z) (sym m) n) in
    (Some u, rw c refl, m)

-- ---- lists of types

fits_any : (types : List ValueType) → FitsOperands false [] types
fits_any [] = tt
fits_any (t ∷ types) = tt

some_fit : (reached : Bool) (ks : List Known) → (types : List ValueType)
    × FitsOperands reached ks types
some_fit reached [] = ([], tt)
some_fit reached (k ∷ ks) = let r = some_fit reached ks in let o = one_of k in
    (o.0 ∷ r.0, (o.1, r.1))

pub pushed_fit : (ts : List ValueType) (l : Level) (types : List ValueType) → FitsLevel l types
    → FitsLevel (all_pushed ts l) (ts ++ types)
pushed_fit [] l types f = f
pushed_fit (t ∷ ts) l types f = (refl, pushed_fit ts l types f)

pub fits_pushed : (ts : List ValueType) (l : Level) (types : List ValueType)
    → FitsLevel (all_pushed ts l) types → (below : List ValueType) × (types ≡ ts ++ below)
    × FitsLevel l below
fits_pushed [] l types f = (types, refl, f)
fits_pushed (t ∷ ts) l [] f = absurd f
fits_pushed (t ∷ ts) l (u ∷ types) f =
    let r = fits_pushed ts l types f.1 in
    let head : t ≡ u = f.0 in let tail : types ≡ ts ++ r.0 = r.1 in
    (r.0, cc, r.2)

-- ---- one operand

abbrev unknown : Level → Known × Level
unknown l = (None, l)

abbrev operand : Known → Level → Known × Level
operand k l = (k, l)

popped_of_back : (l : Level) (ks : List Known) → l.operands ≡ ks → (k : Known) (l' : Level)
    → popped_of l ks ≡ Some (k, l') → (t : ValueType) (types : List ValueType) → Matches k t
    → FitsLevel l' types → FitsLevel l (t ∷ types) × Keeps l l'
popped_of_back l [] e k l' h t types m f = empty l.is_reached refl h
  where
    empty : (b : Bool) → l.is_reached ≡ b → (check (not b) >>= λ _. Some (unknown l)) ≡ Some (k, l')
        → FitsLevel l (t ∷ types) × Keeps l l'
    empty true r h = absurd (cc)
    empty false r h = let pair : unknown l ≡ (k, l') = cc in
        let same : l ≡ l' = ap (λ (z : Known × Level). z.1) pair in
        (rw (e, r) tt, subst (λ z. Keeps l z) same (keeps_same l))
popped_of_back l (k0 ∷ ks) e k l' h t types m f =
    let below : Level = record l { operands = ks } in
    let pair : operand k0 below ≡ operand k l' = cc in
    let same : below ≡ l' = ap (λ (z : Known × Level). z.1) pair in
    let top : k0 ≡ k = ap (λ (z : Known × Level). z.0) pair in
    let m' : Matches k0 t = rw top m in
    let f' : FitsOperands l.is_reached ks types = rw (← same) at f in (
      rw e (m', f'),
      subst (λ z. Keeps l z) same (record {
        takes = refl;
        gives = refl;
        is_first = refl;
      }),
    )

pub popped_back : (l : Level) (k : Known) (l' : Level) → popped l ≡ Some (k, l')
    → (t : ValueType) (types : List ValueType) → Matches k t → FitsLevel l' types
    → FitsLevel l (t ∷ types) × Keeps l l'
popped_back l = popped_of_back l l.operands refl

popped_of_on : (l : Level) (ks : List Known) → l.operands ≡ ks
    → (t : ValueType) (types : List ValueType) → FitsLevel l (t ∷ types)
    → (k : Known) × (l' : Level) × (popped_of l ks ≡ Some (k, l')) × Matches k t
    × FitsLevel l' types × Keeps l l'
popped_of_on l [] e t types f = empty l.is_reached refl
  where
    empty : (b : Bool) → l.is_reached ≡ b → (k : Known) × (l' : Level)
        × ((check (not b) >>= λ _. Some (unknown l)) ≡ Some (k, l')) × Matches k t
        × FitsLevel l' types × Keeps l l'
    empty true r = let none : ⊥ = rw (e, r) at f in absurd none
    empty false r = (None, l, refl, tt, rw (e, r) (fits_any types), keeps_same l)
popped_of_on l (k ∷ ks) e t types f =
    let g : Matches k t × FitsOperands l.is_reached ks types = rw e at f in (
      k,
      record l { operands = ks },
      refl,
      g.0,
      g.1,
      record {
        takes = refl;
        gives = refl;
        is_first = refl;
      },
    )

pub popped_on : (l : Level) (t : ValueType) (types : List ValueType) → FitsLevel l (t ∷ types)
    → (k : Known) × (l' : Level) × (popped l ≡ Some (k, l')) × Matches k t × FitsLevel l' types
    × Keeps l l'
popped_on l = popped_of_on l l.operands refl

pub taken_back : (t : ValueType) (l l' : Level) → operand_taken t l ≡ Some l'
    → (types : List ValueType) → FitsLevel l' types → FitsLevel l (t ∷ types) × Keeps l l'
taken_back t l l' h types f =
    let o = bind_some (popped l) (λ o. check (agrees t o.0) >>= λ _. Some o.1) l' h in
    let c = bind_some (check (agrees t o.0.0)) (λ _. Some o.0.1) l' o.2 in
    let same : o.0.1 ≡ l' = let s = c.2 in cc in
    popped_back l o.0.0 l' (o.1
    ∙ ap (λ z. Some (o.0.0, z)) same) t types
    (agreed t o.0.0 (check_true (agrees t o.0.0) c.0 c.1)) f

pub taken_on : (t : ValueType) (l : Level) (types : List ValueType) → FitsLevel l (t ∷ types)
    → (l' : Level) × (operand_taken t l ≡ Some l') × FitsLevel l' types × Keeps l l'
taken_on t l types f =
    let o = popped_on l t types f in
    let a = agrees_with t o.0 o.3 in (
      o.1,
      ap (λ z. z >>= λ o. check (agrees t o.0) >>= λ _. Some o.1) o.2
          ∙ ap (λ z. check z >>= λ _. Some o.1) a,
      o.4,
      o.5,
    )

-- ---- several operands

pub all_taken_back : (ts : List ValueType) (l l' : Level) → all_operands_taken ts l ≡ Some l'
    → (types : List ValueType) → FitsLevel l' types → FitsLevel l (ts ++ types) × Keeps l l'
all_taken_back [] l l' h types f = let same : l ≡ l' = cc in
    (subst (λ z. FitsLevel z types) (sym same) f, subst (λ z. Keeps l z) same (keeps_same l))
all_taken_back (t ∷ ts) l l' h types f =
    let o = bind_some (operand_taken t l) (λ m. all_operands_taken ts m) l' h in
    let r = all_taken_back ts o.0 l' o.2 types f in
    let s = taken_back t l o.0 o.1 (ts ++ types) r.0 in
    (s.0, keeps_on l o.0 l' s.1 r.1)

pub all_taken_on : (ts : List ValueType) (l : Level) (types : List ValueType)
    → FitsLevel l (ts ++ types) → (l' : Level) × (all_operands_taken ts l ≡ Some l')
    × FitsLevel l' types × Keeps l l'
all_taken_on [] l types f = (l, refl, f, keeps_same l)
all_taken_on (t ∷ ts) l types f =
    let o = taken_on t l (ts ++ types) f in
    let r = all_taken_on ts o.0 types o.2 in
    (r.0, ap (λ z. z >>= λ m. all_operands_taken ts m) o.1 ∙ r.1, r.2, keeps_on l o.0 r.0 o.3 r.3)

-- ---- instructions

selected_back : (l l' : Level) → operands_selected l ≡ Some l' → (types : List ValueType)
    → FitsLevel l' types
    → (t : ValueType) × (below : List ValueType) × (types ≡ t ∷ below)
    × FitsLevel l (I32 ∷ t ∷ t ∷ below) × Keeps l l'
selected_back l l' h types f =
    let a = bind_some (operand_taken I32 l) _ l' h in
    let b = bind_some (popped a.0) _ l' a.2 in
    let d = bind_some (popped b.0.1) _ l' b.2 in
    let m = bind_some (met b.0.0 d.0.0) _ l' d.2 in
    let same : pushed m.0 d.0.1 ≡ l' = let s = m.2 in cc in
    let g : FitsLevel (pushed m.0 d.0.1) types = subst (λ z. FitsLevel z types) (sym same) f in
    with_types m.0 d.0.1 types g
    (λ t below is match fits.
    let both = met_both b.0.0 d.0.0 m.0 t m.1 match in
    let first = popped_back b.0.1 d.0.0 d.0.1 d.1 t below both.1 fits in
    let second = popped_back a.0 b.0.0 b.0.1 b.1 t (t ∷ below) both.0 first.0 in
    let top = taken_back I32 l a.0 a.1 (t ∷ t ∷ below) second.0 in
    let keeps = keeps_on l a.0 d.0.1 top.1 (keeps_on a.0 b.0.1 d.0.1 second.1 first.1) in
    let end : Keeps d.0.1 (pushed m.0 d.0.1) = record {
      takes = refl;
      gives = refl;
      is_first = refl;
    } in (
      t,
      below,
      is,
      top.0,
      subst (λ z. Keeps l z) same (keeps_on l d.0.1 (pushed m.0 d.0.1) keeps end),
    ))
  where
    with_types : {P : Type 0} (k : Known) (l : Level) (types : List ValueType)
        → FitsLevel (pushed k l) types → ((t : ValueType) (below : List ValueType)
        → types ≡ t ∷ below → Matches k t → FitsLevel l below → P) → P
    with_types k l [] f go = absurd f
    with_types k l (t ∷ types) f go = go t types refl f.0 f.1

selected_on : (l : Level) (t : ValueType) (below : List ValueType)
    → FitsLevel l (I32 ∷ t ∷ t ∷ below) → (l' : Level) × (operands_selected l ≡ Some l')
    × FitsLevel l' (t ∷ below) × Keeps l l'
selected_on l t below f =
    let a = taken_on I32 l (t ∷ t ∷ below) f in
    let b = popped_on a.0 t (t ∷ below) a.2 in
    let d = popped_on b.1 t below b.4 in
    let m = met_of b.0 d.0 t b.3 d.3 in
    let end : Keeps d.1 (pushed m.0 d.1) = record { takes = refl; gives = refl; is_first = refl } in
    let keeps = keeps_on l a.0 (pushed m.0 d.1) a.3 (keeps_on a.0 b.1 (pushed m.0 d.1) b.5
    (keeps_on b.1 d.1 (pushed m.0 d.1) d.5 end)) in
    (pushed m.0 d.1, rw (a.1, b.2, d.2, m.1) refl, (m.2, d.4), keeps)

-- An instruction that passes was given operands that fit, whatever fits what it leaves.
pub applied_back : (a : Arrow) (l l' : Level) → applied a l ≡ Some l' → (types : List ValueType)
    → FitsLevel l' types
    → (p : List ValueType) × (q : List ValueType) × (below : List ValueType) × (types ≡ q ++ below)
    × Meets a p q × FitsLevel l (p ++ below) × Keeps l l'
applied_back (Fixed takes gives) l l' h types f =
    let o = bind_some (all_operands_taken takes l) (λ m. Some (all_pushed gives m)) l' h in
    let same : all_pushed gives o.0 ≡ l' = let s = o.2 in cc in
    let below = fits_pushed gives o.0 types (subst (λ z. FitsLevel z types) (sym same) f) in
    let r = all_taken_back takes l o.0 o.1 below.0 below.2 in
    let end : Keeps o.0 (all_pushed gives o.0) = record {
      takes = refl;
      gives = refl;
      is_first = refl;
    } in (
      takes,
      gives,
      below.0,
      below.1,
      (refl, refl),
      r.0,
      subst (λ z. Keeps l z) same (keeps_on l o.0 (all_pushed gives o.0) r.1 end),
    )
applied_back (Jump takes) l l' h types f =
    let o = bind_some (all_operands_taken takes l) (λ m. Some (level_unreached m)) l' h in
    let same : level_unreached o.0 ≡ l' = let s = o.2 in cc in
    let fit = some_fit o.0.is_reached o.0.operands in
    let r = all_taken_back takes l o.0 o.1 fit.0 fit.1 in
    let end : Keeps o.0 (level_unreached o.0) =
    record { takes = refl; gives = refl; is_first = refl } in (
      takes ++ fit.0,
      types,
      [],
      sym (append-nil types),
      (fit.0, refl),
      rw append-nil r.0,
      subst (λ z. Keeps l z) same (keeps_on l o.0 (level_unreached o.0) r.1 end),
    )
applied_back Dropping l l' h types f =
    let o = bind_some (popped l) (λ o. Some o.1) l' h in
    let same : o.0.1 ≡ l' = let s = o.2 in cc in
    let t = one_of o.0.0 in
    let r = popped_back l o.0.0 l' (o.1 ∙ ap (λ z. Some (o.0.0, z)) same) t.0 types t.1 f in
    (t.0 ∷ [], [], types, refl, (t.0, refl, refl), r.0, r.1)
applied_back Selecting l l' h types f =
    let r = selected_back l l' h types f in
    (I32 ∷ r.0 ∷ r.0 ∷ [], r.0 ∷ [], r.1, r.2, (r.0, refl, refl), r.3, r.4)
applied_back Refused l l' h types f = absurd (cc)

-- Given operands that fit, it passes, and leaves what fits.
pub applied_on : (a : Arrow) (l : Level) (p q below : List ValueType) → Meets a p q
    → FitsLevel l (p ++ below) → (l' : Level) × (applied a l ≡ Some l') × FitsLevel l' (q ++ below)
    × Keeps l l'
applied_on (Fixed takes gives) l p q below m f =
    let r = all_taken_on takes l below (subst (λ z. FitsLevel l (z ++ below)) m.0 f) in
    let end : Keeps r.0 (all_pushed gives r.0) = record {
      takes = refl;
      gives = refl;
      is_first = refl;
    } in
    let g : FitsLevel (all_pushed gives r.0) (q ++ below) =
    subst (λ z. FitsLevel (all_pushed gives r.0) (z ++ below)) (sym m.1)
    (pushed_fit gives r.0 below r.2) in
    (all_pushed gives r.0, rw r.1 refl, g, keeps_on l r.0 (all_pushed gives r.0) r.3 end)
applied_on (Jump takes) l p q below m f =
    let g : FitsLevel l (takes ++ (m.0 ++ below)) =
    subst (λ z. FitsLevel l z) (ap (λ z. z ++ below) m.1 ∙ append_assoc takes m.0 below) f in
    let r = all_taken_on takes l (m.0 ++ below) g in
    let end : Keeps r.0 (level_unreached r.0) = record {
      takes = refl;
      gives = refl;
      is_first = refl;
    } in (
      level_unreached r.0,
      rw r.1 refl,
      fits_any (q
          ++ below),
      keeps_on l r.0 (level_unreached r.0) r.3 end,
    )
applied_on Dropping l p q below m f =
    let g : FitsLevel l (m.0 ∷ below) = subst (λ z. FitsLevel l (z ++ below)) m.1 f in
    let r = popped_on l m.0 below g in
    (r.1, rw r.2 refl, subst (λ z. FitsLevel r.1 (z ++ below)) (sym m.2) r.4, r.5)
applied_on Selecting l p q below m f =
    let g : FitsLevel l (I32 ∷ m.0 ∷ m.0 ∷ below) = subst (λ z. FitsLevel l (z ++ below)) m.1 f in
    let r = selected_on l m.0 below g in
    (r.0, r.1, subst (λ z. FitsLevel r.0 (z ++ below)) (sym m.2) r.2, r.3)
applied_on Refused l p q below m f = absurd m
