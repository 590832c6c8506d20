-- Values in a slab, in an order of their own, and what a new one changes.
use Rattle.std.proofs.Common.{◌≡◌, ◌≢◌, ℕ, zero, suc, ◌<◌, ◌⊎◌, inl, inr, true, false, eqb, List}
use Rattle.std.proofs.Common.{[], ◌∷◌, ◌++◌, length, get_or, Option, Some, None, refl, sym, ap}
use Rattle.std.proofs.Common.{subst, ◌∙◌, arith}
use Rattle.std.specs.Prelude.{IsSome}
use Rattle.std.specs.List.{IsDistinct, AllByRecursion, remove}
use Rattle.std.proofs.lemmas.Bool.{ne_eqb, eq-eqb, cases_lt, cases_eq}
use Rattle.std.proofs.lemmas.List.{get_or_past, get_or-set_same, get_or-set_other}
use Rattle.slab.specs.Slab.{Slab, get, Updates, with_value}
use Rattle.file_tree.specs.Store.Stored.{put, stored, AreStored, changed}

apart_at : (k : ℕ) (keys : List ℕ) (i d : ℕ) → AllByRecursion (λ y. eqb k y ≡ false) keys
    → i < length keys → k ≢ get_or keys i d
apart_at k [] i d h lt e = absurd (omega arith)
apart_at k (j ∷ keys) zero d h lt e = absurd (let t : true ≡ false = sym (eq-eqb k j e) ∙ h.0 in cc)
apart_at k (j ∷ keys) (suc i) d h lt e = apart_at k keys i d h.1 (omega arith) e

all_without : (P : ℕ → Type 0) (keys : List ℕ) (i : ℕ) → AllByRecursion P keys
    → AllByRecursion P (remove keys i)
all_without P [] zero h = tt
all_without P [] (suc i) h = tt
all_without P (k ∷ keys) zero h = h.1
all_without P (k ∷ keys) (suc i) h = (h.0, all_without P keys i h.1)

module _ {T : Type 0} where
  abbrev some_of : T → Option T
  some_of v = Some v

  pub some_or_none : (o : Option T) → ((v : T) × (o ≡ Some v)) ⊎ (o ≡ None)
  some_or_none (Some v) = inl (v, refl)
  some_or_none None = inr refl

  pub is_value : (o : Option T) → IsSome o → (v : T) × (o ≡ Some v)
  is_value (Some v) h = (v, refl)
  is_value None h = absurd cc

  pub not_both : (o : Option T) → IsSome o → o ≡ None → ⊥
  not_both (Some v) h e = absurd cc
  not_both None h e = absurd cc

  -- with every key stored there is a value for each of them
  pub length-stored : (slab : Slab T) (keys : List ℕ)
      → AllByRecursion (λ key. IsSome (get slab key)) keys → length (stored slab keys) ≡ length keys
  length-stored slab [] h = refl
  length-stored slab (k ∷ keys) h =
      let v = is_value (get slab k) h.0 in
      rw v.1 (ap suc (length-stored slab keys h.1))

  -- the value at a place is that at its key
  pub stored_at : (slab : Slab T) (keys : List ℕ) (i d : ℕ) (v e : T)
      → AllByRecursion (λ key. IsSome (get slab key)) keys → i < length keys
      → get slab (get_or keys i d) ≡ Some v → get_or (stored slab keys) i e ≡ v
  stored_at slab [] i d v e h lt is = absurd (omega arith)
  stored_at slab (k ∷ keys) zero d v e h lt is = rw is refl
  stored_at slab (k ∷ keys) (suc i) d v e h lt is =
      let w = is_value (get slab k) h.0 in
      rw w.1 (stored_at slab keys i d v e h.1 (omega arith) is)

  pub present_at : (slab : Slab T) (keys : List ℕ) (i d : ℕ)
      → AllByRecursion (λ key. IsSome (get slab key)) keys → i < length keys
      → IsSome (get slab (get_or keys i d))
  present_at slab [] i d h lt = absurd (omega arith)
  present_at slab (k ∷ keys) zero d h lt = h.0
  present_at slab (k ∷ keys) (suc i) d h lt = present_at slab keys i d h.1 (omega arith)

  -- the slab has a new value at a key that had none
  pub record Adds (old new : Slab T) (key : ℕ) (value : T) : Type 0 where
    pub was_vacant : get old key ≡ None
    pub updates : Updates old new key (Some value)

  other_key : (old : Slab T) (key k : ℕ) → get old key ≡ None → IsSome (get old k) → k ≢ key
  other_key old key k vacant some same = not_both (get old k) some (ap (get old) same ∙ vacant)

  pub stored_push : (old new : Slab T) (key : ℕ) (value : T) (keys : List ℕ)
      → Adds old new key value → AllByRecursion (λ k. IsSome (get old k)) keys
      → stored new (keys ++ key ∷ []) ≡ stored old keys ++ value ∷ []
  stored_push old new key value [] adds h = rw adds.updates.changed refl
  stored_push old new key value (k ∷ keys) adds h =
      let v = is_value (get old k) h.0 in
      let kept : get new k ≡ Some v.0 =
      adds.updates.others k (other_key old key k adds.was_vacant h.0) ∙ v.1 in
      ap (λ (o : Option T). put o (stored new (keys ++ key ∷ []))) kept
      ∙ ap (λ (vs : List T). v.0 ∷ vs) (stored_push old new key value keys adds h.1)
      ∙ sym (ap (λ (o : Option T). put o (stored old keys) ++ value ∷ []) v.1)

  pub keys_push : (old new : Slab T) (key : ℕ) (value : T) (keys : List ℕ) → Adds old new key value
      → AreStored old keys → AreStored new (keys ++ key ∷ [])
  unfolding IsDistinct
  keys_push old new key value keys adds h =
      record {
        distinct = distinct_push keys h.distinct h.present;
        present = present_push keys h.present;
      } where
        present_push : (keys : List ℕ) → AllByRecursion (λ k. IsSome (get old k)) keys
            → AllByRecursion (λ k. IsSome (get new k)) (keys ++ key ∷ [])
        present_push [] h = (rw adds.updates.changed refl, tt)
        present_push (k ∷ keys) h = (
          rw (adds.updates.others k (other_key old key k adds.was_vacant h.0)) h.0,
          present_push keys h.1,
        )

        apart_push : (k : ℕ) (keys : List ℕ) → k ≢ key → AllByRecursion (λ y. eqb k y ≡ false) keys
            → AllByRecursion (λ y. eqb k y ≡ false) (keys ++ key ∷ [])
        apart_push k [] ne h = (ne_eqb k key ne, tt)
        apart_push k (j ∷ keys) ne h = (h.0, apart_push k keys ne h.1)

        distinct_push : (keys : List ℕ) → IsDistinct eqb keys
            → AllByRecursion (λ k. IsSome (get old k)) keys → IsDistinct eqb (keys ++ key ∷ [])
        distinct_push [] d h = (tt, tt)
        distinct_push (k ∷ keys) d h = (
          apart_push k keys (other_key old key k adds.was_vacant h.0) d.0,
          distinct_push keys d.1 h.1,
        )

  pub no_keys : (slab : Slab T) (keys : List ℕ) → keys ≡ [] → AreStored slab keys
  unfolding IsDistinct
  no_keys slab keys e = rw e (record { distinct = tt; present = tt })

  -- a slab with more room has the same values
  pub with_room : (old new : Slab T) (capacity : ℕ) (keys : List ℕ)
      → new ≡ record old { capacity = capacity } → AreStored old keys → AreStored new keys
  with_room old new capacity keys e h =
      rw e (record { distinct = h.distinct; present = kept keys h.present }) where
        kept : (keys : List ℕ) → AllByRecursion (λ k. IsSome (get old k)) keys
            → AllByRecursion (λ k. IsSome (get (record old { capacity = capacity }) k)) keys
        kept [] h = tt
        kept (k ∷ keys) h = (h.0, kept keys h.1)

  pub stored-with_room : (old new : Slab T) (capacity : ℕ) (keys : List ℕ)
      → new ≡ record old { capacity = capacity } → stored new keys ≡ stored old keys
  stored-with_room old new capacity keys e = ap (λ (s : Slab T). stored s keys) e ∙ same keys where
    same : (keys : List ℕ) → stored (record old { capacity = capacity }) keys ≡ stored old keys
    same [] = refl
    same (k ∷ keys) = ap (λ (vs : List T). put (get old k) vs) (same keys)

  -- ---- a value in the place of another one

  at_key : (slab : Slab T) (key : ℕ) (w : T) → get slab key ≡ Some w → key < length slab.slots
  at_key slab key w e =
      elim (cases_lt key (length slab.slots)) [
        | inl lt ↦ lt
        | inr le ↦ absurd (let past : get slab key ≡ None = get_or_past slab.slots key None le in
            let t : None ≡ some_of w = sym past ∙ e in cc)
      ]

  pub replaced : (slab : Slab T) (key : ℕ) (v w : T) → get slab key ≡ Some w
      → Updates slab (with_value slab key v) key (Some v)
  replaced slab key v w e = record {
    changed = get_or-set_same slab.slots key (Some v) None (at_key slab key w e);
    others = λ k ne. get_or-set_other slab.slots key k (Some v) None ne;
  }

  apart_stored : (old new : Slab T) (key : ℕ) (slot : Option T) (keys : List ℕ)
      → Updates old new key slot → AllByRecursion (λ y. eqb key y ≡ false) keys
      → stored new keys ≡ stored old keys
  apart_stored old new key slot [] up h = refl
  apart_stored old new key slot (k ∷ keys) up h =
      let ne : k ≢ key = λ e. absurd (let t : true ≡ false = sym (eq-eqb key k (sym e)) ∙ h.0 in cc)
      in
      ap (λ (o : Option T). put o (stored new keys)) (up.others k ne)
      ∙ ap (put (get old k)) (apart_stored old new key slot keys up h.1)

  stored_changed : (old new : Slab T) (key : ℕ) (change : T → T) (v : T) (keys : List ℕ) (i d : ℕ)
      → Updates old new key (Some (change v)) → get old key ≡ Some v → AreStored old keys
      → i < length keys → get_or keys i d ≡ key
      → stored new keys ≡ changed change i (stored old keys)
  unfolding IsDistinct
  stored_changed old new key change v [] i d up was h lt e = absurd (omega arith)
  stored_changed old new key change v (k ∷ keys) zero d up was h lt e =
      let here : get new k ≡ Some (change v) = ap (get new) e ∙ up.changed in
      let before : get old k ≡ Some v = ap (get old) e ∙ was in
      let rest = apart_stored old new key (Some (change v)) keys up
      (subst (λ (j : ℕ). AllByRecursion (λ y. eqb j y ≡ false) keys) e h.distinct.0) in
      ap (λ (o : Option T). put o (stored new keys)) here ∙ ap (λ (vs : List T). change v ∷ vs) rest
      ∙ sym (ap (λ (o : Option T). changed change 0 (put o (stored old keys))) before)
  stored_changed old new key change v (k ∷ keys) (suc i) d up was h lt e =
      let w = is_value (get old k) h.present.0 in
      let ne : k ≢ key = λ same. apart_at k keys i d h.distinct.0 (omega arith) (same ∙ sym e) in
      let below : AreStored old keys = record { distinct = h.distinct.1; present = h.present.1 } in
      ap (λ (o : Option T). put o (stored new keys)) (up.others k ne ∙ w.1)
      ∙ ap (λ (vs : List T). w.0
      ∷ vs) (stored_changed old new key change v keys i d up was below (omega arith) e)
      ∙ sym (ap (λ (o : Option T). changed change (suc i) (put o (stored old keys))) w.1)

  keys_changed : (old new : Slab T) (key : ℕ) (v : T) (keys : List ℕ) → Updates old new key (Some v)
      → AreStored old keys → AreStored new keys
  keys_changed old new key v keys up h = record {
    distinct = h.distinct;
    present = kept keys h.present;
  } where
    kept : (keys : List ℕ) → AllByRecursion (λ k. IsSome (get old k)) keys
        → AllByRecursion (λ k. IsSome (get new k)) keys
    kept [] h = tt
    kept (k ∷ keys) h = (
      elim (cases_eq k key) [
        | inl same ↦ rw (
          same,
          up.changed,
        ) refl
        | inr ne ↦ rw (up.others k ne) h.0
      ],
      kept keys h.1,
    )

  changed_to_same : (place : ℕ) (vs : List T) → changed (λ (v : T). v) place vs ≡ vs
  changed_to_same place [] = refl
  changed_to_same zero (v ∷ vs) = refl
  changed_to_same (suc place) (v ∷ vs) = ap (λ (ws : List T). v ∷ ws) (changed_to_same place vs)

  -- ---- the value at a place of the list, by its key

  pub record IsKeyAt (slab : Slab T) (keys : List ℕ) (vs : List T) (place key : ℕ) : Type 0 where
    pub are : AreStored slab keys
    pub shown : stored slab keys ≡ vs
    pub within : place < length keys
    pub is : get_or keys place key ≡ key

  pub within_keys : (slab : Slab T) (keys : List ℕ) (vs : List T) (place : ℕ) → AreStored slab keys
      → stored slab keys ≡ vs → place < length vs → place < length keys
  within_keys slab keys vs place are shown lt =
      omega (arith, length-stored slab keys are.present, ap length shown, lt)

  pub key_at : (slab : Slab T) (keys : List ℕ) (vs : List T) (place key : ℕ) → AreStored slab keys
      → stored slab keys ≡ vs → place < length vs → key ≡ get_or keys place key
      → IsKeyAt slab keys vs place key
  key_at slab keys vs place key are shown lt is = record {
    are = are;
    shown = shown;
    within = within_keys slab keys vs place are shown lt;
    is = sym is;
  }

  -- there is a value
  pub not_vacant : (slab : Slab T) (keys : List ℕ) (vs : List T) (place key : ℕ)
      → IsKeyAt slab keys vs place key → get slab key ≡ None → ⊥
  not_vacant slab keys vs place key at none =
      not_both (get slab key) (subst (λ (k : ℕ). IsSome (get slab k)) at.is
      (present_at slab keys place key at.are.present at.within)) none

  pub value_at : (slab : Slab T) (keys : List ℕ) (vs : List T) (place key : ℕ) (v d : T)
      → IsKeyAt slab keys vs place key → get slab key ≡ Some v → v ≡ get_or vs place d
  value_at slab keys vs place key v d at is =
      sym (rw at.shown at (stored_at slab keys place key v d at.are.present at.within
      (ap (get slab) at.is ∙ is)))

  -- a value that is changed where it is
  pub changed_keys : (slab : Slab T) (keys : List ℕ) (vs : List T) (place key : ℕ) (v w : T)
      → IsKeyAt slab keys vs place key → get slab key ≡ Some v
      → AreStored (with_value slab key w) keys
  changed_keys slab keys vs place key v w at is =
      keys_changed slab (with_value slab key w) key w keys (replaced slab key w v is) at.are

  pub changed_value : (slab : Slab T) (keys : List ℕ) (vs : List T) (place key : ℕ) (change : T
      → T) (v w : T) → IsKeyAt slab keys vs place key → get slab key ≡ Some v → w ≡ change v
      → stored (with_value slab key w) keys ≡ changed change place vs
  changed_value slab keys vs place key change v w at is e =
      ap (λ (x : T). stored (with_value slab key x) keys) e
      ∙ stored_changed slab (with_value slab key (change v)) key change v keys place key
      (replaced slab key (change v) v is) is at.are at.within at.is
      ∙ ap (changed change place) at.shown

  pub kept_value : (slab : Slab T) (keys : List ℕ) (vs : List T) (place key : ℕ) (v w : T)
      → IsKeyAt slab keys vs place key → get slab key ≡ Some v → w ≡ v
      → stored (with_value slab key w) keys ≡ vs
  kept_value slab keys vs place key v w at is e =
      changed_value slab keys vs place key (λ (x : T). x) v w at is e ∙ changed_to_same place vs

  -- ---- a value that is taken out

  without_stored : (old new : Slab T) (key : ℕ) (keys : List ℕ) (i d : ℕ) → Updates old new key None
      → AreStored old keys → i < length keys → get_or keys i d ≡ key
      → stored new (remove keys i) ≡ remove (stored old keys) i
  unfolding IsDistinct
  without_stored old new key [] i d up h lt e = absurd (omega arith)
  without_stored old new key (k ∷ keys) zero d up h lt e =
      let w = is_value (get old k) h.present.0 in
      apart_stored old new key None keys up (subst (λ (j : ℕ). AllByRecursion (λ y. eqb j y
      ≡ false) keys) e h.distinct.0)
      ∙ sym (ap (λ (o : Option T). remove (put o (stored old keys)) 0) w.1)
  without_stored old new key (k ∷ keys) (suc i) d up h lt e =
      let w = is_value (get old k) h.present.0 in
      let ne : k ≢ key = λ same. apart_at k keys i d h.distinct.0 (omega arith) (same ∙ sym e) in
      let below : AreStored old keys = record { distinct = h.distinct.1; present = h.present.1 } in
      ap (λ (o : Option T). put o (stored new (remove keys i))) (up.others k ne ∙ w.1)
      ∙ ap (λ (vs : List T). w.0
      ∷ vs) (without_stored old new key keys i d up below (omega arith) e)
      ∙ sym (ap (λ (o : Option T). remove (put o (stored old keys)) (suc i)) w.1)

  without_keys : (old new : Slab T) (key : ℕ) (keys : List ℕ) (i d : ℕ) → Updates old new key None
      → AreStored old keys → i < length keys → get_or keys i d ≡ key → AreStored new (remove keys i)
  unfolding IsDistinct
  without_keys old new key [] i d up h lt e = absurd (omega arith)
  without_keys old new key (k ∷ keys) zero d up h lt e =
      record {
        distinct = h.distinct.1;
        present = kept keys (subst (λ (j : ℕ). AllByRecursion (λ y. eqb j y
            ≡ false) keys) e h.distinct.0) h.present.1;
      } where
        kept : (keys : List ℕ) → AllByRecursion (λ y. eqb key y ≡ false) keys
            → AllByRecursion (λ k. IsSome (get old k)) keys
            → AllByRecursion (λ k. IsSome (get new k)) keys
        kept [] apart h = tt
        kept (j ∷ keys) apart h =
            let ne : j ≢ key = λ e. absurd (let t : true ≡ false = sym (eq-eqb key j (sym e))
            ∙ apart.0 in cc) in
            (rw (up.others j ne) h.0, kept keys apart.1 h.1)
  without_keys old new key (k ∷ keys) (suc i) d up h lt e =
      let ne : k ≢ key = λ same. apart_at k keys i d h.distinct.0 (omega arith) (same ∙ sym e) in
      let rest = without_keys old new key keys i d up (record {
        distinct = h.distinct.1;
        present = h.present.1;
      }) (omega arith) e in
      record {
        distinct = (all_without (λ y. eqb k y ≡ false) keys i h.distinct.0, rest.distinct);
        present = (rw (up.others k ne) h.present.0, rest.present);
      }

  pub removed_keys : (old new : Slab T) (keys : List ℕ) (vs : List T) (place key : ℕ)
      → IsKeyAt old keys vs place key → Updates old new key None → AreStored new (remove keys place)
  removed_keys old new keys vs place key at up =
      without_keys old new key keys place key up at.are at.within at.is

  pub removed_value : (old new : Slab T) (keys : List ℕ) (vs : List T) (place key : ℕ)
      → IsKeyAt old keys vs place key → Updates old new key None
      → stored new (remove keys place) ≡ remove vs place
  removed_value old new keys vs place key at up =
      without_stored old new key keys place key up at.are at.within at.is
      ∙ ap (λ (ws : List T). remove ws place) at.shown
