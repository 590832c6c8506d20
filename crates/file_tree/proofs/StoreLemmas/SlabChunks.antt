-- Chunks in one slab: what is put into one of them, and chunks that come and go.
use Rattle.std.proofs.Common.{◌≡◌, ◌≢◌, ◌⊎◌, inl, inr, ℕ, zero, suc, ◌+◌, ◌*◌, ◌-◌, ◌/◌, ◌%◌, ◌<◌}
use Rattle.std.proofs.Common.{◌≤◌, List, [], ◌∷◌, ◌++◌, length, take, drop, get_or, Option, Some}
use Rattle.std.proofs.Common.{None, refl, sym, ap, subst, ◌∙◌, arith, cond, is_some, count_by}
use Rattle.std.proofs.Common.{length-append}
use Rattle.std.specs.Prelude.{replicate, set, IsSome}
use Rattle.std.specs.List.{concat, remove}
use Rattle.std.proofs.lemmas.Bool.{cases_eq}
use Rattle.std.proofs.lemmas.List.{take_all, take-take, replicate-append-replicate, append_assoc}
use Rattle.std.proofs.lemmas.Nat.{div_below}
use Rattle.std.proofs.lemmas.List.Sums.{sum_by-cons}
use Rattle.std.proofs.lemmas.List.Edits.{length-remove}
use Rattle.slab.specs.Slab.{ContainsKey, get, slab_len, Updates, with_value}
use Rattle.file_tree.specs.declared.limits.TheConstants.{CHUNK_BYTES}
use Rattle.file_tree.specs.Store.Bodies.{Chunks, AreFullAt, Rekeys}
use Rattle.file_tree.specs.Store.Chunked.{overlaid, AreFull}
use Rattle.file_tree.specs.Store.Cuts.{HasElement}
use Rattle.file_tree.specs.Store.Stored.{stored, changed}
use Rattle.file_tree.proofs.StoreLemmas.Keys.{IsKeyAt, Adds, length-stored, replaced, value_at}
use Rattle.file_tree.proofs.StoreLemmas.Keys.{changed_keys, changed_value, some_or_none, not_both}
use Rattle.file_tree.proofs.StoreLemmas.Keys.{stored_push, keys_push, removed_keys, removed_value}
use Rattle.file_tree.proofs.StoreLemmas.Overs.{full_append, full_take, piece_full, piece_written}
use Rattle.file_tree.proofs.StoreLemmas.Overs.{piece_read, piece_cleared, none_cleared}
use Rattle.file_tree.proofs.StoreLemmas.Overs.{length-joined}
use Rattle.file_tree.proofs.StoreLemmas.Places.{held_by_all, held_at, some_at}

-- ---- keys of one file, and of the others

pub held_or_not : (keys : List ℕ) (k : ℕ) → HasElement keys k ⊎ (HasElement keys k → ⊥)
held_or_not [] k = inr (λ at. at)
held_or_not (j ∷ keys) k = elim (cases_eq j k) [
  | inl e ↦ inl (inl e)
  | inr ne ↦ elim (held_or_not keys k) [
    | inl at ↦ inl (inr at)
    | inr none ↦ inr (neither ne none)
  ]
] where
  neither : j ≢ k → (HasElement keys k → ⊥) → HasElement (j ∷ keys) k → ⊥
  neither ne none (inl e) = ne e
  neither ne none (inr at) = none at

pub key_at_held : (keys : List ℕ) (i d : ℕ) → i < length keys → HasElement keys (get_or keys i d)
key_at_held keys i d lt = held_at keys i (get_or keys i d) (some_at keys i d lt)

same_at : (xs : List ℕ) (i d e : ℕ) → i < length xs → get_or xs i d ≡ get_or xs i e
same_at [] i d e lt = absurd (omega (arith, lt))
same_at (x ∷ xs) zero d e lt = refl
same_at (x ∷ xs) (suc i) d e lt = same_at xs i d e (omega (arith, lt))

pub held_push : (keys : List ℕ) (key k : ℕ) → HasElement (keys ++ key ∷ []) k
    → HasElement keys k ⊎ (key ≡ k)
held_push [] key k (inl e) = inr e
held_push [] key k (inr at) = absurd at
held_push (j ∷ keys) key k (inl e) = inl (inl e)
held_push (j ∷ keys) key k (inr at) = elim (held_push keys key k at) [
  | inl there ↦ inl (inr there)
  | inr e ↦ inr e
]

pub held_remove : (keys : List ℕ) (i k : ℕ) → HasElement (remove keys i) k → HasElement keys k
held_remove [] zero k at = at
held_remove [] (suc i) k at = at
held_remove (j ∷ keys) zero k at = inr at
held_remove (j ∷ keys) (suc i) k (inl e) = inl e
held_remove (j ∷ keys) (suc i) k (inr at) = inr (held_remove keys i k at)

pub rekeys_none : (old : Chunks) (keys : List ℕ) → Rekeys old old keys keys
rekeys_none old keys = record {
  fresh = λ k at. inl at;
  others = λ k some out. refl;
  count = refl;
}

pub rekeys_join : (a b c : Chunks) (ks ls ms : List ℕ) → Rekeys a b ks ls → Rekeys b c ls ms
    → Rekeys a c ks ms
rekeys_join a b c ks ls ms p q =
    record {
      fresh = λ k at. elim (q.fresh k at) [
        | inl there ↦ p.fresh k there
        | inr none ↦ before k none
      ];
      others = λ k some out.
          (let same = p.others k some out in
          q.others k (subst (λ (o : Option (List ℕ)). IsSome o) (sym same) some) (λ at.
          elsewhere k some out (p.fresh k at)) ∙ same);
      count = omega (arith, p.count, q.count);
    } where
      before : (k : ℕ) → get b k ≡ None → HasElement ks k ⊎ (get a k ≡ None)
      before k none = elim (held_or_not ks k) [
        | inl at ↦ inl at
        | inr out ↦ elim (some_or_none (get a k)) [
          | inl v ↦ absurd (let some : IsSome (get a k) = rw v.1 refl in
              not_both (get a k) some (sym (p.others k some out) ∙ none))
          | inr vacant ↦ inr vacant
        ]
      ]

      elsewhere : (k : ℕ) → ContainsKey a k → (HasElement ks k → ⊥)
          → HasElement ks k ⊎ (get a k ≡ None) → ⊥
      elsewhere k some out (inl at) = out at
      elsewhere k some out (inr none) = not_both (get a k) some none

-- a slab with more room
pub rekeys_room : (old new : Chunks) (keys : List ℕ) → new ≡ record old { capacity = new.capacity }
    → Rekeys old new keys keys
rekeys_room old new keys e = with_more old new new.capacity keys e where
  with_more : (old new : Chunks) (capacity : ℕ) (keys : List ℕ)
      → new ≡ record old { capacity = capacity } → Rekeys old new keys keys
  with_more old new capacity keys e =
      subst (λ (s : Chunks). Rekeys old s keys keys) (sym e)
      (record { fresh = λ k at. inl at; others = λ k some out. refl; count = refl })

-- ---- how many chunks there are

abbrev ones : {T : Type 0} → Option T → ℕ
ones o = cond (is_some o) 1 0

len_set : {T : Type 0} (slots : List (Option T)) (i : ℕ) (v w : T) → get_or slots i None ≡ Some w
    → count_by is_some (set slots i (Some v)) ≡ count_by is_some slots
len_set [] i v w e = refl
len_set {T} (x ∷ slots) zero v w e =
    omega (
      arith,
      sum_by-cons (λ o. cond (is_some o) 1 0) (Some v) slots,
      sum_by-cons (λ o. cond (is_some o) 1 0) x slots,
      ap (λ (o : Option T). ones o) e,
    )
len_set (x ∷ slots) (suc i) v w e =
    omega (
      arith,
      sum_by-cons (λ o. cond (is_some o) 1 0) x (set slots i (Some v)),
      sum_by-cons (λ o. cond (is_some o) 1 0) x slots,
      len_set slots i v w e,
    )

-- ---- bytes put into a chunk

set_changed : (cs : List (List ℕ)) (i : ℕ) (x : List ℕ) → changed (λ (c : List ℕ). x) i cs
    ≡ set cs i x
set_changed [] i x = refl
set_changed (c ∷ cs) zero x = refl
set_changed (c ∷ cs) (suc i) x = ap (λ (ds : List (List ℕ)). c ∷ ds) (set_changed cs i x)

-- a chunk that is changed where it is
pub rekeys_put : (chunks : Chunks) (keys : List ℕ) (key : ℕ) (v x : List ℕ) → HasElement keys key
    → get chunks key ≡ Some v → Rekeys chunks (with_value chunks key x) keys keys
rekeys_put chunks keys key v x at got =
    record {
      fresh = λ k held. inl held;
      others = λ k some out. (replaced chunks key x v got).others k (λ e. out (subst (HasElement
          keys) (sym e) at));
      count = ap (λ (n : ℕ). n + length keys) (len_set chunks.slots key x v got);
    }

module _ (chunks : Chunks) (keys : List ℕ) (at : ℕ) (h : AreFullAt chunks keys)
    (within : at < length keys * CHUNK_BYTES) where
  -- the key of the chunk in which a byte lies
  abbrev key : ℕ
  key = get_or keys (at / CHUNK_BYTES) 0

  abbrev cs : List (List ℕ)
  cs = stored chunks keys

  count : length cs ≡ length keys
  count = length-stored chunks keys h.are.present

  inside : at < length cs * CHUNK_BYTES
  inside = omega (arith, within, count)

  place_below : at / CHUNK_BYTES < length keys
  place_below = div_below at CHUNK_BYTES (length keys) (omega arith) within

  key_is : IsKeyAt chunks keys cs (at / CHUNK_BYTES) key
  key_is = record {
    are = h.are;
    shown = refl;
    within = place_below;
    is = same_at keys (at / CHUNK_BYTES) key 0 place_below;
  }

  key_held : HasElement keys key
  key_held = key_at_held keys (at / CHUNK_BYTES) 0 place_below

  pub chunk_there : ContainsKey chunks key
  chunk_there = held_by_all (ContainsKey chunks) keys key h.are.present key_held

  module _ (v : List ℕ) (got : get chunks key ≡ Some v) where
    own : v ≡ get_or cs (at / CHUNK_BYTES) v
    own = value_at chunks keys cs (at / CHUNK_BYTES) key v v key_is got

    pub chunk_read : (r : ℕ) → at % CHUNK_BYTES + r ≤ CHUNK_BYTES
        → take r (drop (at % CHUNK_BYTES) v) ≡ take r (drop at (concat cs))
    chunk_read r fits = piece_read cs at h.full inside v r own fits

    after : (x : List ℕ) → stored (with_value chunks key x) keys ≡ set cs (at / CHUNK_BYTES) x
    after x =
        changed_value chunks keys cs (at / CHUNK_BYTES) key (λ (c : List ℕ). x) v x key_is got refl
        ∙ set_changed cs (at / CHUNK_BYTES) x

    pub chunk_full : (x ys : List ℕ) → x ≡ overlaid v (at % CHUNK_BYTES) ys
        → AreFullAt (with_value chunks key x) keys
    chunk_full x ys e = record {
      are = changed_keys chunks keys cs (at / CHUNK_BYTES) key v x key_is got;
      full = subst AreFull (sym (after x)) (piece_full cs at h.full inside v x ys own e);
    }

    pub chunk_written : (x ys : List ℕ) → x ≡ overlaid v (at % CHUNK_BYTES) ys
        → at % CHUNK_BYTES + length ys ≤ CHUNK_BYTES
        → concat (stored (with_value chunks key x) keys) ≡ overlaid (concat cs) at ys
    chunk_written x ys e fits =
        ap concat (after x) ∙ piece_written cs at h.full inside v x ys own e fits

    pub chunk_cleared : (x : List ℕ)
        → x ≡ overlaid v (at % CHUNK_BYTES) (replicate (CHUNK_BYTES - at % CHUNK_BYTES) 0)
        → length keys * CHUNK_BYTES < at + CHUNK_BYTES
        → concat (stored (with_value chunks key x) keys)
        ≡ take at (concat cs) ++ replicate (length keys * CHUNK_BYTES - at) 0
    chunk_cleared x e last =
        ap concat (after x)
        ∙ piece_cleared cs at h.full inside v x own e (omega (arith, last, count))
        ∙ ap (λ (n : ℕ). take at (concat cs) ++ replicate {A = ℕ} (n * CHUNK_BYTES - at) 0) count

    pub chunk_rekeys : (x : List ℕ) → Rekeys chunks (with_value chunks key x) keys keys
    chunk_rekeys x = rekeys_put chunks keys key v x key_held got

-- ---- a chunk more

module _ (old new : Chunks) (key : ℕ) (v : List ℕ) (keys : List ℕ) (adds : Adds old new key v)
    (h : AreFullAt old keys) where
  pub more_stored : stored new (keys ++ key ∷ []) ≡ stored old keys ++ v ∷ []
  more_stored = stored_push old new key v keys adds h.are.present

  pub more_full : length v ≡ CHUNK_BYTES → AreFullAt new (keys ++ key ∷ [])
  more_full e = record {
    are = keys_push old new key v keys adds h.are;
    full = subst AreFull (sym more_stored) (full_append (stored old keys) (v ∷ []) h.full (e, tt));
  }

  pub more_rekeys : slab_len new ≡ slab_len old + 1 → Rekeys old new keys (keys ++ key ∷ [])
  more_rekeys e = record {
    fresh = λ k at. elim (held_push keys key k at) [
      | inl there ↦ inl there
      | inr same ↦ inr (ap (get old) (sym same) ∙ adds.was_vacant)
    ];
    others = λ k some out. adds.updates.others k (λ same.
        not_both (get old k) some (ap (get old) same ∙ adds.was_vacant));
    count = omega (arith, e, length-append keys (key ∷ []));
  }

-- ---- the last chunk is taken out

without_last : {T : Type 0} (xs : List T) (n : ℕ) → length xs ≡ suc n → remove xs n ≡ take n xs
without_last [] n e = absurd (omega (arith, e))
without_last (x ∷ []) zero e = refl
without_last (x ∷ y ∷ xs) zero e = absurd (omega (arith, e))
without_last {T} (x ∷ xs) (suc n) e =
    ap (λ (ys : List T). x ∷ ys) (without_last xs n (omega (arith, e)))

module _ (old new : Chunks) (keys : List ℕ) (last key : ℕ) (h : AreFullAt old keys)
    (is_last : length keys ≡ suc last) (is : key ≡ get_or keys last key)
    (up : Updates old new key None) where
  was : IsKeyAt old keys (stored old keys) last key
  was = record { are = h.are; shown = refl; within = omega (arith, is_last); is = sym is }

  pub less_stored : stored new (remove keys last) ≡ take last (stored old keys)
  less_stored =
      removed_value old new keys (stored old keys) last key was up
      ∙ without_last (stored old keys) last (length-stored old keys h.are.present ∙ is_last)

  pub less_full : AreFullAt new (remove keys last)
  less_full = record {
    are = removed_keys old new keys (stored old keys) last key was up;
    full = subst AreFull (sym less_stored) (full_take last (stored old keys) h.full);
  }

  pub less_rekeys : slab_len new + 1 ≡ slab_len old → Rekeys old new keys (remove keys last)
  less_rekeys e = record {
    fresh = λ k at. inl (held_remove keys last k at);
    others = λ k some out. up.others k (λ same. out (subst (HasElement keys) (sym (same ∙ is))
        (key_at_held keys last key (omega (arith, is_last)))));
    count = omega (arith, e, is_last, length-remove keys last (omega (arith, is_last)));
  }

-- ---- chunks that end where they are to be cleared

pub none_to_clear : (chunks : Chunks) (keys : List ℕ) (at : ℕ) → AreFullAt chunks keys
    → at % CHUNK_BYTES ≡ 0 → at ≤ length keys * CHUNK_BYTES
    → length keys * CHUNK_BYTES < at + CHUNK_BYTES
    → concat (stored chunks keys) ≡ take at (concat (stored chunks keys))
    ++ replicate (length keys * CHUNK_BYTES - at) 0
none_to_clear chunks keys at h start within last =
    let cs = stored chunks keys in
    let count = length-stored chunks keys h.are.present in
    none_cleared cs at h.full start (omega (arith, within, count)) (omega (arith, last, count))
    ∙ ap (λ (n : ℕ). take at (concat cs) ++ replicate {A = ℕ} (n * CHUNK_BYTES - at) 0) count

-- how many bytes they have
pub length-full : (chunks : Chunks) (keys : List ℕ) → AreFullAt chunks keys
    → length (concat (stored chunks keys)) ≡ length keys * CHUNK_BYTES
length-full chunks keys h =
    omega (
      arith,
      length-joined (stored chunks keys) h.full,
      length-stored chunks keys h.are.present,
    )

-- ---- loops over the chunks of a file

pub all_left : (chunks : Chunks) (keys : List ℕ) → AreFullAt chunks keys
    → stored chunks keys ≡ take (length keys) (stored chunks keys)
all_left chunks keys h =
    sym (take_all (length keys) (stored chunks keys)
    (omega (arith, length-stored chunks keys h.are.present)))

pub one_less : (xs ys zs : List (List ℕ)) (n m : ℕ) → n ≡ suc m → ys ≡ take n xs
    → zs ≡ take (n - 1) ys → zs ≡ take m xs
one_less xs ys zs n m e f g =
    let same : n - 1 ≡ m = omega (arith, e) in
    g ∙ ap (λ (k : ℕ). take k ys) same ∙ ap (take m) f ∙ take-take m n xs (omega (arith, e))

head_same : (x y : List ℕ) (xs ys : List (List ℕ)) → x ∷ xs ≡ y ∷ ys → x ≡ y
head_same x y xs ys e = cc

tail_same : (x y : List ℕ) (xs ys : List (List ℕ)) → x ∷ xs ≡ y ∷ ys → xs ≡ ys
tail_same x y xs ys e = cc

-- the last one of the same elements
pub last_same : (n : ℕ) (xs : List (List ℕ)) (x z : List ℕ) → replicate n z ≡ xs ++ x ∷ []
    → (x ≡ z) × (xs ≡ replicate (length xs) z)
last_same zero [] x z e = absurd cc
last_same zero (y ∷ xs) x z e = absurd cc
last_same (suc zero) [] x z e = (sym (head_same z x [] [] e), refl)
last_same (suc (suc n)) [] x z e = absurd (let t : z ∷ replicate n z ≡ [] = tail_same z x (z
    ∷ replicate n z) [] e in cc)
last_same (suc n) (y ∷ xs) x z e =
    let rest = last_same n xs x z (tail_same z y (replicate n z) (xs ++ x ∷ []) e) in (
      rest.0,
      ap (λ (w : List ℕ). w ∷ xs) (sym (head_same z y (replicate n z) (xs ++ x ∷ []) e))
          ∙ ap (λ (ws : List (List ℕ)). z ∷ ws) rest.1,
    )

pub one_more : (xs ys zs : List (List ℕ)) (z : List ℕ) (n i j : ℕ) → i ≡ suc j → i ≤ n
    → ys ≡ xs ++ replicate (n - i) z → zs ≡ ys ++ z ∷ [] → zs ≡ xs ++ replicate (n - j) z
one_more xs ys zs z n i j e le f g =
    let more : (n - i) + 1 ≡ n - j = omega (arith, e, le) in
    g ∙ ap (λ (ws : List (List ℕ)). ws ++ z ∷ []) f ∙ append_assoc xs (replicate (n - i) z) (z ∷ [])
    ∙ ap (λ (ws : List (List ℕ)). xs ++ ws) (replicate-append-replicate (n - i) 1 z
    ∙ ap (λ (k : ℕ). replicate k z) more)
