-- Keys in the order of their nodes' addresses, and what a change leaves of that.
use Rattle.std.proofs.Common.{◌≡◌, ◌≢◌, ℕ, zero, suc, ◌<◌, ◌⊎◌, inl, inr, List, [], ◌∷◌, ◌++◌}
use Rattle.std.proofs.Common.{length, get_or, refl, sym, ap, subst, ◌∙◌, arith}
use Rattle.std.specs.List.{AllByRecursion, insert, remove}
use Rattle.std.proofs.lemmas.Bool.{cases_eq}
use Rattle.file_tree.specs.rules.Files.{is_before}
use Rattle.file_tree.specs.Store.Cuts.{HasElement, AreOrdered, IsCut}
use Rattle.file_tree.specs.Store.Named.{IsBehind, IsUpTo, AreNamed, NoKey, OnlyKey}
use Rattle.file_tree.proofs.Order.{not_itself, one_before, in_front, behind_if, not_behind_if}
use Rattle.file_tree.proofs.StoreLemmas.Cuts.{ordered_but}
use Rattle.file_tree.proofs.StoreLemmas.Places.{held_by_all}

-- ---- what a list holds

pub held_added : (xs : List ℕ) (k y : ℕ) → HasElement (xs ++ k ∷ []) y → HasElement xs y ⊎ (y ≡ k)
held_added [] k y (inl e) = inr (sym e)
held_added [] k y (inr at) = absurd at
held_added (x ∷ xs) k y (inl e) = inl (inl e)
held_added (x ∷ xs) k y (inr at) =
    elim (held_added xs k y at) [ inl h ↦ inl (inr h) | inr e ↦ inr e ]

pub held_still : (xs : List ℕ) (k y : ℕ) → HasElement xs y → HasElement (xs ++ k ∷ []) y
held_still [] k y at = absurd at
held_still (x ∷ xs) k y (inl e) = inl e
held_still (x ∷ xs) k y (inr at) = inr (held_still xs k y at)

pub held_last : (xs : List ℕ) (k : ℕ) → HasElement (xs ++ k ∷ []) k
held_last [] k = inl refl
held_last (x ∷ xs) k = inr (held_last xs k)

pub held_without : (xs : List ℕ) (i y : ℕ) → HasElement (remove xs i) y → HasElement xs y
held_without [] zero y at = absurd at
held_without [] (suc i) y at = absurd at
held_without (x ∷ xs) zero y at = inr at
held_without (x ∷ xs) (suc i) y (inl e) = inl e
held_without (x ∷ xs) (suc i) y (inr at) = inr (held_without xs i y at)

pub held_but : (xs : List ℕ) (i d y : ℕ) → HasElement xs y → y ≢ get_or xs i d
    → HasElement (remove xs i) y
held_but [] i d y at ne = absurd at
held_but (x ∷ xs) zero d y (inl e) ne = absurd (ne (sym e))
held_but (x ∷ xs) zero d y (inr at) ne = at
held_but (x ∷ xs) (suc i) d y (inl e) ne = inl e
held_but (x ∷ xs) (suc i) d y (inr at) ne = inr (held_but xs i d y at ne)

held_put : (xs : List ℕ) (i k y : ℕ) → HasElement (insert xs i k) y → HasElement xs y ⊎ (y ≡ k)
held_put [] zero k y (inl e) = inr (sym e)
held_put [] zero k y (inr at) = absurd at
held_put [] (suc i) k y (inl e) = inr (sym e)
held_put [] (suc i) k y (inr at) = absurd at
held_put (x ∷ xs) zero k y (inl e) = inr (sym e)
held_put (x ∷ xs) zero k y (inr at) = inl at
held_put (x ∷ xs) (suc i) k y (inl e) = inl (inl e)
held_put (x ∷ xs) (suc i) k y (inr at) =
    elim (held_put xs i k y at) [ inl h ↦ inl (inr h) | inr e ↦ inr e ]

held_beside : (xs : List ℕ) (i k y : ℕ) → HasElement xs y → HasElement (insert xs i k) y
held_beside [] i k y at = absurd at
held_beside (x ∷ xs) zero k y at = inr at
held_beside (x ∷ xs) (suc i) k y (inl e) = inl e
held_beside (x ∷ xs) (suc i) k y (inr at) = inr (held_beside xs i k y at)

held_there : (xs : List ℕ) (i k : ℕ) → HasElement (insert xs i k) k
held_there [] zero k = inl refl
held_there [] (suc i) k = inl refl
held_there (x ∷ xs) zero k = inl refl
held_there (x ∷ xs) (suc i) k = inr (held_there xs i k)

pub all_of_held : (P : ℕ → Type 0) (xs : List ℕ) → ((y : ℕ) → HasElement xs y → P y)
    → AllByRecursion P xs
all_of_held P [] h = tt
all_of_held P (x ∷ xs) h = (h x (inl refl), all_of_held P xs (λ y at. h y (inr at)))

-- ---- one more key at a cut

module _ (address : ℕ → List ℕ) where
  abbrev After : ℕ → ℕ → Type 0
  After j k = IsBehind (address j) (address k)

  -- a key at or before the cut is before the new one
  is_before_the_new : (key k : ℕ) → address k ≢ address key → IsUpTo (address key) (address k)
      → After k key
  is_before_the_new key k ne up =
      in_front (address k) (address key)
      (one_before (address key) (address k) (λ e. ne (sym e))
      (not_behind_if (address key) (address k) up))

  ordered_put : (key : ℕ) (xs : List ℕ) (p : ℕ) → AreOrdered After xs
      → IsCut (λ k. IsUpTo (address key) (address k)) (λ k. After key k) xs p
      → ((k : ℕ) → HasElement xs k → address k ≢ address key) → AreOrdered After (insert xs p key)
  ordered_put key [] zero order cut other = (tt, tt)
  ordered_put key [] (suc p) order cut other = absurd cut
  ordered_put key (x ∷ xs) zero order cut other = (cut, order)
  ordered_put key (x ∷ xs) (suc p) order cut other =
      let first : After x key = is_before_the_new key x (other x (inl refl)) cut.0 in (
        all_of_held (After x) (insert xs p key) (λ y at. elim (held_put xs p key y at) [
          | inl h ↦ held_by_all (After x) xs y order.0 h
          | inr e ↦ subst (After x) (sym e) first
        ]),
        ordered_put key xs p order.1 cut.1 (λ k at. other k (inr at)),
      )

  -- a key at a place isn't there once it is taken out
  not_left : (xs : List ℕ) (i d : ℕ) → AreOrdered After xs → i < length xs
      → HasElement (remove xs i) (get_or xs i d) → ⊥
  not_left [] i d order lt at = absurd (omega (arith, lt))
  not_left (x ∷ xs) zero d order lt at =
      not_itself (address x) (behind_if (address x) (address x)
      (held_by_all (After x) xs x order.0 at))
  not_left (x ∷ xs) (suc i) d order lt (inl e) =
      not_itself (address x) (behind_if (address x) (address x)
      (subst (After x) (sym e) (all_at xs i d order.0 (omega (arith, lt))))) where
        all_at : (ys : List ℕ) (i d : ℕ) → AllByRecursion (After x) ys → i < length ys
            → After x (get_or ys i d)
        all_at [] i d h lt = absurd (omega (arith, lt))
        all_at (y ∷ ys) zero d h lt = h.0
        all_at (y ∷ ys) (suc i) d h lt = all_at ys i d h.1 (omega (arith, lt))
  not_left (x ∷ xs) (suc i) d order lt (inr at) = not_left xs i d order.1 (omega (arith, lt)) at

  -- ---- the index and a key

  pub key_put : (order names : List ℕ) (key p : ℕ) → AreNamed (OnlyKey key) address order names
      → HasElement order key → address key ≢ []
      → IsCut (λ k. IsUpTo (address key) (address k)) (λ k.
      IsBehind (address key) (address k)) names p
      → ((k : ℕ) → HasElement names k → address k ≢ address key)
      → AreNamed NoKey address order (insert names p key)
  key_put order names key p are there hung cut free =
      record {
        ordered = ordered_put key names p are.ordered cut free;
        among = λ k at. elim (held_put names p key k at) [
          | inl h ↦ are.among k h
          | inr e ↦ subst
              (HasElement order) (sym e) there
        ];
        hung = λ k at. elim (held_put names p key k at) [
          | inl h ↦ are.hung k h
          | inr e ↦ subst
              (λ (j : ℕ). address j ≢ []) (sym e) hung
        ];
        without = λ k at out. out;
        all = λ k at some out. elim (cases_eq k key) [
          | inl e ↦ subst (HasElement (insert names p key)) (sym e) (held_there names p key)
          | inr ne ↦ held_beside names p key k (are.all k at some ne)
        ];
      }

  pub key_taken : (order names : List ℕ) (key i d : ℕ) → AreNamed NoKey address order names
      → i < length names → get_or names i d ≡ key
      → AreNamed (OnlyKey key) address order (remove names i)
  key_taken order names key i d are lt is =
      record {
        ordered = ordered_but After names i are.ordered;
        among = λ k at. are.among k (held_without names i k at);
        hung = λ k at. are.hung k (held_without names i k at);
        without = λ k at out. not_left names i d are.ordered lt (subst (HasElement (remove names i))
            (out ∙ sym is) at);
        all = λ k at some out. held_but names i d k (are.all k at some (λ none. none)) (λ e. out (e
            ∙ is));
      }

  pub key_left : (order names : List ℕ) (key : ℕ) → AreNamed (OnlyKey key) address order names
      → address key ≡ []
      → AreNamed NoKey address order names
  key_left order names key are none =
      record {
        ordered = are.ordered;
        among = are.among;
        hung = are.hung;
        without = λ k at out. out;
        all = λ k at some out. are.all k at some (λ e. some (ap address e ∙ none));
      }

  -- the key leaves the tree
  pub key_forgotten : (order names : List ℕ) (key i d : ℕ)
      → AreNamed (OnlyKey key) address order names
      → (HasElement (remove order i) key → ⊥) → get_or order i d ≡ key
      → AreNamed NoKey address (remove order i) names
  key_forgotten order names key i d are gone is =
      record {
        ordered = are.ordered;
        among = λ k at. held_but order i d k (are.among k at) (λ e. are.without k at (e ∙ is));
        hung = are.hung;
        without = λ k at out. out;
        all = λ k at some out. are.all k (held_without order i k at) some (λ e.
            gone (subst (HasElement (remove order i)) e at));
      }

-- the address of a key that is left out changes
pub address_changed : (old new : ℕ → List ℕ) (order names : List ℕ) (key : ℕ)
    → ((k : ℕ) → k ≢ key → new k ≡ old k)
    → AreNamed (OnlyKey key) old order names → AreNamed (OnlyKey key) new order names
address_changed old new order names key same are =
    record {
      ordered = ordered_so names are.ordered (λ k at e. are.without k at e);
      among = are.among;
      hung = λ k at e. are.hung k at (sym (same k (λ out. are.without k at out)) ∙ e);
      without = are.without;
      all = λ k at some out. are.all k at (λ e. some (same k out ∙ e)) out;
    } where
      all_so : (x : ℕ) (ks : List ℕ) → x ≢ key → ((k : ℕ) → HasElement ks k → k ≢ key)
          → AllByRecursion (λ k. IsBehind (old x) (old k)) ks
          → AllByRecursion (λ k. IsBehind (new x) (new k)) ks
      all_so x [] ne others h = tt
      all_so x (k ∷ ks) ne others h = (
        ap (λ (a : List ℕ). is_before a (new k)) (same x ne)
            ∙ ap (is_before (old x)) (same k (others k (inl refl)))
            ∙ h.0,
        all_so x ks ne (λ j at. others j (inr at)) h.1,
      )

      ordered_so : (ks : List ℕ) → AreOrdered (λ j k. IsBehind (old j) (old k)) ks
          → ((k : ℕ) → HasElement ks k → k ≢ key) → AreOrdered (λ j k. IsBehind (new j) (new k)) ks
      ordered_so [] h others = tt
      ordered_so (k ∷ ks) h others = (
        all_so k ks (others k (inl refl)) (λ j at. others j (inr at)) h.0,
        ordered_so ks h.1 (λ j at. others j (inr at)),
      )

-- a key that is new
pub key_new : (old new : ℕ → List ℕ) (order names : List ℕ) (key : ℕ)
    → ((k : ℕ) → k ≢ key → new k ≡ old k) → (HasElement order key → ⊥)
    → AreNamed NoKey old order names → AreNamed (OnlyKey key) new (order ++ key ∷ []) names
key_new old new order names key same fresh are =
    address_changed old new (order ++ key ∷ []) names key same (record {
      ordered = are.ordered;
      among = λ k at. held_still order key k (are.among k at);
      hung = are.hung;
      without = λ k at out. fresh (subst (HasElement order) out (are.among k at));
      all = λ k at some out. elim (held_added order key k at) [
        | inl h ↦ are.all k h some (λ none.
            none)
        | inr e ↦ absurd (out e)
      ];
    })

-- nothing is named where there is nothing
pub none_named : (address : ℕ → List ℕ) (order names : List ℕ) → order ≡ [] → names ≡ []
    → AreNamed NoKey address order names
none_named address order names e f =
    rw (e, f) (record {
      ordered = tt;
      among = λ k at. at;
      hung = λ k at g. at;
      without = λ k at out. at;
      all = λ k at some out. at;
    })
