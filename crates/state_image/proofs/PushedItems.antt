-- Items that are pushed one after the other.
use Rattle.std.proofs.Common.{◌≡◌, ℕ, zero, suc, ◌+◌, ◌<◌, ◌≤◌, List, [], ◌∷◌, ◌++◌, length}
use Rattle.std.proofs.Common.{get_or, take, drop, refl, sym, ap, ◌∙◌, subst, append_assoc, arith}
use Rattle.std.specs.Prelude.{Result, Ok, Err, Some, slice_get}
use Rattle.std.specs.List.{flat_map}
use Rattle.std.specs.Result.{IsErrAnd}
use Rattle.std.proofs.lemmas.List.{append-nil, take-append-drop, take_more, take_all}
use Rattle.std.proofs.lemmas.Option.{slice_get_within, get_or_from_slice_get}
use Rattle.std.proofs.lemmas.Grind.{flat_map-append}
use Rattle.state_image.specs.rules.Sinks.{TakingPieces, Pushes}
use Rattle.state_image.proofs.Pushing.{pushes_on, pushes_exit}

-- the front of a list with one item more
pub front_more : {X : Type 0} (xs : List X) (i : ℕ) (x : X) → slice_get xs i ≡ Some x
    → take (i + 1) xs ≡ take i xs ++ x ∷ []
front_more xs i x is =
    let more : take (i + 1) xs ≡ take i xs ++ get_or xs i x ∷ [] =
    take_more xs i x (slice_get_within xs i x is) in
    more ∙ ap (λ y. take i xs ++ y ∷ []) (get_or_from_slice_get xs i x x is)

-- what is at a place
pub item_at : {X : Type 0} (xs : List X) (i : ℕ) → i < length xs
    → (x : X) × (slice_get xs i ≡ Some x)
item_at [] i inside = absurd (omega arith)
item_at (x ∷ xs) zero inside = (x, refl)
item_at (x ∷ xs) (suc i) inside = item_at xs i (omega arith)

-- a prefix of a list, and what is after it
take_add : (xs : List ℕ) (n m : ℕ) → take (n + m) xs ≡ take n xs ++ take m (drop n xs)
take_add xs zero m = ap (λ k. take k xs) (omega arith)
take_add [] (suc n) m = nothing m (suc n + m)
  where
    nothing : (m k : ℕ) → ◌≡◌ {A = List ℕ} (take k []) (take m [])
    nothing zero zero = refl
    nothing zero (suc k) = refl
    nothing (suc m) zero = refl
    nothing (suc m) (suc k) = refl
take_add (x ∷ xs) (suc n) m =
    let e : suc n + m ≡ suc (n + m) = omega arith in
    ap (λ k. take k (x ∷ xs)) e ∙ ap (λ ys. x ∷ ys) (take_add xs n m)

-- the bytes of a front with one item more
bytes_more : {X : Type 0} (f : X → List ℕ) (xs : List X) (i : ℕ) (x : X)
    → take (i + 1) xs ≡ take i xs ++ x ∷ []
    → flat_map f (take (i + 1) xs) ≡ flat_map f (take i xs) ++ f x
bytes_more f xs i x more =
    ap (λ ys. flat_map f ys) more
    ∙ (flat_map-append f (take i xs) (x ∷ [])
    ∙ ap (λ ys. flat_map f (take i xs) ++ ys) (append-nil (f x)))

-- the bytes of a front, and those of the rest
bytes_split : {X : Type 0} (f : X → List ℕ) (xs : List X) (i : ℕ)
    → flat_map f (take i xs) ++ flat_map f (drop i xs) ≡ flat_map f xs
bytes_split f xs i =
    sym (flat_map-append f (take i xs) (drop i xs))
    ∙ ap (λ ys. flat_map f ys) (take-append-drop i xs)

module _ {S F : Type 0} {takes : TakingPieces S F} where
  -- one item more
  pub pushes_item : {a m z : S} {X : Type 0} (front : List ℕ) (f : X → List ℕ) (xs : List X)
      (i : ℕ) (x : X) {said : Result (Unit {0}) F} → take (i + 1) xs ≡ take i xs ++ x ∷ []
      → Pushes takes a (front ++ flat_map f (take i xs)) (Ok tt) m → Pushes takes m (f x) said z
      → Pushes takes a (front ++ flat_map f (take (i + 1) xs)) said z
  pushes_item {a} {m} {z} front f xs i x {said} more before item =
      let e = ap (λ ys. front ++ ys) (bytes_more f xs i x more)
      ∙ sym (append_assoc front (flat_map f (take i xs)) (f x)) in
      subst (λ bytes. Pushes takes a bytes said z) (sym e) (pushes_on before item)

  -- an item that was refused
  pub pushes_item_exit : {a m z : S} {X : Type 0} (front : List ℕ) (f : X → List ℕ) (xs : List X)
      (i : ℕ) (x : X) {fault : F} (r : Result (Unit {0}) F) → take (i + 1) xs ≡ take i xs ++ x ∷ []
      → Pushes takes a (front ++ flat_map f (take i xs)) (Ok tt) m
      → IsErrAnd r (λ y. y ≡ fault) → Pushes takes m (f x) (Err fault) z
      → Pushes takes a (front ++ flat_map f xs) r z
  pushes_item_exit {a} {m} {z} front f xs i x {fault} r more before is_err item =
      let e = append_assoc front (flat_map f (take (i + 1) xs)) (flat_map f (drop (i + 1) xs))
      ∙ ap (λ ys. front ++ ys) (bytes_split f xs (i + 1)) in
      subst (λ bytes. Pushes takes a bytes r z) e
      (pushes_exit (flat_map f (drop (i + 1) xs)) r is_err
      (pushes_item front f xs i x more before item))

  -- all items
  pub pushes_items : {a z : S} {X : Type 0} (front : List ℕ) (f : X → List ℕ) (xs : List X) (i : ℕ)
      {said : Result (Unit {0}) F} → length xs ≤ i
      → Pushes takes a (front ++ flat_map f (take i xs)) said z
      → Pushes takes a (front ++ flat_map f xs) said z
  pushes_items {a} {z} front f xs i {said} all pushed =
      subst (λ ys. Pushes takes a (front ++ flat_map f ys) said z) (take_all i xs all) pushed

  -- some bytes more of a list
  pub pushes_part : {a m z : S} (bytes : List ℕ) (from more to : ℕ) {said : Result (Unit {0}) F}
      → to ≡ from + more → Pushes takes a (take from bytes) (Ok tt) m
      → Pushes takes m (take more (drop from bytes)) said z
      → Pushes takes a (take to bytes) said z
  pushes_part {a} {m} {z} bytes from more to {said} e before part =
      let all : take to bytes ≡ take from bytes ++ take more (drop from bytes) =
      ap (λ k. take k bytes) e ∙ take_add bytes from more in
      subst (λ b. Pushes takes a b said z) (sym all) (pushes_on before part)

  -- some bytes of a list that were refused
  pub pushes_part_exit : {a m z : S} (bytes : List ℕ) (from more : ℕ) {fault : F}
      (r : Result (Unit {0}) F) → Pushes takes a (take from bytes) (Ok tt) m
      → IsErrAnd r (λ y. y ≡ fault)
      → Pushes takes m (take more (drop from bytes)) (Err fault) z
      → Pushes takes a bytes r z
  pushes_part_exit {a} {m} {z} bytes from more {fault} r before is_err part =
      subst (λ b. Pushes takes a b r z) (take-append-drop (from + more) bytes)
      (pushes_exit (drop (from + more) bytes) r is_err
      (pushes_part bytes from more (from + more) refl before part))

  -- all bytes of a list
  pub pushes_parts : {a z : S} (bytes : List ℕ) (to : ℕ) {said : Result (Unit {0}) F}
      → length bytes ≤ to → Pushes takes a (take to bytes) said z → Pushes takes a bytes said z
  pushes_parts {a} {z} bytes to {said} all pushed =
      subst (λ b. Pushes takes a b said z) (take_all to bytes all) pushed
