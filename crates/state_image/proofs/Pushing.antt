-- Pushes that follow one another.
use Rattle.std.proofs.Common.{◌≡◌, ℕ, List, [], ◌∷◌, ◌++◌, refl, sym, ap, ◌∙◌, subst, append_assoc}
use Rattle.std.specs.Prelude.{Result, Ok, Err}
use Rattle.std.specs.Result.{IsErrAnd}
use Rattle.std.proofs.lemmas.Result.{err_from_is_err_and}
use Rattle.std.proofs.lemmas.List.{append-nil}
use Rattle.state_image.specs.rules.Sinks.{TakingPieces, joined, TakesPieces, Pushes}

joined_on : (pieces more : List (List ℕ)) → joined (pieces ++ more) ≡ joined pieces ++ joined more
joined_on [] more = refl
joined_on (piece ∷ pieces) more = rw (joined_on pieces more, append_assoc) refl

takes_on : {S F : Type 0} (takes : TakingPieces S F) (a m z : S) (pieces more : List (List ℕ))
    → TakesPieces takes a pieces m → TakesPieces takes m more z
    → TakesPieces takes a (pieces ++ more) z
takes_on takes a m z [] more same all = subst (λ s. TakesPieces takes s more z) same all
takes_on takes a m z (piece ∷ pieces) more first all =
    (first.0, first.1, takes_on takes first.0 m z pieces more first.2 all)

module _ {S F : Type 0} {takes : TakingPieces S F} where
  -- one push
  pub pushes_once : (a z : S) (piece : List ℕ) (said : Result (Unit {0}) F) → takes a piece said z
      → Pushes takes a piece said z
  pushes_once a z piece (Ok done) is_taken = record {
    taken = piece ∷ [];
    bytes_left = [];
    is = sym (append-nil (piece ++ []) ∙ append-nil piece);
    between = z;
    all = (z, is_taken, refl);
    stops = (refl, refl);
  }
  pushes_once a z piece (Err fault) is_refused = record {
    taken = [];
    bytes_left = piece;
    is = refl;
    between = a;
    all = refl;
    stops = (piece, [], sym (append-nil piece), is_refused);
  }

  -- nothing is pushed
  pub pushes_none : (a : S) → Pushes takes a [] (Ok tt) a
  pushes_none a = record {
    taken = [];
    bytes_left = [];
    is = refl;
    between = a;
    all = refl;
    stops = (refl, refl);
  }

  -- pushes that were all taken, and others after them
  pub pushes_on : {a m z : S} {front back : List ℕ} {said : Result (Unit {0}) F}
      → Pushes takes a front (Ok tt) m → Pushes takes m back said z
      → Pushes takes a (front ++ back) said z
  pushes_on {a} {m} {z} {front} {back} {said} first second = record {
    taken = first.taken ++ second.taken;
    bytes_left = second.bytes_left;
    is = whole;
    between = second.between;
    all = takes_on takes a m second.between first.taken second.taken first_all second.all;
    stops = second.stops;
  }
    where
      first_all : TakesPieces takes a first.taken m
      first_all = subst (λ s. TakesPieces takes a first.taken s) (sym first.stops.1) first.all

      first_is : front ≡ joined first.taken
      first_is = first.is
          ∙ (ap (λ x. joined first.taken ++ x) first.stops.0 ∙ append-nil (joined first.taken))

      whole : front ++ back ≡ joined (first.taken ++ second.taken) ++ second.bytes_left
      whole = rw (joined_on, append_assoc, ← first_is, ← second.is) refl

  -- what is pushed, under another name
  pub pushes_of : {a z : S} {X : Type 0} (f : X → List ℕ) {x y : X} {said : Result (Unit {0}) F}
      → x ≡ y → Pushes takes a (f x) said z → Pushes takes a (f y) said z
  pushes_of {a} {z} f {x} {y} {said} e pushed = subst (λ v. Pushes takes a (f v) said z) e pushed

  -- after a refusal nothing more is pushed
  pub pushes_no_more : {a z : S} {front : List ℕ} (back : List ℕ) {fault : F}
      → Pushes takes a front (Err fault) z → Pushes takes a (front ++ back) (Err fault) z
  pushes_no_more {a} {z} {front} back {fault} first = record {
    taken = first.taken;
    bytes_left = first.bytes_left ++ back;
    is = ap (λ x. x ++ back) first.is ∙ append_assoc (joined first.taken) first.bytes_left back;
    between = first.between;
    all = first.all;
    stops = (
      first.stops.0,
      first.stops.1 ++ back,
      ap (λ x. x ++ back) first.stops.2 ∙ append_assoc first.stops.0 first.stops.1 back,
      first.stops.3,
    );
  }

  -- the exit of a `?` after pushes that were refused
  pub pushes_exit : {a z : S} {front : List ℕ} (back : List ℕ) {fault : F}
      (r : Result (Unit {0}) F) → IsErrAnd r (λ y. y ≡ fault) → Pushes takes a front (Err fault) z
      → Pushes takes a (front ++ back) r z
  pushes_exit {a} {z} {front} back {fault} r is_err first =
      let p = err_from_is_err_and r is_err in
      subst (λ s. Pushes takes a (front ++ back) s z) (sym (p.1 ∙ ap (λ y. Err y) p.2))
      (pushes_no_more back first)
