-- Open descriptors, counted and numbered.
use Rattle.std.proofs.Common.{◌≡◌, ℕ, ◌+◌, ◌≤◌, List, [], ◌∷◌, ◌++◌, length, take, drop, refl}
use Rattle.std.proofs.Common.{sym, ap, subst, ◌∙◌, append_assoc, length-append, arith}
use Rattle.std.specs.Prelude.{Option, Some, None, Result, Ok, Err, slice_get}
use Rattle.std.specs.List.{flat_map}
use Rattle.std.specs.Result.{IsErrAnd}
use Rattle.std.proofs.lemmas.List.{take-append-drop, take_all, length-take-le}
use Rattle.std.proofs.lemmas.Option.{slice_get_within}
use Rattle.std.proofs.lemmas.Grind.{flat_map-append}
use Rattle.wasi_calls_rules.specs.WasiStates.{Descriptor}
use Rattle.state_image.specs.rules.ProcessImage.{Numbered, open_from}
use Rattle.state_image.specs.rules.Sinks.{TakingPieces, Pushes}
use Rattle.state_image.proofs.Pushing.{pushes_on, pushes_exit}
use Rattle.state_image.proofs.PushedItems.{front_more}

-- those of a list, and of another after it
pub open_from-append : (n : ℕ) (ds es : List (Option Descriptor))
    → open_from n (ds ++ es) ≡ open_from n ds ++ open_from (n + length ds) es
open_from-append n [] es = ap (λ k. open_from k es) (omega arith)
open_from-append n (None ∷ ds) es =
    open_from-append (n + 1) ds es
    ∙ ap (λ k. open_from (n + 1) ds ++ open_from k es) (omega arith)
open_from-append n (Some d ∷ ds) es =
    ap (λ rest. record { number = n; descriptor = d } ∷ rest)
    (open_from-append (n + 1) ds es
    ∙ ap (λ k. open_from (n + 1) ds ++ open_from k es) (omega arith))

-- one descriptor more
open_more : (ds : List (Option Descriptor)) (i : ℕ) (o : Option Descriptor)
    → slice_get ds i ≡ Some o
    → open_from 0 (take (i + 1) ds) ≡ open_from 0 (take i ds) ++ open_from i (o ∷ [])
open_more ds i o is =
    let inside = slice_get_within ds i o is in
    let few : length (take i ds) ≡ i = length-take-le i ds (omega (arith, inside)) in
    ap (λ es. open_from 0 es) (front_more ds i o is)
    ∙ (open_from-append 0 (take i ds) (o ∷ [])
    ∙ ap (λ k. open_from 0 (take i ds) ++ open_from k (o ∷ [])) (omega (arith, few)))

-- how many are open of one descriptor more
pub count_more : (ds : List (Option Descriptor)) (i : ℕ) (o : Option Descriptor)
    → slice_get ds i ≡ Some o
    → length (open_from 0 (take (i + 1) ds))
    ≡ length (open_from 0 (take i ds)) + length (open_from 0 (o ∷ []))
count_more ds i o is =
    ap (λ ns. length ns) (open_more ds i o is)
    ∙ (length-append (open_from 0 (take i ds)) (open_from i (o ∷ []))
    ∙ ap (λ k. length (open_from 0 (take i ds)) + k) (same o))
  where
    same : (o : Option Descriptor) → length (open_from i (o ∷ [])) ≡ length (open_from 0 (o ∷ []))
    same None = refl
    same (Some d) = refl

module _ {S F : Type 0} {takes : TakingPieces S F} where
  -- one descriptor more
  pub pushes_opened : {a m z : S} (front : List ℕ) (f : Numbered → List ℕ)
      (ds : List (Option Descriptor)) (i : ℕ) (o : Option Descriptor) {said : Result (Unit {0}) F}
      → slice_get ds i ≡ Some o
      → Pushes takes a (front ++ flat_map f (open_from 0 (take i ds))) (Ok tt) m
      → Pushes takes m (flat_map f (open_from i (o ∷ []))) said z
      → Pushes takes a (front ++ flat_map f (open_from 0 (take (i + 1) ds))) said z
  pushes_opened {a} {m} {z} front f ds i o {said} is before item =
      let one = ap (λ ns. flat_map f ns) (open_more ds i o is)
      ∙ flat_map-append f (open_from 0 (take i ds)) (open_from i (o ∷ [])) in
      let all = ap (λ ys. front ++ ys) one
      ∙ sym (append_assoc front (flat_map f (open_from 0 (take i ds)))
      (flat_map f (open_from i (o ∷ [])))) in
      subst (λ bytes. Pushes takes a bytes said z) (sym all) (pushes_on before item)

  -- a descriptor that was refused
  pub pushes_opened_exit : {a m z : S} (front : List ℕ) (f : Numbered → List ℕ)
      (ds : List (Option Descriptor)) (i : ℕ) (o : Option Descriptor) {fault : F}
      (r : Result (Unit {0}) F) → slice_get ds i ≡ Some o
      → Pushes takes a (front ++ flat_map f (open_from 0 (take i ds))) (Ok tt) m
      → IsErrAnd r (λ y. y ≡ fault)
      → Pushes takes m (flat_map f (open_from i (o ∷ []))) (Err fault) z
      → Pushes takes a (front ++ flat_map f (open_from 0 ds)) r z
  pushes_opened_exit {a} {m} {z} front f ds i o {fault} r is before is_err item =
      let k = length (take (i + 1) ds) in
      let rest = open_from (0 + k) (drop (i + 1) ds) in
      let split : open_from 0 ds ≡ open_from 0 (take (i + 1) ds) ++ rest =
      ap (λ es. open_from 0 es) (sym (take-append-drop (i + 1) ds))
      ∙ open_from-append 0 (take (i + 1) ds) (drop (i + 1) ds) in
      let bytes : flat_map f (open_from 0 ds)
      ≡ flat_map f (open_from 0 (take (i + 1) ds)) ++ flat_map f rest =
      ap (λ ns. flat_map f ns) split ∙ flat_map-append f (open_from 0 (take (i + 1) ds)) rest in
      let all = append_assoc front (flat_map f (open_from 0 (take (i + 1) ds))) (flat_map f rest)
      ∙ ap (λ ys. front ++ ys) (sym bytes) in
      subst (λ b. Pushes takes a b r z) all
      (pushes_exit (flat_map f rest) r is_err (pushes_opened front f ds i o is before item))

  -- all descriptors
  pub pushes_all_opened : {a z : S} (front : List ℕ) (f : Numbered → List ℕ)
      (ds : List (Option Descriptor)) (i : ℕ) {said : Result (Unit {0}) F} → length ds ≤ i
      → Pushes takes a (front ++ flat_map f (open_from 0 (take i ds))) said z
      → Pushes takes a (front ++ flat_map f (open_from 0 ds)) said z
  pushes_all_opened {a} {z} front f ds i {said} all pushed =
      subst (λ es. Pushes takes a (front ++ flat_map f (open_from 0 es)) said z)
      (take_all i ds all) pushed
