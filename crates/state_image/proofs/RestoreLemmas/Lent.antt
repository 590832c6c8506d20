-- Lists that are lent, place by place, and faults that are handed on.
use Rattle.std.proofs.Common.{◌≡◌, ℕ, ◌<◌, ◌≤◌, List, length, map, get_or, Some, refl, sym, ap}
use Rattle.std.proofs.Common.{◌∙◌, arith}
use Rattle.std.specs.Prelude.{Result, Ok, Err, slice_get, option_map}
use Rattle.std.specs.Result.{IsErrAnd}
use Rattle.std.proofs.lemmas.List.{length-map}
use Rattle.std.proofs.lemmas.Option.{slice_get-get_or, slice_get-map, slice_get_read}
use Rattle.state_image.specs.declared.restoring.fault.RestoreFault.{RestoreFault}
use Rattle.state_image.specs.declared.restoring.fault.RestoreFault.TheVariants as fault

-- what is shown of the item at a place
pub shown_at : {X Y : Type 0} (f : X → Y) (xs : List X) (ys : List Y) (i : ℕ) (x : X)
    → map f xs ≡ ys → i < length xs → slice_get ys i ≡ Some (f (get_or xs i x))
shown_at f xs ys i x is inside =
    ap (λ zs. slice_get zs i) (sym is)
    ∙ slice_get-map f xs i
    ∙ ap (option_map f) (slice_get-get_or xs i x inside)

pub shown_read : {X Y : Type 0} (f : X → Y) (xs : List X) (i : ℕ) (x : X) → i < length xs
    → x ≡ get_or xs i x → slice_get (map f xs) i ≡ Some (f x)
shown_read f xs i x inside is =
    slice_get-map f xs i
    ∙ ap (option_map f) (slice_get_read xs (length xs) i x refl inside is)

pub shown_all : {X Y : Type 0} (f : X → Y) (xs : List X) (ys : List Y) (i : ℕ) → map f xs ≡ ys
    → length xs ≤ i → length ys ≤ i
shown_all f xs ys i is all = omega (arith, all, ap length is, length-map xs f)

-- a fault that is handed on is the callee's
pub fault_of : {X Y : Type 0} (r : Result X RestoreFault) (f : RestoreFault)
    → IsErrAnd r (λ y. y ≡ f) → r ≡ Err fault.NotAnImage
    → ◌≡◌ {A = Result Y RestoreFault} (Err f) (Err fault.NotAnImage)
fault_of (Ok x) f is e = absurd cc
fault_of {X} {Y} (Err y) f is e =
    (let same : y ≡ f = is in let it : y ≡ fault.NotAnImage = cc in cc)
