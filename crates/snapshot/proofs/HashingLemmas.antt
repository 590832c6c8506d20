-- Bytes that follow in an image after those that were given.
use Rattle.std.proofs.Common.{◌≡◌, ◌+◌, ◌-◌, ◌++◌, ◌∙◌, ap, sym, ℕ, List, length, take, arith}
use Rattle.std.specs.Prelude.{drop}
use Rattle.std.proofs.lemmas.List.{take_all, length-drop}
use Rattle.std.proofs.Math.Seq.{take-add}

-- the first bytes of an image, up to the end of those that are next
pub next_follow : (image bytes : List ℕ) (given : ℕ)
    → take (length bytes) (take (length image - given) (drop given image)) ≡ bytes
    → take (given + length bytes) image ≡ take given image ++ bytes
next_follow image bytes given is =
    let whole : take (length image - given) (drop given image) ≡ drop given image =
    take_all (length image - given) (drop given image) (omega (arith, length-drop given image)) in
    take-add given (length bytes) image ∙ ap (λ (l : List ℕ). take given image ++ l)
    (ap (λ (l : List ℕ). take (length bytes) l) (sym whole) ∙ is)
