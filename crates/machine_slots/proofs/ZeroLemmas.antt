-- Words that are covered by zeros.
use Rattle.std.proofs.Common.{◌≡◌, ◌≤◌, ◌+◌, ℕ, List, [], ◌∷◌, ◌++◌, length, take, drop}
use Rattle.std.proofs.Common.{replicate, refl, ap, sym, ◌∙◌, arith, length-append}
use Rattle.std.specs.Prelude.{reverse, slice_set}
use Rattle.std.proofs.lemmas.List.{length-reverse, reverse-append, reverse-reverse, take_at}
use Rattle.std.proofs.lemmas.List.{append-nil, drop_all, length-replicate}
use Rattle.std.proofs.Math.Seq.{take-length}
use Rattle.machine_slots.specs.Lends.{with_from}
use Rattle.machine_slots.proofs.Branches.{reverse-replicate}

-- the first four of these
pub four_zeros : (words : List ℕ) → 4 ≤ length words
    → take 4 (slice_set (slice_set (slice_set (slice_set words 0 0) 1 0) 2 0) 3 0)
    ≡ replicate 4 0
four_zeros [] h = absurd (omega (arith, h))
four_zeros (a ∷ []) h = absurd (omega (arith, h))
four_zeros (a ∷ b ∷ []) h = absurd (omega (arith, h))
four_zeros (a ∷ b ∷ c ∷ []) h = absurd (omega (arith, h))
four_zeros (a ∷ b ∷ c ∷ d ∷ words) h = refl

-- the words above others come back as zeros
pub zeros_above : (more kept : List ℕ) {zeros : ℕ} → length more ≡ zeros
    → reverse (take (length (more ++ kept)) (with_from (length kept) (replicate zeros 0)
    (reverse (more ++ kept)))) ≡ replicate zeros 0 ++ kept
zeros_above more kept {zeros} count =
    let all : List ℕ = more ++ kept in
    let above : List ℕ = replicate zeros 0 in
    let long = length-replicate {A = ℕ} zeros 0 in
    let low : take (length kept) (reverse all) ≡ reverse kept =
    ap (take (length kept)) (reverse-append more kept)
    ∙ take_at (reverse kept) (reverse more) (length kept) (length-reverse kept) in
    let sum = length-append more kept in
    let none : drop (length kept + length above) (reverse all) ≡ [] =
    drop_all (length kept + length above) (reverse all)
    (omega (arith, length-reverse all, sum, long, count)) in
    let whole : with_from (length kept) above (reverse all) ≡ reverse kept ++ above =
    ap (λ z. z ++ (above ++ drop (length kept + length above) (reverse all))) low
    ∙ ap (λ z. reverse kept ++ (above ++ z)) none ∙ ap (λ z. reverse kept ++ z) (append-nil above)
    in
    let parts = length-append (reverse kept) above in
    let both : length (reverse kept ++ above) ≡ length all =
    omega (arith, parts, length-reverse kept, long, sum, count) in
    ap reverse (ap (take (length all)) whole
    ∙ ap (λ n. take n (reverse kept ++ above)) (sym both) ∙ take-length (reverse kept ++ above))
    ∙ reverse-append (reverse kept) above ∙ ap (λ z. z ++ reverse (reverse kept))
    (reverse-replicate zeros 0) ∙ ap (λ z. above ++ z) (reverse-reverse kept)
