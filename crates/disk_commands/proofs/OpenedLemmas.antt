-- Descriptors that are listed one after another.
use Rattle.std.proofs.Common.{◌≡◌, ℕ, ◌+◌, ◌<◌, ◌≤◌, List, [], ◌∷◌, ◌++◌, length, take, get_or}
use Rattle.std.proofs.Common.{Option, sym, ap, ◌∙◌, append_assoc, arith}
use Rattle.std.proofs.lemmas.List.{append-nil, take_more, length-take-le}
use Rattle.file_tree.specs.rules.Files.{Files}
use Rattle.wasi_calls_rules.specs.WasiStates.{Descriptor}
use Rattle.disk_commands.specs.rules.Facts.{FactValue}
use Rattle.disk_commands.specs.rules.DiskFacts.{descriptor_values, opened_values}

descriptors_joined : (fs : Files) (n next : ℕ) (xs ys : List (Option Descriptor))
    → next ≡ n + length xs
    → descriptor_values fs n (xs ++ ys) ≡ descriptor_values fs n xs ++ descriptor_values fs next ys
descriptors_joined fs n next [] ys is =
    let same : n ≡ next = omega (arith, is) in ap (λ k. descriptor_values fs k ys) same
descriptors_joined fs n next (x ∷ xs) ys is =
    let behind : next ≡ (n + 1) + length xs = omega (arith, is) in
    ap (λ vs. opened_values fs n x ++ vs) (descriptors_joined fs (n + 1) next xs ys behind)
    ∙ sym (append_assoc (opened_values fs n x) (descriptor_values fs (n + 1) xs)
    (descriptor_values fs next ys))

-- one descriptor more
pub one_more_opened : (fs : Files) (all : List (Option Descriptor)) (i : ℕ)
    (one : Option Descriptor) (old new : List FactValue) → i < length all → one ≡ get_or all i one
    → old ≡ descriptor_values fs 0 (take i all) → new ≡ old ++ opened_values fs i one
    → new ≡ descriptor_values fs 0 (take (i + 1) all)
one_more_opened fs all i one old new within is so_far pushed =
    let inside : i ≤ length all = omega (arith, within) in
    let long = length-take-le i all inside in
    let at : i ≡ 0 + length (take i all) = omega (arith, long) in
    let front : take (i + 1) all ≡ take i all ++ one ∷ [] =
    take_more all i one within ∙ ap (λ (x : Option Descriptor). take i all ++ x ∷ []) (sym is) in
    pushed ∙ ap (λ vs. vs ++ opened_values fs i one) so_far
    ∙ ap (λ vs. descriptor_values fs 0 (take i all) ++ vs)
    (sym (append-nil (opened_values fs i one)))
    ∙ sym (descriptors_joined fs 0 i (take i all) (one ∷ []) at)
    ∙ ap (descriptor_values fs 0) (sym front)
