use Rattle.std.proofs.Common.{◌≡◌, ℕ, zero, suc, List, ◌∷◌, ◌++◌, refl, ap, ◌∙◌}
use Rattle.std.specs.Prelude.{replicate}

-- a zero below zeros
below : (n : ℕ) (words : List ℕ) → replicate n 0 ++ (0 ∷ words) ≡ replicate (suc n) 0 ++ words
below zero words = refl
below (suc n) words = ap (λ z. 0 ∷ z) (below n words)

four : (n : ℕ) (words : List ℕ)
    → replicate n 0 ++ (0 ∷ (0 ∷ (0 ∷ (0 ∷ words))))
    ≡ replicate (suc (suc (suc (suc n)))) 0 ++ words
four n words =
    below n (0 ∷ (0 ∷ (0 ∷ words))) ∙ below (suc n) (0 ∷ (0 ∷ words))
    ∙ below (suc (suc n)) (0 ∷ words) ∙ below (suc (suc (suc n))) words
