-- Finding a `=`.
use Rattle.std.proofs.Common.{◌≡◌, ◌==◌, ◌↔◌, IsTrue, List, [], ◌∷◌, ℕ, Bool, true, false, ◌||◌}
use Rattle.std.proofs.Common.{◌⊎◌, inl, inr, refl, rules, subst, sym}
use Rattle.std.proofs.lemmas.Bool.Decides.{Decides-eqb}
use Rattle.std.specs.List.{list_any}
use Rattle.wasi_abi.specs.rules.Configs.{HasEquals}

-- what a search for a `=` says
pub says_equals : (text : List ℕ) (found : Bool) → found ≡ list_any (λ b. b == 61) text
    → IsTrue found ↔ HasEquals text
says_equals text found says = subst (λ (b : Bool). IsTrue b ↔ HasEquals text) (sym says) (is text)
  where
    either : {P Q : Type 0} (x y : Bool) → ((x ≡ true → P) × (P → x ≡ true)) → IsTrue y ↔ Q
        → IsTrue (x || y) ↔ (P ⊎ Q)
    either true y e rest = ((λ h. inl (e.0 refl)), (λ h. refl))
    either false y e rest =
        ((λ h. inr (rest.0 h)), (λ h. elim h [ inl p ↦ absurd (cc (e.1 p)) | inr q ↦ rest.1 q ]))

    is : (text : List ℕ) → IsTrue (list_any (λ b. b == 61) text) ↔ HasEquals text
    is [] = search rules
    is (b ∷ text) = let rest = is text in let e = Decides-eqb b 61 in
        either (b == 61) (list_any (λ b. b == 61) text) e rest
