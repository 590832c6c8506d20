-- The names of a path of the right form are those that nodes may have, or lead back.
use Rattle.std.proofs.Common.{◌≡◌, ℕ, Bool, true, false, List, [], ◌∷◌, refl, sym, ◌∙◌}
use Rattle.std.specs.Prelude.{Result, Ok, Err}
use Rattle.std.specs.Result.{MatchResult, is_ok}
use Rattle.std.specs.Str.{IsUtf8, is_utf8}
use Rattle.std.proofs.lemmas.Str.{IsUtf8-from_is_utf8, is_utf8-from_IsUtf8}
use Rattle.std.specs.List.{AllByRecursion}
use Rattle.file_tree.specs.rules.Files.{Name}
use Rattle.wasi_calls_rules.specs.Paths.{formed}
use Rattle.wasi_calls_rules.proofs.GivenNames.{IsGiven, names_are_given}
use Rattle.wasi_calls.specs.Places.{AreWalked}

all_walked : (bytes : List ℕ) (names : List Name) → AllByRecursion (IsGiven bytes) names
    → AreWalked names
all_walked bytes [] h = tt
all_walked bytes (name ∷ names) h = (h.0.node_name, all_walked bytes names h.1)

pub formed_walked : (bytes : List ℕ) (names : List Name) → formed bytes ≡ Ok names
    → AreWalked names
formed_walked bytes names e = all_walked bytes names ((names_are_given bytes).holds names e)

no_text : (bytes : List ℕ) → (IsUtf8 bytes → ⊥) → false ≡ is_utf8 bytes
no_text bytes other = by_test (is_utf8 bytes) refl where
  by_test : (t : Bool) → is_utf8 bytes ≡ t → false ≡ t
  by_test true e = absurd (other (IsUtf8-from_is_utf8 bytes e))
  by_test false e = refl

-- what reading a text says is what the test says
pub text_tested : {S E : Type 0} (r : Result S E) (P : S → Type 0) (Q : E → Type 0)
    (bytes : List ℕ) (t : Bool)
    → MatchResult r (λ s. P s × IsUtf8 bytes) (λ e. (IsUtf8 bytes → ⊥) × Q e) → t ≡ is_ok r
    → t ≡ is_utf8 bytes
text_tested (Ok s) P Q bytes t h e = e ∙ sym (is_utf8-from_IsUtf8 bytes h.1)
text_tested (Err x) P Q bytes t h e = e ∙ no_text bytes h.0
