use Rattle.std.proofs.Common.{◌≡◌, List, ℕ, Bool, true, false, Result, Ok, Err, refl, sym, ◌∙◌}
use Rattle.std.specs.Prelude.{is_ok, MatchResult}
use Rattle.std.specs.Str.{IsUtf8, is_utf8}
use Rattle.std.proofs.lemmas.Str.{IsUtf8-from_is_utf8, is_utf8-from_IsUtf8}
use Rattle.command_words.proofs.lines.records.is_utf8.Goals as goal

not_text : (bytes : List ℕ) (b : Bool) → is_utf8 bytes ≡ b → (IsUtf8 bytes → ⊥) → false ≡ b
not_text bytes true e never = absurd (never (IsUtf8-from_is_utf8 bytes e))
not_text bytes false e never = refl

decides : {A B : Type 0} (r : Result A B) (bytes : List ℕ) (P : A → Type 0) (Q : B → Type 0)
    → MatchResult r (λ s. P s × IsUtf8 bytes) (λ e. (IsUtf8 bytes → ⊥) × Q e)
    → is_ok r ≡ is_utf8 bytes
decides (Ok x) bytes P Q h = sym (is_utf8-from_IsUtf8 bytes h.1)
decides (Err e) bytes P Q h = not_text bytes (is_utf8 bytes) refl h.0

pub returns : goal.returns
returns c = c.is_ok.ensures.value ∙ decides _ c.args.bytes.now _ _ c.from_utf8.ensures.cases
