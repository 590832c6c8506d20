-- The text of a limit that is passed, as it is written.
use Rattle.std.proofs.Common.{◌≡◌, ℕ, List, ◌++◌, Option, Some, None, refl, sym, ap, ◌∙◌}
use Rattle.std.proofs.Common.{append_assoc, subst}
use Rattle.std.specs.Prelude.{Result, Ok, Err, OnOk, codes}
use Rattle.std.specs.Fmt.{decimal}
use Rattle.std.specs.Io.KnownBytes.{Appends}
use Rattle.wasm_decode.specs.declared.items.limit.PassedLimit.{PassedLimit}
use Rattle.wasm_places.specs.declared.place.ModulePlace.{ModulePlace}
use Rattle.wasm_places.specs.rules.Places.{LiesAt}
use Rattle.command_words.specs.rules.ModuleLimits.{TellsLimit, function_of, in_function}
use Rattle.command_words.specs.rules.ModuleLimits.{limit_words, most_of, passed_text}
use Rattle.command_words.specs.rules.Printers.{PrinterState, IsPrinted}
use Rattle.command_words.proofs.LineLemmas.Printed.{prints_both}

-- seven texts from the front are those from the back
in_order : (a b c d e f g : List ℕ) → a ++ b ++ c ++ d ++ e ++ f ++ g
    ≡ a ++ (b ++ (c ++ (d ++ (e ++ (f ++ g)))))
in_order a b c d e f g =
    append_assoc (a ++ b ++ c ++ d ++ e) f g
    ∙ append_assoc (a ++ b ++ c ++ d) e (f ++ g)
    ∙ append_assoc (a ++ b ++ c) d (e ++ (f ++ g))
    ∙ append_assoc (a ++ b) c (d ++ (e ++ (f ++ g)))
    ∙ append_assoc a b (c ++ (d ++ (e ++ (f ++ g))))

-- the end of the text, as it is written
abbrev pub written_end : Option ℕ → List ℕ
written_end (Some number) = codes ", in function " ++ (decimal number ++ codes "\n")
written_end None = codes "\n"

-- the text with this number, of these things
abbrev pub written : ℕ → List ℕ → ℕ → Option ℕ → List ℕ
written most what at function =
    codes "more than " ++ (decimal most ++ (codes " " ++ (what
    ++ (codes ", at byte " ++ (decimal at ++ written_end function)))))

ends_so : (function : Option ℕ) → written_end function ≡ in_function function ++ codes "\n"
ends_so (Some number) = sym (append_assoc (codes ", in function ") (decimal number) (codes "\n"))
ends_so None = refl

written_so : (passed : PassedLimit) (function : Option ℕ) (most : ℕ) (what : List ℕ)
    → most ≡ most_of passed.limit → what ≡ limit_words passed.limit
    → written most what passed.at function ≡ passed_text passed function
written_so passed function most what most_is what_is =
    ap (λ n. written n what passed.at function) most_is
    ∙ ap (λ t. written (most_of passed.limit) t passed.at function) what_is
    ∙ ap (λ t. codes "more than " ++ (decimal (most_of passed.limit)
    ++ (codes " " ++ (limit_words passed.limit ++ (codes ", at byte " ++ (decimal passed.at
    ++ t)))))) (ends_so function)
    ∙ sym (in_order (codes "more than ") (decimal (most_of passed.limit)) (codes " ")
    (limit_words passed.limit) (codes ", at byte ") (decimal passed.at)
    (in_function function ++ codes "\n"))
    ∙ sym (append_assoc (codes "more than " ++ decimal (most_of passed.limit) ++ codes " "
    ++ limit_words passed.limit ++ codes ", at byte " ++ decimal passed.at) (in_function function)
    (codes "\n"))

pub prints_passed : {T E : Type 0} (r : Result T E) (old new : PrinterState) (passed : PassedLimit)
    (function : Option ℕ) (most : ℕ) (what : List ℕ) → most ≡ most_of passed.limit
    → what ≡ limit_words passed.limit
    → OnOk r (Appends old.contents new.contents (written most what passed.at function))
    → OnOk r (new.failed ≡ old.failed) → OnOk r (IsPrinted old new (passed_text passed function))
prints_passed (Ok done) old new passed function most what most_is what_is appended steady = (
  subst (Appends old.contents new.contents)
      (written_so passed function most what most_is what_is) appended,
  steady,
)
prints_passed (Err why) old new passed function most what most_is what_is appended steady = tt

pub prints_limit : {T E : Type 0} (r : Result T E) (old mid new : PrinterState) (bytes : List ℕ)
    (verdict : List ℕ) (passed : PassedLimit) (lies : Option ModulePlace) (function : Option ℕ)
    → LiesAt bytes passed.at lies → function ≡ function_of lies
    → IsPrinted old mid (verdict ++ codes " B3 Limit\n")
    → OnOk r (IsPrinted mid new (passed_text passed function))
    → OnOk r (TellsLimit bytes verdict passed old new)
prints_limit (Ok done) old mid new bytes verdict passed lies function there found first last = (
  lies,
  there,
  prints_both old mid new (verdict ++ codes " B3 Limit\n") (passed_text passed (function_of lies))
      first (subst (λ f. IsPrinted mid new (passed_text passed f)) found last),
)
prints_limit (Err why) old mid new bytes verdict passed lies function there found first last = tt
