-- Numbers that digits spell.
use Rattle.std.proofs.Common.{◌≡◌, ℕ, ◌<◌, ◌^◌, ◌&&◌, Bool, true, false, List, [], ◌∷◌}
use Rattle.std.proofs.Common.{length, Ok, Err, Some, None, Result, refl, sym, ap, ◌∙◌, arith}
use Rattle.std.specs.Prelude.{nat_lt, if◌then◌else◌, Option}
use Rattle.std.proofs.lemmas.Bool.{cond-true, cond-false}
use Rattle.std.proofs.lemmas.Bool.Decides.{nat_tests}
use Rattle.std.proofs.lemmas.Str.Parse.{numerals_by_value, parse_digits, tells_all_ascii_digits}
use Rattle.std.proofs.lemmas.Str.Ascii.{IsAscii-nil, IsAscii-cons}
use Rattle.std.specs.Char.{is_ascii_digit}
use Rattle.std.specs.List.{list_all}
use Rattle.std.specs.Result.{result_ok, OkIff}
use Rattle.std.specs.Str.{all_ascii_digits, IsAscii}
use Rattle.std.specs.Str.Parse.{ParsesUnsigned, digits_value}
use Rattle.story_commands.specs.rules.Scripts.{number_spelled}

pub same_digits : (ds : List ℕ) → list_all is_ascii_digit ds ≡ all_ascii_digits ds
same_digits [] = refl
same_digits (d ∷ ds) = ap (λ b. is_ascii_digit d && b) (same_digits ds)

-- two tests in a row, of facts that are known or refuted
two_tests : (m n v : ℕ) (E : Type 0) (r : Result ℕ E) → OkIff r ((0 < m) × (v < n)) v
    → result_ok r ≡ (if nat_lt 0 m then (if nat_lt v n then Some v else None) else None)
two_tests m n v E (Ok x) k = by (nat_lt 0 m) refl (nat_lt v n) refl
  where
    by : (a : Bool) → nat_lt 0 m ≡ a → (b : Bool) → nat_lt v n ≡ b
        → ◌≡◌ {A = Option ℕ} (Some x)
        (if nat_lt 0 m then (if nat_lt v n then Some v else None) else None)
    by true p true q = ap Some k.1 ∙ sym (cond-true _ _ _ q) ∙ sym (cond-true _ _ _ p)
    by true p false q = let less = k.0.1 in absurd (grind (arith, nat_tests))
    by false p b q = let less = k.0.0 in absurd (grind (arith, nat_tests))
two_tests m n v E (Err e) k = by (nat_lt 0 m) refl (nat_lt v n) refl
  where
    by : (a : Bool) → nat_lt 0 m ≡ a → (b : Bool) → nat_lt v n ≡ b
        → ◌≡◌ {A = Option ℕ} None
        (if nat_lt 0 m then (if nat_lt v n then Some v else None) else None)
    by true p true q = absurd (k (grind (arith, nat_tests), grind (arith, nat_tests)))
    by true p false q = sym (cond-false _ _ _ q) ∙ sym (cond-true _ _ _ p)
    by false p b q = sym (cond-false _ _ _ p)

-- what `parse` gives of digits
pub number_read : {E : Type 0} (ds : List ℕ) (r : Result ℕ E) → ParsesUnsigned 64 10 ds r
    → all_ascii_digits ds ≡ true → result_ok r ≡ number_spelled ds
number_read ds r parsed digits =
    two_tests (length ds) (2 ^ 64) (digits_value 10 ds) _ r
    (parse_digits (numerals_by_value _ tells_all_ascii_digits) 64 ds r parsed digits)
    ∙ sym (cond-true _ _ _ digits)

pub ascii_digits : (ds : List ℕ) → all_ascii_digits ds ≡ true → IsAscii ds
ascii_digits [] e = IsAscii-nil
ascii_digits (d ∷ ds) e =
    let k = tells_all_ascii_digits.parts d ds e in
    IsAscii-cons d ds (omega (arith, k.0)) (ascii_digits ds k.1)
