-- Digits of a seed are UTF-8.
use Rattle.std.proofs.Common.{◌≡◌, ◌<◌, ℕ, suc, List, [], ◌∷◌, length, true, arith}
use Rattle.std.specs.List.{AllPass}
use Rattle.std.specs.Str.{IsAscii, IsUtf8}
use Rattle.std.proofs.lemmas.Str.{IsUtf8-from_ascii}
use Rattle.std.proofs.lemmas.Str.Ascii.{IsAscii-cons, IsAscii-nil}
use Rattle.hex.specs.Hex.{is_hex_digit}

digit_is_small : (byte : ℕ) → is_hex_digit byte ≡ true → byte < 128
digit_is_small byte is = grind (arith, is)

digits_are_ascii : (text : List ℕ) → AllPass is_hex_digit text → IsAscii text
digits_are_ascii [] all = IsAscii-nil
digits_are_ascii (byte ∷ text) all =
    IsAscii-cons byte text (digit_is_small byte (all 0 byte (omega arith)))
    (digits_are_ascii text (λ k default inside. all (suc k) default (omega arith)))

-- what isn't UTF-8 isn't the digits of a seed
pub no_digits : (text : List ℕ) → (IsUtf8 text → ⊥)
    → (length text ≡ 64) × AllPass is_hex_digit text → ⊥
no_digits text no_text digits = no_text (IsUtf8-from_ascii text (digits_are_ascii text digits.1))
