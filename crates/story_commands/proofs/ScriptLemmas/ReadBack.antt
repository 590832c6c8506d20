-- Answers that a script says, read back.
use Rattle.std.proofs.Common.{◌≡◌, ◌<◌, ◌^◌, ℕ, zero, suc, true, List, [], ◌∷◌, length}
use Rattle.std.proofs.Common.{slice_index, refl, ap, ◌∙◌, arith, codes, Some}
use Rattle.std.specs.Prelude.{nat_lt, option_and_then, option_map}
use Rattle.std.specs.Fmt.{decimal}
use Rattle.std.specs.Result.{result_ok}
use Rattle.std.specs.Str.{all_ascii_digits}
use Rattle.std.specs.Str.Parse.{digits_value}
use Rattle.std.proofs.lemmas.Bool.{cond-true, lt-ltb}
use Rattle.std.proofs.lemmas.Fmt.{decimal_is_IsNumeral, digits_decimal, digits_value-decimal}
use Rattle.std.proofs.lemmas.Str.Parse.{numerals_by_value, tells_all_ascii_digits}
use Rattle.hex.specs.Hex.{encode_lower}
use Rattle.hex.proofs.HexLemmas.{decode_of-encode_lower}
use Rattle.wasi_abi.specs.declared.answer.Answer.TheVariants as answer
use Rattle.wasi_abi.specs.rules.Answers.{AreBytes}
use Rattle.command_words.specs.rules.Pieces.{split_once}
use Rattle.story_commands.specs.declared.stories.line.ScriptLine.TheVariants as said
use Rattle.story_commands.specs.rules.Scripts.{fits_in_64, hex_bytes, number_spelled}
use Rattle.story_commands.specs.rules.Scripts.{said_with_number}
use Rattle.story_commands.specs.laws.ReadBack.{AnswersAreReadBack}

-- the digits of a number spell it
number_back : (n : ℕ) → n < 2 ^ 64 → number_spelled (decimal n) ≡ Some n
number_back n small =
    let own = numerals_by_value _ tells_all_ascii_digits in
    let digits : all_ascii_digits (decimal n) ≡ true = digits_decimal own n small in
    let value : digits_value 10 (decimal n) ≡ n = digits_value-decimal own n small in
    let some : nat_lt 0 (length (decimal n)) ≡ true =
    lt-ltb 0 (length (decimal n)) (decimal_is_IsNumeral n small).0.0 in
    cond-true _ _ _ digits ∙ cond-true _ _ _ some ∙ ap fits_in_64 value
    ∙ cond-true _ _ _ (lt-ltb n (2 ^ 64) small)

are_below : (bytes : List ℕ) → AreBytes bytes → (i : ℕ) → slice_index bytes i < 256
are_below [] h i = omega arith
are_below (byte ∷ bytes) h zero = h.0
are_below (byte ∷ bytes) h (suc i) = are_below bytes h.1 i

-- and those of bytes spell these
bytes_back : (bytes : List ℕ) → AreBytes bytes → hex_bytes (encode_lower bytes) ≡ Some bytes
bytes_back bytes h = ap result_ok (decode_of-encode_lower bytes (are_below bytes h))

pub answers_are_read_back : AnswersAreReadBack
unfolding split_once
answers_are_read_back (answer.Request text) h = refl
answers_are_read_back answer.End h = refl
answers_are_read_back (answer.Realtime n) h =
    ap (option_and_then (said_with_number (codes "realtime"))) (number_back n h)
answers_are_read_back (answer.Monotonic n) h =
    ap (option_and_then (said_with_number (codes "monotonic"))) (number_back n h)
answers_are_read_back (answer.Random bytes) h =
    ap (option_map (λ bs. said.Answer (answer.Random bs))) (bytes_back bytes h)
