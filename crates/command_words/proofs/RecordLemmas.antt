-- Bytes that are spelled by their digits, one after another.
use Rattle.std.proofs.Common.{◌≡◌, ℕ, ◌+◌, ◌<◌, List, [], ◌∷◌, ◌++◌, length, take}
use Rattle.std.proofs.Common.{get_or, refl, sym, ap, ◌∙◌, subst}
use Rattle.std.specs.Prelude.{Option}
use Rattle.std.specs.Io.KnownBytes.{Appends}
use Rattle.std.proofs.lemmas.List.{take_more}
use Rattle.hex.specs.Hex.{encode_lower, encode_with}
use Rattle.command_words.proofs.LineLemmas.Printed.{appends_both, appends_nothing}

digits_join : (xs ys : List ℕ) → encode_lower (xs ++ ys) ≡ encode_lower xs ++ encode_lower ys
unfolding encode_with
digits_join [] ys = refl
digits_join (x ∷ xs) ys =
    ap (λ ds. encode_lower (x ∷ []) ++ ds) (digits_join xs ys)

-- none yet
pub no_digits : (o : Option (List ℕ)) (bytes : List ℕ) → Appends o o (encode_lower (take 0 bytes))
unfolding encode_with
no_digits o bytes = appends_nothing o

-- one byte more
pub next_digits : (all : List ℕ) (i one : ℕ) (a b c : Option (List ℕ)) → i < length all
    → one ≡ get_or all i 0 → Appends a b (encode_lower (take i all))
    → Appends b c (encode_lower (one ∷ [])) → Appends a c (encode_lower (take (i + 1) all))
next_digits all i one a b c within is so_far told =
    let front : take (i + 1) all ≡ take i all ++ one ∷ [] =
    take_more all i 0 within ∙ ap (λ (byte : ℕ). take i all ++ byte ∷ []) (sym is) in
    subst (λ t. Appends a c t)
    (sym (ap encode_lower front ∙ digits_join (take i all) (one ∷ [])))
    (appends_both a b c (encode_lower (take i all)) (encode_lower (one ∷ [])) so_far told)
