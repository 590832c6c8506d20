-- Digits in groups, digit after digit.
use Rattle.std.proofs.Common.{◌≡◌, ℕ, ◌+◌, ◌<◌, List, [], ◌∷◌, ◌++◌, length, drop, get_or, sym}
use Rattle.std.proofs.Common.{ap, ◌∙◌, append_assoc, arith, length-drop}
use Rattle.std.specs.Prelude.{Option}
use Rattle.std.specs.Io.KnownBytes.{Appends}
use Rattle.std.proofs.lemmas.List.{drop_more}
use Rattle.command_words.proofs.LineLemmas.Printed.{appends_both}
use Rattle.story_commands.specs.rules.SweepTexts.{comma_before, grouped}

-- so much is written, and with what is left of the digits it is all
pub record HasSpelled (digits : List ℕ) (i : ℕ) (before now : Option (List ℕ)) : Type 0 where
  pub text : List ℕ
  pub written : Appends before now text
  pub whole : text ++ grouped (drop i digits) ≡ grouped digits

-- one digit more, and what comes after it
pub digit_more : (digits : List ℕ) (i digit digits_left : ℕ) (before now mid next : Option (List ℕ))
    → i < length digits → digit ≡ get_or digits i 0 → digits_left + (i + 1) ≡ length digits
    → HasSpelled digits i before now → Appends now mid (digit ∷ [])
    → Appends mid next (comma_before digits_left) → HasSpelled digits (i + 1) before next
digit_more digits i digit digits_left before now mid next within is count has first comma =
    let rest = drop (i + 1) digits in
    let one = digit ∷ comma_before digits_left in
    let behind : digits_left ≡ length rest = omega (arith, count, length-drop (i + 1) digits) in
    let whole : drop i digits ≡ digit ∷ rest =
    drop_more digits i 0 within ∙ ap (λ (d : ℕ). d ∷ rest) (sym is) in
    record {
      text = has.text ++ one;
      written =
          appends_both before now next has.text one has.written
          (appends_both now mid next (digit ∷ []) (comma_before digits_left) first comma);
      whole =
          append_assoc has.text one (grouped rest)
          ∙ ap (λ (n : ℕ). has.text ++ ((digit ∷ comma_before n) ++ grouped rest)) behind
          ∙ ap (λ (l : List ℕ). has.text ++ grouped l) (sym whole) ∙ has.whole;
    }

-- five texts, one after the other
pub appends_five : (a b c d e f : Option (List ℕ)) (p q r s t : List ℕ) → Appends a b p
    → Appends b c q → Appends c d r → Appends d e s → Appends e f t
    → Appends a f (p ++ q ++ r ++ s ++ t)
appends_five a b c d e f p q r s t h i j k l =
    appends_both a e f (p ++ q ++ r ++ s) t
    (appends_both a d e (p ++ q ++ r) s
    (appends_both a c d (p ++ q) r (appends_both a b c p q h i) j) k) l
