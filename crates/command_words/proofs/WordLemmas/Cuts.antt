-- Words that are cut at the first `--`.
use Rattle.std.proofs.Common.{◌≡◌, ℕ, Bool, ◌+◌, ◌-◌, map, ◌<◌, ◌≤◌, true, false, refl, sym, ap}
use Rattle.std.proofs.Common.{subst, ◌∙◌, arith, List, [], ◌∷◌, ◌++◌, length, get_or, take, drop}
use Rattle.std.proofs.Common.{codes}
use Rattle.std.proofs.lemmas.List.{append-nil, append_assoc, take_more, drop_more}
use Rattle.std.proofs.lemmas.List.{drop-map, get_or-map, length-map, take-map, take_rest}
use Rattle.std.specs.Str.{bytes_eq}
use Rattle.clap.specs.Words.{Text}
use Rattle.command_words.specs.rules.Commands.{behind_dashes, before_dashes}

-- none of the first words is `--`
pub record HasPassed (words : List Text) (at : ℕ) : Type 0 where
  pub within : at ≤ length words
  pub front : before_dashes words ≡ take at words ++ before_dashes (drop at words)
  pub back : behind_dashes words ≡ behind_dashes (drop at words)

module _ (words : List Text) (at : ℕ) (passed : HasPassed words at) where
  -- the next word, and those after it
  next : (d : Text) → at < length words → drop at words ≡ get_or words at d ∷ drop (at + 1) words
  next d more = drop_more words at d more

  pub passes_one : (d : Text) → at < length words
      → bytes_eq (get_or words at d) (codes "--") ≡ false
      → HasPassed words (at + 1)
  passes_one d more other = record {
    within = omega (arith, more);
    front =
        let word = get_or words at d in
        passed.front ∙ ap (λ z. take at words ++ before_dashes z) (next d more)
        ∙ ap (λ z. take at words ++ z) (front_step word (drop (at + 1) words) other)
        ∙ sym (append_assoc (take at words) (word ∷ []) (before_dashes (drop (at + 1) words)))
        ∙ ap (λ z. z ++ before_dashes (drop (at + 1) words)) (sym (take_more words at d more));
    back = passed.back ∙ ap behind_dashes (next d more)
        ∙ back_step (get_or words at d) (drop (at + 1) words) other;
  }
    where
      front_step : (word : Text) (rest : List Text) → bytes_eq word (codes "--") ≡ false
          → before_dashes (word ∷ rest) ≡ word ∷ before_dashes rest
      front_step word rest e = rw e refl

      back_step : (word : Text) (rest : List Text) → bytes_eq word (codes "--") ≡ false
          → behind_dashes (word ∷ rest) ≡ behind_dashes rest
      back_step word rest e = rw e refl

  -- the next word is `--`
  pub cut_front : (d : Text) → at < length words → bytes_eq (get_or words at d) (codes "--") ≡ true
      → take at words ≡ before_dashes words
  cut_front d more here =
      sym (passed.front ∙ ap (λ z. take at words ++ before_dashes z) (next d more)
      ∙ ap (λ z. take at words ++ z) (ends (get_or words at d) (drop (at + 1) words) here)
      ∙ append-nil (take at words))
    where
      ends : (word : Text) (rest : List Text) → bytes_eq word (codes "--") ≡ true
          → before_dashes (word ∷ rest) ≡ []
      ends word rest e = rw e refl

  pub cut_back : (d : Text) → at < length words → bytes_eq (get_or words at d) (codes "--") ≡ true
      → drop (at + 1) words ≡ behind_dashes words
  cut_back d more here =
      sym (passed.back ∙ ap behind_dashes (next d more)
      ∙ begins (get_or words at d) (drop (at + 1) words) here)
    where
      begins : (word : Text) (rest : List Text) → bytes_eq word (codes "--") ≡ true
          → behind_dashes (word ∷ rest) ≡ rest
      begins word rest e = rw e refl

-- ---- words as the code has them

module _ {S : Type 0} (text : S → Text) (words : List S) (at : ℕ) (word : S)
    (passed : HasPassed (map text words) at) (more : at < length words)
    (is : word ≡ get_or words at word) where
  same_word : text word ≡ get_or (map text words) at (text word)
  same_word = ap text is ∙ sym (get_or-map text words at word (text word) more)

  more_texts : at < length (map text words)
  more_texts = let long = length-map words text in omega (arith, more, long)

  dashes_at : (b : Bool) → bytes_eq (text word) (codes "--") ≡ b
      → bytes_eq (get_or (map text words) at (text word)) (codes "--") ≡ b
  dashes_at b e = subst (λ (t : Text). bytes_eq t (codes "--") ≡ b) same_word e

  pub goes_on : bytes_eq (text word) (codes "--") ≡ false → HasPassed (map text words) (at + 1)
  goes_on other = passes_one (map text words) at passed (text word) more_texts
      (dashes_at false other)

  pub cuts_front : bytes_eq (text word) (codes "--") ≡ true
      → map text (take at words) ≡ before_dashes (map text words)
  cuts_front here = sym (take-map text at words)
      ∙ cut_front (map text words) at passed (text word) more_texts (dashes_at true here)

  pub cuts_back : bytes_eq (text word) (codes "--") ≡ true
      → map text (take (length words - (at + 1)) (drop (at + 1) words))
      ≡ behind_dashes (map text words)
  cuts_back here = ap (map text) (take_rest words (at + 1)) ∙ sym (drop-map text (at + 1) words)
      ∙ cut_back (map text words) at passed (text word) more_texts (dashes_at true here)
