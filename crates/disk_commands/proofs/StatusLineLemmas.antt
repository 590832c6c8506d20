-- What is read of a status line.
use Rattle.std.proofs.Common.{◌≡◌, ◌∙◌, ap, sym, ℕ, ◌<◌, ◌^◌, ◌+◌, ◌-◌, List, [], ◌∷◌, ◌++◌, true}
use Rattle.std.proofs.Common.{false, length, arith, codes}
use Rattle.std.specs.Prelude.{Option, Some, None, IfSome, IsSomeAnd, MatchOption, take, drop}
use Rattle.std.specs.Prelude.{nat_eq}
use Rattle.std.specs.Borrow.{Bor}
use Rattle.std.specs.Cmp.Lexicographic.{pointwise, same_text, other_text}
use Rattle.std.specs.Fmt.{decimal}
use Rattle.std.proofs.Math.Seq.{take-append_seam, drop-append_seam}
use Rattle.std.proofs.lemmas.List.{take-append-drop, length-append}
use Rattle.disk_commands.specs.StatusLines.{IsBehindNumber, IsBehindNumbers}

-- ---- a front

module _ (bytes front : List ℕ) where
  -- what `strip_prefix` says
  abbrev pub IsStripped : Option (Bor (List ℕ)) → Type 0
  IsStripped r =
      MatchOption r (pointwise nat_eq (take (length front) bytes) front ≡ false)
      (λ x. (pointwise nat_eq (take (length front) bytes) front ≡ true)
      × (x.now ≡ drop (length front) bytes) × (length x.now + length front ≡ length bytes))

  pub front_spelled : (r : Option (Bor (List ℕ))) → IsStripped r
      → IfSome r (λ rest. bytes ≡ front ++ rest.now)
  front_spelled None h = tt
  front_spelled (Some x) h =
      sym (take-append-drop (length front) bytes)
      ∙ ap (λ l. l ++ drop (length front) bytes)
      (same_text (take (length front) bytes) front (sym h.0))
      ∙ ap (λ r. front ++ r) (sym h.1)

  pub front_found : (r : Option (Bor (List ℕ))) → IsStripped r → (back : List ℕ)
      → bytes ≡ front ++ back → IsSomeAnd r (λ rest. rest.now ≡ back)
  front_found None h back is =
      other_text (take (length front) bytes) front (sym h)
      (ap (take (length front)) is ∙ take-append_seam front back)
  front_found (Some x) h back is =
      h.1 ∙ ap (drop (length front)) is ∙ drop-append_seam front back

-- ---- a newline at the end

-- the last byte is behind all others
last_place : (bytes front : List ℕ) (b : ℕ) → bytes ≡ front ++ b ∷ []
    → length bytes - 1 ≡ length front
last_place bytes front b is =
    let long = ap length is ∙ length-append front (b ∷ []) in omega (arith, long)

module _ (bytes : List ℕ) where
  -- what `strip_suffix` says
  abbrev pub IsCut : Option (Bor (List ℕ)) → Type 0
  IsCut r =
      MatchOption r (pointwise nat_eq (drop (length bytes - 1) bytes) (10 ∷ []) ≡ false)
      (λ x. (pointwise nat_eq (drop (length bytes - 1) bytes) (10 ∷ []) ≡ true)
      × (x.now ≡ take (length bytes - 1) bytes) × (length x.now + 1 ≡ length bytes))

  pub newline_spelled : (r : Option (Bor (List ℕ))) → IsCut r
      → IfSome r (λ line. bytes ≡ line.now ++ 10 ∷ [])
  newline_spelled None h = tt
  newline_spelled (Some x) h =
      sym (take-append-drop (length bytes - 1) bytes)
      ∙ ap (λ l. take (length bytes - 1) bytes ++ l)
      (same_text (drop (length bytes - 1) bytes) (10 ∷ []) (sym h.0))
      ∙ ap (λ l. l ++ 10 ∷ []) (sym h.1)

  pub newline_found : (r : Option (Bor (List ℕ))) → IsCut r → (front : List ℕ)
      → bytes ≡ front ++ 10 ∷ [] → IsSomeAnd r (λ line. line.now ≡ front)
  newline_found None h front is =
      other_text (drop (length bytes - 1) bytes) (10 ∷ []) (sym h)
      (ap (λ n. drop n bytes) (last_place bytes front 10 is) ∙ ap (drop (length front)) is
      ∙ drop-append_seam front (10 ∷ []))
  newline_found (Some x) h front is =
      h.1 ∙ ap (λ n. take n bytes) (last_place bytes front 10 is)
      ∙ ap (take (length front)) is ∙ take-append_seam front (10 ∷ [])

-- what is between a front and a newline at the end
pub between_spelled : (words line front : List ℕ) (r : Option (Bor (List ℕ)))
    → words ≡ line ++ 10 ∷ [] → IfSome r (λ text. line ≡ front ++ text.now)
    → IfSome r (λ text. words ≡ front ++ text.now ++ 10 ∷ [])
between_spelled words line front None is h = tt
between_spelled words line front (Some text) is h = is ∙ ap (λ l. l ++ 10 ∷ []) h

-- ---- numbers

pub number_spelled : (bytes name behind digits rest : List ℕ) (n : ℕ) → bytes ≡ name ++ behind
    → behind ≡ digits ++ 32 ∷ rest → digits ≡ decimal n → n < 2 ^ 64
    → IsBehindNumber name n bytes rest
number_spelled bytes name behind digits rest n h k is small =
    (small, h ∙ ap (λ t. name ++ t) (k ∙ ap (λ d. d ++ 32 ∷ rest) is))

-- the last of four numbers
pub numbers_spelled : (bytes steps answers lines : List ℕ) (r : Option (Bor (List ℕ)))
    → ((n : ℕ) × IsBehindNumber (codes "generation ") n bytes steps)
    → ((n : ℕ) × IsBehindNumber (codes "steps ") n steps answers)
    → ((n : ℕ) × IsBehindNumber (codes "answers ") n answers lines)
    → IfSome r (λ rest. (n : ℕ) × IsBehindNumber (codes "lines ") n lines rest.now)
    → IfSome r (λ rest. IsBehindNumbers bytes rest.now)
numbers_spelled bytes steps answers lines None g s a l = tt
numbers_spelled bytes steps answers lines (Some rest) g s a l =
    record {
      generation = g.0;
      steps = s.0;
      answers = a.0;
      lines = l.0;
      behind_generation = steps;
      behind_steps = answers;
      behind_answers = lines;
      first = g.1;
      second = s.1;
      third = a.1;
      last = l.1;
    }

-- ---- traps
