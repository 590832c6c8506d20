-- The texts of lines, line after line.
use Rattle.std.proofs.Common.{◌≡◌, ℕ, zero, suc, ◌+◌, ◌-◌, List, [], ◌∷◌, ◌++◌, length, take, drop}
use Rattle.std.proofs.Common.{Some, inl, inr, refl, sym, ap, ◌∙◌, subst, arith, take-append-drop}
use Rattle.std.specs.Prelude.{slice_get, ◌⊎◌}
use Rattle.std.specs.List.{Contains}
use Rattle.std.proofs.lemmas.List.Elements.{All-nil, All-push, All-weaker, Contains-append_left}
use Rattle.std.proofs.lemmas.List.Elements.{Contains-push}
use Rattle.std.proofs.lemmas.Option.{none-some, same_Some}
use Rattle.wasi_calls_rules.specs.declared.output_stream.OutputStream.{OutputStream}
use Rattle.record_replay.specs.declared.line_list.NumberedLine.{NumberedLine}
use Rattle.story_commands.specs.rules.Sweeps.{AreTextsOf}

abbrev pub line_of : ℕ → OutputStream → List ℕ → NumberedLine
line_of number stream text = record { number = number; stream = stream; text = text }

get_front : {X : Type 0} (xs ys : List X) (k : ℕ) (x : X) → slice_get xs k ≡ Some x
    → slice_get (xs ++ ys) k ≡ Some x
get_front [] ys k x e = absurd (none-some x e)
get_front (y ∷ xs) ys zero x e = e
get_front (y ∷ xs) ys (suc k) x e = get_front xs ys k x e

get_at_end : {X : Type 0} (xs : List X) (x : X) (ys : List X)
    → slice_get (xs ++ x ∷ ys) (length xs) ≡ Some x
get_at_end [] x ys = refl
get_at_end (y ∷ xs) x ys = get_at_end xs x ys

get_push_cases : {X : Type 0} (xs : List X) (x : X) (i : ℕ) (y : X)
    → slice_get (xs ++ x ∷ []) i ≡ Some y
    → (slice_get xs i ≡ Some y) ⊎ ((i ≡ length xs) × (x ≡ y))
get_push_cases [] x zero y e = inr (refl, same_Some x y e)
get_push_cases [] x (suc i) y e = absurd (none-some y e)
get_push_cases (z ∷ xs) x zero y e = inl e
get_push_cases (z ∷ xs) x (suc i) y e = elim (get_push_cases xs x i y e) [
  | inl h ↦ inl h
  | inr h ↦ inr (ap suc h.0, h.1)
]

pub no_texts : AreTextsOf [] []
no_texts = record {
  numbered = λ i line e. absurd (none-some line e);
  one_text = All-nil (λ (line : NumberedLine). slice_get [] (line.number - 1) ≡ Some line);
  none_missing = All-nil (Contains []);
}

-- a line with the next number
pub next_text : (texts lines : List NumberedLine) (line : NumberedLine)
    → line.number ≡ length texts + 1 → AreTextsOf texts lines
    → AreTextsOf (texts ++ line ∷ []) (lines ++ line ∷ [])
next_text texts lines line is are =
    let more = texts ++ line ∷ [] in
    let place : line.number - 1 ≡ length texts = omega (arith, is) in
    record {
      numbered = λ i other at. elim (get_push_cases texts line i other at) [
        | inl h ↦ are.numbered i other h
        | inr h ↦ subst (λ (x : NumberedLine). x.number ≡ i + 1) h.1
            (is ∙ ap (λ n. n + 1) (sym h.0))
      ];
      one_text =
          All-push (λ (x : NumberedLine). slice_get more (x.number - 1) ≡ Some x) lines line
          (All-weaker (λ (x : NumberedLine). slice_get texts (x.number - 1) ≡ Some x)
          (λ (x : NumberedLine). slice_get more (x.number - 1) ≡ Some x)
          (λ x at. get_front texts (line ∷ []) (x.number - 1) x at) lines are.one_text)
          (ap (slice_get more) place ∙ get_at_end texts line []);
      none_missing =
          All-push (Contains (lines ++ line ∷ [])) texts line
          (All-weaker (Contains lines) (Contains (lines ++ line ∷ []))
          (λ x has. Contains-append_left lines (line ∷ []) x has) texts are.none_missing)
          (Contains-push lines line);
    }

-- a line with the text of its number
pub told_text : (texts lines : List NumberedLine) (line : NumberedLine)
    → slice_get texts (line.number - 1) ≡ Some line → AreTextsOf texts lines
    → AreTextsOf texts (lines ++ line ∷ [])
told_text texts lines line at are = record {
  numbered = are.numbered;
  one_text =
      All-push (λ (x : NumberedLine). slice_get texts (x.number - 1) ≡ Some x) lines line
      are.one_text at;
  none_missing =
      All-weaker (Contains lines) (Contains (lines ++ line ∷ []))
      (λ x has. Contains-append_left lines (line ∷ []) x has) texts are.none_missing;
}

-- a list that begins with another one
pub begun_with : {X : Type 0} (texts front : List X) → take (length front) texts ≡ front
    → (more : List X) × (texts ≡ front ++ more)
begun_with texts front same = (
  drop (length front) texts,
  sym (take-append-drop (length front) texts) ∙ ap (λ l. l ++ drop (length front) texts) same,
)
