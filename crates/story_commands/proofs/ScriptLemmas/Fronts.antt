-- Fronts of a script, one after another.
use Rattle.std.proofs.Common.{◌≡◌, ℕ, List, [], ◌∷◌, ◌++◌, Some, None, refl, sym, ap, ◌∙◌}
use Rattle.std.proofs.Common.{append_assoc}
use Rattle.std.specs.Prelude.{Option, option_map, option_and_then}
use Rattle.command_words.specs.rules.Pieces.{split_once}
use Rattle.command_words.proofs.PieceLemmas.{cut_piece, pieces_behind}
use Rattle.story_commands.specs.rules.Scripts.{each_front, fronts_between, front_spelled}

abbrev front_and : ℕ → List ℕ → Option (List ℕ) → Option (List ℕ)
front_and s word after =
    option_and_then (λ front. option_map (λ fronts. front ∷ fronts) (each_front
    (pieces_behind s after)))
    (front_spelled word)

abbrev fronts_onto : List ℕ → Option (List ℕ) → Option (List ℕ)
fronts_onto fronts rest = option_map (λ more. fronts ++ more) rest

module _ (s : ℕ) (fronts rest word : List ℕ) (after total : Option (List ℕ))
    (inv : fronts_onto fronts (fronts_between s rest) ≡ total) (w : word ≡ (split_once s rest).0)
    (a : after ≡ (split_once s rest).1) where
  cut : fronts_between s rest ≡ front_and s word after
  cut = ap each_front (cut_piece s rest) ∙ ap (λ x. front_and s x (split_once s rest).1) (sym w)
      ∙ ap (front_and s word) (sym a)

  pub no_front : front_spelled word ≡ None → None ≡ total
  no_front none = sym (ap (fronts_onto fronts) (cut
      ∙ ap (option_and_then (λ front. option_map (λ more. front ∷ more)
      (each_front (pieces_behind s after)))) none)) ∙ inv

  pub last_front : (f : ℕ) → front_spelled word ≡ Some f → after ≡ None
      → Some (fronts ++ f ∷ []) ≡ total
  last_front f is none = sym (ap (fronts_onto fronts) (cut
      ∙ ap (option_and_then (λ front. option_map (λ more. front ∷ more)
      (each_front (pieces_behind s after)))) is
      ∙ ap (λ o. option_map (λ more. f ∷ more) (each_front (pieces_behind s o))) none)) ∙ inv

  pub next_front : (f : ℕ) (next : List ℕ) → front_spelled word ≡ Some f → after ≡ Some next
      → fronts_onto (fronts ++ f ∷ []) (fronts_between s next) ≡ total
  next_front f next is some = onto (fronts_between s next)
      ∙ sym (ap (fronts_onto fronts) (cut
      ∙ ap (option_and_then (λ front. option_map (λ more. front ∷ more)
      (each_front (pieces_behind s after)))) is
      ∙ ap (λ o. option_map (λ more. f ∷ more) (each_front (pieces_behind s o))) some)) ∙ inv
    where
      onto : (o : Option (List ℕ)) → fronts_onto (fronts ++ f ∷ []) o
          ≡ fronts_onto fronts (option_map (λ more. f ∷ more) o)
      onto None = refl
      onto (Some more) = ap Some (append_assoc fronts (f ∷ []) more)
