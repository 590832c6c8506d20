-- Lines that say tears say at least one number.
use Rattle.std.proofs.Common.{ℕ, Bool, true, false, List, [], ◌∷◌, Some, None, sym, subst}
use Rattle.std.specs.Prelude.{Option, if◌then◌else◌, option_map, option_and_then, codes}
use Rattle.std.specs.Str.{bytes_eq}
use Rattle.command_words.specs.rules.Pieces.{split_once}
use Rattle.command_words.proofs.PieceLemmas.{pieces_behind, cut_piece}
use Rattle.story_commands.specs.declared.stories.line.ScriptLine.{ScriptLine}
use Rattle.story_commands.specs.declared.stories.line.ScriptLine.TheVariants as said
use Rattle.story_commands.specs.rules.Scripts.{said_by, said_cut, said_alone, said_with}
use Rattle.story_commands.specs.rules.Scripts.{said_with_number, number_spelled, hex_bytes}
use Rattle.story_commands.specs.rules.Scripts.{point_spelled, count_spelled, batch_spelled}
use Rattle.story_commands.specs.rules.Scripts.{each_front, fronts_in, front_spelled}
use Rattle.story_commands.proofs.ScriptLemmas.Lives.{IsFullOption}

full_if : (b : Bool) (x y : Option ScriptLine) → IsFullOption x → IsFullOption y
    → IsFullOption (if b then x else y)
full_if true x y p q = p
full_if false x y p q = q

-- a list that isn't empty, if there is one
abbrev IsSomeFront : Option (List ℕ) → Type 0
IsSomeFront None = Unit {0}
IsSomeFront (Some []) = ⊥
IsSomeFront (Some (front ∷ fronts)) = Unit {0}

fronts_more : (first : Option ℕ) (more : Option (List ℕ))
    → IsSomeFront (option_and_then (λ front. option_map (λ fronts. front ∷ fronts) more) first)
fronts_more None more = tt
fronts_more (Some f) None = tt
fronts_more (Some f) (Some fs) = tt

fronts_some : (text : List ℕ) → IsSomeFront (fronts_in text)
fronts_some text =
    subst (λ p. IsSomeFront (each_front p)) (sym (cut_piece 32 text))
    (fronts_more (front_spelled (split_once 32 text).0)
    (each_front (pieces_behind 32 (split_once 32 text).1)))

full_tears : (o : Option (List ℕ)) → IsSomeFront o → IsFullOption (option_map said.Tears o)
full_tears None h = tt
full_tears (Some []) h = absurd h
full_tears (Some (f ∷ fs)) h = tt

full_alone : (word : List ℕ) → IsFullOption (said_alone word)
full_alone word =
    full_if (bytes_eq word (codes "life")) _ _ tt
    (full_if (bytes_eq word (codes "end")) _ _ tt
    (full_if (bytes_eq word (codes "random")) _ _ tt
    (full_if (bytes_eq word (codes "checkpoint")) _ _ tt
    (full_if (bytes_eq word (codes "upgrade")) _ _ tt tt))))

full_number : (word : List ℕ) (n : ℕ) → IsFullOption (said_with_number word n)
full_number word n =
    full_if (bytes_eq word (codes "realtime")) _ _ tt
    (full_if (bytes_eq word (codes "monotonic")) _ _ tt
    (full_if (bytes_eq word (codes "slice")) _ _ tt tt))

full_map : {A : Type 0} (f : A → ScriptLine) → ((x : A) → IsFullOption (Some (f x)))
    → (o : Option A) → IsFullOption (option_map f o)
full_map f h None = tt
full_map f h (Some x) = h x

full_then : {A : Type 0} (f : A → Option ScriptLine) → ((x : A) → IsFullOption (f x))
    → (o : Option A) → IsFullOption (option_and_then f o)
full_then f h None = tt
full_then f h (Some x) = h x

full_with : (word rest : List ℕ) → IsFullOption (said_with word rest)
full_with word rest =
    full_if (bytes_eq word (codes "request")) _ _ tt
    (full_if (bytes_eq word (codes "random")) _ _ (full_map _ (λ x. tt) (hex_bytes rest))
    (full_if (bytes_eq word (codes "tears")) _ _ (full_tears (fronts_in rest) (fronts_some rest))
    (full_if (bytes_eq word (codes "stop")) _ _ (full_map _ (λ x. tt) (point_spelled rest))
    (full_if (bytes_eq word (codes "fail")) _ _ (full_map _ (λ x. tt) (point_spelled rest))
    (full_if (bytes_eq word (codes "refuse")) _ _ (full_map _ (λ x. tt) (count_spelled rest))
    (full_if (bytes_eq word (codes "batch")) _ _ (full_map _ (λ x. tt) (batch_spelled rest))
    (full_then (said_with_number word) (full_number word) (number_spelled rest))))))))

pub full_said : (text : List ℕ) → IsFullOption (said_by text)
full_said text = by (split_once 32 text)
  where
    by : (cut : List ℕ × Option (List ℕ)) → IsFullOption (said_cut cut)
    by (word, None) = full_alone word
    by (word, Some rest) = full_with word rest
