-- What was done to a sink, push by push (this project's own). No value stores a history: pushes
-- lead from a sink before to a sink after, by the relation of one push.
use Rattle.std.specs.Prelude.{◌≡◌, ℕ, List, [], ◌∷◌, ◌++◌, Result, Ok, Err}

-- what a sink takes: the sink before, the bytes, what it said, the sink after
abbrev pub TakingPieces : Type 0 → Type 0 → Type 1
TakingPieces S F = S → List ℕ → Result (Unit {0}) F → S → Type 0

-- the bytes of pieces, one piece after the other
abbrev pub joined : List (List ℕ) → List ℕ
joined [] = []
joined (piece ∷ pieces) = piece ++ joined pieces

-- pushes of these pieces, in order, each of which was taken, lead from one sink to another
abbrev pub TakesPieces : {S F : Type 0} → TakingPieces S F → S → List (List ℕ) → S → Type 0
TakesPieces takes before [] after = after ≡ before
TakesPieces {S} takes before (piece ∷ pieces) after =
    (between : S) × takes before piece (Ok tt) between × TakesPieces takes between pieces after

-- Nothing is left to be pushed; or a piece of what is left was refused with this fault, and
-- nothing was pushed after it.
abbrev pub StopsWith : {S F : Type 0} → TakingPieces S F → S → List ℕ → Result (Unit {0}) F → S
    → Type 0
StopsWith takes between bytes_left (Ok done) after = (bytes_left ≡ []) × (after ≡ between)
StopsWith takes between bytes_left (Err fault) after =
    (piece : List ℕ) × (behind : List ℕ) × (bytes_left ≡ piece ++ behind)
    × takes between piece (Err fault) after

-- These bytes were pushed, in some pieces, up to the first one that was refused.
pub record Pushes {S F : Type 0} (takes : TakingPieces S F) (before : S) (bytes : List ℕ)
    (said : Result (Unit {0}) F) (after : S) : Type 0 where
  pub taken : List (List ℕ)
  pub bytes_left : List ℕ
  pub is : bytes ≡ joined taken ++ bytes_left
  pub between : S
  pub all : TakesPieces takes before taken between
  pub stops : StopsWith takes between bytes_left said after

-- what a sink of bytes has taken: these after the others, or after a refusal what it had
abbrev pub KeepsBytes : {F : Type 0} → List ℕ → List ℕ → Result (Unit {0}) F → List ℕ → Type 0
KeepsBytes old piece (Ok done) new = new ≡ old ++ piece
KeepsBytes old piece (Err fault) new = new ≡ old
